-- Reads of all tables, one after the other, and what their rows tell.
use Rattle.book_tables_opening.proofs.Common.{List, IsTrue, sym, subst, Database, Row, State, pairs_of, Rows, rows_of, IsBook, looks_then, entries_shown, gone_shown, meta_shown}
use Rattle.std.proofs.Common.{IsPermutation}
use Rattle.book_tables_rows.specs.Lists.{ShowsRows}
use Rattle.book_tables_rows.specs.Steps.{Looks}
use Rattle.book_tables_opening.specs.Reading.{ShowsLists, ShowsRest, ShowsTables}
use Rattle.book_tables_opening.specs.WholeNodes.{ShowsTextlessNodes}

-- what is shown after a read was shown before it
pub rows_before : (old mid : State) (picked : Rows → List Row) (rows : List Row) → IsTrue old.is_open → Looks old mid → ShowsRows mid picked rows → ShowsRows old picked rows
rows_before old mid picked rows was looks shown = (
  was,
  λ book. subst (λ (db : Database). IsPermutation (picked (rows_of db.trees)) rows) (looks.same book) (shown.1 (subst IsBook (sym (looks.same book)) book)),
)

pub lists_read : (old mid : State) (entries members : List Row) → Looks old mid → ShowsRows old entries_shown entries → ShowsRows mid pairs_of members → ShowsLists old entries members
lists_read old mid entries members looks first second = record { entries_are = first; members_are = rows_before old mid pairs_of members first.0 looks second }

pub rest_read : (old mid : State) (gone meta : List Row) → Looks old mid → ShowsRows old gone_shown gone → ShowsRows mid meta_shown meta → ShowsRest old gone meta
rest_read old mid gone meta looks first second = record { gone_are = first; meta_are = rows_before old mid meta_shown meta first.0 looks second }

pub tables_read : (old first second : State) (nodes entries members gone meta : List Row) → Looks old first → Looks first second → ShowsTextlessNodes old nodes → ShowsLists first entries members → ShowsRest second gone meta
    → ShowsTables old nodes entries members gone meta
tables_read old first second nodes entries members gone meta looks then shown lists rest =
    let both = looks_then old first second looks then in
    record {
      nodes_are = shown;
      lists = record { entries_are = rows_before old first entries_shown entries shown.0 looks lists.entries_are; members_are = rows_before old first pairs_of members shown.0 looks lists.members_are };
      rest = record { gone_are = rows_before old second gone_shown gone shown.0 both rest.gone_are; meta_are = rows_before old second meta_shown meta shown.0 both rest.meta_are };
    }
