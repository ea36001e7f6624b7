-- What is found in rows that are read tells for what tables stand.
use Rattle.book_tables_findings.proofs.Common.{true, false, true≢false, List, inl, inr, refl, sym, AllByRecursion, Row, State}
use Rattle.std.proofs.Common.{ℕ, ◌⊎◌}
use Rattle.book_tables_rows.specs.Rows.{IsBook, rows_of}
use Rattle.book_tables_opening.specs.Opening.{AreTextlessRows, HasTextIn}
use Rattle.book_tables_opening.specs.Reading.{ShowsTables, TellsStanding}
use Rattle.book_tables_opening.proofs.OpenedTables.{none_told, office_told}
use Rattle.book_tables_findings.specs.Findings.{AreRead, BreaksIn, BreaksRows, BreaksText, BreaksTexts}
use Rattle.book_tables_findings.specs.Names.{node_name}
use Rattle.book_tables_findings.specs.declared.findings.Finding.{Finding}
use Rattle.book_tables_findings.specs.declared.findings.Finding.TheVariants.{Text}
use Rattle.book_tables_findings.proofs.Broken.{broken_rows}
use Rattle.book_tables_findings.proofs.FirstRows.{not_all}

module _ (s : State) (nodes entries members gone meta : List Row) (shows : ShowsTables s nodes entries members gone meta) where
  are_read : IsBook s.now → AreRead (rows_of s.now.trees) nodes entries members gone meta
  are_read book = record {
    nodes_are = shows.nodes_are.1 book;
    entries_are = shows.lists.entries_are.1 book;
    members_are = shows.lists.members_are.1 book;
    gone_are = shows.rest.gone_are.1 book;
    meta_are = shows.rest.meta_are.1 book;
  }

  breaks_in : (f : Finding) → (IsBook s.now → BreaksRows nodes entries members gone meta f ⊎ BreaksTexts (rows_of s.now.trees) nodes f) → IsBook s.now → BreaksIn (rows_of s.now.trees) f
  breaks_in f broken book = record { nodes = nodes; entries = entries; members = members; gone = gone; meta = meta; read = are_read book; broken = broken book }

  -- a row or a limit
  pub rows_standing : (f : Finding) → BreaksRows nodes entries members gone meta f → TellsStanding s false
  rows_standing f broken = none_told s nodes entries members gone meta shows (broken_rows nodes entries members gone meta f broken)

  pub rows_broken : (f : Finding) → BreaksRows nodes entries members gone meta f → IsBook s.now → BreaksIn (rows_of s.now.trees) f
  rows_broken f broken = breaks_in f (λ book. inl broken)

  -- a text
  pub text_standing : (name : List ℕ) → AreTextlessRows nodes entries members gone meta → (IsBook s.now → BreaksText (rows_of s.now.trees) nodes name) → TellsStanding s false
  text_standing name are broken = office_told s nodes entries members gone meta shows are false (λ book. (
    λ yes. absurd (true≢false (sym yes)),
    λ all. absurd (not_all node_name (HasTextIn (rows_of s.now.trees)) (λ row. ¬ (HasTextIn (rows_of s.now.trees) row)) nodes name (λ row none has. none has) (broken book) all),
  ))

  pub text_broken : (name : List ℕ) → (IsBook s.now → BreaksText (rows_of s.now.trees) nodes name) → IsBook s.now → BreaksIn (rows_of s.now.trees) (Text name)
  text_broken name broken = breaks_in (Text name) (λ book. inr (name, refl, broken book))

  -- nothing
  pub none_standing : AreTextlessRows nodes entries members gone meta → (IsBook s.now → AllByRecursion (HasTextIn (rows_of s.now.trees)) nodes) → TellsStanding s true
  none_standing are texts = office_told s nodes entries members gone meta shows are true (λ book. (λ _. texts book, λ _. refl))
