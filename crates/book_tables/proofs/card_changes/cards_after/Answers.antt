use Rattle.book_tables.proofs.Common.{rules, ◌≡◌, ◌∙◌, List, state, HasCleanDisk, LAST_NUMBER, Office, book_path, Changed}
use Rattle.std.proofs.Common.{min}
use Rattle.book_office_values.specs.Changes.{first_of}
use Rattle.book_office.specs.Resources.{cards_after}
use Rattle.book_tables.specs.LastChanges.{ShowsCardChanges}
use Rattle.book_tables.proofs.Told.{read_made, read_failed}
use Rattle.book_tables.proofs.ChangesTold.{cards_told_are}
use Rattle.book_tables.proofs.card_changes.cards_after.Goals as goal

pub returns-in-Ok-clause-reads : goal.returns-in-Ok-clause-reads
returns-in-Ok-clause-reads g c =
    let old = state g.S.Store c.args.transaction.now.conn.now in
    let new = state g.S.Store c.shown_cards.new.transaction.conn.now in
    let b = c.args.book.now in
    let n = c.args.number in
    let text : c.as_str.result.now ≡ book_path b = search rules in
    let most = c.args.at_most in
    let shows : HasCleanDisk new → ShowsCardChanges old (book_path b) (min n LAST_NUMBER) most c.in-Ok.changes = rw (text, c.up_to_last-after.ensures) at c.in-Ok.ensures.found in
    read_made old new c.shown_cards.ensures.survives c.shown_cards.ensures.kept c.args.failures.now c.first_of.result (λ (o : Office) (changes : List Changed). changes ≡ first_of most (cards_after o b n)) c.in-Ok.ensures.stays
    (λ h o stands. c.first_of.ensures ∙ cards_told_are old b c.known.ensures n most c.in-Ok.changes (shows h) c.in-Ok.ensures.rise o stands)

pub returns-clause-reads : goal.returns-clause-reads
returns-clause-reads g c = read_failed _ _ c.shown_cards.ensures.survives c.shown_cards.ensures.kept c.args.failures.now _ _ c.fault_of.ensures _
