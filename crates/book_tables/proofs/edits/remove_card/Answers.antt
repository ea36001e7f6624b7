use Rattle.book_tables.proofs.Common.{◌≡◌, ◌∙◌, state, HasCleanDisk, IsTrue, Makes, book_path, card_path}
use Rattle.book_office.specs.declared.edits.Edit.TheVariants.{RemoveCard}
use Rattle.book_tables_rows.specs.Nodes.{removing_card}
use Rattle.book_tables.proofs.Acting.{edit_made, edit_failed}
use Rattle.book_tables.proofs.RemovedCards.{removes_card}
use Rattle.book_tables.proofs.edits.remove_card.Goals as goal

pub returns-in-Ok-clause-edits : goal.returns-in-Ok-clause-edits
returns-in-Ok-clause-edits g c =
    let old = state g.S.Store c.args.transaction.now.conn.now in
    let new = state g.S.Store c.remove_card.new.transaction.conn.now in
    let b = c.args.book.now in
    let name = c.args.card.now in
    let book_text : c.as_str.result.now ≡ book_path b = c.as_str.ensures ∙ c.in_ok-book_path.ensures in
    let card_text : c.as_str-2.result.now ≡ card_path b name = c.as_str-2.ensures ∙ c.in_ok-card_path.ensures in
    let name_text : c.text.result.now ≡ name = c.text.ensures in
    let edit = RemoveCard b name in
    let change = removing_card (book_path b) (card_path b name) name in
    let makes : HasCleanDisk new → IsTrue old.in_transaction → Makes old new change = rw (book_text, card_text, name_text) at c.in-Ok.ensures.done in
    edit_made old new edit change (removes_card b name) c.remove_card.ensures.survives c.remove_card.ensures.kept c.args.failures.now makes

pub returns-clause-edits : goal.returns-clause-edits
returns-clause-edits g c = edit_failed _ _ _ c.remove_card.ensures.survives c.remove_card.ensures.kept c.args.failures.now _ _ c.fault_of.ensures
