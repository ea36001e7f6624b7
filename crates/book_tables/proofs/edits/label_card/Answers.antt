use Rattle.book_tables.proofs.Common.{◌≡◌, ◌∙◌, state, HasCleanDisk, SetLabel, book_path, card_path, IsTrue, Makes}
use Rattle.book_tables_rows.specs.Nodes.{labelling_card}
use Rattle.book_tables.proofs.Acting.{edit_made, edit_failed}
use Rattle.book_tables.proofs.CardEdits.{labels_card}
use Rattle.book_office_values.specs.declared.paths.Path.TheVariants as path
use Rattle.book_tables.proofs.edits.label_card.Goals as goal

pub returns-in-Ok-clause-edits : goal.returns-in-Ok-clause-edits
returns-in-Ok-clause-edits g c =
    let old = state g.S.Store c.args.transaction.now.conn.now in
    let new = state g.S.Store c.label_card.new.transaction.conn.now in
    let b = c.args.book.now in
    let name = c.args.card.now in
    let book_text : c.as_str.result.now ≡ book_path b = c.as_str.ensures ∙ c.in_ok-book_path.ensures in
    let card_text : c.as_str-2.result.now ≡ card_path b name = c.as_str-2.ensures ∙ c.in_ok-card_path.ensures in
    let label : c.as_str-3.result.now ≡ c.args.label.now = c.as_str-3.ensures in
    let edit = SetLabel (path.Card b name) c.args.label.now in
    let change = labelling_card (book_path b) (card_path b name) c.args.label.now in
    let makes : HasCleanDisk new → IsTrue old.in_transaction → Makes old new change = rw (book_text, card_text, label) at c.in-Ok.ensures.done in
    edit_made old new edit change (labels_card b name c.args.label.now) c.label_card.ensures.survives c.label_card.ensures.kept c.args.failures.now makes

pub returns-clause-edits : goal.returns-clause-edits
returns-clause-edits g c = edit_failed _ _ _ c.label_card.ensures.survives c.label_card.ensures.kept c.args.failures.now _ _ c.fault_of.ensures
