use Rattle.book_tables.proofs.Common.{◌≡◌, ◌∙◌, state, HasCleanDisk, book_path, card_path, IsTrue, Makes}
use Rattle.book_office.specs.declared.edits.Edit.TheVariants.{MoveCard}
use Rattle.book_tables_rows.specs.Nodes.{moving_card}
use Rattle.book_tables.proofs.Acting.{edit_made, edit_failed}
use Rattle.book_tables.proofs.MovedCards.{moves_card}
use Rattle.book_tables.proofs.edits.move_card.Goals as goal

pub returns-in-Ok-clause-edits : goal.returns-in-Ok-clause-edits
returns-in-Ok-clause-edits g c =
    let old = state g.S.Store c.args.transaction.now.conn.now in
    let new = state g.S.Store c.move_card.new.transaction.conn.now in
    let sb = c.args.from_book.now in
    let sc = c.args.from_card.now in
    let tb = c.args.to_book.now in
    let tc = c.args.to_card.now in
    let source_book : c.as_str.result.now ≡ book_path sb = c.as_str.ensures ∙ c.in_ok-source_book.ensures in
    let source : c.as_str-2.result.now ≡ card_path sb sc = c.as_str-2.ensures ∙ c.in_ok-source.ensures in
    let source_name : c.text.result.now ≡ sc = c.text.ensures in
    let target_book : c.as_str-3.result.now ≡ book_path tb = c.as_str-3.ensures ∙ c.in_ok-target_book.ensures in
    let target : c.as_str-4.result.now ≡ card_path tb tc = c.as_str-4.ensures ∙ c.in_ok-target.ensures in
    let target_name : c.text-2.result.now ≡ tc = c.text-2.ensures in
    let edit = MoveCard sb sc tb tc in
    let change = moving_card (book_path sb) (card_path sb sc) sc (book_path tb) (card_path tb tc) tc in
    let makes : HasCleanDisk new → IsTrue old.in_transaction → Makes old new change = rw (source_book, source, source_name, target_book, target, target_name) at c.in-Ok.ensures.done in
    edit_made old new edit change (moves_card sb sc tb tc) c.move_card.ensures.survives c.move_card.ensures.kept c.args.failures.now makes

pub returns-clause-edits : goal.returns-clause-edits
returns-clause-edits g c = edit_failed _ _ _ c.move_card.ensures.survives c.move_card.ensures.kept c.args.failures.now _ _ c.fault_of.ensures
