use Rattle.book_tables.proofs.Common.{rules, ◌≡◌, ◌∙◌, state, HasCleanDisk, IsTrue, Makes, book_path, card_path, option_copied}
use Rattle.book_office.specs.declared.edits.Edit.TheVariants.{CopyCard}
use Rattle.book_tables_rows.specs.Nodes.{copying_card}
use Rattle.book_tables.proofs.Acting.{edit_made, edit_failed}
use Rattle.book_tables.proofs.CardEdits.{copies_card}
use Rattle.book_tables.proofs.edits.copy_card.Goals as goal

pub returns-in-Ok-clause-edits : goal.returns-in-Ok-clause-edits
returns-in-Ok-clause-edits g c =
    let old = state g.S.Store c.args.transaction.now.conn.now in
    let new = state g.S.Store c.copy_card.new.transaction.conn.now in
    let from_book = c.args.from_book.now in
    let from_card = c.args.from_card.now in
    let b = c.args.to_book.now in
    let name = c.args.to_card.now in
    let source_text : c.as_str.result.now ≡ card_path from_book from_card = c.as_str.ensures ∙ c.in_ok-source.ensures in
    let book_text : c.as_str-2.result.now ≡ book_path b = c.as_str-2.ensures ∙ c.in_ok-book_path.ensures in
    let card_text : c.as_str-3.result.now ≡ card_path b name = c.as_str-3.ensures ∙ c.in_ok-card_path.ensures in
    let name_text : c.text.result.now ≡ name = c.text.ensures in
    let owner : option_copied c.map-owner.result ≡ c.args.owner.now = search rules in
    let edit = CopyCard from_book from_card b name c.args.owner.now in
    let change = copying_card (card_path from_book from_card) (book_path b) (card_path b name) name c.args.owner.now in
    let makes : HasCleanDisk new → IsTrue old.in_transaction → Makes old new change = rw (source_text, book_text, card_text, name_text, owner) at c.in-Ok.ensures.done in
    edit_made old new edit change (copies_card from_book from_card b name c.args.owner.now) c.copy_card.ensures.survives c.copy_card.ensures.kept c.args.failures.now makes

pub returns-clause-edits : goal.returns-clause-edits
returns-clause-edits g c = edit_failed _ _ _ c.copy_card.ensures.survives c.copy_card.ensures.kept c.args.failures.now _ _ c.fault_of.ensures
