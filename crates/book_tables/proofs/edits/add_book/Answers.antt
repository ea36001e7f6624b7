use Rattle.book_tables.proofs.Common.{rules, ◌≡◌, codes, state, HasCleanDisk, IsTrue, Makes, book_path, option_copied}
use Rattle.book_office.specs.declared.edits.Edit.TheVariants.{AddBook}
use Rattle.book_tables_rows.specs.Nodes.{adding_book}
use Rattle.book_tables.proofs.Acting.{edit_made, edit_failed}
use Rattle.book_tables.proofs.AddedBooks.{adds_book}
use Rattle.book_tables.proofs.edits.add_book.Goals as goal

pub returns-in-Ok-clause-edits : goal.returns-in-Ok-clause-edits
returns-in-Ok-clause-edits g c =
    let old = state g.S.Store c.args.transaction.now.conn.now in
    let new = state g.S.Store c.add_book.new.transaction.conn.now in
    let b = c.args.book.now in
    let book_text : c.as_str.result.now ≡ book_path b = search rules in
    let owner : option_copied c.map-owner.result ≡ c.args.owner.now = search rules in
    let edit = AddBook b c.args.owner.now in
    let change = adding_book (codes "/books") (book_path b) c.args.owner.now in
    let makes : HasCleanDisk new → IsTrue old.in_transaction → Makes old new change = rw (book_text, owner) at c.in-Ok.ensures.done in
    edit_made old new edit change (adds_book b c.args.owner.now) c.add_book.ensures.survives c.add_book.ensures.kept c.args.failures.now makes

pub returns-clause-edits : goal.returns-clause-edits
returns-clause-edits g c = edit_failed _ _ _ c.add_book.ensures.survives c.add_book.ensures.kept c.args.failures.now _ _ c.fault_of.ensures
