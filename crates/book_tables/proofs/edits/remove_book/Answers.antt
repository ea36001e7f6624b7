use Rattle.book_tables.proofs.Common.{rules, ◌≡◌, state, HasCleanDisk, IsTrue, Makes, book_path}
use Rattle.book_office.specs.declared.edits.Edit.TheVariants.{RemoveBook}
use Rattle.book_tables_rows.specs.Nodes.{removing_book}
use Rattle.book_tables.proofs.Acting.{edit_made, edit_failed}
use Rattle.book_tables.proofs.RemovedBooks.{removes_book}
use Rattle.book_tables.proofs.edits.remove_book.Goals as goal

pub returns-in-Ok-clause-edits : goal.returns-in-Ok-clause-edits
returns-in-Ok-clause-edits g c =
    let old = state g.S.Store c.args.transaction.now.conn.now in
    let new = state g.S.Store c.remove_book.new.transaction.conn.now in
    let b = c.args.book.now in
    let book_text : c.as_str.result.now ≡ book_path b = search rules in
    let edit = RemoveBook b in
    let change = removing_book (book_path b) in
    let makes : HasCleanDisk new → IsTrue old.in_transaction → Makes old new change = rw book_text at c.in-Ok.ensures.done in
    edit_made old new edit change (removes_book b) c.remove_book.ensures.survives c.remove_book.ensures.kept c.args.failures.now makes

pub returns-clause-edits : goal.returns-clause-edits
returns-clause-edits g c = edit_failed _ _ _ c.remove_book.ensures.survives c.remove_book.ensures.kept c.args.failures.now _ _ c.fault_of.ensures
