use Rattle.book_tables.proofs.Common.{rules, ◌≡◌, map, state, HasCleanDisk, IsTrue, Makes, said, entry_said, path_text}
use Rattle.book_office.specs.declared.edits.Edit.TheVariants.{SetList}
use Rattle.book_tables_rows.specs.Nodes.{setting_list}
use Rattle.book_tables.proofs.Acting.{edit_made, edit_failed}
use Rattle.book_tables.proofs.ListedRows.{lists_node}
use Rattle.book_tables.proofs.settings.set_list.Goals as goal

pub returns-in-Ok-clause-edits : goal.returns-in-Ok-clause-edits
returns-in-Ok-clause-edits g c =
    let old = state g.S.Store c.args.transaction.now.conn.now in
    let new = state g.S.Store c.set_list.new.transaction.conn.now in
    let p = c.args.path.now in
    let list = c.args.entries.now in
    let path_is : c.as_str.result.now ≡ path_text p = search rules in
    let rows_are : map said c.as_slice-2.result.now ≡ map entry_said list = search rules in
    let edit = SetList p list in
    let change = setting_list (path_text p) (map entry_said list) in
    let makes : HasCleanDisk new → IsTrue old.in_transaction → Makes old new change = rw (path_is, rows_are) at c.in-Ok.ensures.done in
    edit_made old new edit change (lists_node p list) c.set_list.ensures.survives c.set_list.ensures.kept c.args.failures.now makes

pub returns-clause-edits : goal.returns-clause-edits
returns-clause-edits g c = edit_failed _ _ _ c.set_list.ensures.survives c.set_list.ensures.kept c.args.failures.now _ _ c.fault_of.ensures
