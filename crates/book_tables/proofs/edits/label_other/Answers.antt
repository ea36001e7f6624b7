use Rattle.book_tables.proofs.Common.{rules, ◌≡◌, state, HasCleanDisk, SetLabel, ap, path_text, kind_of, IsTrue, Makes}
use Rattle.book_tables_rows.specs.Nodes.{labelling_node}
use Rattle.book_tables.proofs.Acting.{edit_made, edit_failed}
use Rattle.book_tables.proofs.LabelledNodes.{labels_node}
use Rattle.book_tables.proofs.edits.label_other.Goals as goal

pub returns-in-Ok-clause-edits : goal.returns-in-Ok-clause-edits
returns-in-Ok-clause-edits g c =
    let old = state g.S.Store c.args.transaction.now.conn.now in
    let new = state g.S.Store c.label_node.new.transaction.conn.now in
    let p = c.args.path.now in
    let path_is : c.as_str.result.now ≡ path_text p = search rules in
    let label : c.as_str-2.result.now ≡ c.args.label.now = search rules in
    let edit = SetLabel p c.args.label.now in
    let change = labelling_node (path_text p) c.args.label.now in
    let makes : HasCleanDisk new → IsTrue old.in_transaction → Makes old new change = rw (path_is, label) at c.in-Ok.ensures.done in
    edit_made old new edit change (labels_node p (λ a d e. c.requires (ap kind_of e)) c.args.label.now) c.label_node.ensures.survives c.label_node.ensures.kept c.args.failures.now makes

pub returns-clause-edits : goal.returns-clause-edits
returns-clause-edits g c = edit_failed _ _ _ c.label_node.ensures.survives c.label_node.ensures.kept c.args.failures.now _ _ c.fault_of.ensures
