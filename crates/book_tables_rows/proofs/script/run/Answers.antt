use Rattle.book_tables_rows.proofs.Common.{◌≡◌, None, Some, Result, w64, rules, arith, refl, sym, subst, FitsSigned, to_z-of_z, to_z_pos, option_copied, state, State, Becomes}
use Rattle.std.proofs.Common.{OnOk, ◌<◌, ◌^◌}
use Rattle.sqlite.specs.declared.error.Error.{Error}
use Rattle.book_tables_rows.specs.Plans.{Awaits, nothing}
use Rattle.book_tables_rows.specs.Scripts.{Executed, IsSmall, plan_of}
use Rattle.book_tables_rows.specs.Writes as writes
use Rattle.book_tables_rows.specs.declared.script.Statement.{Statement}
use Rattle.book_tables_rows.specs.declared.script.Statement.TheVariants.{DeleteNode, DeleteChildren, SetEpoch}
use Rattle.book_tables_rows.proofs.Becoming.{becomes_numbered}
use Rattle.book_tables_rows.proofs.Deleting.{becomes_childless, becomes_forgotten, becomes_without}
use Rattle.book_tables_rows.proofs.InScript.{becomes, becomes_if}
use Rattle.book_tables_rows.proofs.Keeping.{on_ok}
use Rattle.book_tables_rows.proofs.ListSettings.{becomes_disowned, becomes_unjoined}
use Rattle.book_tables_rows.proofs.Raising.{becomes_raised}
use Rattle.book_tables_rows.proofs.RowInserts.{becomes_remembered}
use Rattle.book_tables_rows.proofs.Updating.{becomes_labelled, becomes_moved, becomes_placed}
use Rattle.book_tables_rows.proofs.script.run.Goals as goal

-- what the call did is what the statement says
ran : {P : Type 0} (old new : State) (r : Result (Unit {0}) Error) (t s : Statement) → t ≡ s → OnOk r P → (P → Awaits old new nothing (plan_of s)) → OnOk r (Awaits old new nothing (plan_of t))
ran {P} old new r t s is h means = on_ok r P (Awaits old new nothing (plan_of t)) (λ p. subst (λ (x : Statement). Awaits old new nothing (plan_of x)) (sym is) (means p)) h

pub returns-in-SetNumber-clause-done : goal.returns-in-SetNumber-clause-done
returns-in-SetNumber-clause-done g c clean inside =
    let old = state g.S.Store c.args.transaction.now.conn.now in
    let new = state g.S.Store c.execute.new.transaction.conn.now in
    let v = c.in-SetNumber in
    let small : v.number < 2 ^ 53 = subst IsSmall v.is c.requires in
    let number = to_z_pos w64 v.number (omega (arith, small)) in
    ran old new c.execute.result _ _ v.is (rw (c.params-to_sql.ensures, c.params-to_sql-in-SetNumber.ensures, number) at (c.execute.ensures.done clean inside)) (λ (e : Executed _ _ old new). becomes old new _ (becomes_numbered old new v.path.now v.number e.count e.ran))

pub returns-in-SetLabel-clause-done : goal.returns-in-SetLabel-clause-done
returns-in-SetLabel-clause-done g c clean inside =
    let old = state g.S.Store c.args.transaction.now.conn.now in
    let new = state g.S.Store c.execute-in-SetLabel.new.transaction.conn.now in
    let v = c.in-SetLabel in
    let small : v.number < 2 ^ 53 = subst IsSmall v.is c.requires in
    let number = to_z_pos w64 v.number (omega (arith, small)) in
    ran old new c.execute-in-SetLabel.result _ _ v.is (rw (c.params-to_sql-in-SetLabel.ensures, c.params-to_sql-in-SetLabel-2.ensures, c.params-to_sql-in-SetLabel-3.ensures, number) at (c.execute-in-SetLabel.ensures.done clean inside)) (λ (e : Executed _ _ old new). becomes old new _ (becomes_labelled old new v.path.now v.label.now v.number e.count e.ran))

pub returns-in-MoveNode-clause-done : goal.returns-in-MoveNode-clause-done
returns-in-MoveNode-clause-done g c clean inside =
    let old = state g.S.Store c.args.transaction.now.conn.now in
    let new = state g.S.Store c.execute-in-MoveNode.new.transaction.conn.now in
    let v = c.in-MoveNode in
    let small : v.number < 2 ^ 53 = subst IsSmall v.is c.requires in
    let number = to_z_pos w64 v.number (omega (arith, small)) in
    let range : FitsSigned w64 v.parent = search rules in
    let id = to_z-of_z w64 v.parent range in
    ran old new c.execute-in-MoveNode.result _ _ v.is (rw (c.params-to_sql-in-MoveNode.ensures, c.params-to_sql-in-MoveNode-2.ensures, c.params-to_sql-in-MoveNode-3.ensures, c.params-to_sql-in-MoveNode-4.ensures, number, id) at (c.execute-in-MoveNode.ensures.done clean inside)) (λ (e : Executed _ _ old new). becomes old new _ (becomes_moved old new v.path.now v.destination.now v.parent v.number e.count e.ran))

pub returns-in-SetPlace-clause-done : goal.returns-in-SetPlace-clause-done
returns-in-SetPlace-clause-done g c clean inside =
    let old = state g.S.Store c.args.transaction.now.conn.now in
    let new = state g.S.Store c.execute-in-SetPlace.new.transaction.conn.now in
    let v = c.in-SetPlace in
    ran old new c.execute-in-SetPlace.result _ _ v.is (rw (c.params-to_sql-in-SetPlace.ensures, c.params-to_sql-in-SetPlace-2.ensures, c.params-to_sql-in-SetPlace-3.ensures) at (c.execute-in-SetPlace.ensures.done clean inside)) (λ (e : Executed _ _ old new). becomes old new _ (
    elim v.owner as (λ w. v.owner ≡ w → Becomes old new (writes.set_place v.path.now (option_copied v.owner) v.label.now)) [
      | None ↦ λ d. subst (λ w. Becomes old new (writes.set_place v.path.now (option_copied w) v.label.now)) (sym d) (becomes_placed old new v.path.now None v.label.now e.count (rw d at e.ran))
      | Some o ↦ λ d. subst (λ w. Becomes old new (writes.set_place v.path.now (option_copied w) v.label.now)) (sym d) (becomes_placed old new v.path.now (Some o.now) v.label.now e.count (rw d at e.ran))
    ] refl))

pub returns-in-InsertNode-clause-done : goal.returns-in-InsertNode-clause-done
returns-in-InsertNode-clause-done g c clean inside =
    let old = state g.S.Store c.args.transaction.now.conn.now in
    let new = state g.S.Store c.insert_node.new.transaction.conn.now in
    let v = c.in-InsertNode in
    let range : FitsSigned w64 v.parent = search rules in
    let id = to_z-of_z w64 v.parent range in
    ran old new c.insert_node.result _ _ v.is (rw id at (c.insert_node.ensures.done clean inside)) (becomes old new _)

pub returns-in-WriteCard-clause-done : goal.returns-in-WriteCard-clause-done
returns-in-WriteCard-clause-done g c clean inside =
    let old = state g.S.Store c.args.transaction.now.conn.now in
    let new = state g.S.Store c.write_card.new.transaction.conn.now in
    let v = c.in-WriteCard in
    let range : FitsSigned w64 v.book = search rules in
    let id = to_z-of_z w64 v.book range in
    ran old new c.write_card.result _ _ v.is (rw id at (c.write_card.ensures.done clean inside)) (becomes old new _)

pub returns-in-WriteCopy-clause-done : goal.returns-in-WriteCopy-clause-done
returns-in-WriteCopy-clause-done g c clean inside =
    let old = state g.S.Store c.args.transaction.now.conn.now in
    let new = state g.S.Store c.write_copy.new.transaction.conn.now in
    let v = c.in-WriteCopy in
    let range : FitsSigned w64 v.book = search rules in
    let id = to_z-of_z w64 v.book range in
    ran old new c.write_copy.result _ _ v.is (rw id at (c.write_copy.ensures.done clean inside)) (becomes old new _)

pub returns-in-DeleteNode-clause-done : goal.returns-in-DeleteNode-clause-done
returns-in-DeleteNode-clause-done g c clean inside =
    let old = state g.S.Store c.args.transaction.now.conn.now in
    let new = state g.S.Store c.execute-in-DeleteNode.new.transaction.conn.now in
    let v = c.in-DeleteNode in
    let range : FitsSigned w64 v.node = search rules in
    let id = to_z-of_z w64 v.node range in
    ran old new c.execute-in-DeleteNode.result _ _ v.is (rw (c.params-to_sql-in-DeleteNode.ensures, id) at (c.execute-in-DeleteNode.ensures.done clean inside)) (λ (e : Executed _ _ old new). becomes_if old new (DeleteNode v.node) (becomes_without old new v.node e.count e.ran))

pub returns-in-DeleteChildren-clause-done : goal.returns-in-DeleteChildren-clause-done
returns-in-DeleteChildren-clause-done g c clean inside =
    let old = state g.S.Store c.args.transaction.now.conn.now in
    let new = state g.S.Store c.execute-in-DeleteChildren.new.transaction.conn.now in
    let v = c.in-DeleteChildren in
    let range : FitsSigned w64 v.node = search rules in
    let id = to_z-of_z w64 v.node range in
    ran old new c.execute-in-DeleteChildren.result _ _ v.is (rw (c.params-to_sql-in-DeleteChildren.ensures, id) at (c.execute-in-DeleteChildren.ensures.done clean inside)) (λ (e : Executed _ _ old new). becomes_if old new (DeleteChildren v.node) (becomes_childless old new v.node e.count e.ran))

pub returns-in-DeleteEntries-clause-done : goal.returns-in-DeleteEntries-clause-done
returns-in-DeleteEntries-clause-done g c clean inside =
    let old = state g.S.Store c.args.transaction.now.conn.now in
    let new = state g.S.Store c.delete_entries.new.transaction.conn.now in
    let v = c.in-DeleteEntries in
    let range : FitsSigned w64 v.node = search rules in
    let id = to_z-of_z w64 v.node range in
    ran old new c.delete_entries.result _ _ v.is (rw id at (c.delete_entries.ensures.done clean inside)) (becomes old new _)

pub returns-in-DeleteOwn-clause-done : goal.returns-in-DeleteOwn-clause-done
returns-in-DeleteOwn-clause-done g c clean inside =
    let old = state g.S.Store c.args.transaction.now.conn.now in
    let new = state g.S.Store c.execute-in-DeleteOwn.new.transaction.conn.now in
    let v = c.in-DeleteOwn in
    let range : FitsSigned w64 v.node = search rules in
    let id = to_z-of_z w64 v.node range in
    ran old new c.execute-in-DeleteOwn.result _ _ v.is (rw (c.params-to_sql-in-DeleteOwn.ensures, id) at (c.execute-in-DeleteOwn.ensures.done clean inside)) (λ (e : Executed _ _ old new). becomes old new _ (becomes_disowned old new v.node e.count e.ran))

pub returns-in-InsertGone-clause-done : goal.returns-in-InsertGone-clause-done
returns-in-InsertGone-clause-done g c clean inside =
    let old = state g.S.Store c.args.transaction.now.conn.now in
    let new = state g.S.Store c.execute-in-InsertGone.new.transaction.conn.now in
    let v = c.in-InsertGone in
    let small : v.number < 2 ^ 53 = subst IsSmall v.is c.requires in
    let number = to_z_pos w64 v.number (omega (arith, small)) in
    let range : FitsSigned w64 v.book = search rules in
    let id = to_z-of_z w64 v.book range in
    ran old new c.execute-in-InsertGone.result _ _ v.is (rw (c.params-to_sql-in-InsertGone.ensures, c.params-to_sql-in-InsertGone-2.ensures, c.params-to_sql-in-InsertGone-3.ensures, number, id) at (c.execute-in-InsertGone.ensures.done clean inside)) (λ (e : Executed _ _ old new). becomes old new _ (becomes_remembered old new v.book v.name.now v.number e.count e.ran))

pub returns-in-DeleteGoneName-clause-done : goal.returns-in-DeleteGoneName-clause-done
returns-in-DeleteGoneName-clause-done g c clean inside =
    let old = state g.S.Store c.args.transaction.now.conn.now in
    let new = state g.S.Store c.delete_gone_name.new.transaction.conn.now in
    let v = c.in-DeleteGoneName in
    let range : FitsSigned w64 v.book = search rules in
    let id = to_z-of_z w64 v.book range in
    ran old new c.delete_gone_name.result _ _ v.is (rw id at (c.delete_gone_name.ensures.done clean inside)) (becomes old new _)

pub returns-in-DeleteGone-clause-done : goal.returns-in-DeleteGone-clause-done
returns-in-DeleteGone-clause-done g c clean inside =
    let old = state g.S.Store c.args.transaction.now.conn.now in
    let new = state g.S.Store c.execute-in-DeleteGone.new.transaction.conn.now in
    let v = c.in-DeleteGone in
    let range : FitsSigned w64 v.book = search rules in
    let id = to_z-of_z w64 v.book range in
    ran old new c.execute-in-DeleteGone.result _ _ v.is (rw (c.params-to_sql-in-DeleteGone.ensures, id) at (c.execute-in-DeleteGone.ensures.done clean inside)) (λ (e : Executed _ _ old new). becomes old new _ (becomes_forgotten old new v.book e.count e.ran))

pub returns-in-DeleteMembers-clause-done : goal.returns-in-DeleteMembers-clause-done
returns-in-DeleteMembers-clause-done g c clean inside =
    let old = state g.S.Store c.args.transaction.now.conn.now in
    let new = state g.S.Store c.execute-in-DeleteMembers.new.transaction.conn.now in
    let v = c.in-DeleteMembers in
    ran old new c.execute-in-DeleteMembers.result _ _ v.is (rw (c.params-to_sql-in-DeleteMembers.ensures) at (c.execute-in-DeleteMembers.ensures.done clean inside)) (λ (e : Executed _ _ old new). becomes old new _ (becomes_unjoined old new v.group.now e.count e.ran))

pub returns-in-SetEpoch-clause-done : goal.returns-in-SetEpoch-clause-done
returns-in-SetEpoch-clause-done g c clean inside =
    let old = state g.S.Store c.args.transaction.now.conn.now in
    let new = state g.S.Store c.execute-in-SetEpoch.new.transaction.conn.now in
    let v = c.in-SetEpoch in
    let small : v.epoch < 2 ^ 53 = subst IsSmall v.is c.requires in
    let number = to_z_pos w64 v.epoch (omega (arith, small)) in
    ran old new c.execute-in-SetEpoch.result _ _ v.is (rw (c.params-to_sql-in-SetEpoch.ensures, number) at (c.execute-in-SetEpoch.ensures.done clean inside)) (λ (e : Executed _ _ old new). becomes_if old new (SetEpoch v.epoch) (becomes_raised old new v.epoch e.count e.ran))

pub returns-in-Each-clause-done : goal.returns-in-Each-clause-done
returns-in-Each-clause-done g c clean inside =
    let old = state g.S.Store c.args.transaction.now.conn.now in
    let new = state g.S.Store c.write_items.new.transaction.conn.now in
    ran old new c.write_items.result _ _ c.in-Each.is (c.write_items.ensures.done clean inside) (λ h. h)
