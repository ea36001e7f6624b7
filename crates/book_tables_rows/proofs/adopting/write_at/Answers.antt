use Rattle.book_tables_rows.proofs.Common.{◌+◌, ⊤, length, rules, sym, subst, state, CanList, CanPlace, joined, listed_row, placed_row}
use Rattle.std.proofs.Common.{◌<◌}
use Rattle.book_tables_rows.specs.Adopting as policy
use Rattle.book_tables_rows.specs.Parts.{part_count, part_from}
use Rattle.book_tables_rows.specs.Plans.{Awaits}
use Rattle.book_tables_rows.specs.declared.adopting.Part.{Part}
use Rattle.book_tables_rows.proofs.InScript.{next_item}
use Rattle.book_tables_rows.proofs.Keeping.{on_ok}
use Rattle.book_tables_rows.proofs.PolicyWrites.{turn_at}
use Rattle.book_tables_rows.proofs.adopting.write_at.Goals as goal

pub returns-in-Places-clause-done : goal.returns-in-Places-clause-done
returns-in-Places-clause-done g c clean inside =
    let old = state g.S.Store c.args.transaction.now.conn.now in
    let new = state g.S.Store c.write_place.new.transaction.conn.now in
    let v = c.in-Places in
    let place = c.args.place in
    let item = c.item_at.result.now in
    let within : place < length v.places.now = subst (λ (x : Part). place < part_count x) v.is c.requires in
    on_ok c.write_place.result _ _ (λ h. subst (λ (x : Part). Awaits old new (part_from x (place + 1)) (part_from x place)) (sym v.is)
    (turn_at placed_row CanPlace policy.write_place old new v.places.now place item (next_item v.places.now place item within (search rules)) h)) (c.write_place.ensures.done clean inside)

pub returns-in-Lists-clause-done : goal.returns-in-Lists-clause-done
returns-in-Lists-clause-done g c clean inside =
    let old = state g.S.Store c.args.transaction.now.conn.now in
    let new = state g.S.Store c.write_lists.new.transaction.conn.now in
    let v = c.in-Lists in
    let place = c.args.place in
    let item = c.item_at-in-Lists.result.now in
    let within : place < length v.lists.now = subst (λ (x : Part). place < part_count x) v.is c.requires in
    on_ok c.write_lists.result _ _ (λ h. subst (λ (x : Part). Awaits old new (part_from x (place + 1)) (part_from x place)) (sym v.is)
    (turn_at listed_row CanList policy.write_lists old new v.lists.now place item (next_item v.lists.now place item within (search rules)) h)) (c.write_lists.ensures.done clean inside)

pub returns-in-Groups-clause-done : goal.returns-in-Groups-clause-done
returns-in-Groups-clause-done g c clean inside =
    let old = state g.S.Store c.args.transaction.now.conn.now in
    let new = state g.S.Store c.write_group.new.transaction.conn.now in
    let v = c.in-Groups in
    let place = c.args.place in
    let item = c.item_at-in-Groups.result.now in
    let within : place < length v.groups.now = subst (λ (x : Part). place < part_count x) v.is c.requires in
    on_ok c.write_group.result _ _ (λ h. subst (λ (x : Part). Awaits old new (part_from x (place + 1)) (part_from x place)) (sym v.is)
    (turn_at joined (λ _ _. ⊤) policy.write_group old new v.groups.now place item (next_item v.groups.now place item within (search rules)) h)) (c.write_group.ensures.done clean inside)
