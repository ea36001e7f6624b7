use Rattle.book_tables_rows.proofs.Common.{w64, to_z-of_z, FitsSigned, ◌≡◌, rules, arith, ◌∙◌, IsTrue, option_copied, HasCleanDisk, refl, ap, [], ◌∷◌, state, rows_of, placed_row, CanPlace, Looks}
use Rattle.book_tables_rows.specs.Adopting as policy
use Rattle.book_tables_rows.specs.Parts.{turns}
use Rattle.book_tables_rows.specs.Writes as writes
use Rattle.book_tables_rows.proofs.InScript.{becomes, is_there, is_there_then, none_there_then, said_so}
use Rattle.book_tables_rows.proofs.Keeping.{on_ok, looks_then}
use Rattle.book_tables_rows.proofs.PolicyWrites.{places_new, places_old}
use Rattle.book_tables_rows.proofs.adopting.write_place.Goals as goal

pub returns-in-Some-clause-done : goal.returns-in-Some-clause-done
returns-in-Some-clause-done g c clean inside =
    let old = state g.S.Store c.args.transaction.now.conn.now in
    let s1 = state g.S.Store c.look_up.new.transaction.conn.now in
    let new = state g.S.Store c.set_place.new.transaction.conn.now in
    let clean_1 : HasCleanDisk s1 = omega (arith, c.set_place.ensures.survives.clean) in
    let look_1 : Looks old s1 = c.in_ok-node.ensures.stays clean_1 in
    let inside_1 : IsTrue s1.in_transaction = look_1.mode ∙ inside in
    let place = placed_row c.args.place.now in
    let path : c.as_str-path.result.now ≡ place.path = search rules in
    let label : c.as_str-label.result.now ≡ place.label = search rules in
    let owner : option_copied c.as_deref.result ≡ place.owner = search rules in
    on_ok c.set_place.result _ _ (λ w. said_so old s1 new _ (turns CanPlace policy.write_place (place ∷ [])) look_1 w
    (λ book fit.
    let at = is_there old place.path c.in-Some.node _ c.in-Some.is (rw path at (c.in_ok-node.ensures.found clean_1)) book in
    let x = places_old (rows_of old.now.trees) place c.in-Some.node at in
    (tt, (λ _. (x.0, tt)), ap (λ o. writes.set_place place.path o place.label (rows_of old.now.trees)) owner ∙ x.1))) (rw (path, label) at (c.set_place.ensures.done clean inside_1))

pub returns-in-Some-2-clause-done : goal.returns-in-Some-2-clause-done
returns-in-Some-2-clause-done g c clean inside =
    let old = state g.S.Store c.args.transaction.now.conn.now in
    let s1 = state g.S.Store c.look_up.new.transaction.conn.now in
    let s2 = state g.S.Store c.look_up-in-None.new.transaction.conn.now in
    let new = state g.S.Store c.insert_node.new.transaction.conn.now in
    let clean_2 : HasCleanDisk s2 = omega (arith, c.insert_node.ensures.survives.clean) in
    let clean_1 : HasCleanDisk s1 = omega (arith, c.look_up-in-None.ensures.survives.clean) in
    let look_1 : Looks old s1 = c.in_ok-node.ensures.stays clean_1 in
    let look_2 : Looks s1 s2 = c.in_ok-above-in-None.ensures.stays clean_2 in
    let looks : Looks old s2 = looks_then old s1 s2 look_1 look_2 in
    let inside_2 : IsTrue s2.in_transaction = looks.mode ∙ inside in
    let place = placed_row c.args.place.now in
    let path : c.as_str-path.result.now ≡ place.path = search rules in
    let label : c.as_str-label.result.now ≡ place.label = search rules in
    let parent : c.as_str.result.now ≡ place.parent = search rules in
    let owner : option_copied c.as_deref-in-None.result ≡ place.owner = search rules in
    let range : FitsSigned w64 c.in-Some-2.above.id = search rules in
    let id = to_z-of_z w64 c.in-Some-2.above.id range in
    on_ok c.insert_node.result _ _ (λ w. said_so old s2 new _ (turns CanPlace policy.write_place (place ∷ [])) looks (becomes s2 new _ w)
    (λ book fit.
    let none = none_there_then old old place.path _ (record { mode = refl; same = λ _. refl }) c.in-None.is (rw path at (c.in_ok-node.ensures.found clean_1)) book in
    let at = is_there_then old s1 place.parent c.in-Some-2.above _ look_1 c.in-Some-2.is (rw parent at (c.in_ok-above-in-None.ensures.found clean_2)) book in
    let x = places_new (rows_of old.now.trees) place c.in-Some-2.above none at in
    (tt, (λ _. (x.0, tt)), x.1))) (rw (path, id, owner, label) at (c.insert_node.ensures.done clean inside_2))
