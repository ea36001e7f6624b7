use Rattle.book_tables_rows.proofs.Common.{w64, to_z-of_z, FitsSigned, ◌≡◌, rules, arith, ◌∙◌, [], ◌∷◌, IsTrue, HasCleanDisk, state, rows_of, listed_row, CanList, Looks}
use Rattle.book_tables_rows.specs.Adopting as policy
use Rattle.book_tables_rows.specs.Parts.{turns}
use Rattle.book_tables_rows.proofs.InScript.{is_there, said_so}
use Rattle.book_tables_rows.proofs.Keeping.{on_ok}
use Rattle.book_tables_rows.proofs.PolicyWrites.{lists_both}
use Rattle.book_tables_rows.proofs.adopting.write_lists.Goals as goal

pub returns-clause-done : goal.returns-clause-done
returns-clause-done g c clean inside =
    let old = state g.S.Store c.args.transaction.now.conn.now in
    let s1 = state g.S.Store c.look_up.new.transaction.conn.now in
    let new = state g.S.Store c.run_all.new.transaction.conn.now in
    let clean_1 : HasCleanDisk s1 = omega (arith, c.run_all.ensures.survives.clean) in
    let look_1 : Looks old s1 = c.in_ok-found.ensures.stays clean_1 in
    let inside_1 : IsTrue s1.in_transaction = look_1.mode ∙ inside in
    let lists = listed_row c.args.lists.now in
    let path : c.as_str.result.now ≡ lists.path = search rules in
    let protected : c.deref.result.now ≡ c.args.lists.now.protected.items = search rules in
    let own : c.deref-2.result.now ≡ c.args.lists.now.own.items = search rules in
    let range : FitsSigned w64 c.in-Some.found.id = search rules in
    let id = to_z-of_z w64 c.in-Some.found.id range in
    on_ok c.run_all.result _ _ (λ w. said_so old s1 new _ (turns CanList policy.write_lists (lists ∷ [])) look_1 w
    (λ book fit.
    let at = is_there old lists.path c.in-Some.found c.in_ok-found.field-0 c.in-Some.is (rw path at (c.in_ok-found.ensures.found clean_1)) book in
    let x = lists_both (rows_of old.now.trees) lists c.in-Some.found at in
    ((tt, (tt, (tt, tt))), (λ _. (x.0, tt)), x.1))) (rw (id, protected, own) at (c.run_all.ensures.done clean inside_1))
