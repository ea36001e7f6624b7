use Rattle.book_tables.proofs.Common.{w64, ◌≡◌, [], None, arith, rules, sym, subst, to_z-of_z, IfOk-weaker, state, HasCleanDisk, ShowsListing}
use Rattle.std.proofs.Common.{FitsSigned}
use Rattle.book_tables.specs.Children.{ShowsChildrenOf}
use Rattle.book_tables.proofs.ToldRows.{none_listed, all_listed}
use Rattle.book_tables.proofs.listing_rows.listing_at.Goals as goal

pub returns-in_default-clause-shown : goal.returns-in_default-clause-shown
returns-in_default-clause-shown g c clean =
    let old = state g.S.Store c.args.transaction.now.conn.now in
    let empty : c.new.result.items ≡ [] = search rules in
    let none : c.in_ok-node.field-0 ≡ None = search rules in
    subst (ShowsListing old c.args.path.now c.args.front.now) (sym empty) (none_listed old c.args.path.now c.args.front.now c.in_ok-node.field-0 none (c.in_ok-node.ensures.found clean))

pub returns-clause-shown : goal.returns-clause-shown
returns-clause-shown g c clean =
    let old = state g.S.Store c.args.transaction.now.conn.now in
    let first = state g.S.Store c.look_up.new.transaction.conn.now in
    let second = state g.S.Store c.child_rows.new.transaction.conn.now in
    let clean_second : HasCleanDisk second = omega (arith, c.children_told.ensures.survives.clean, clean) in
    let clean_first : HasCleanDisk first = omega (arith, c.child_rows.ensures.survives.clean, clean_second) in
    let range : FitsSigned w64 c.in-Some.node.id = search rules in
    let id = to_z-of_z w64 c.in-Some.node.id range in
    let rows = c.in_ok-rows.rows.items in
    IfOk-weaker c.children_told.result _ _ (λ children are. all_listed old first second c.args.path.now c.args.front.now c.in-Some.node c.in_ok-node.field-0 c.in-Some.is (c.in_ok-node.ensures.found clean_first)
    (c.in_ok-node.ensures.stays clean_first) (c.in_ok-rows.ensures.stays clean_second) rows (rw id at (c.in_ok-rows.ensures.shown clean_second)) children.items
    (subst (λ shown. ShowsChildrenOf second c.in-Some.node.id c.args.front.now shown children.items) c.deref.ensures.value (rw id at are))) (c.children_told.ensures.shown clean)
