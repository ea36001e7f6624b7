use Rattle.std.proofs.Common.{◌≡◌, Bool, true, false, cond, Option, Some, None, refl, ap, ◌∙◌, option_map, codes}
use Rattle.std.specs.Str.{bytes_eq}
use Rattle.matchit.specs.Rows.{RowsOf}
use Rattle.matchit.specs.Router.{RouteOf}
use Rattle.matchit.proofs.OnLiterals.{matchit_on_literals}
use Rattle.book_wire_targets.specs.declared.home_routes.Home.{Home}
use Rattle.book_wire_targets.proofs.Literals.{lookup, literal_first, literal_test, literal_from_test}
use Rattle.book_wire_targets.proofs.home_routes.homes.Goals as goal

abbrev value_of : Option (RouteOf Home) → Option Home
value_of o = option_map (λ (r : RouteOf Home). r.value) o

through : (a b c d : Bool) (w x y z : RouteOf Home)
    → value_of (cond a (Some w) (cond b (Some x) (cond c (Some y) (cond d (Some z) None))))
    ≡ cond a (Some w.value) (cond b (Some x.value) (cond c (Some y.value) (cond d (Some z.value) None)))
through true b c d w x y z = refl
through false true c d w x y z = refl
through false false true d w x y z = refl
through false false false true w x y z = refl
through false false false false w x y z = refl

pub returns : goal.returns
unfolding matchit_on_literals
returns c = λ path.
    let a = c.in_ok-insert.ensures in
    let b = rw (a.1, c.new-router.ensures) at c.in_ok-insert-2.ensures in
    let d = rw b.1 at c.in_ok-insert-3.ensures in
    let e = rw d.1 at c.in_ok-insert-4.ensures in
    let now : RowsOf (RouteOf Home) = c.insert-4.new.self in
    let literal = literal_from_test now (ap (λ (rows : RowsOf (RouteOf Home)). literal_test rows) e.1) in
    ap value_of (literal_first now path literal)
    ∙ ap (λ (rows : RowsOf (RouteOf Home)). value_of (lookup path rows)) e.1
    ∙ through (bytes_eq (codes "/books") path) (bytes_eq (codes "/groups") path) (bytes_eq (codes "/people") path) (bytes_eq (codes "/") path) _ _ _ _
