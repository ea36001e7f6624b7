use Rattle.std.proofs.Common.{◌++◌, ◌∷◌, [], sym, ap, subst, ◌∙◌, Vec, Global}
use Rattle.std.proofs.lemmas.List.{take_all}
use Rattle.book_lists.specs.Circles.{has_path}
use Rattle.book_lists.specs.declared.principals.Principal.{Principal}
use Rattle.book_tables.proofs.NearbyPairs.{AreMet, not_met, one_met}
use Rattle.book_tables.proofs.nearby.met_among.Goals as goal
use Rattle.book_tables.proofs.nearby.met_among.Goals.{then-has+in_ok-clone+in_ok-push, else-has}

pub members-init : goal.members-init
members-init c = λ q. ap (λ ps. has_path ps q) c.new-kept.ensures.items

pub members-preserved : goal.members-preserved
members-preserved c =
    let members = c.args.members.now in
    let met = c.args.met.now in
    let e = c.member-item.result in
    let kept = c.members.kept.items in
    elim c.if-has.branch [
      | then-has+in_ok-clone+in_ok-push w ↦
          one_met members met c.members.member-index e c.members-test.true (sym c.member-item.is) kept c.members.invariant c.if-has.kept.items
          (ap (λ (v : Vec Principal Global). v.items) w.kept-is ∙ w.in_ok-push.ensures.items ∙ ap (λ p. kept ++ p ∷ []) w.in_ok-clone.ensures.cases) (sym c.has.ensures ∙ w.if-has.true)
      | else-has w ↦
          not_met members met c.members.member-index e c.members-test.true (sym c.member-item.is) kept c.members.invariant c.if-has.kept.items
          (ap (λ (v : Vec Principal Global). v.items) w.kept-is) (sym c.has.ensures ∙ w.if-has.false)
    ]

pub returns : goal.returns
returns c = subst (λ l. AreMet l c.args.met.now c.members.kept.items) (take_all c.members.member-index c.args.members.now c.members-test.false) c.members.invariant
