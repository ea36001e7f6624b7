use Rattle.std.proofs.Common.{◌≡◌, ◌↔◌, true, List, subst}
use Rattle.std.proofs.lemmas.Result.{IfOk-weaker}
use Rattle.book_policy_idle.specs.Alike.{AlikeAlong}
use Rattle.book_policy_idle.specs.declared.askers.Asker.{Asker}
use Rattle.book_policy_idle.specs.declared.spots.Spot.{Spot}
use Rattle.book_policy_idle.proofs.Alikeness.{decided_alike}
use Rattle.book_policy_idle.proofs.alike.is_decided_alike.Goals as goal

pub returns : goal.returns
returns c =
    let i = c.args.index in
    IfOk-weaker c.is_alike_along.result _ _
    (λ alike tells.
    decided_alike c.args.policy.now c.args.scope.now i alike c.requires
    (subst (λ (l : List Spot). (alike ≡ true) ↔ AlikeAlong i c.args.scope.now.askers l) c.as_slice-spots.ensures
    (subst (λ (l : List Asker). (alike ≡ true) ↔ AlikeAlong i l c.as_slice-spots.result.now) c.as_slice-asking.ensures tells)))
    c.is_alike_along.ensures
