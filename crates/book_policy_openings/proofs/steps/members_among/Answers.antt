use Rattle.std.proofs.Common.{◌∙◌, List, map, ap}
use Rattle.std.proofs.lemmas.List.{take_all}
use Rattle.book_lists.specs.declared.memberships.Membership.{Membership}
use Rattle.book_policy_openings.proofs.steps.members_among.Goals as goal

pub returns : goal.returns
returns c =
    c.from_vec.ensures ∙ c.loop-pair.invariant
    ∙ ap (λ (ms : List Membership). map (λ (m : Membership). m.member) ms) (take_all c.loop-pair.pair-index c.args.pairs.now c.loop-pair-test.false)
