use Rattle.book_policy_idle.proofs.Granting.{granted_same}
use Rattle.book_policy_idle.proofs.alike.are_granted_alike.Goals as goal

pub returns : goal.returns
returns c =
    let same = granted_same c.args.circle.now c.args.here.now c.args.entries.now c.args.others.now c.granted.result c.granted-2.result c.granted.ensures c.granted-2.ensures in
    ((λ is. same.0 (c.eq.ensures.same.0 is)), (λ alike. c.eq.ensures.same.1 (same.1 alike)))
