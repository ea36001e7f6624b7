use Rattle.book_machine.proofs.Common.{sym, subst, Asks, MeetsAny, AreMembersTold}
use Rattle.book_machine.proofs.machine.Machine.members_at.Goals as goal

pub returns-in-Card : goal.returns-in-Card
returns-in-Card g c =
    let old = g.K.Keeper.standing c.args.self.now.keeper in
    let new = g.K.Keeper.standing c.members_of.new.self.keeper in
    let r = c.members_of.result in
    subst (λ p. Asks old new r (λ o x. MeetsAny (AreMembersTold o c.args.circle.now p) x)) (sym c.in-Card.is) c.members_of.ensures
