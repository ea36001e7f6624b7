use Rattle.book_machine.proofs.Common.{sym, subst, Asks, MeetsAny}
use Rattle.book_machine.specs.Stages.{AreNamesTold}
use Rattle.book_machine.proofs.machine.Machine.names_at.Goals as goal

pub returns-in-Book : goal.returns-in-Book
returns-in-Book g c =
    let old = g.K.Keeper.standing c.args.self.now.keeper in
    let new = g.K.Keeper.standing c.names_of.new.self.keeper in
    let r = c.names_of.result in
    subst (λ p. Asks old new r (λ o x. MeetsAny (AreNamesTold o c.args.circle.now p) x)) (sym c.in-Book.is) c.names_of.ensures
