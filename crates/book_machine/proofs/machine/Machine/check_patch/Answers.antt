use Rattle.book_machine.proofs.Common.{sym, subst, Asks, MeetsAny, IsMembersAnswer}
use Rattle.book_machine.specs.Stages.{IsPatchAnswer}
use Rattle.book_machine.proofs.machine.Machine.check_patch.Goals as goal

pub returns-in-GroupMembers : goal.returns-in-GroupMembers
returns-in-GroupMembers g c =
    let old = g.K.Keeper.standing c.args.self.now.keeper in
    let new = g.K.Keeper.standing c.check_members.new.self.keeper in
    let r = c.check_members.result in
    subst (λ patch. Asks old new r (λ o x. MeetsAny (IsPatchAnswer o patch) x)) (sym c.in-GroupMembers.is)
    (subst (λ members. Asks old new r (λ o x. MeetsAny (IsMembersAnswer o members) x)) c.as_slice.ensures c.check_members.ensures)
