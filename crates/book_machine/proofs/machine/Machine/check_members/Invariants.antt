use Rattle.book_machine.proofs.Common.{All, take, IsMapped}
use Rattle.book_machine.proofs.AskingEach.{HasAsked}
use Rattle.book_machine.proofs.machine.Machine.check_members.Given as goal

-- the members so far are there
abbrev pub invariant-loop-member : goal.invariant-loop-member
invariant-loop-member g l = HasAsked (g.K.Keeper.standing l.fn.self.keeper) (g.K.Keeper.standing l.self.keeper) (λ o. All (IsMapped o) (take l.member-index l.members))
