use Rattle.book_machine.proofs.Common.{take, AllZip, IsChecked}
use Rattle.book_machine.proofs.AskingEach.{HasAsked}
use Rattle.book_machine.proofs.machine.Machine.checked_list.Given as goal

-- the entries so far are checked
abbrev pub invariant-loop-entry : goal.invariant-loop-entry
invariant-loop-entry g l = HasAsked (g.K.Keeper.standing l.fn.self.keeper) (g.K.Keeper.standing l.self.keeper) (λ o. AllZip (IsChecked o) (take l.entry-index l.list) l.checked)
