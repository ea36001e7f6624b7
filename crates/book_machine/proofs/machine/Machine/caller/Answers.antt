use Rattle.book_machine.proofs.Common.{rules, inr}
use Rattle.book_machine.proofs.StagesInTurn.{asks_nothing}
use Rattle.book_machine.proofs.Planning.{strangers_are_unknown}
use Rattle.book_machine.proofs.machine.Machine.caller.Goals as goal

pub returns-in_default-2 : goal.returns-in_default-2
returns-in_default-2 g c = asks_nothing _ _ _ (λ h o stands.
    rw c.in-Some.is (inr (strangers_are_unknown o c.in-Some.text.now ((g.K.Keeper.standing c.args.self.now.keeper).sound o stands) (search rules))))
