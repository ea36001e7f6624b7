use Rattle.std.proofs.Common.{refl}
use Rattle.book_wire_steps.proofs.Takes.{only_unlogged}
use Rattle.examples_wire.proofs.rounds.AdopterControlMachineMemoryKeeper.take_turn.Goals as goal

pub returns : goal.returns
returns c = only_unlogged _ c.args.service.now c.adopt.new.self c.args.self.now.policy c.adopt.result c.adopt.ensures refl refl
