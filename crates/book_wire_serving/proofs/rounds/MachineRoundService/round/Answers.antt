use Rattle.std.proofs.Common.{rules}
use Rattle.book_wire_serving.proofs.MachineRounds.{machine_round}
use Rattle.book_wire_serving.proofs.rounds.MachineRoundService.round.Goals as goal

pub returns : goal.returns
returns g c =
    machine_round g.K.Rounds.inside g.W.ServiceWork.does _ _ _ c.round_over.new.machine _ _ (search rules) c.round_over.ensures.round
