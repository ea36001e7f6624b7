use Rattle.book_wire_serving.proofs.Servings.{still}
use Rattle.book_wire_serving.proofs.services.MachineService.note.Goals as goal

pub returns-clause-noted : goal.returns-clause-noted
returns-clause-noted g c = record {
  still = still _;
  noted = record { was_sound = λ sound. sound; held = λ sound bytes held. absurd cc };
}
