use Rattle.std.proofs.Common.{refl}
use Rattle.book_wire_serving.proofs.services.MachineService.serve.Goals as goal

pub returns : goal.returns
returns g c = record {
  served = c.serve.ensures.served;
  well_formed = c.serve.ensures.well_formed;
  was_sound = λ sound. sound;
  held = refl;
  text = λ sound bytes held. absurd cc;
  other = λ sound bytes held. absurd cc;
}
