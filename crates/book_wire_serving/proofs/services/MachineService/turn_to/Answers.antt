use Rattle.book_wire_serving.proofs.Servings.{stays}
use Rattle.book_wire_serving.proofs.services.MachineService.turn_to.Goals as goal

pub returns : goal.returns
returns g c = stays _
