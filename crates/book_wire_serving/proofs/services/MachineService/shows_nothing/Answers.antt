use Rattle.std.proofs.Common.{refl}
use Rattle.book_wire_serving.proofs.Servings.{runs_unread}
use Rattle.book_wire_serving.proofs.services.MachineService.shows_nothing.Goals as goal

pub returns : goal.returns
returns g c =
    let e = c.epoch.ensures in
    runs_unread _ _ e.was_honest e.falls e.kept e.left refl
