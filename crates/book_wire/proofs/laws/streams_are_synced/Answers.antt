use Rattle.book_wire_serving.proofs.Servings.{streams_are_synced}
use Rattle.book_wire.proofs.laws.streams_are_synced.Goals as goal

pub returns : goal.returns
returns g c = streams_are_synced g.M.Service.serving
