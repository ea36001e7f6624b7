use Rattle.std.proofs.Common.{refl}
use Rattle.book_desk_connections.proofs.moves.finish.Goals as goal

pub returns-in-Failed-clause-there : goal.returns-in-Failed-clause-there
returns-in-Failed-clause-there g c sound = absurd (sound c.in-Failed.fault refl)
