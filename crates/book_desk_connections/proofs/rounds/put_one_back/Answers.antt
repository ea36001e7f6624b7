use Rattle.std.proofs.Common.{None, Some, refl}
use Rattle.std.proofs.lemmas.List.{get_or-set_same}
use Rattle.book_desk_connections.specs.declared.connections.Accepted.{Accepted}
use Rattle.book_desk_connections.proofs.rounds.put_one_back.Goals as goal

pub returns-then-copy-len-clause-back : goal.returns-then-copy-len-clause-back
returns-then-copy-len-clause-back c within =
    let is : Accepted = record { number = c.args.copy.number; connection = c.resume.result } in
    (is, get_or-set_same c.args.places.now.items c.args.copy.place (Some is) None within, refl, c.resume.ensures)
