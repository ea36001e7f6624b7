use Rattle.std.proofs.Common.{refl}
use Rattle.book_tables_opening.proofs.found.find_store.Goals as goal

pub new-requires : goal.new-requires
new-requires g c clean =
    let opened = c.in-Ok.ensures.opened clean in
    (opened.0, record { schema = refl; rules = (opened.1 opened.0.is_open).0; rising = c.in-Ok.ensures.rising clean })
