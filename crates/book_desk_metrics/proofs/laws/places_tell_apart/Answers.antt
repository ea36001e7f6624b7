use Rattle.book_desk_metrics.proofs.Places.{methods_apart, privileges_apart}
use Rattle.book_desk_metrics.proofs.laws.places_tell_apart.Goals as goal

pub returns : goal.returns
returns c = record { methods = methods_apart; privileges = privileges_apart }
