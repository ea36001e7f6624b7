use Rattle.book_tables_migrating.proofs.AlikeOffices.{offices_alike}
use Rattle.book_tables_migrating.proofs.laws.widened_offices_decide_alike.Goals as goal

pub returns : goal.returns
returns c = offices_alike
