use Rattle.book_office_adopting.proofs.Adoptions.{adopting_twice, adopting_nothing, adopting_something}
use Rattle.book_office_adopting.proofs.laws.adopting_twice_is_adopting_once.Goals as goal

pub returns : goal.returns
returns c = record { twice = adopting_twice; unchanged = adopting_nothing; changed = adopting_something }
