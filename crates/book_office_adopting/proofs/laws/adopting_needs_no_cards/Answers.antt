use Rattle.book_office_adopting.proofs.BareAdoption.{adoption_told, adopted_bare}
use Rattle.book_office_adopting.proofs.laws.adopting_needs_no_cards.Goals as goal

pub returns : goal.returns
returns c = record { told = adoption_told; made = adopted_bare }
