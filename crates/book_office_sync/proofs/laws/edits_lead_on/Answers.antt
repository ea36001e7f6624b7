use Rattle.book_office_sync.proofs.CopiesKept.{apply_later}
use Rattle.book_office_sync.proofs.laws.edits_lead_on.Goals as goal

pub returns : goal.returns
returns c = apply_later
