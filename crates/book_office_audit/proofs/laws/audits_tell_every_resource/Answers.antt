use Rattle.book_office_audit.proofs.Audited.{tells}
use Rattle.book_office_audit.proofs.laws.audits_tell_every_resource.Goals as goal

pub returns : goal.returns
returns c = tells
