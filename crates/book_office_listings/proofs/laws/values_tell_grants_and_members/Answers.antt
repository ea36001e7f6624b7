use Rattle.book_office_listings.proofs.ToldValues.{told_members, told_privileges}
use Rattle.book_office_listings.proofs.laws.values_tell_grants_and_members.Goals as goal

pub returns-clause-privileges : goal.returns-clause-privileges
returns-clause-privileges c = told_privileges

pub returns-clause-members : goal.returns-clause-members
returns-clause-members c = told_members
