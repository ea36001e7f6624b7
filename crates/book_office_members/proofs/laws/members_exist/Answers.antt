use Rattle.book_office_members.proofs.FoundMembers.{members_exist, names_exist}
use Rattle.book_office_members.proofs.laws.members_exist.Goals as goal

pub returns-clause-members : goal.returns-clause-members
returns-clause-members c = members_exist

pub returns-clause-names : goal.returns-clause-names
returns-clause-names c = names_exist
