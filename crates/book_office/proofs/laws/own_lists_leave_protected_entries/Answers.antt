use Rattle.book_office.proofs.ProtectedLists.{protected_lists_stay, protected_entries_stay, protected_decisions_stay}
use Rattle.book_office.proofs.laws.own_lists_leave_protected_entries.Goals as goal

pub returns : goal.returns
returns c = record { lists = protected_lists_stay; entries = protected_entries_stay; decisions = protected_decisions_stay }
