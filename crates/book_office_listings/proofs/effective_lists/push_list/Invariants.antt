use Rattle.book_office_listings.proofs.Common.{◌≡◌, ◌++◌, map, take, standing_at, acl_entry}
use Rattle.book_office_listings.proofs.effective_lists.push_list.Given as goal

-- the entries so far are told
abbrev pub invariant-loop-entry : goal.invariant-loop-entry
invariant-loop-entry l = l.told.items ≡ l.initial.told.items ++ map (acl_entry l.path) (map (standing_at l.from l.protected) (take l.entry-index l.list))
