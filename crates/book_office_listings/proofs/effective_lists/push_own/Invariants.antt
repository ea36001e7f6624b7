use Rattle.book_office_listings.proofs.Common.{◌≡◌, ◌++◌, map, take, flat_map, own_entries, acl_entry}
use Rattle.book_office_listings.proofs.effective_lists.push_own.Given as goal

-- the levels so far are told
abbrev pub invariant-loop-level : goal.invariant-loop-level
invariant-loop-level l = l.told.items ≡ l.initial.told.items ++ map (acl_entry l.path) (flat_map own_entries (take l.level-index l.levels))
