use Rattle.book_office_listings.proofs.Common.{◌++◌, take, List, Entry, AppliesAs}
use Rattle.book_office_listings.proofs.sifting.keep.Given as goal

-- the entries so far that may apply are kept
abbrev pub invariant-loop-entry : goal.invariant-loop-entry
invariant-loop-entry l = (before : List Entry) → AppliesAs l.circle before l.initial.kept.items → AppliesAs l.circle (before ++ take l.entry-index l.list) l.kept.items
