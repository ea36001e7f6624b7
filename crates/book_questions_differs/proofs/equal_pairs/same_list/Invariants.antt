use Rattle.book_questions_differs.proofs.Common.{◌≡◌, ℕ}
use Rattle.book_lists.specs.declared.entries.Entry.{Entry}
use Rattle.std.proofs.Common.{◌<◌, get_or}
use Rattle.book_questions_differs.proofs.equal_pairs.same_list.Given as goal

-- the entries so far are equal
abbrev pub invariant-loop-i : goal.invariant-loop-i
invariant-loop-i l = (k : ℕ) (d : Entry) → k < l.i → get_or l.list k d ≡ get_or l.other k d
