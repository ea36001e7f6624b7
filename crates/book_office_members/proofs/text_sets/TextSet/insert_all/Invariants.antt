use Rattle.book_office_members.proofs.Common.{◌≡◌, ◌||◌, ℕ, List, take, has_path}
use Rattle.std.specs.FinSet as set
use Rattle.book_office_members.proofs.text_sets.TextSet.insert_all.Given as goal

-- the texts so far, and those before
abbrev pub invariant-loop-text : goal.invariant-loop-text
invariant-loop-text l = (q : List ℕ) → set.contains l.self q ≡ (has_path (take l.text-index l.texts) q || set.contains l.fn.self q)
