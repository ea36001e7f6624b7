use Rattle.book_tables.proofs.Common.{◌≡◌, ℕ, ◌<◌, get_or, string_bytes}
use Rattle.std.proofs.Common.{String}
use Rattle.std.specs.declared.alloc.Global.{Global}
use Rattle.book_tables.proofs.differences.same_texts.Given as goal

-- the texts so far are equal
abbrev pub invariant-loop-i : goal.invariant-loop-i
invariant-loop-i l = (k : ℕ) (d : String Global) → k < l.i → string_bytes (get_or l.texts k d) ≡ string_bytes (get_or l.others k d)
