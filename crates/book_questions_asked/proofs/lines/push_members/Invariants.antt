use Rattle.book_questions_asked.proofs.Common.{◌≡◌, ◌++◌, flat_map, string_bytes, take}
use Rattle.book_questions_asked.specs.Lines.{member_line}
use Rattle.book_questions_asked.proofs.lines.push_members.Given as goal

-- the memberships so far
abbrev pub invariant-loop-membership : goal.invariant-loop-membership
invariant-loop-membership l = string_bytes l.text ≡ string_bytes l.fn.text ++ flat_map member_line (take l.membership-index l.memberships)
