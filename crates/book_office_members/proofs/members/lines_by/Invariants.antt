use Rattle.book_office_members.proofs.Common.{◌≡◌, map, take}
use Rattle.book_office_members.specs.Reaching.{line_by}
use Rattle.book_office_members.proofs.members.lines_by.Given as goal

-- the lines of the values so far
abbrev pub invariant-loop-value : goal.invariant-loop-value
invariant-loop-value l = l.lines.items ≡ map (line_by l.index) (take l.value-index l.values)
