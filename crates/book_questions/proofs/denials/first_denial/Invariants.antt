use Rattle.book_questions.proofs.Common.{◌≡◌, length}
use Rattle.book_questions.specs.Whys.{first_denial}
use Rattle.book_questions.proofs.denials.first_denial.Given as goal

-- none of the earlier needs is denied
abbrev pub invariant-loop-why : goal.invariant-loop-why
invariant-loop-why l = first_denial l.rest ≡ first_denial l.whys

abbrev pub decreases-loop-why : goal.decreases-loop-why
decreases-loop-why l = length l.rest
