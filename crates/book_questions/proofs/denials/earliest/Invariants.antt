use Rattle.book_questions.proofs.Common.{◌≡◌, take, None}
use Rattle.std.specs.Option.{option_copied}
use Rattle.book_questions.specs.RulingVerdicts.{earliest, ungranted}
use Rattle.book_questions.proofs.denials.earliest.Given as goal

-- of the rulings so far it is the one
abbrev pub invariant-loop-ruling : goal.invariant-loop-ruling
invariant-loop-ruling l = option_copied l.best ≡ earliest None (ungranted l.set (take l.ruling-index l.rulings))
