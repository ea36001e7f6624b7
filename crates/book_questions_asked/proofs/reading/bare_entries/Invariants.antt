use Rattle.book_questions_asked.proofs.Common.{◌≡◌, take}
use Rattle.book_office_listings.specs.Verdicts.{bare_entries}
use Rattle.book_questions_asked.proofs.reading.bare_entries.Given as goal

-- the entries so far
abbrev pub invariant-loop-entry : goal.invariant-loop-entry
invariant-loop-entry l = l.entries.items ≡ bare_entries (take l.entry-index l.list)
