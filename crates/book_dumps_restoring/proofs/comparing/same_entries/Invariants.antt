use Rattle.std.proofs.Common.{◌≡◌, drop}
use Rattle.book_dumps_restoring.specs.Comparing.{same_entries}
use Rattle.book_dumps_restoring.proofs.comparing.same_entries.Given as goal

-- the lists are the same where the entries to come and the rest are
abbrev pub invariant-loop-entry : goal.invariant-loop-entry
invariant-loop-entry l = same_entries (drop l.entry-index l.entries) l.rest ≡ same_entries l.entries l.others
