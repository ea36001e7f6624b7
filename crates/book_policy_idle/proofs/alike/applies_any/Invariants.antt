use Rattle.std.proofs.Common.{◌≡◌, false, take}
use Rattle.std.specs.Prelude.{All}
use Rattle.book_lists.specs.Entries.{applies}
use Rattle.book_lists.specs.declared.entries.Entry.{Entry}
use Rattle.book_policy_idle.proofs.alike.applies_any.Given as goal

abbrev pub invariant-loop-entry : goal.invariant-loop-entry
invariant-loop-entry l = All (λ (e : Entry). applies e l.circle l.here ≡ false) (take l.entry-index l.entries)
