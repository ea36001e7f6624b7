use Rattle.book_questions_changes.proofs.Common.{◌≡◌, ◌++◌, map, string_bytes, take}
use Rattle.book_lists.specs.declared.entries.Entry.{Entry}
use Rattle.book_office_audit.specs.EntryLines.{entry_line}
use Rattle.book_questions_changes.specs.Facts.{signed}
use Rattle.book_questions_changes.proofs.facts.push_entries.Given as goal

-- the entries so far
abbrev pub invariant-loop-entry : goal.invariant-loop-entry
invariant-loop-entry l = string_bytes l.text ≡ string_bytes l.fn.text ++ signed l.sign (map (λ (entry : Entry). l.at ++ entry_line l.protected entry) (take l.entry-index l.entries))
