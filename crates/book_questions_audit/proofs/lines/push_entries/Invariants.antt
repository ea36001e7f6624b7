use Rattle.book_questions_audit.proofs.Common.{◌≡◌, ◌++◌, flat_map, string_bytes, take}
use Rattle.book_office_audit.specs.EntryLines.{entry_line}
use Rattle.book_questions_audit.proofs.lines.push_entries.Given as goal

-- the entries so far
abbrev pub invariant-loop-entry : goal.invariant-loop-entry
invariant-loop-entry l = string_bytes l.text ≡ string_bytes l.fn.text ++ flat_map (entry_line l.protected) (take l.entry-index l.entries)
