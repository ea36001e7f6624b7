use Rattle.book_office_audit.proofs.Common.{◌≡◌, ◌++◌, take, string_bytes, flat_map}
use Rattle.book_office_audit.specs.EntryLines.{entry_line}
use Rattle.book_office_audit.proofs.entry_lines.push_entries.Given as goal

-- the entries so far
abbrev pub invariant-loop-entry : goal.invariant-loop-entry
invariant-loop-entry l = string_bytes l.text ≡ string_bytes l.fn.text ++ flat_map (entry_line l.protected) (take l.entry-index l.entries)
