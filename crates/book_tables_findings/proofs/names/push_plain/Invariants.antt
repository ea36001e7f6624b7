use Rattle.book_tables_findings.proofs.Common.{◌≡◌, ◌++◌, map, take}
use Rattle.book_tables_findings.specs.Names.{plain}
use Rattle.book_tables_findings.proofs.names.push_plain.Given as goal

-- the bytes so far were added
abbrev pub invariant-loop-byte : goal.invariant-loop-byte
invariant-loop-byte l = l.name.items ≡ l.fn.name.items ++ map plain (take l.byte-index l.bytes)
