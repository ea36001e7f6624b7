-- The text of a log, and what is told of a text that is none (own profile).
use Rattle.std.specs.Prelude.{ℕ, List, ◌++◌, codes, decimal, map}
use Rattle.std.specs.List.{concat}
use Rattle.book_log_lines.specs.Lines.{line_text}
use Rattle.book_log_lines.specs.declared.lines.Line.{Line}
use Rattle.book_log_denials.specs.declared.faults.LogFault.{LogFault}
use Rattle.book_log_denials.specs.declared.faults.LogFault.TheVariants.{Memory, BadLine}
use Rattle.book_log_denials.specs.declared.faults.Unread.{Unread}
use Rattle.book_log_denials.specs.declared.faults.Unread.TheVariants as unread

-- the lines, one after the other
abbrev pub log_text : List Line → List ℕ
log_text lines = concat (map line_text lines)

-- line N: bad-line
abbrev pub fault_text : LogFault → List ℕ
fault_text Memory = codes "memory"
fault_text (BadLine line) = codes "line " ++ (decimal line ++ codes ": bad-line")

-- why a line with this number was not read
abbrev pub fault_at : Unread → ℕ → LogFault
fault_at unread.Memory n = Memory
fault_at unread.Bad n = BadLine n
