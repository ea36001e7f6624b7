-- What the definitions imply.
use Rattle.std.specs.Prelude.{ℕ, ◌<◌, ◌^◌, Option, Some, None}
use Rattle.std.specs.List.{All}
use Rattle.book_json_lines.specs.Lines.{IsLine}
use Rattle.book_log_lines.specs.Lines.{line_text}
use Rattle.book_log_lines.specs.declared.lines.AdoptionLine.{AdoptionLine}
use Rattle.book_log_lines.specs.declared.lines.Decided.{Decided}
use Rattle.book_log_lines.specs.declared.lines.Denied.{Denied}
use Rattle.book_log_lines.specs.declared.lines.Line.{Line}
use Rattle.book_log_lines.specs.declared.lines.Line.TheVariants as line
use Rattle.book_log_lines.specs.declared.lines.ReplyLine.{ReplyLine}
use Rattle.book_log_lines.specs.declared.lines.Touched.{Touched}

-- a number of 64 bits
abbrev pub IsShort : ℕ → Type 0
IsShort n = n < 2 ^ 64

abbrev pub IsShortIf : Option ℕ → Type 0
IsShortIf None = Unit {0}
IsShortIf (Some n) = IsShort n

abbrev pub AreShortBy : Option Decided → Type 0
AreShortBy None = Unit {0}
AreShortBy (Some d) = IsShort d.place × IsShort d.number

abbrev pub AreShortIn : Option Denied → Type 0
AreShortIn None = Unit {0}
AreShortIn (Some d) = AreShortBy d.by

-- the numbers of a reply have 64 bits
pub record IsShortReply (l : ReplyLine) : Type 0 where
  pub connection : IsShort l.connection
  pub status : IsShort l.status
  pub denied : AreShortIn l.denied
  pub touched : All (λ (t : Touched). IsShort t.number) l.touched
  pub epoch : IsShortIf l.epoch

-- the numbers of a line have 64 bits
abbrev pub IsShortLine : Line → Type 0
IsShortLine (line.Reply l) = IsShortReply l
IsShortLine (line.Adoption l) = IsShort l.epoch

-- a line has one line feed, and that is its last byte
abbrev pub LinesEndOnce : Type 0
LinesEndOnce = (l : Line) → IsShortLine l → IsLine (line_text l)
