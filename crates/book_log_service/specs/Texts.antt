-- Texts of lines of a log.
use Rattle.std.specs.Prelude.{◌≡◌, ℕ, List, Option, codes}
use Rattle.book_log_lines.specs.Lines.{line_text}
use Rattle.book_log_lines.specs.declared.lines.Adoption.{Adoption}
use Rattle.book_log_lines.specs.declared.lines.Line.{Line}
use Rattle.book_log_lines.specs.declared.lines.Line.TheVariants as line
use Rattle.book_log_replies.specs.declared.replies.Effect.{Effect}
use Rattle.book_machine.specs.declared.messages.Reply.{Reply}
use Rattle.book_machine.specs.declared.messages.Request.{Request}
use Rattle.book_office.specs.declared.nodes.Level.{Level}
use Rattle.book_wire_serving.specs.Logs.{IsBare, IsLineBy}

-- the text of a line that is so
abbrev pub IsTextWith : (Line → Type 0) → List ℕ → Type 0
IsTextWith IsSo text = (l : Line) × (text ≡ line_text l) × IsSo l

-- the text of the line of a request of that caller and its reply, with that effect, by the lists in force at the resource of a denial
abbrev pub IsTextBy : Option (List ℕ) → Request → Reply → Effect → List Level → List ℕ → Type 0
IsTextBy name request reply effect levels text = IsTextWith (IsLineBy name request reply effect levels) text

-- the line with another status
abbrev pub with_status : Line → ℕ → Line
with_status (line.Reply l) status = line.Reply (record l { status = status })
with_status (line.Adoption l) status = line.Adoption l

-- the text of a line that tells a refusal, and nothing of a request
abbrev pub IsBareText : ℕ → List ℕ → List ℕ → Type 0
IsBareText status error text = IsTextWith (IsBare status error) text

-- the text that tells that a request is unavailable
abbrev pub IsUnavailableText : List ℕ → Type 0
IsUnavailableText text = IsBareText 503 (codes "unavailable") text

-- a line that tells what came of adopting a policy, and the epoch after it
abbrev pub IsAdoption : Adoption → ℕ → Line → Type 0
IsAdoption adopted epoch l = (time : List ℕ) × (l ≡ line.Adoption (record { time = time; epoch = epoch; adopted = adopted }))

abbrev pub IsAdoptionText : Adoption → ℕ → List ℕ → Type 0
IsAdoptionText adopted epoch text = IsTextWith (IsAdoption adopted epoch) text
