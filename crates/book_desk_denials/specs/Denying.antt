-- What the program does where it tells the denials of a log (own profile).
use Rattle.std.specs.Prelude.{◌≡◌, ◌⊎◌, ℕ, ◌+◌, List, ◌++◌, length, Option, IfSome, ⊤}
use Rattle.std.specs.FinMap as map
use Rattle.std.specs.Io.KnownBytes.{Appends, Keeps}
use Rattle.book_office_values.specs.Names.{NamesTo}
use Rattle.book_log_lines.specs.declared.lines.Line.{Line}
use Rattle.book_log_denials.specs.Denials.{groups_text, times_of}
use Rattle.book_log_denials.specs.Reading.{fault_text, log_text}
use Rattle.book_log_denials.specs.Tallies.{tally_of}
use Rattle.book_log_denials.specs.declared.faults.LogFault.TheVariants as faults
use Rattle.book_log_denials.specs.declared.faults.Unread.{Unread}
use Rattle.book_log_denials.specs.declared.faults.Unread.TheVariants as unread
use Rattle.book_log_denials.specs.declared.forms.Form.{Form}
use Rattle.book_log_denials.specs.declared.tallies.Tally.{Tally}
use Rattle.book_desk_app.specs.Failures.{failure_text}
use Rattle.book_desk_app.specs.declared.failures.Failure.TheVariants as failures
use Rattle.book_desk_app.specs.declared.text_failures.InputFault.TheVariants as inputs
use Rattle.book_desk_denials.specs.declared.counting.Uncounted.{Uncounted}
use Rattle.book_desk_denials.specs.declared.counting.Uncounted.TheVariants.{Read, BadLine}

-- why a line with this number was not counted
abbrev pub fault_of : Unread → ℕ → Uncounted
fault_of unread.Memory number = Read
fault_of unread.Bad number = BadLine number

-- the input is a log, and each group has the count and the times of its denials, those before the time left out
pub record Counts (form : Form) (since : Option (List ℕ)) (input : Option (List ℕ)) (groups : NamesTo Tally) : Type 0 where
  pub lines : List Line
  pub read : IfSome input (λ text. text ≡ log_text lines)
  pub counted : (group : List ℕ) → map.get groups group ≡ tally_of (times_of form since group lines)

-- the input begins with lines of a log, behind which the line with this number comes
pub record IsAfterLines (input : Option (List ℕ)) (number : ℕ) : Type 0 where
  pub lines : List Line
  pub numbered : number ≡ length lines + 1
  pub front : IfSome input (λ text. (rest : List ℕ) × (text ≡ log_text lines ++ rest))

-- why the input was not counted
abbrev pub Stops : Option (List ℕ) → Uncounted → Type 0
Stops input Read = ⊤
Stops input (BadLine number) = IsAfterLines input number

-- the groups of the log's denials were written
abbrev pub TellsDenials : Form → Option (List ℕ) → Option (List ℕ) → Option (List ℕ) → Option (List ℕ) → Type 0
TellsDenials form since input held holds = (groups : NamesTo Tally) × Counts form since input groups × Appends held holds (groups_text form groups)

-- the number of a line that is none was told, or want of memory
abbrev pub TellsBadLine : (List ℕ → Type 0) → ℕ → ℕ → Type 0
TellsBadLine Told number status =
    ((status ≡ 1) × Told (fault_text (faults.BadLine number))) ⊎ ((status ≡ 3) × Told (failure_text (failures.Input inputs.Read)))

-- they were; or the number of a line that is none was told; or that the log could not be read; or that a write failed
abbrev pub EndsDenials : (List ℕ → Type 0) → Form → Option (List ℕ) → Option (List ℕ) → Option (List ℕ) → Option (List ℕ) → ℕ → Type 0
EndsDenials Told form since input held holds status =
    ((status ≡ 0) × TellsDenials form since input held holds)
    ⊎ ((number : ℕ) × (status ≡ 1) × Keeps held holds × IsAfterLines input number × Told (fault_text (faults.BadLine number)))
    ⊎ ((status ≡ 3) × Keeps held holds × Told (failure_text (failures.Input inputs.Read)))
    ⊎ ((status ≡ 3) × Told (failure_text failures.Output))
