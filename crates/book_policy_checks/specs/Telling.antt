-- What is told of a policy's file.
use Rattle.std.specs.Prelude.{◌≡◌, ℕ, true, false, List, Option}
use Rattle.std.specs.Io.KnownBytes.{Appends, Keeps}
use Rattle.std.specs.Str.{IsUtf8}
use Rattle.book_policy_checks.specs.Reports.{IsReportOf, IsTextOf, IsUnsound, is_sound}
use Rattle.book_policy_checks.specs.declared.reports.Report.{Report}
use Rattle.book_policy_checks.specs.declared.telling.Checked.{Checked}
use Rattle.book_policy_checks.specs.declared.telling.Checked.TheVariants.{Sound, Faulty, NotUtf8, Memory}

-- what is told of a report, over a writer that held and holds these bytes, where they are known
abbrev pub TellsReport : Option (List ℕ) → Option (List ℕ) → Report → Checked → Type 0
TellsReport held holds report Sound = (is_sound report ≡ true) × Keeps held holds
TellsReport held holds report (Faulty true) = IsUnsound report × ((text : List ℕ) × IsTextOf report text × Appends held holds text)
TellsReport held holds report (Faulty false) = IsUnsound report
TellsReport held holds report NotUtf8 = ⊥
TellsReport held holds report Memory = Keeps held holds

abbrev pub TellsOf : List ℕ → Option (List ℕ) → Option (List ℕ) → Checked → Type 0
TellsOf bytes held holds checked = (report : Report) × IsReportOf bytes report × TellsReport held holds report checked

-- what is told of bytes: that they are no text, or what is told of their report, but for want of memory
abbrev pub TellsChecked : List ℕ → Option (List ℕ) → Option (List ℕ) → Checked → Type 0
TellsChecked bytes held holds NotUtf8 = (IsUtf8 bytes → ⊥) × Keeps held holds
TellsChecked bytes held holds Memory = Keeps held holds
TellsChecked bytes held holds Sound = IsUtf8 bytes × TellsOf bytes held holds Sound
TellsChecked bytes held holds (Faulty whole) = IsUtf8 bytes × TellsOf bytes held holds (Faulty whole)
