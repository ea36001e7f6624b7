-- What is told of a policy's file.
use Rattle.std.specs.Prelude.{◌≡◌, ◌≢◌, ℕ, Bool, List, length, nat_lt, Option}
use Rattle.std.specs.Io.KnownBytes.{Appends, Keeps}
use Rattle.book_machine.specs.Adoptions.{HasRoomFor}
use Rattle.book_office.specs.Sound.{IsSound}
use Rattle.book_office_values.specs.declared.offices.Office.{Office}
use Rattle.book_policy.specs.Rules.{IsPolicyOf}
use Rattle.book_policy_values.specs.declared.parts.PolicyTables.{PolicyTables}
use Rattle.book_policy_checks.specs.Telling.{TellsChecked}
use Rattle.book_policy_checks.specs.declared.telling.Checked.TheVariants.{Sound, Memory}
use Rattle.book_policy_warnings.specs.Sentences.{warnings_text}
use Rattle.book_policy_warnings.specs.Warnings.{AreWarningsOf, AreWarningsOver}
use Rattle.book_policy_warnings.specs.declared.telling.Told.{Told}
use Rattle.book_policy_warnings.specs.declared.telling.Told.TheVariants as told
use Rattle.book_policy_warnings.specs.declared.telling.ToldOver.{ToldOver}
use Rattle.book_policy_warnings.specs.declared.telling.ToldOver.TheVariants as over
use Rattle.book_policy_warnings.specs.declared.warnings.Warning.{Warning}

-- whether there is a warning
abbrev pub is_warned : List Warning → Bool
is_warned warnings = nat_lt 0 (length warnings)

-- what is told of a policy by warnings of a kind, over a writer that held and holds these bytes, where they are known
abbrev pub TellsWarnings : (List Warning → Type 0) → Option (List ℕ) → Option (List ℕ) → Told → Type 0
TellsWarnings Are held holds (told.Sound warned) =
    (warnings : List Warning) × Are warnings × (warned ≡ is_warned warnings) × Appends held holds (warnings_text warnings)
TellsWarnings Are held holds told.Unwritten = Unit {0}
TellsWarnings Are held holds (told.Unsound checked) = (checked ≡ Memory) × Keeps held holds

-- what is told of bytes that are no policy, or where memory was refused
abbrev pub TellsUnsound : List ℕ → Option (List ℕ) → Option (List ℕ) → Told → Type 0
TellsUnsound bytes held holds (told.Sound warned) = ⊥
TellsUnsound bytes held holds told.Unwritten = ⊥
TellsUnsound bytes held holds (told.Unsound checked) = (checked ≢ Sound) × TellsChecked bytes held holds checked

-- what is told of a policy's bytes: its warnings, of a kind, on one writer, and nothing on the other; or else its faults on that
abbrev pub TellsBytes : (PolicyTables → List Warning → Type 0)
    → List ℕ → Option (List ℕ) → Option (List ℕ) → Option (List ℕ) → Option (List ℕ) → Told → Type 0
TellsBytes Are bytes held holds errors_held errors_hold (told.Sound warned) =
    ((t : PolicyTables) × IsPolicyOf bytes t × TellsWarnings (Are t) held holds (told.Sound warned)) × Keeps errors_held errors_hold
TellsBytes Are bytes held holds errors_held errors_hold told.Unwritten =
    ((t : PolicyTables) × IsPolicyOf bytes t) × Keeps errors_held errors_hold
TellsBytes Are bytes held holds errors_held errors_hold (told.Unsound checked) =
    Keeps held holds × TellsUnsound bytes errors_held errors_hold (told.Unsound checked)

-- of the policy alone
abbrev pub TellsPolicy : List ℕ → Option (List ℕ) → Option (List ℕ) → Option (List ℕ) → Option (List ℕ) → Told → Type 0
TellsPolicy = TellsBytes AreWarningsOf

-- the warnings over a sound Office
abbrev pub AreWarningsFrom : Office → PolicyTables → List Warning → Type 0
AreWarningsFrom start t warnings = IsSound start → AreWarningsOver t start warnings

-- where an Office has no room for what a policy makes of it, nothing is told
abbrev pub HasNoRoom : Office → PolicyTables → Type 0
HasNoRoom start t = IsSound start → HasRoomFor t start → ⊥

-- of the policy over an Office
abbrev pub TellsPolicyOver : Office → List ℕ → Option (List ℕ) → Option (List ℕ) → Option (List ℕ) → Option (List ℕ) → ToldOver → Type 0
TellsPolicyOver start bytes held holds errors_held errors_hold (over.Told told) =
    TellsBytes (AreWarningsFrom start) bytes held holds errors_held errors_hold told
TellsPolicyOver start bytes held holds errors_held errors_hold over.Full =
    ((t : PolicyTables) × IsPolicyOf bytes t × HasNoRoom start t) × Keeps held holds × Keeps errors_held errors_hold

-- the warnings of a policy over an Office
abbrev pub TellsOver : Office → PolicyTables → Option (List ℕ) → Option (List ℕ) → ToldOver → Type 0
TellsOver start t held holds (over.Told told) = TellsWarnings (AreWarningsFrom start t) held holds told
TellsOver start t held holds over.Full = HasNoRoom start t × Keeps held holds
