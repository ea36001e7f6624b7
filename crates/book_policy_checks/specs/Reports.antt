-- What is told of a policy's text.
use Rattle.std.specs.Prelude.{◌≡◌, ◌≢◌, ◌<◌, ◌≤◌, ℕ, List, [], ◌∷◌, ◌++◌, length, codes, Bool, true, false, ◌==◌, ◌||◌, not, nat_le, nat_lt, if◌then◌else◌, decimal, Some}
use Rattle.std.specs.List.{list_any}
use Rattle.toml.specs.Data.{Members}
use Rattle.toml.specs.Parse.{parse_document}
use Rattle.toml.specs.View.{table_view}
use Rattle.book_limits.specs.declared.TheConstants.{MAX_POLICY_BYTES}
use Rattle.book_policy.specs.Rules.{IsFaultOf, IsPolicyOf, number}
use Rattle.book_policy.specs.declared.faults.PolicyFault.{PolicyFault}
use Rattle.book_policy.specs.declared.faults.PolicyFault.TheVariants as names
use Rattle.book_policy_values.specs.declared.parts.PolicyTables.{PolicyTables}
use Rattle.book_policy_faults.specs.Placing.{next, no_faults, noted}
use Rattle.book_policy_faults.specs.Tables.{faults_in}
use Rattle.book_policy_faults.specs.declared.places.PlacedFault.{PlacedFault}
use Rattle.book_policy_faults.specs.declared.places.TableKind.{TableKind}
use Rattle.book_policy_faults.specs.declared.places.TableKind.TheVariants.{Top, Person, Group, Book, Entry}
use Rattle.book_policy_checks.specs.declared.reports.NotToml.{NotToml as NotTomlPlace}
use Rattle.book_policy_checks.specs.declared.reports.Report.{Report}
use Rattle.book_policy_checks.specs.declared.reports.Report.TheVariants.{Sound, TooLong, NotToml, Faults}

-- the line and the column behind these bytes, from there on; a column counts the bytes that begin characters
abbrev pub place_in : ℕ → ℕ → List ℕ → ℕ × ℕ
place_in line column [] = (line, column)
place_in line column (b ∷ bs) =
    if b == 10 then place_in (next line) 1 bs
    else if nat_lt b 128 || nat_le 192 b then place_in line (next column) bs
    else place_in line column bs

-- what is told of a table: that it has no fault, or its faults
abbrev pub IsTold : Members → Report → Type 0
IsTold ms Sound = faults_in ms ≡ []
IsTold ms TooLong = ⊥
IsTold ms (NotToml place) = ⊥
IsTold ms (Faults table told) = (table_view table ≡ ms) × (told ≡ noted no_faults (faults_in ms)) × (faults_in ms ≢ [])

-- a policy is sound; too long a text is that alone, and one that is not TOML too; of any other text all faults of its table are told, of
-- which the least is the one that the text has
abbrev pub IsReportOf : List ℕ → Report → Type 0
IsReportOf text Sound = (policy : PolicyTables) × IsPolicyOf text policy
IsReportOf text TooLong = MAX_POLICY_BYTES < length text
IsReportOf text (NotToml place) = IsFaultOf text names.NotToml
IsReportOf text (Faults table told) =
    (length text ≤ MAX_POLICY_BYTES) × (parse_document text ≡ Some (table_view table)) × (told ≡ noted no_faults (faults_in (table_view table)))
    × ((f : PolicyFault) × IsFaultOf text f × (number f ≡ told.least))

-- the fault that a text has, where a report of it tells one
abbrev pub AgreesOn : Report → PolicyFault → Type 0
AgreesOn Sound fault = ⊥
AgreesOn TooLong fault = fault ≡ names.TooMany
AgreesOn (NotToml place) fault = fault ≡ names.NotToml
AgreesOn (Faults table told) fault = number fault ≡ told.least

-- ---- its text
abbrev pub is_sound : Report → Bool
is_sound Sound = true
is_sound TooLong = false
is_sound (NotToml place) = false
is_sound (Faults table told) = false

abbrev pub IsUnsound : Report → Type 0
IsUnsound report = is_sound report ≡ false

-- lines, each with its end
abbrev pub joined : List (List ℕ) → List ℕ
joined [] = []
joined (line ∷ lines) = (line ++ codes "\n") ++ joined lines

-- a text with no end of a line in it
abbrev pub is_one_line : List ℕ → Bool
is_one_line text = not (list_any (λ b. b == 10) text)

abbrev pub kind_word : TableKind → List ℕ
kind_word Top = codes "top"
kind_word Person = codes "person"
kind_word Group = codes "group"
kind_word Book = codes "book"
kind_word Entry = codes "entry"

-- the kind of the table, and its number
abbrev pub head_text : PlacedFault → List ℕ
head_text f = if f.number == 0 then kind_word f.kind else kind_word f.kind ++ (codes " " ++ decimal f.number)

-- a line about the fault: it begins with its place, and is one line
abbrev pub IsLineOf : PlacedFault → List ℕ → Type 0
IsLineOf f line = (rest : List ℕ) × (is_one_line rest ≡ true) × (line ≡ head_text f ++ rest)

-- a line for each fault, in order
abbrev pub AreLinesOf : List PlacedFault → List (List ℕ) → Type 0
AreLinesOf [] [] = Unit {0}
AreLinesOf [] (line ∷ lines) = ⊥
AreLinesOf (f ∷ fs) [] = ⊥
AreLinesOf (f ∷ fs) (line ∷ lines) = IsLineOf f line × AreLinesOf fs lines

-- a line about the fault was added, and lines about faults
abbrev pub AddsFault : List ℕ → List ℕ → PlacedFault → Type 0
AddsFault old new f = (line : List ℕ) × IsLineOf f line × (new ≡ old ++ (line ++ codes "\n"))

abbrev pub AddsFaults : List ℕ → List ℕ → List PlacedFault → Type 0
AddsFaults old new fs = (lines : List (List ℕ)) × AreLinesOf fs lines × (new ≡ old ++ joined lines)

-- how many more there are, if there are any
abbrev pub more_text : ℕ → List ℕ
more_text more = if more == 0 then [] else (decimal more ++ codes " more") ++ codes "\n"

-- what stands before the words of the crate toml
abbrev pub place_text : NotTomlPlace → List ℕ
place_text p = codes "line " ++ (decimal p.line ++ (codes ", column " ++ (decimal p.column ++ codes ": not-toml: ")))

-- nothing where it is sound; one line where the text is too long, or not TOML; else a line for each fault that is told, and then how
-- many more there are
abbrev pub IsTextOf : Report → List ℕ → Type 0
IsTextOf Sound text = text ≡ []
IsTextOf TooLong text = text ≡ codes "too-many\n"
IsTextOf (NotToml p) text = (rest : List ℕ) × (is_one_line rest ≡ true) × (text ≡ (place_text p ++ rest) ++ codes "\n")
IsTextOf (Faults table told) text =
    (lines : List (List ℕ)) × AreLinesOf told.told lines × (text ≡ joined lines ++ more_text told.more)
