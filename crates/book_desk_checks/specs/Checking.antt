-- What the program does where it checks a policy's file (own profile).
use Rattle.std.specs.Prelude.{◌≡◌, ◌≢◌, ◌⊎◌, ℕ, Bool, ◌&&◌, cond, List, Option, Some, None, Ok, Err}
use Rattle.std.specs.Io.KnownBytes.{Keeps}
use Rattle.sqlite.specs.State.{State}
use Rattle.book_machine.specs.declared.adoptions.AdoptFault.TheVariants as adopting
use Rattle.book_office.specs.Keeping.{Reads, Standing}
use Rattle.book_office.specs.declared.keepers.StoreFault.{StoreFault}
use Rattle.book_office_adopting.specs.TakingOver.{bare}
use Rattle.book_office_values.specs.declared.offices.Office.{Office}
use Rattle.book_policy.specs.declared.faults.PolicyFault.TheVariants as fault
use Rattle.book_policy_checks.specs.Telling.{TellsChecked}
use Rattle.book_policy_checks.specs.declared.telling.Checked.{Checked}
use Rattle.book_policy_checks.specs.declared.telling.Checked.TheVariants as checked
use Rattle.book_policy_warnings.specs.Telling.{TellsPolicy, TellsPolicyOver}
use Rattle.book_policy_warnings.specs.declared.telling.Told.{Told}
use Rattle.book_policy_warnings.specs.declared.telling.Told.TheVariants as told
use Rattle.book_policy_warnings.specs.declared.telling.ToldOver.{ToldOver}
use Rattle.book_policy_warnings.specs.declared.telling.ToldOver.TheVariants as over
use Rattle.book_desk_app.specs.Failures.{store_failure}
use Rattle.book_desk_app.specs.Stores.{AreTablesOf, standing_in}
use Rattle.book_desk_app.specs.Telling.{TellsFailure}
use Rattle.book_desk_app.specs.declared.failures.Failure.TheVariants.{Adoption, Input, Output, Policy, Store}
use Rattle.book_desk_app.specs.declared.failures.StoreFailure.{StoreFailure}
use Rattle.book_desk_app.specs.declared.text_failures.InputFault.TheVariants as input

-- the status: 3 is memory, or a failed write
abbrev pub checked_status : Checked → ℕ
checked_status checked.Sound = 0
checked_status (checked.Faulty whole) = 1
checked_status checked.NotUtf8 = 1
checked_status checked.Memory = 3

abbrev pub told_status : Bool → Told → ℕ
told_status strict (told.Sound warned) = cond (strict && warned) 1 0
told_status strict told.Unwritten = 3
told_status strict (told.Unsound checked) = checked_status checked

module _ (is_whole : Bool) (held holds : Option (List ℕ)) where
  -- the line that is told at the end, if there is one
  abbrev pub EndsChecked : Checked → Type 0
  EndsChecked checked.Sound = Keeps held holds
  EndsChecked (checked.Faulty whole) = Keeps held holds
  EndsChecked checked.NotUtf8 = TellsFailure is_whole held holds (Input input.NotUtf8)
  EndsChecked checked.Memory = TellsFailure is_whole held holds (Policy fault.Memory)

  abbrev pub EndsTold : Told → Type 0
  EndsTold (told.Sound warned) = Keeps held holds
  EndsTold told.Unwritten = TellsFailure is_whole held holds Output
  EndsTold (told.Unsound checked) = EndsChecked checked

-- what was told of bytes that are no policy: each fault, or the line at the end; with the status
abbrev pub TellsNoPolicy : List ℕ → Bool → Option (List ℕ) → Option (List ℕ) → ℕ → Type 0
TellsNoPolicy bytes is_whole held holds status =
    (what : Checked) × (between : Option (List ℕ)) × (what ≢ checked.Sound) × TellsChecked bytes held between what
    × (status ≡ checked_status what) × EndsChecked is_whole between holds what

-- what was told of the bytes, with the status and the line at the end. With what the writers held and hold
abbrev pub Checks : List ℕ → Bool → Bool → Option (List ℕ) → Option (List ℕ) → Option (List ℕ) → Option (List ℕ) → ℕ → Type 0
Checks bytes strict is_whole held holds errors_held errors_hold status =
    (told : Told) × (between : Option (List ℕ)) × TellsPolicy bytes held holds errors_held between told
    × (status ≡ told_status strict told) × EndsTold is_whole between errors_hold told

-- ---- over a store
abbrev pub over_status : Bool → ToldOver → ℕ
over_status strict (over.Told told) = told_status strict told
over_status strict over.Full = 1

abbrev pub EndsOver : Bool → Option (List ℕ) → Option (List ℕ) → ToldOver → Type 0
EndsOver is_whole held holds (over.Told told) = EndsTold is_whole held holds told
EndsOver is_whole held holds over.Full = TellsFailure is_whole held holds (Adoption (record { fault = adopting.Full }))

-- the Office was copied without its cards, and what was told is of the bytes over the copy; or it was not. The Office stays
module _ (bytes : List ℕ) (strict is_whole : Bool) where
  abbrev pub ChecksCopy : Standing → Option (List ℕ) → Option (List ℕ) → Option (List ℕ) → Option (List ℕ) → ℕ → Standing → Type 0
  ChecksCopy old held holds errors_held errors_hold status new =
      ((fault : StoreFault) × Reads {A = Office} old new (Err fault) (λ o start. start ≡ bare o) × (status ≡ 3) × Keeps held holds
      × TellsFailure is_whole errors_held errors_hold (Store (store_failure fault)))
      ⊎ ((start : Office) × Reads old new (Ok start) (λ o copied. copied ≡ bare o)
      × ((told : ToldOver) × (between : Option (List ℕ)) × TellsPolicyOver start bytes held holds errors_held between told
      × (status ≡ over_status strict told) × EndsOver is_whole between errors_hold told))

  module _ {C K : Type 0} (state : C → State) (connection : K → C) (failures : K → ℕ) where
    abbrev pub ChecksTables : K → Option (List ℕ) → Option (List ℕ) → Option (List ℕ) → Option (List ℕ) → ℕ → K → Type 0
    ChecksTables old held holds errors_held errors_hold status new =
        ChecksCopy (standing_in state connection failures old) held holds errors_held errors_hold status (standing_in state connection failures new)

    -- the tables of the store were not had; or it was told over them
    abbrev pub ChecksOver : (C → StoreFailure → Type 0) → C → Option (List ℕ) → Option (List ℕ) → Option (List ℕ) → Option (List ℕ) → ℕ → Option C → Type 0
    ChecksOver is_not_had store held holds errors_held errors_hold status back =
        ((failure : StoreFailure) × is_not_had store failure × (status ≡ 3) × (back ≡ None) × Keeps held holds
        × TellsFailure is_whole errors_held errors_hold (Store failure))
        ⊎ ((old : K) × (new : K) × AreTablesOf state connection failures store old
        × ChecksTables old held holds errors_held errors_hold status new × (back ≡ Some (connection new)))
