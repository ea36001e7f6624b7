-- What the machine does to adopt a policy.
use Rattle.std.specs.Prelude.{◌≡◌, ◌≢◌, ◌↔◌, ℕ, ◌+◌, ◌<◌, Bool, ◌&&◌, nat_lt, nat_le, if◌then◌else◌, cond, IsTrue, Option, Some, None, Result, Ok, Err}
use Rattle.book_policy_values.specs.declared.parts.PolicyTables.{PolicyTables}
use Rattle.book_office_adopting.specs.Adopting.{adopt}
use Rattle.book_office.specs.Sound.{IsSound}
use Rattle.book_office_adopting.specs.declared.adopting.Adoption.{Adoption}
use Rattle.book_office_values.specs.declared.offices.Office.{Office}
use Rattle.book_limits.specs.declared.TheConstants.{MAX_BOOKS, LAST_NUMBER}
use Rattle.book_machine.specs.declared.adoptions.AdoptFault.{AdoptFault}
use Rattle.book_machine.specs.declared.adoptions.AdoptFault.TheVariants.{Full, Unavailable}
use Rattle.book_machine.specs.declared.adoptions.Adopted.{Adopted}

-- the Office that adopts the policy keeps every limit, and the epoch is not at its last value
abbrev pub HasRoomFor : PolicyTables → Office → Type 0
HasRoomFor t o = IsSound (adopt t o) × (o.epoch < LAST_NUMBER)

-- the answer, and the Office after it
abbrev pub Adopts : Office → PolicyTables → Result Adopted AdoptFault → Office → Type 0
Adopts o t (Ok adopted) after = HasRoomFor t o × (after ≡ adopt t o) × (adopted.epoch ≡ after.epoch) × (IsTrue adopted.changed ↔ (after ≢ o))
Adopts o t (Err Full) after = (HasRoomFor t o → ⊥) × (after ≡ o)
Adopts o t (Err Unavailable) after = after ≡ o

-- the answer where there is room, by the epoch before and what adopting would do
abbrev pub epoch_after : Bool → ℕ → ℕ
epoch_after changed epoch = cond changed (epoch + 1) epoch

abbrev pub adopted_by : ℕ → Adoption → Option Adopted
adopted_by epoch adoption =
    if nat_lt epoch LAST_NUMBER && nat_le adoption.books MAX_BOOKS
    then Some (record { changed = adoption.changed; epoch = epoch_after adoption.changed epoch })
    else None
