-- A keeper in memory beside a disk: what it stands for, and what a stop leaves, which is what the disk has.
use Rattle.std.specs.Prelude.{◌≡◌, ℕ, Bool, false}
use Rattle.book_office.specs.Keeping.{Standing, no_fallback, whole}
use Rattle.book_office.specs.Sound.{IsSound}
use Rattle.book_office_values.specs.declared.offices.Office.{Office}

-- the Office that is kept is sound, and unless the disk is torn it has the same
pub record IsBeside (kept disk : Office) (torn : Bool) (o : Office) : Type 0 where
  pub held : o ≡ kept
  pub reached : torn ≡ false → o ≡ disk
  pub sound : IsSound o

abbrev pub leaving : Office → Office → Bool → ℕ → Standing
leaving kept disk torn n = record { honest = Unit {0}; stands = IsBeside kept disk torn; sound = λ o beside. beside.sound; left = λ x. x ≡ whole disk; failures = n; fallback = no_fallback }
