-- What a keeper over tables stands for.
use Rattle.std.specs.Prelude.{◌≡◌, ℕ, Bool, true, false, List, IsTrue}
use Rattle.std.specs.Borrow.{GName}
use Rattle.sqlite.specs.State.{State, HasCleanDisk}
use Rattle.book_office.specs.Keeping.{Fallback, Leftover, Standing, no_fallback, whole}
use Rattle.book_office.specs.Sound.{IsSound}
use Rattle.book_office_values.specs.declared.offices.Office.{Office}
use Rattle.book_tables.specs.Stands.{IsKept, StandsFor, LeftOf}

-- a connection stands for the Office of its rows, and a stop may leave what the store may then have
abbrev pub standing_of : State → ℕ → Standing
standing_of s failures = record {
  honest = HasCleanDisk s;
  stands = StandsFor s;
  sound = λ o stands. stands.1;
  left = LeftOf s;
  failures = failures;
  fallback = no_fallback;
}

-- ---- an open transaction

-- it stands for the Office of the rows as it sees them; while nothing was written, that is the Office of what was committed
pub record StandsWithin (s : State) (written : Bool) (o : Office) : Type 0 where
  pub inside : IsTrue s.in_transaction
  pub shown : StandsFor s o
  pub unwritten : written ≡ false → IsTrue s.is_open → IsKept s.committed o

-- as if it were kept at this moment: once something was written, a stop leaves the Office of the rows alone
pub record LeftWithin (s : State) (written : Bool) (x : Leftover) : Type 0 where
  pub kept : written ≡ true → (o : Office) → IsKept s.now o → x ≡ whole o
  pub untouched : written ≡ false → LeftOf s x

-- where it is not kept, what was committed stands for the Office; and it is open while no call has failed
pub record StandsWithout (s : State) (spoiled : Bool) (o : Office) : Type 0 where
  pub inside : spoiled ≡ false → IsTrue s.in_transaction
  pub committed : IsTrue s.is_open → IsKept s.committed o
  pub sound : IsSound o

-- that is said where the disk has returned what was written; and then it had done so before
abbrev pub fallback_within : List GName → State → Bool → Fallback
fallback_within names s spoiled = record {
  names = names;
  stands = λ o. HasCleanDisk s → StandsWithout s spoiled o;
  left = λ x. HasCleanDisk s × LeftOf s x;
}

-- It stands so while no call has failed, and has the connection by these references.
abbrev pub standing_within : List GName → State → ℕ → Bool → Bool → Standing
standing_within names s failures spoiled written = record {
  honest = HasCleanDisk s × (spoiled ≡ false);
  stands = StandsWithin s written;
  sound = λ o stands. stands.shown.1;
  left = LeftWithin s written;
  failures = failures;
  fallback = fallback_within names s spoiled;
}
