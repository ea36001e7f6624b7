-- An edit behind a fuse is the keeper's.
use Rattle.std.proofs.Common.{◌≡◌, ℕ, Result, Ok, Err, arith}
use Rattle.book_office.specs.Keeping.{Edits, Standing, failures_after, failures_after_fault}
use Rattle.book_office.specs.declared.edits.Edit.{Edit}
use Rattle.book_office.specs.declared.keepers.StoreFault.{StoreFault}
use Rattle.book_office.specs.declared.keepers.StoreFault.TheVariants.{Memory, Store}
use Rattle.book_office_faults.specs.Fuses.{behind, together}

fault_together : (fault : StoreFault) (kept after failures : ℕ) → after ≡ failures_after_fault fault kept → together after failures ≡ failures_after_fault fault (together kept failures)
fault_together Memory kept after failures is = grind arith
fault_together Store kept after failures is = grind arith

pub counted_together : {A : Type 0} (r : Result A StoreFault) (kept after failures : ℕ) → after ≡ failures_after r kept → together after failures ≡ failures_after r (together kept failures)
counted_together (Ok x) kept after failures is = grind arith
counted_together (Err fault) kept after failures is = fault_together fault kept after failures is

pub edits_behind : (old new : Standing) (failures : ℕ) (r : Result (Unit {0}) StoreFault) (edit : Edit) → Edits old new r edit → Edits (behind old failures) (behind new failures) r edit
edits_behind old new failures r edit made = record {
  was_honest = made.was_honest;
  falls = made.falls;
  made = made.made;
  kept = made.kept;
  left_made = made.left_made;
  left_kept = made.left_kept;
  counted = counted_together r old.failures new.failures failures made.counted;
}
