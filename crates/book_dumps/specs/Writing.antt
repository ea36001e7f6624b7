-- What is written while a keeper is read.
use Rattle.std.specs.Prelude.{◌≡◌, ◌≢◌, ◌+◌, ℕ, List, [], ◌++◌, length, Option, Result, Ok, Err, IfErr, OnOk, OnErr}
use Rattle.std.specs.Io.KnownBytes.{Appends}
use Rattle.std.specs.List.{concat}
use Rattle.book_office.specs.Keeping.{FallsBack, Standing, Leftover, failures_after_fault}
use Rattle.book_office.specs.declared.keepers.StoreFault.TheVariants as store
use Rattle.book_office_values.specs.declared.offices.Office.{Office}
use Rattle.book_dumps.specs.Dumps.{counted, dump_text}
use Rattle.book_dumps.specs.declared.faults.DumpFault.{DumpFault}
use Rattle.book_dumps.specs.declared.faults.DumpFault.TheVariants.{Store, Write}

-- a beginning of the text was appended
abbrev pub IsFront : Option (List ℕ) → Option (List ℕ) → List ℕ → Type 0
IsFront held holds text = (front left : List ℕ) × (text ≡ front ++ left) × Appends held holds front

-- a beginning of the text was appended, and not all of it
abbrev pub IsCut : Option (List ℕ) → Option (List ℕ) → List ℕ → Type 0
IsCut held holds text = (front left : List ℕ) × (text ≡ front ++ left) × (left ≢ []) × Appends held holds front

-- lines were appended; and they are counted, where what was before was a count
pub record IsTold (held holds : Option (List ℕ)) (before after : ℕ) (lines : List (List ℕ)) : Type 0 where
  pub text : Appends held holds (concat lines)
  pub count : before ≡ counted before → after ≡ counted (before + length lines)

-- lines are written, or a beginning of them: no store is read
pub record Puts (held holds : Option (List ℕ)) (before after : ℕ) (result : Result (Unit {0}) DumpFault) (lines : List (List ℕ)) : Type 0 where
  pub told : OnOk result (IsTold held holds before after lines)
  pub front : OnErr result (IsFront held holds (concat lines))
  pub cause : IfErr result (λ fault. fault ≢ Store store.Store)

abbrev pub failures_after_write : Result (Unit {0}) DumpFault → ℕ → ℕ
failures_after_write (Ok x) n = n
failures_after_write (Err (Store fault)) n = failures_after_fault fault n
failures_after_write (Err Write) n = n

-- a keeper is read, and the lines of its Office are written, or a beginning of them; the Office stays
pub record Writes (old new : Standing) (held holds : Option (List ℕ)) (before after : ℕ) (result : Result (Unit {0}) DumpFault) (lines : Office → List (List ℕ)) : Type 0 where
  pub was_honest : new.honest → old.honest
  pub falls : FallsBack old.fallback new.fallback
  pub told : new.honest → OnOk result ((o : Office) → old.stands o → IsTold held holds before after (lines o))
  pub front : new.honest → OnErr result ((o : Office) → old.stands o → IsFront held holds (concat (lines o)))
  pub kept : new.honest → (o : Office) → old.stands o → new.stands o
  pub left : new.honest → (x : Leftover) → new.left x → old.left x
  pub counted : new.failures ≡ failures_after_write result old.failures

-- The Office is written as text, and stays. On an error a beginning of its text was written, without the end of its last
-- line.
pub record Dumps (old new : Standing) (held holds : Option (List ℕ)) (result : Result (Unit {0}) DumpFault) : Type 0 where
  pub was_honest : new.honest → old.honest
  pub falls : FallsBack old.fallback new.fallback
  pub whole : new.honest → OnOk result ((o : Office) → old.stands o → Appends held holds (dump_text o))
  pub cut : new.honest → OnErr result ((o : Office) → old.stands o → IsCut held holds (dump_text o))
  pub kept : new.honest → (o : Office) → old.stands o → new.stands o
  pub left : new.honest → (x : Leftover) → new.left x → old.left x
  pub counted : new.failures ≡ failures_after_write result old.failures
