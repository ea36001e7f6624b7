-- What a call inside a transaction does with the Office of its rows.
use Rattle.std.specs.Prelude.{◌≡◌, ℕ, List, [], IsTrue, IfOk, OnOk, Result}
use Rattle.std.specs.Borrow.{GName}
use Rattle.sqlite.specs.State.{State, HasCleanDisk, Survives}
use Rattle.book_office.specs.declared.edits.Edit.{Edit}
use Rattle.book_office.specs.declared.keepers.StoreFault.{StoreFault}
use Rattle.book_office.specs.Edits.{apply}
use Rattle.book_office.specs.Keeping.{failures_after}
use Rattle.book_office.specs.Sound.{Fits}
use Rattle.book_office_values.specs.declared.offices.Office.{Office}
use Rattle.book_tables_rows.specs.Steps.{Keeps, Looks}
use Rattle.book_tables.specs.Stands.{IsKept, StandsFor}

-- a transaction, how often the store has failed, and the references by which a struct reaches the transaction
pub record Inside : Type 1 where
  pub state : State
  pub failures : ℕ
  pub names : List GName

abbrev pub inside_by : List GName → State → ℕ → Inside
inside_by names s failures = record { state = s; failures = failures; names = names }

abbrev pub inside_of : State → ℕ → Inside
inside_of = inside_by []

-- a read tells what the Office has, and leaves the tables; whatever it answers, what was committed stays, and a stop leaves nothing of it
pub record ReadsInside {A : Type 0} (old new : Inside) (result : Result A StoreFault) (Tells : Office → A → Type 0) : Type 0 where
  pub survives : Survives old.state new.state (λ _. ⊥)
  pub kept : Keeps old.state new.state
  pub stays : HasCleanDisk new.state → IfOk result (λ _. Looks old.state new.state)
  pub value : HasCleanDisk new.state → IsTrue old.state.in_transaction → IfOk result (λ x. (o : Office) → StandsFor old.state o → Tells o x)
  pub counted : new.failures ≡ failures_after result old.failures
  pub named : new.names ≡ old.names

-- an edit that fits is made; whatever it answers, what was committed stays, and a stop leaves nothing of it
pub record EditsInside (old new : Inside) (result : Result (Unit {0}) StoreFault) (edit : Edit) : Type 0 where
  pub survives : Survives old.state new.state (λ _. ⊥)
  pub kept : Keeps old.state new.state
  pub inside : HasCleanDisk new.state → IsTrue old.state.in_transaction → OnOk result (IsTrue new.state.in_transaction)
  pub made : HasCleanDisk new.state → IsTrue old.state.in_transaction → OnOk result ((o : Office) → StandsFor old.state o → Fits o edit → IsKept new.state.now (apply o edit))
  pub counted : new.failures ≡ failures_after result old.failures
