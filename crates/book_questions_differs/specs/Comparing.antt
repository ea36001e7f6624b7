-- What a call does that reads two keepers and tells how their Offices differ.
use Rattle.std.specs.Prelude.{◌≡◌, ◌⊎◌, Result, IfOk}
use Rattle.book_office.specs.Keeping.{FallsBack, Leftover, Standing, failures_after}
use Rattle.book_office.specs.declared.keepers.StoreFault.{StoreFault}
use Rattle.book_office_values.specs.declared.offices.Office.{Office}

-- a keeper that was read: its Office is as it was, and a stop leaves no other
pub record IsKept (old new : Standing) : Type 0 where
  pub was_honest : new.honest → old.honest
  pub falls : FallsBack old.fallback new.fallback
  pub kept : new.honest → (o : Office) → old.stands o → new.stands o
  pub left : new.honest → (x : Leftover) → new.left x → old.left x

-- one of the two stores failed as the answer says, and the other did not
abbrev pub IsCounted : {A : Type 0} → Standing → Standing → Standing → Standing → Result A StoreFault → Type 0
IsCounted first first_new last last_new result =
    ((first_new.failures ≡ failures_after result first.failures) × (last_new.failures ≡ last.failures))
    ⊎ ((first_new.failures ≡ first.failures) × (last_new.failures ≡ failures_after result last.failures))

-- a reading of two keepers tells something of the Offices of both, and leaves both as they were
pub record Compares {A : Type 0} (first first_new last last_new : Standing) (result : Result A StoreFault) (Tells : Office → Office → A → Type 0) : Type 0 where
  pub first_kept : IsKept first first_new
  pub last_kept : IsKept last last_new
  pub value : first_new.honest → last_new.honest → IfOk result (λ x. (o p : Office) → first.stands o → last.stands p → Tells o p x)
  pub counted : IsCounted first first_new last last_new result
