-- What is told of a store that was refused.
use Rattle.book_desk_doctor.proofs.Common.{◌≡◌, List, ℕ, Option, Some, inl, inr, subst, sym, Held, HasCleanDisk, State}
use Rattle.std.proofs.Common.{◌⊎◌}
use Rattle.sqlite.specs.Tree.{Trees}
use Rattle.book_tables.specs.declared.opening.OpenFault.{OpenFault}
use Rattle.book_tables.specs.declared.opening.OpenFault.TheVariants.{OtherVersion, NoStore, Memory, Store}
use Rattle.book_tables_schema.specs.Reopening.{IfConnection, IsConnectionAnd}
use Rattle.book_tables_schema.specs.declared.reopening.Unopened.{Unopened}
use Rattle.book_tables_schema.specs.declared.reopening.Unopened.TheVariants.{Connection, Store as StoreAlone}
use Rattle.book_tables_opening.specs.Reading.{IsRefused, IsUnopened, StandForNone}
use Rattle.book_tables_findings.specs.Examining.{Examines, TellsFaultOf}
use Rattle.book_tables_findings.specs.declared.faults.Fault.{Fault}
use Rattle.book_desk_app.specs.declared.failures.StoreFailure.{StoreFailure}
use Rattle.book_desk_app.specs.declared.failures.StoreFailure.TheVariants as stores
use Rattle.book_desk_doctor.specs.Doctoring.{EndsFinding, EndsRefusal, SaysNone, TellsFailureOf, TellsFound, TellsOfStore, connection_in, refusal}

says_refused : (fault : OpenFault) → SaysNone (refusal fault) → IsRefused fault
says_refused OtherVersion says = tt
says_refused NoStore says = tt
says_refused Memory says = says
says_refused Store says = says

-- want of memory, or a failure of the store, says nothing of the Office
pub says_nothing : (failure : StoreFailure) → (failure ≡ stores.Memory) ⊎ (failure ≡ stores.Store) → SaysNone failure → ⊥
says_nothing failure (inl is) says = subst SaysNone is says
says_nothing failure (inr is) says = subst SaysNone is says

-- what was found in what a connection shows was told, with the connection that read it
pub found_ends : {S : Type 0} (state : Held S → State) (Told : List ℕ → Type 0) (left reader : Held S) (found : Option Fault) (back : Option (Held S))
    → TellsFound Told found → (HasCleanDisk (state reader) → Examines (state left) found) → back ≡ Some reader → EndsFinding state Told left back
found_ends state Told left reader found back (inl (fault, is, told)) examined came =
    inl (record { fault = fault; told = told; reader = reader; came = came; found = λ clean. subst (λ f. Examines (state left) f) is (examined clean) })
found_ends state Told left reader found back (inr (inl (is, told))) examined came =
    inr (stores.NoStore, told, λ says. (reader, came, λ clean. (examined clean).was_clean))
found_ends state Told left reader found back (inr (inr told)) examined came =
    inr (stores.Memory, told, λ says. absurd says)

module _ {S : Type 0} (state : Held S → State) (Told : List ℕ → Type 0) (store : Held S) where
  abbrev trees : Trees
  trees = (state store).committed.trees

  -- what is found in a connection that came back is so in what the store's last commit left
  found_of : (left reader : Held S) (fault : Fault) → (HasCleanDisk (state left) → StandForNone trees) → (HasCleanDisk (state left) → IsUnopened trees (state left))
      → (HasCleanDisk (state reader) → Examines (state left) (Some fault)) → HasCleanDisk (state reader) → StandForNone trees × TellsFaultOf trees (Some fault)
  found_of left reader fault none unopened found clean =
      let e = found clean in
      (none e.was_clean, subst (λ t. TellsFaultOf t (Some fault)) ((unopened e.was_clean).shows e.was_open) e.told)

  -- why it was refused
  failed : (fault : OpenFault) (left : Unopened S) (back : Option (Held S)) → (IsRefused fault → IsConnectionAnd left (λ c. HasCleanDisk (state c) → StandForNone trees))
      → back ≡ connection_in left → SaysNone (refusal fault) → (reader : Held S) × (back ≡ Some reader) × (HasCleanDisk (state reader) → StandForNone trees)
  failed fault (Connection c) back none is says = (c, is, none (says_refused fault says))
  failed fault (StoreAlone s) back none is says = absurd (none (says_refused fault says))

  pub refused : (fault : OpenFault) (left : Unopened S) (back : Option (Held S))
      → (IsRefused fault → IsConnectionAnd left (λ c. HasCleanDisk (state c) → StandForNone trees))
      → IfConnection left (λ c. HasCleanDisk (state c) → IsUnopened trees (state c))
      → EndsRefusal state Told fault left back → TellsOfStore state Told store back ⊎ TellsFailureOf state Told store back
  refused fault left back none unopened (inl (c, is, left_is, inl f)) =
      let none_c : HasCleanDisk (state c) → StandForNone trees = subst (λ l. IsConnectionAnd l (λ c. HasCleanDisk (state c) → StandForNone trees)) left_is (none (subst IsRefused (sym is) tt)) in
      let unopened_c : HasCleanDisk (state c) → IsUnopened trees (state c) = subst (λ l. IfConnection l (λ c. HasCleanDisk (state c) → IsUnopened trees (state c))) left_is unopened in
      inl (record { fault = f.fault; told = f.told; reader = f.reader; came = f.came; found = found_of c f.reader f.fault none_c unopened_c f.found })
  refused fault left back none unopened (inl (c, is, left_is, inr (failure, told, says))) =
      let none_c : HasCleanDisk (state c) → StandForNone trees = subst (λ l. IsConnectionAnd l (λ c. HasCleanDisk (state c) → StandForNone trees)) left_is (none (subst IsRefused (sym is) tt)) in
      inr (record { failure = failure; told = told; none = λ s. let it = says s in (it.0, it.1, λ clean. none_c (it.2 clean)) })
  refused fault left back none unopened (inr (told, is)) =
      inr (record { failure = refusal fault; told = told; none = failed fault left back none is })
