-- Who asks is known, and something is mapped where it is asked.
use Rattle.book_questions_asked.proofs.Common.{◌≡◌, ◌∷◌, ◌∙◌, [], ℕ, Bool, List, Option, Some, None, Ok, Err, Result, ap, refl, sym, Caller, Leaf, Office, Asked}
use Rattle.std.proofs.Common.{is_some}
use Rattle.std.proofs.lemmas.Result.{IfOk-at_ok}
use Rattle.std.specs.FinMap.{get}
use Rattle.std.specs.Prelude.{if◌then◌else◌, option_map}
use Rattle.book_lists.specs.Principals.{person_path}
use Rattle.book_lists.specs.declared.circles.Caller.TheVariants.{Known, Nobody}
use Rattle.book_machine.specs.Needing.{mapped_at, needed_at}
use Rattle.book_machine.specs.Stages.{◌>>=◌, caller_of, check}
use Rattle.book_machine.specs.declared.needing.Needed.{Needed}
use Rattle.book_machine.specs.declared.refusals.Refusal.{Refusal}
use Rattle.book_machine.specs.declared.refusals.Refusal.TheVariants.{NotFound, UnknownCaller}
use Rattle.book_office.specs.ResourceTree.{IsThere}
use Rattle.book_office.specs.Resources.{Resource, node_of, resource_at}
use Rattle.book_office.specs.Sound.{IsMappedPerson}
use Rattle.book_office_values.specs.declared.offices.Properties.{Properties}
use Rattle.book_office_values.specs.declared.paths.Path.{Path}
use Rattle.book_questions_asked.specs.Asking.{asked_at}

-- nobody, or a person of the Office
abbrev pub IsKnownCaller : Office → Caller → Type 0
IsKnownCaller o Nobody = Unit {0}
IsKnownCaller o (Known person) = IsMappedPerson o person

-- what is asked, of both of its parts
both : (c : Result Caller Refusal) (m : Result Path Refusal) (asked : Asked)
    → (c >>= λ caller. m >>= λ at. Ok (record { caller = caller; at = at })) ≡ Ok asked → (c ≡ Ok asked.caller) × (m ≡ Ok asked.at)
both (Ok c) (Ok m) asked e = let same : record { caller = c; at = m } ≡ asked = IfOk-at_ok (λ (a : Asked). record { caller = c; at = m } ≡ a) e refl in (ap (λ (a : Asked). Ok a.caller) same, ap (λ (a : Asked). Ok a.at) same)
both (Ok c) (Err x) asked e = absurd cc
both (Err x) m asked e = absurd cc

module _ (o : Office) where
  caller_known : (name : Option (List ℕ)) (caller : Caller) → caller_of o name ≡ Ok caller → IsKnownCaller o caller
  caller_known None caller e = IfOk-at_ok (IsKnownCaller o) e tt
  caller_known (Some name) caller e = go (get o.persons name) refl e
    where
      go : (found : Option Properties) → get o.persons name ≡ found → (if is_some found then Ok (Known (person_path name)) else Err UnknownCaller) ≡ Ok caller → IsKnownCaller o caller
      go None at e = absurd cc
      go (Some x) at e = IfOk-at_ok (IsKnownCaller o) e (name, refl, λ none. let clash : Some x ≡ None = sym at ∙ none in absurd cc)

  mapped_there : (p : Option Path) (at : Path) → mapped_at o p ≡ Ok at → IsThere o at
  mapped_there None at e = absurd cc
  mapped_there (Some q) at e = go (resource_at o q) refl e
    where
      go : (found : Option Resource) → resource_at o q ≡ found → (check (is_some (option_map node_of found)) NotFound >>= λ _. Ok q) ≡ Ok at → IsThere o at
      go None there e = absurd cc
      go (Some r) there e = IfOk-at_ok (IsThere o) e (λ none. let clash : Some r ≡ None = sym there ∙ none in absurd cc)

  pub is_known : (name : Option (List ℕ)) (p : Option Path) (asked : Asked) → asked_at o name p ≡ Ok asked → IsKnownCaller o asked.caller
  is_known name p asked e = caller_known name asked.caller (both (caller_of o name) (mapped_at o p) asked e).0

  pub is_there : (name : Option (List ℕ)) (p : Option Path) (asked : Asked) → asked_at o name p ≡ Ok asked → IsThere o asked.at
  is_there name p asked e = mapped_there p asked.at (both (caller_of o name) (mapped_at o p) asked e).1

-- a need at one resource is asked of the same caller there
abbrev pub need_of : Asked → (Leaf → Bool) → Needed
need_of asked set = record { caller = asked.caller; needs = record { resource = asked.at; set = set } ∷ [] }

needed_both : (c : Result Caller Refusal) (m : Result Path Refusal) (set : Leaf → Bool) (needed : Needed)
    → (c >>= λ caller. m >>= λ resource. Ok (record { caller = caller; needs = record { resource = resource; set = set } ∷ [] })) ≡ Ok needed
    → (asked : Asked) × ((c >>= λ caller. m >>= λ at. Ok (record { caller = caller; at = at })) ≡ Ok asked) × (need_of asked set ≡ needed)
needed_both (Ok c) (Ok m) set needed e = (record { caller = c; at = m }, refl, IfOk-at_ok (λ (n : Needed). need_of (record { caller = c; at = m }) set ≡ n) e refl)
needed_both (Ok c) (Err x) set needed e = absurd cc
needed_both (Err x) m set needed e = absurd cc

pub asked_of_needed : (o : Office) (name : Option (List ℕ)) (p : Option Path) (set : Leaf → Bool) (needed : Needed) → needed_at o name p set ≡ Ok needed
    → (asked : Asked) × (asked_at o name p ≡ Ok asked) × (need_of asked set ≡ needed)
asked_of_needed o name p set needed e = needed_both (caller_of o name) (mapped_at o p) set needed e
