-- Faults that are free of the fault of a number, and what that asks of each value.
use Rattle.std.proofs.Common.{◌≡◌, ◌≢◌, ◌↔◌, ℕ, ◌+◌, List, [], ◌∷◌, ◌++◌, Bool, true, false, nat_eq, Option, None, Some, refl, subst}
use Rattle.std.specs.List.{AllByRecursion}
use Rattle.std.proofs.lemmas.Bool.{eqb-true, eq-eqb, false≢true}
use Rattle.book_policy_faults.specs.Laws.{order_of}
use Rattle.book_policy_faults.specs.Placing.{order, placed}
use Rattle.book_policy_faults.specs.Problems.{unless}
use Rattle.book_policy_faults.specs.declared.places.PlacedFault.{PlacedFault}
use Rattle.book_policy_faults.specs.declared.places.Problem.{Problem}
use Rattle.book_policy_faults.specs.declared.places.Spot.{Spot}

abbrev pub Free : ℕ → List PlacedFault → Type 0
Free g fs = AllByRecursion (λ f. order_of f ≢ g) fs

abbrev pub Off : ℕ → Option Problem → Type 0
Off g None = Unit {0}
Off g (Some problem) = order problem ≢ g

module _ (g : ℕ) where
  pub free_both : (fs gs : List PlacedFault) → Free g fs → Free g gs → Free g (fs ++ gs)
  free_both [] gs a b = b
  free_both (f ∷ fs) gs a b = (a.0, free_both fs gs a.1 b)

  pub free_parts : (fs gs : List PlacedFault) → Free g (fs ++ gs) → Free g fs × Free g gs
  free_parts [] gs h = (tt, h)
  free_parts (f ∷ fs) gs h = let rest = free_parts fs gs h.1 in ((h.0, rest.0), rest.1)

  pub free_placed : (spot : Spot) (o : Option Problem) → Off g o → Free g (placed spot o)
  free_placed spot None h = tt
  free_placed spot (Some p) h = (h, tt)

  pub placed_free : (spot : Spot) (o : Option Problem) → Free g (placed spot o) → Off g o
  placed_free spot None h = tt
  placed_free spot (Some p) h = h.0

-- ---- what is asked for a number

abbrev pub When : Bool → Type 0 → Type 0
When true A = A
When false A = Unit {0}

abbrev pub Asks : ℕ → ℕ → Type 0 → Type 0
Asks k g A = When (nat_eq k g) A

pub asked : {A : Type 0} (k g : ℕ) → (k ≡ g → A) → Asks k g A
asked {A = A} k g a = elim (nat_eq k g) as (λ c. nat_eq k g ≡ c → When c A) [ true ↦ λ e. a (eqb-true k g e) | false ↦ λ _. tt ] refl

pub asks : {A : Type 0} (k g : ℕ) → Asks k g A → k ≡ g → A
asks {A = A} k g h e = subst (λ c. When c A) (eq-eqb k g e) h

pub off_asks : (g : ℕ) (b : Bool) (p : Problem) → Off g (unless b p) → Asks (order p) g (b ≡ true)
off_asks g true p h = asked (order p) g (λ _. refl)
off_asks g false p h = asked (order p) g (λ e. absurd (h e))

pub asks_off : (g : ℕ) (b : Bool) (p : Problem) → Asks (order p) g (b ≡ true) → Off g (unless b p)
asks_off g true p h = tt
asks_off g false p h = λ e. false≢true (asks (order p) g h e)

-- ---- the same both ways
module _ (g : ℕ) where
  pub means_unless : (spot : Spot) (b : Bool) (p : Problem) → Free g (placed spot (unless b p)) ↔ Asks (order p) g (b ≡ true)
  means_unless spot b p = (
    λ h. off_asks g b p (placed_free g spot (unless b p) h),
    λ h. free_placed g spot (unless b p) (asks_off g b p h),
  )

  pub means_both : {A B : Type 0} (fs gs : List PlacedFault) → (Free g fs ↔ A) → (Free g gs ↔ B) → Free g (fs ++ gs) ↔ (A × B)
  means_both fs gs a b = (
    λ h. let both = free_parts g fs gs h in (a.0 both.0, b.0 both.1),
    λ h. free_both g fs gs (a.1 h.0) (b.1 h.1),
  )

  pub means_none : Free g [] ↔ Unit {0}
  means_none = (λ h. tt, λ h. tt)

-- ---- rows
module _ {A : Type 0} where
  abbrev pub rows : (ℕ → A → List PlacedFault) → ℕ → List A → List PlacedFault
  rows row n [] = []
  rows row n (x ∷ xs) = row n x ++ rows row (n + 1) xs

  abbrev pub Rows : (ℕ → A → Type 0) → ℕ → List A → Type 0
  Rows R n [] = Unit {0}
  Rows R n (x ∷ xs) = R n x × Rows R (n + 1) xs

  pub means_rows : (g : ℕ) (row : ℕ → A → List PlacedFault) (R : ℕ → A → Type 0) → ((n : ℕ) (x : A) → Free g (row n x) ↔ R n x)
      → (n : ℕ) (xs : List A) → Free g (rows row n xs) ↔ Rows R n xs
  means_rows g row R each n [] = means_none g
  means_rows g row R each n (x ∷ xs) =
      means_both g (row n x) (rows row (n + 1) xs) (each n x) (means_rows g row R each (n + 1) xs)

  pub rows_all : (R : ℕ → A → Type 0) (P : A → Type 0) → ((n : ℕ) (x : A) → R n x → P x) → (n : ℕ) (xs : List A) → Rows R n xs → AllByRecursion P xs
  rows_all R P each n [] h = tt
  rows_all R P each n (x ∷ xs) h = (each n x h.0, rows_all R P each (n + 1) xs h.1)

  pub all_rows : (R : ℕ → A → Type 0) (P : A → Type 0) → ((n : ℕ) (x : A) → P x → R n x) → (n : ℕ) (xs : List A) → AllByRecursion P xs → Rows R n xs
  all_rows R P each n [] h = tt
  all_rows R P each n (x ∷ xs) h = (each n x h.0, all_rows R P each (n + 1) xs h.1)

  pub any_rows : (R : ℕ → A → Type 0) → ((n : ℕ) (x : A) → R n x) → (n : ℕ) (xs : List A) → Rows R n xs
  any_rows R each n [] = tt
  any_rows R each n (x ∷ xs) = (each n x, any_rows R each (n + 1) xs)

  pub rows_changed : (R S : ℕ → A → Type 0) (P : A → Type 0) → ((n : ℕ) (x : A) → P x → R n x → S n x) → (n : ℕ) (xs : List A) → AllByRecursion P xs
      → Rows R n xs → Rows S n xs
  rows_changed R S P each n [] p h = tt
  rows_changed R S P each n (x ∷ xs) p h = (each n x p.0 h.0, rows_changed R S P each (n + 1) xs p.1 h.1)

  pub nothing_asked : (xs : List A) → AllByRecursion (λ _. Unit {0}) xs
  nothing_asked [] = tt
  nothing_asked (x ∷ xs) = (tt, nothing_asked xs)

  pub all_changed : (P Q : A → Type 0) → ((x : A) → P x → Q x) → (xs : List A) → AllByRecursion P xs → AllByRecursion Q xs
  all_changed P Q each [] h = tt
  all_changed P Q each (x ∷ xs) h = (each x h.0, all_changed P Q each xs h.1)
