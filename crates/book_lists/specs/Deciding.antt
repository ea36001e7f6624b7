-- Which of some things in order decides a leaf: the first that bears on it (RFC 3744, section 6). An entry bears on the
-- leaves that it holds where it applies.
use Rattle.std.specs.Prelude.{◌≡◌, ℕ, suc, Bool, true, false, not, ◌<◌, ◌≤◌, ◌⊎◌, ◌↔◌, List, [], ◌∷◌, Option, None, Some, option_map, is_none, slice_get, if◌then◌else◌}
use Rattle.std.specs.Option.{option_map_or}
use Rattle.book_rights.specs.declared.privileges.Leaf.{Leaf}
use Rattle.book_rights.specs.Leaves.{place_of}

-- the one at index i decides the leaf: it bears on it, and none at an earlier index does
pub record DecidesBy {X : Type 0} (bears : Leaf → X → Bool) (xs : List X) (i : ℕ) (leaf : Leaf) (x : X) : Type 0 where
  pub there : slice_get xs i ≡ Some x
  pub bearing : bears leaf x ≡ true
  pub first : (k : ℕ) (earlier : X) → k < i → slice_get xs k ≡ Some earlier → bears leaf earlier ≡ false

module _ {X : Type 0} (bears : Leaf → X → Bool) (denying : X → Bool) (xs : List X) where
  -- one that denies, or one that grants, decides the leaf
  abbrev pub DeniesBy : ℕ → Leaf → Type 0
  DeniesBy i leaf = (x : X) × DecidesBy bears xs i leaf x × (denying x ≡ true)

  abbrev pub GrantsBy : Leaf → Type 0
  GrantsBy leaf = (i : ℕ) × (x : X) × DecidesBy bears xs i leaf x × (denying x ≡ false)

  abbrev pub IsUndecidedBy : Leaf → Type 0
  IsUndecidedBy leaf = (i : ℕ) (x : X) → DecidesBy bears xs i leaf x → ⊥

  -- every leaf of the need is granted
  abbrev pub IsAllowedBy : (Leaf → Bool) → Type 0
  IsAllowedBy need = (leaf : Leaf) → need leaf ≡ true → GrantsBy leaf

  -- What a denial names: the earliest that denies a needed leaf, and the least leaf of the need that it denies; where
  -- none denies one, the least needed leaf that nothing decides.
  abbrev pub IsDenialBy : (Leaf → Bool) → Leaf → Option ℕ → Type 0
  IsDenialBy need leaf (Some i) = (need leaf ≡ true) × DeniesBy i leaf
      × ((j : ℕ) (other : Leaf) → need other ≡ true → DeniesBy j other → (i < j) ⊎ ((i ≡ j) × (place_of leaf ≤ place_of other)))
  IsDenialBy need leaf None = (need leaf ≡ true) × IsUndecidedBy leaf
      × ((other : Leaf) → need other ≡ true → IsUndecidedBy other → place_of leaf ≤ place_of other)
      × ((j : ℕ) (other : Leaf) → need other ≡ true → DeniesBy j other → ⊥)

  -- the set of the leaves that are granted
  abbrev pub IsGrantedSetBy : (Leaf → Bool) → Type 0
  IsGrantedSetBy set = (leaf : Leaf) → (set leaf ≡ true) ↔ GrantsBy leaf

-- ---- the same as functions
-- the first that bears on the leaf, with its index: it decides the leaf
abbrev pub decider : {X : Type 0} → (Leaf → X → Bool) → List X → Leaf → Option (ℕ × X)
decider bears [] leaf = None
decider bears (x ∷ xs) leaf = if bears leaf x then Some (0, x) else option_map (λ found. (suc found.0, found.1)) (decider bears xs leaf)

module _ {X : Type 0} (bears : Leaf → X → Bool) (denying : X → Bool) (xs : List X) where
  -- the leaves that it grants, those that it denies, and those that none decides
  abbrev pub granted : Leaf → Bool
  granted leaf = option_map_or (λ found. not (denying found.1)) (decider bears xs leaf) false

  abbrev pub denied : Leaf → Bool
  denied leaf = option_map_or (λ found. denying found.1) (decider bears xs leaf) false

  abbrev pub undecided : Leaf → Bool
  undecided leaf = is_none (decider bears xs leaf)
