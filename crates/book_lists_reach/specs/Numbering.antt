-- The places of principals in a list of them, which has each once.
use Rattle.std.specs.Prelude.{◌≡◌, ℕ, Bool, true, false, List, [], ◌∷◌, Option, None, Some, ⊤, slice_get}
use Rattle.std.specs.List.{list_any}
use Rattle.std.specs.Ordering.{eq_by_cmp}
use Rattle.book_lists.specs.Circles.{has_path}
use Rattle.book_lists.specs.Memberships.{membership_cmp}
use Rattle.book_lists.specs.declared.memberships.Membership.{Membership}

-- this is the place of the principal, or it has none
abbrev pub IsPlaceOf : List (List ℕ) → List ℕ → Option ℕ → Type 0
IsPlaceOf principals p None = has_path principals p ≡ false
IsPlaceOf principals p (Some i) = slice_get principals i ≡ Some p

-- these are the places of some principals among others, one for each
abbrev pub ArePlaces : List (List ℕ) → List (List ℕ) → List (Option ℕ) → Type 0
ArePlaces others [] [] = ⊤
ArePlaces others [] (n ∷ ns) = ⊥
ArePlaces others (p ∷ ps) [] = ⊥
ArePlaces others (p ∷ ps) (n ∷ ns) = IsPlaceOf others p n × ArePlaces others ps ns

-- the list of pairs has the pair
abbrev pub is_listed : List Membership → Membership → Bool
is_listed list m = list_any (eq_by_cmp membership_cmp m) list

-- both principals of each pair are among these
abbrev pub HasEnds : List Membership → List (List ℕ) → Type 0
HasEnds list principals = (m : Membership) → is_listed list m ≡ true → (has_path principals m.group ≡ true) × (has_path principals m.member ≡ true)
