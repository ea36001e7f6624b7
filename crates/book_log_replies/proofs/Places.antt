-- The entries in force, each with its place in the list where it stands.
use Rattle.book_log_replies.proofs.Common.{◌≡◌, ◌⊎◌, inl, inr, ap, sym, refl, ◌∙◌, map, ◌++◌, ◌∷◌, List, [], ℕ, zero, suc, ◌+◌, ◌-◌, ◌<◌, ◌≤◌, length, drop, get_or, Option, Some, None, option_map, Bool, true, false, arith, append_assoc, slice_get, flat_map, slice_get-map, Entry, list_in, Level, Path, Placed, all_placed, decided, decided_of, numbered, placed, placed_at}
use Rattle.book_log_lines.specs.declared.lines.Decided.{Decided}
use Rattle.std.proofs.Common.{if◌then◌else◌, nat_eq}
use Rattle.std.proofs.lemmas.Bool.Decides.{nat_tests}
use Rattle.std.proofs.lemmas.List.{drop_more, length-map}

-- ---- two lists, one after the other
get_front : {A : Type 0} (xs ys : List A) (i : ℕ) → i < length xs → slice_get (xs ++ ys) i ≡ slice_get xs i
get_front [] ys i lt = absurd (omega (arith, lt))
get_front (x ∷ xs) ys zero lt = refl
get_front (x ∷ xs) ys (suc i) lt = get_front xs ys i (omega (arith, lt))

get_back : {A : Type 0} (xs ys : List A) (i j : ℕ) → i ≡ length xs + j → slice_get (xs ++ ys) i ≡ slice_get ys j
get_back [] ys i j is = ap (slice_get ys) (omega (arith, is))
get_back (x ∷ xs) ys zero j is = absurd (omega (arith, is))
get_back (x ∷ xs) ys (suc i) j is = get_back xs ys i j (omega (arith, is))

pub get_split : {A : Type 0} (xs ys : List A) (k : ℕ) (x : A) → slice_get (xs ++ ys) k ≡ Some x → (slice_get xs k ≡ Some x) ⊎ ((j : ℕ) × (slice_get ys j ≡ Some x))
get_split [] ys k x h = inr (k, h)
get_split (y ∷ xs) ys zero x h = inl h
get_split (y ∷ xs) ys (suc k) x h = get_split xs ys k x h

-- ---- one list
numbered_at : (n : ℕ) (es : List Entry) (i : ℕ) → slice_get (numbered n es) i ≡ option_map (λ (e : Entry). (n + i, e)) (slice_get es i)
numbered_at n [] i = refl
numbered_at n (e ∷ es) zero = let here : n ≡ n + 0 = omega arith in ap (λ (m : ℕ). Some (m, e)) here
numbered_at n (e ∷ es) (suc i) =
    let on : n + 1 + i ≡ n + suc i = omega arith in
    numbered_at (n + 1) es i ∙ ap (λ (m : ℕ). option_map (λ (x : Entry). (m, x)) (slice_get es i)) on

length_numbered : (n : ℕ) (es : List Entry) → length (numbered n es) ≡ length es
length_numbered n [] = refl
length_numbered n (e ∷ es) = let h = length_numbered (n + 1) es in omega (arith, h)

pub placed_get : (b : Bool) (p : Path) (es : List Entry) (i : ℕ) → slice_get (map (placed_at b p) (numbered 1 es)) i ≡ option_map (λ (e : Entry). placed_at b p (1 + i, e)) (slice_get es i)
placed_get b p es i =
    slice_get-map (placed_at b p) (numbered 1 es) i ∙ ap (option_map (placed_at b p)) (numbered_at 1 es i) ∙ by_entry (slice_get es i)
  where
    by_entry : (r : Option Entry) → option_map (placed_at b p) (option_map (λ (e : Entry). (1 + i, e)) r) ≡ option_map (λ (e : Entry). placed_at b p (1 + i, e)) r
    by_entry None = refl
    by_entry (Some e) = refl

length_placed : (b : Bool) (level : Level) → length (placed b level) ≡ length (list_in b level)
length_placed b level =
    length-map (numbered 1 (list_in b level)) (placed_at b level.path) ∙ length_numbered 1 (list_in b level)

-- ---- the lists of levels, as a loop goes over them
module _ (b : Bool) (levels : List Level) (i : ℕ) (level : Level) (within : i < length levels) (at : level ≡ get_or levels i level) (after : List Placed) where
  abbrev left : List Placed
  left = flat_map (placed b) (drop i levels) ++ after

  abbrev behind : List Placed
  behind = flat_map (placed b) (drop (i + 1) levels) ++ after

  levels_left : left ≡ placed b level ++ behind
  levels_left =
      ap (λ ls. flat_map (placed b) ls ++ after) (drop_more levels i level within ∙ ap (λ l. l ∷ drop (i + 1) levels) (sym at))
      ∙ append_assoc (placed b level) (flat_map (placed b) (drop (i + 1) levels)) after

  pub get_here : (n : ℕ) → n < length (list_in b level) → slice_get left n ≡ slice_get (placed b level) n
  get_here n lt =
      let few = length_placed b level in
      ap (λ list. slice_get list n) levels_left ∙ get_front (placed b level) behind n (omega (arith, lt, few))

  pub get_past : (n m : ℕ) → n ≡ length (list_in b level) + m → slice_get left n ≡ slice_get behind m
  get_past n m is =
      let few = length_placed b level in
      ap (λ list. slice_get list n) levels_left ∙ get_back (placed b level) behind n m (omega (arith, is, few))

-- ---- an entry by its number
pub decided_there : (ls : List Level) (n : ℕ) (r : Option Decided) → (n ≡ 0 → ⊥) → option_map (decided n) (slice_get (all_placed ls) (n - 1)) ≡ r → decided_of ls n ≡ r
decided_there ls n r some e =
    let no : nat_eq n 0 ≡ false =
    elim (nat_eq n 0) as (λ b. nat_eq n 0 ≡ b → b ≡ false) [ true ↦ λ t. absurd (some (grind (arith, nat_tests, t))) | false ↦ λ _. refl ] refl in
    ap (λ b. if b then None else option_map (decided n) (slice_get (all_placed ls) (n - 1))) no ∙ e
