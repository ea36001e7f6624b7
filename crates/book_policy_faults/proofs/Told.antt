-- The faults that are told, and the least of all.
use Rattle.std.proofs.Common.{◌≡◌, ◌≢◌, ◌⊎◌, ◌≤◌, ◌<◌, ◌+◌, ℕ, List, [], ◌∷◌, ◌++◌, length, take, Bool, true, false, if◌then◌else◌, nat_lt, inl, inr, refl, sym, ap, ◌∙◌, arith, append_assoc}
use Rattle.std.specs.List.{AllByRecursion}
use Rattle.std.proofs.Math.Seq.{take-append_seam}
use Rattle.std.proofs.lemmas.Bool.Decides.{nat_tests}
use Rattle.std.proofs.lemmas.List.{take_all}
use Rattle.book_policy_faults.specs.Laws.{HasNumber, LeastIsTold, ToldAreFirst, least_of, order_of, told_of}
use Rattle.book_policy_faults.specs.Placing.{least, no_faults, noted, order, pushed}
use Rattle.book_policy_faults.specs.declared.places.PlacedFault.{PlacedFault}
use Rattle.book_policy_faults.specs.declared.places.PlacedFaults.{PlacedFaults}
use Rattle.book_policy_faults.specs.declared.places.Problem.{Problem}
use Rattle.book_policy_faults.specs.declared.places.Problem.TheVariants.{UnknownKey, Missing, OtherKind, OtherVersion, LongLabel, NamesCount, Both, BadName, NameTwice, UnknownPrincipal, UnknownResource, UnknownPrivilege, TooMany, LongList}
use Rattle.book_policy_faults.specs.declared.places.TheConstants.{MAX_TOLD}

nothing : {A : Type 0} (xs : List A) → xs ++ [] ≡ xs
nothing [] = refl
nothing (x ∷ xs) = ap (λ ys. x ∷ ys) (nothing xs)

take_front : {A : Type 0} (n : ℕ) (xs ys : List A) → length xs ≡ n → take n (xs ++ ys) ≡ xs
take_front n xs ys e = ap (λ k. take k (xs ++ ys)) (sym e) ∙ take-append_seam xs ys

length_more : {A : Type 0} (xs : List A) (x : A) → length (xs ++ x ∷ []) ≡ length xs + 1
length_more [] x = refl
length_more (y ∷ xs) x = let e = length_more xs x in omega (arith, e)

abbrev step : List PlacedFault → PlacedFault → List PlacedFault
step t f = if nat_lt (length t) MAX_TOLD then t ++ f ∷ [] else t

abbrev told_all : List PlacedFault → List PlacedFault → List PlacedFault
told_all t [] = t
told_all t (f ∷ fs) = told_all (step t f) fs

told_is : (s : PlacedFaults) (fs : List PlacedFault) → told_of (noted s fs) ≡ told_all s.told fs
told_is s [] = refl
told_is s (f ∷ fs) = told_is (pushed s f) fs

below : (n : ℕ) → nat_lt n MAX_TOLD ≡ true → n < MAX_TOLD
below n h = grind (arith, nat_tests)

not_below : (n : ℕ) → nat_lt n MAX_TOLD ≡ false → MAX_TOLD ≤ n
not_below n h = grind (arith, nat_tests)

step_in : (t : List PlacedFault) (f : PlacedFault) (b : Bool) → nat_lt (length t) MAX_TOLD ≡ b → step t f ≡ (if b then t ++ f ∷ [] else t)
step_in t f b e = ap (λ (x : Bool). if x then t ++ f ∷ [] else t) e

told_from : (t fs : List PlacedFault) → length t ≤ MAX_TOLD → told_all t fs ≡ take MAX_TOLD (t ++ fs)
told_from t [] short = sym (ap (take MAX_TOLD) (nothing t) ∙ take_all MAX_TOLD t short)
told_from t (f ∷ fs) short = elim (nat_lt (length t) MAX_TOLD) as (λ b. nat_lt (length t) MAX_TOLD ≡ b → told_all (step t f) fs ≡ take MAX_TOLD (t ++ f ∷ fs)) [
  | true ↦ λ e.
      let room : length (t ++ f ∷ []) ≤ MAX_TOLD = (let l = length_more t f in let h = below (length t) e in omega (arith, l, h)) in
      ap (λ (u : List PlacedFault). told_all u fs) (step_in t f true e) ∙ told_from (t ++ f ∷ []) fs room
      ∙ ap (take MAX_TOLD) (append_assoc t (f ∷ []) fs)
  | false ↦ λ e.
      let full : length t ≡ MAX_TOLD = (let h = not_below (length t) e in omega (arith, h, short)) in
      ap (λ (u : List PlacedFault). told_all u fs) (step_in t f false e) ∙ told_from t fs short
      ∙ take_front MAX_TOLD t fs full ∙ sym (take_front MAX_TOLD t (f ∷ fs) full)
] refl

pub told_first : ToldAreFirst
told_first fs = told_is no_faults fs ∙ told_from [] fs (omega arith)

-- ---- the least

least_left : (m n : ℕ) → least m n ≤ m
least_left m n = grind (arith, nat_tests)

least_right : (m n : ℕ) → least m n ≤ n
least_right m n = grind (arith, nat_tests)

least_one : (m n : ℕ) → (least m n ≡ m) ⊎ (least m n ≡ n)
least_one m n = elim (nat_lt m n) as (λ b. ((if b then m else n) ≡ m) ⊎ ((if b then m else n) ≡ n)) [ true ↦ inl refl | false ↦ inr refl ]

least_all : (s : PlacedFaults) (fs : List PlacedFault) → least_of (noted s fs) ≤ s.least
least_all s [] = omega arith
least_all s (f ∷ fs) = let a = least_all (pushed s f) fs in let b = least_left s.least (order_of f) in omega (arith, a, b)

each_after : (s : PlacedFaults) (fs : List PlacedFault) → AllByRecursion (λ f. least_of (noted s fs) ≤ order_of f) fs
each_after s [] = tt
each_after s (f ∷ fs) = (
  (let a = least_all (pushed s f) fs in let b = least_right s.least (order_of f) in omega (arith, a, b)),
  each_after (pushed s f) fs,
)

one_after : (s : PlacedFaults) (fs : List PlacedFault) → (least_of (noted s fs) ≡ s.least) ⊎ HasNumber (least_of (noted s fs)) fs
one_after s [] = inl refl
one_after s (f ∷ fs) = elim (one_after (pushed s f) fs) [
  | inr h ↦ inr (inr h)
  | inl e ↦ elim (least_one s.least (order_of f)) [
    | inl l ↦ inl (e ∙ l)
    | inr r ↦ inr (inl (sym (e ∙ r)))
  ]
]

order_small : (p : Problem) → order p ≤ 10
order_small UnknownKey = omega arith
order_small Missing = omega arith
order_small OtherKind = omega arith
order_small OtherVersion = omega arith
order_small LongLabel = omega arith
order_small NamesCount = omega arith
order_small Both = omega arith
order_small BadName = omega arith
order_small (NameTwice other) = omega arith
order_small UnknownPrincipal = omega arith
order_small UnknownResource = omega arith
order_small UnknownPrivilege = omega arith
order_small TooMany = omega arith
order_small LongList = omega arith

some_below : (fs : List PlacedFault) → fs ≢ [] → least_of (noted no_faults fs) ≡ 11 → ⊥
some_below [] some e = some refl
some_below (f ∷ fs) some e =
    let a = (each_after no_faults (f ∷ fs)).0 in let b = order_small f.problem in absurd (omega (arith, a, b, e))

pub least_told : LeastIsTold
least_told fs = (
  each_after no_faults fs,
  λ some. elim (one_after no_faults fs) [ inl e ↦ absurd (some_below fs some e) | inr h ↦ h ],
)
