-- Facts that hold or do not: of numbers, texts, lists, names and privileges.
use Rattle.book_lists.proofs.Common.{◌≡◌, ◌∙◌, subst, sym, List, refl, ℕ, [], ◌∷◌, arith, inl, inr, length, ◌≤◌, ◌<◌, Bool, None, Some, Option, true, false, ◌⊎◌, IsTrue, suc, zero, bytes_eq, false≢true, cases_lt}
use Rattle.std.proofs.Common.{◌≢◌, AllPairs, slice_index}
use Rattle.std.proofs.lemmas.List.Elements.{All-from_recursion, recursion_from_All}
use Rattle.std.proofs.lemmas.Slice.Eq.{bytes_eq-Decides}
use Rattle.std.specs.List.{All, AllByRecursion}
use Rattle.book_rights.specs.Leaves.{each_leaf}
use Rattle.book_rights.specs.Privileges.{name_of}
use Rattle.book_rights.specs.declared.privileges.Leaf.TheVariants.{ReadTexts, WriteContent, WriteProperties, Bind, Unbind, ReadAcl, WriteAcl, ReadCurrentUserPrivilegeSet, ReadNames}
use Rattle.book_rights.specs.declared.privileges.Privilege.{Privilege}
use Rattle.book_rights.specs.declared.privileges.Privilege.TheVariants.{One, Read, Write, All as Whole}
use Rattle.book_lists.specs.Names.{IsName, is_name_byte}
use Rattle.book_lists.proofs.Elements.{Mem}

-- ---- facts that hold or do not
abbrev pub OrNot : Type 0 → Type 0
OrNot P = P ⊎ (P → ⊥)

pub both_or_not : {P Q : Type 0} → OrNot P → OrNot Q → OrNot (P × Q)
both_or_not (inl p) (inl q) = inl (p, q)
both_or_not (inl p) (inr never) = inr (λ h. never h.1)
both_or_not (inr never) q = inr (λ h. never h.0)

pub three_or_not : {P Q R : Type 0} → OrNot P → OrNot Q → OrNot R → OrNot (P × Q × R)
three_or_not (inl p) (inl q) (inl r) = inl (p, q, r)
three_or_not (inl p) (inl q) (inr never) = inr (λ h. never h.2)
three_or_not (inl p) (inr never) r = inr (λ h. never h.1)
three_or_not (inr never) q r = inr (λ h. never h.0)

pub either_or_not : {P Q : Type 0} → OrNot P → OrNot Q → OrNot (P ⊎ Q)
either_or_not (inl p) q = inl (inl p)
either_or_not (inr never) (inl q) = inl (inr q)
either_or_not (inr not_p) (inr not_q) = inr (λ h. elim h [ inl p ↦ not_p p | inr q ↦ not_q q ])

pub not_or_not : {P : Type 0} → OrNot P → OrNot (P → ⊥)
not_or_not (inl p) = inr (λ never. never p)
not_or_not (inr never) = inl never

pub same_as : {P Q : Type 0} → (P → Q) → (Q → P) → OrNot P → OrNot Q
same_as to from (inl p) = inl (to p)
same_as to from (inr never) = inr (λ q. never (from q))

pub below_or_not : (m n : ℕ) → OrNot (m < n)
below_or_not m n = elim (cases_lt m n) [ inl lt ↦ inl lt | inr le ↦ inr (λ lt. omega (arith, lt, le)) ]

pub most_or_not : (m n : ℕ) → OrNot (m ≤ n)
most_or_not m n = elim (cases_lt n m) [ inl lt ↦ inr (λ le. omega (arith, lt, le)) | inr le ↦ inl le ]

pub number_or_not : (m n : ℕ) → OrNot (m ≡ n)
number_or_not m n = elim (cases_lt m n) [
  | inl lt ↦ inr (λ e. omega (arith, lt, e))
  | inr le ↦ elim (cases_lt n m) [ inl lt ↦ inr (λ e. omega (arith, lt, e)) | inr ge ↦ inl (omega (arith, le, ge)) ]
]

pub text_or_not : (xs ys : List ℕ) → OrNot (xs ≡ ys)
text_or_not xs ys = elim (bytes_eq xs ys) as (λ b. bytes_eq xs ys ≡ b → OrNot (xs ≡ ys)) [
  | true ↦ λ t. inl ((bytes_eq-Decides xs ys).0 t)
  | false ↦ λ f. inr (λ e. false≢true (sym f ∙ (bytes_eq-Decides xs ys).1 e))
] refl

pub true_or_not : (b : Bool) → OrNot (IsTrue b)
true_or_not true = inl refl
true_or_not false = inr (λ e. false≢true e)

pub there_or_not : {A : Type 0} (found : Option A) → OrNot (found ≢ None)
there_or_not None = inr (λ there. there refl)
there_or_not (Some a) = inl (λ none. absurd cc)

module _ {A : Type 0} (P : A → Type 0) (test : (x : A) → OrNot (P x)) where
  pub each_in_turn : (xs : List A) → OrNot (AllByRecursion P xs)
  each_in_turn [] = inl tt
  each_in_turn (x ∷ xs) = both_or_not (test x) (each_in_turn xs)

  pub each_or_not : (xs : List A) → OrNot (All P xs)
  each_or_not xs = same_as (All-from_recursion P xs) (recursion_from_All P xs) (each_in_turn xs)

  -- one of a list, or none of it
  pub one_of : (xs : List A) → ((x : A) × P x) ⊎ ((x : A) → Mem x xs → P x → ⊥)
  one_of [] = inr (λ x m p. m)
  one_of (x ∷ xs) = elim (test x) [
    | inl p ↦ inl (x, p)
    | inr never ↦ elim (one_of xs) [
      | inl found ↦ inl found
      | inr none ↦ inr (λ y m p. elim m [ inl is ↦ never (subst P is p) | inr later ↦ none y later p ])
    ]
  ]

pub mem_all : {A : Type 0} (P : A → Type 0) (x : A) (xs : List A) → AllByRecursion P xs → Mem x xs → P x
mem_all P x [] all m = absurd m
mem_all P x (y ∷ ys) all m = elim m [ inl is ↦ subst P (sym is) all.0 | inr later ↦ mem_all P x ys all.1 later ]

module _ {A : Type 0} (R : A → A → Type 0) (test : (x y : A) → OrNot (R x y)) where
  abbrev PairsInTurn : List A → Type 0
  PairsInTurn [] = Unit {0}
  PairsInTurn (x ∷ xs) = All (R x) xs × PairsInTurn xs

  pairs_of : (xs : List A) → PairsInTurn xs → AllPairs R xs
  pairs_of [] h i j d before within = absurd (omega (arith, within))
  pairs_of (x ∷ xs) h zero zero d before within = absurd (omega (arith, before))
  pairs_of (x ∷ xs) h zero (suc j) d before within = h.0 j d (omega (arith, within))
  pairs_of (x ∷ xs) h (suc i) zero d before within = absurd (omega (arith, before))
  pairs_of (x ∷ xs) h (suc i) (suc j) d before within = pairs_of xs h.1 i j d (omega (arith, before)) (omega (arith, within))

  pairs_from : (xs : List A) → AllPairs R xs → PairsInTurn xs
  pairs_from [] h = tt
  pairs_from (x ∷ xs) h = (
    λ j d within. h 0 (suc j) d (omega arith) (omega (arith, within)),
    pairs_from xs (λ i j d before within. h (suc i) (suc j) d (omega (arith, before)) (omega (arith, within))),
  )

  pairs_in_turn : (xs : List A) → OrNot (PairsInTurn xs)
  pairs_in_turn [] = inl tt
  pairs_in_turn (x ∷ xs) = both_or_not (each_or_not (R x) (test x) xs) (pairs_in_turn xs)

  pub pairs_or_not : (xs : List A) → OrNot (AllPairs R xs)
  pairs_or_not xs = same_as (pairs_of xs) (pairs_from xs) (pairs_in_turn xs)

-- ---- names and paths
pub name_or_not : (name : List ℕ) → OrNot (IsName name)
name_or_not name =
    same_as
    (λ h. record { some = h.0; short = h.1.0; visible = h.1.1.0; each = h.1.1.1 })
    (λ (n : IsName name). (n.some, (n.short, (n.visible, n.each))))
    (both_or_not (below_or_not 0 (length name))
    (both_or_not (most_or_not (length name) 64)
    (both_or_not (not_or_not (number_or_not (slice_index name 0) 46)) (each_or_not (λ b. IsTrue (is_name_byte b)) (λ b. true_or_not (is_name_byte b)) name))))

-- ---- privileges
privileges : List Privilege
privileges = One ReadTexts ∷ One WriteContent ∷ One WriteProperties ∷ One Bind ∷ One Unbind ∷ One ReadAcl ∷ One WriteAcl ∷ One ReadCurrentUserPrivilegeSet ∷ One ReadNames ∷ Read ∷ Write ∷ Whole ∷ []

is_listed : (p : Privilege) → Mem p privileges
unfolding privileges
is_listed (One leaf) =
    each_leaf (λ l. Mem (One l) privileges) (inl refl) (inr (inl refl)) (inr (inr (inl refl))) (inr (inr (inr (inl refl))))
    (inr (inr (inr (inr (inl refl))))) (inr (inr (inr (inr (inr (inl refl)))))) (inr (inr (inr (inr (inr (inr (inl refl)))))))
    (inr (inr (inr (inr (inr (inr (inr (inl refl)))))))) (inr (inr (inr (inr (inr (inr (inr (inr (inl refl))))))))) leaf
is_listed Read = inr (inr (inr (inr (inr (inr (inr (inr (inr (inl refl)))))))))
is_listed Write = inr (inr (inr (inr (inr (inr (inr (inr (inr (inr (inl refl))))))))))
is_listed Whole = inr (inr (inr (inr (inr (inr (inr (inr (inr (inr (inr (inl refl)))))))))))

pub privilege_or_not : (name : List ℕ) → OrNot ((p : Privilege) × (name ≡ name_of p))
privilege_or_not name = elim (one_of (λ p. name ≡ name_of p) (λ p. text_or_not name (name_of p)) privileges) [
  | inl found ↦ inl found
  | inr none ↦ inr (λ it. none it.0 (is_listed it.0) it.1)
]
