-- Marks of other entries than those of the policy, and the first entry ahead of one.
use Rattle.std.proofs.Common.{◌≡◌, ◌<◌, ◌≤◌, ◌↔◌, ℕ, ◌+◌, ◌++◌, ◌∷◌, [], List, Bool, true, false, length, take, drop, get_or, Option, Some, None, is_some, slice_get, sym, ap, ◌∙◌, subst, inl, inr, arith, nat_eq}
use Rattle.std.specs.Prelude.{All, if◌then◌else◌}
use Rattle.std.proofs.lemmas.Bool.{false≢true, eqb-true}
use Rattle.std.proofs.lemmas.List.{drop_more, take-append-drop, take_more}
use Rattle.std.proofs.lemmas.List.Elements.{All-push}
use Rattle.std.proofs.lemmas.Option.{slice_get_within}
use Rattle.std.specs.Str.{bytes_eq}
use Rattle.book_office_values.specs.Paths.{path_text}
use Rattle.book_office_values.specs.declared.paths.Path.{Path}
use Rattle.book_policy_values.specs.declared.parts.PolicyEntry.{PolicyEntry}
use Rattle.book_policy_values.specs.declared.parts.PolicyTables.{PolicyTables}
use Rattle.book_policy_idle.specs.Idle.{AreIdleMarks, NeverDecides, is_marked, placed_in_force}
use Rattle.book_policy_idle.specs.Marks.{AreMarksOf, IsScope}
use Rattle.book_policy_idle.specs.Reasons.{IsAhead, IsBehind, IsBehindAt, IsFirstAhead, IsForNobody, before, order_at, with_entries}
use Rattle.book_policy_idle.specs.declared.in_force.Placed.{Placed}
use Rattle.book_policy_idle.specs.declared.reasons.Ahead.{Ahead}
use Rattle.book_policy_idle.specs.declared.scope.Scope.{Scope}
use Rattle.book_policy_idle.proofs.Clearing.{bool_cases}
use Rattle.book_policy_idle.proofs.Telling.{idle_marks}

pub scope_marks : (t : PolicyTables) (scope : Scope) (es : List PolicyEntry) (marks : List Bool) → IsScope t scope
    → AreMarksOf es scope.askers scope.places marks → AreIdleMarks (with_entries t es) marks
scope_marks t scope es marks is of =
    idle_marks (with_entries t es) marks scope.askers scope.places (record { callers = is.asking.callers; right = is.asking.right }) is.there of

pub marked_idle : (t : PolicyTables) (scope : Scope) (es : List PolicyEntry) (marks : List Bool) (i : ℕ) (b : Bool) → IsScope t scope
    → AreMarksOf es scope.askers scope.places marks → b ≡ is_marked marks i → (b ≡ true) ↔ ((i < length es) × NeverDecides (with_entries t es) i)
marked_idle t scope es marks i b is of same =
    let all = scope_marks t scope es marks is of i in
    ((λ e. all.0 (sym same ∙ e)), (λ m. same ∙ all.1 m))

-- one entry alone, and two
pub alone_tells : (t : PolicyTables) (es : List PolicyEntry) (e : PolicyEntry) (b : Bool) → es ≡ e ∷ []
    → (b ≡ true) ↔ ((0 < length es) × NeverDecides (with_entries t es) 0) → (b ≡ true) ↔ IsForNobody t e
alone_tells t es e b is tells = (
  (λ r. subst (λ (l : List PolicyEntry). NeverDecides (with_entries t l) 0) is (tells.0 r).1),
  (λ n. tells.1 (subst (λ (l : List PolicyEntry). (0 < length l) × NeverDecides (with_entries t l) 0) (sym is) (omega arith, n))),
)

pub both_tell : (t : PolicyTables) (es : List PolicyEntry) (a e : PolicyEntry) (b : Bool) → es ≡ a ∷ e ∷ []
    → (b ≡ true) ↔ ((1 < length es) × NeverDecides (with_entries t es) 1) → (b ≡ true) ↔ IsBehind t e a
both_tell t es a e b is tells = (
  (λ r. subst (λ (l : List PolicyEntry). NeverDecides (with_entries t l) 1) is (tells.0 r).1),
  (λ n. tells.1 (subst (λ (l : List PolicyEntry). (1 < length l) × NeverDecides (with_entries t l) 1) (sym is) (omega arith, n))),
)

-- ---- the entry with an index

pub no_entry : (t : PolicyTables) (e : PolicyEntry) (k : ℕ) → length t.entries ≤ k → IsBehindAt t e k → ⊥
no_entry t e k past behind = let within : k < length t.entries = slice_get_within t.entries k behind.0 behind.1 in omega (arith, past, within)

pub not_this : (t : PolicyTables) (e a : PolicyEntry) (k : ℕ) → slice_get t.entries k ≡ Some a → (IsBehind t e a → ⊥) → IsBehindAt t e k → ⊥
not_this t e a k there miss behind = miss (subst (IsBehind t e) (same_some behind.0 a (sym behind.1 ∙ there)) behind.2)
  where
    same_some : (x y : PolicyEntry) → Some x ≡ Some y → x ≡ y
    same_some x y same = cc

-- ---- the first ahead

abbrev not_behind : PolicyTables → PolicyEntry → Placed → Type 0
not_behind t e x = IsBehindAt t e x.index → ⊥

pub ahead_none : (t : PolicyTables) (e : PolicyEntry) (k : ℕ) (o : Option Ahead) → is_some o ≡ false → IsAhead t e k o → IsBehindAt t e k → ⊥
ahead_none t e k None miss is = is
ahead_none t e k (Some ahead) miss is = absurd (false≢true (sym miss))

pub ahead_more : (t : PolicyTables) (e : PolicyEntry) (list : List Placed) (i : ℕ) (x : Placed) → i < length list → x ≡ get_or list i x
    → All (λ (y : Placed). IsBehindAt t e y.index → ⊥) (take i list) → (IsBehindAt t e x.index → ⊥) → All (λ (y : Placed). IsBehindAt t e y.index → ⊥) (take (i + 1) list)
ahead_more t e list i x below is all none =
    subst (All (not_behind t e)) (sym (take_more list i x below ∙ ap (λ y. take i list ++ y ∷ []) (sym is))) (All-push (not_behind t e) (take i list) x all none)

pub ahead_found : (t : PolicyTables) (e : PolicyEntry) (list : List Placed) (i : ℕ) (x : Placed) (o : Option Ahead) → i < length list → x ≡ get_or list i x
    → All (λ (y : Placed). IsBehindAt t e y.index → ⊥) (take i list) → is_some o ≡ true → IsAhead t e x.index o → IsFirstAhead t e list o
ahead_found t e list i x None below is all found ahead = absurd (false≢true found)
ahead_found t e list i x (Some a) below is all found ahead = record {
  front = take i list;
  one = x;
  back = drop (i + 1) list;
  parts = sym (take-append-drop i list) ∙ ap (λ d. take i list ++ d) (drop_more list i x below ∙ ap (λ y. y ∷ drop (i + 1) list) (sym is));
  behind = ahead;
  first = all;
}

-- ---- those before one

pub apart_eq : (a b : ℕ) → (a ≡ b → ⊥) → nat_eq a b ≡ false
apart_eq a b apart = elim (bool_cases (nat_eq a b)) [ inl same ↦ absurd (apart (eqb-true a b same)) | inr other ↦ other ]

same_tail : (b : Bool) (y : Placed) (r ys s : List Placed) → (if b then [] else y ∷ r) ≡ y ∷ ys → (r ≡ ys → s ≡ ys) → (if b then [] else y ∷ s) ≡ y ∷ ys
same_tail true y r ys s e h = cc
same_tail false y r ys s e h = let same : r ≡ ys = cc in ap (λ l. y ∷ l) (h same)

longer_tail : (b : Bool) (y : Placed) (r ys s zs : List Placed) → (if b then [] else y ∷ r) ≡ y ∷ ys → (r ≡ ys → s ≡ zs) → (if b then [] else y ∷ s) ≡ y ∷ zs
longer_tail true y r ys s zs e h = cc
longer_tail false y r ys s zs e h = let same : r ≡ ys = cc in ap (λ l. y ∷ l) (h same)

pub before-found : (i : ℕ) (xs ys : List Placed) (x : Placed) → before i xs ≡ xs → nat_eq x.index i ≡ true → before i (xs ++ x ∷ ys) ≡ xs
before-found i [] ys x none hit = ap (λ (b : Bool). if b then [] else x ∷ before i ys) hit
before-found i (z ∷ zs) ys x none hit =
    same_tail (nat_eq z.index i) z (before i zs) zs (before i (zs ++ x ∷ ys)) none (λ same. before-found i zs ys x same hit)

pub before-more : (i : ℕ) (xs : List Placed) (x : Placed) → before i xs ≡ xs → nat_eq x.index i ≡ false → before i (xs ++ x ∷ []) ≡ xs ++ x ∷ []
before-more i [] x none miss = ap (λ (b : Bool). if b then [] else x ∷ []) miss
before-more i (z ∷ zs) x none miss =
    longer_tail (nat_eq z.index i) z (before i zs) zs (before i (zs ++ x ∷ [])) (zs ++ x ∷ []) none (λ same. before-more i zs x same miss)

pub before_found : (i : ℕ) (list : List Placed) (k : ℕ) (x : Placed) → k < length list → x ≡ get_or list k x → before i (take k list) ≡ take k list → nat_eq x.index i ≡ true
    → before i list ≡ take k list
before_found i list k x below is none hit =
    ap (before i) (sym (take-append-drop k list) ∙ ap (λ d. take k list ++ d) (drop_more list k x below ∙ ap (λ y. y ∷ drop (k + 1) list) (sym is)))
    ∙ before-found i (take k list) (drop (k + 1) list) x none hit

pub before_more : (i : ℕ) (list : List Placed) (k : ℕ) (x : Placed) → k < length list → x ≡ get_or list k x → before i (take k list) ≡ take k list → nat_eq x.index i ≡ false
    → before i (take (k + 1) list) ≡ take (k + 1) list
before_more i list k x below is none miss =
    let more : take (k + 1) list ≡ take k list ++ x ∷ [] = take_more list k x below ∙ ap (λ y. take k list ++ y ∷ []) (sym is) in
    ap (before i) more ∙ before-more i (take k list) x none miss ∙ sym more

-- ---- the order at a place

pub order_here : (es : List PolicyEntry) (at : List ℕ) (places : List Path) (k : ℕ) (p : Path) → k < length places → p ≡ get_or places k p
    → order_at es at places ≡ order_at es at (drop k places) → bytes_eq (path_text p) at ≡ true → order_at es at places ≡ placed_in_force es p
order_here es at places k p below is so_far hit =
    so_far ∙ ap (order_at es at) (drop_more places k p below ∙ ap (λ q. q ∷ drop (k + 1) places) (sym is))
    ∙ ap (λ (b : Bool). if b then placed_in_force es p else order_at es at (drop (k + 1) places)) hit

pub order_later : (es : List PolicyEntry) (at : List ℕ) (places : List Path) (k : ℕ) (p : Path) → k < length places → p ≡ get_or places k p
    → order_at es at places ≡ order_at es at (drop k places) → bytes_eq (path_text p) at ≡ false → order_at es at places ≡ order_at es at (drop (k + 1) places)
order_later es at places k p below is so_far miss =
    so_far ∙ ap (order_at es at) (drop_more places k p below ∙ ap (λ q. q ∷ drop (k + 1) places) (sym is))
    ∙ ap (λ (b : Bool). if b then placed_in_force es p else order_at es at (drop (k + 1) places)) miss
