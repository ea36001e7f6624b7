-- The first and the last of times.
use Rattle.book_log_denials.proofs.Common.{◌≡◌, ℕ, List, [], ◌∷◌, ◌++◌, length, Bool, true, false, refl, sym, ap, ◌∙◌, subst, Some, None, nat_list_cmp_total, names_apart, Tally}
use Rattle.std.proofs.Common.{if◌then◌else◌}
use Rattle.std.specs.declared.cmp.Ordering.{Ordering}
use Rattle.std.specs.declared.cmp.Ordering.TheVariants.{Less, Equal, Greater}
use Rattle.std.specs.List.{All}
use Rattle.std.specs.Ordering.{is_lt, ordering_reverse}
use Rattle.std.proofs.lemmas.List.Elements.{All-cons, All-head, All-tail, All-nil}
use Rattle.book_log_lines.specs.Times.{time_cmp}
use Rattle.book_log_denials.specs.Laws.{EmptyGroupsAreUntold, IsAmong, IsFirst, IsLast, TalliesTellFirstAndLast, Tells}
use Rattle.book_log_denials.specs.Tallies.{counted, earliest, latest, tally_of}

-- ---- the order of times
abbrev before : List ℕ → List ℕ → Bool
before t u = is_lt (time_cmp t u)

less : (r : Ordering) → is_lt r ≡ true → r ≡ Less
less Less e = refl
less Equal e = absurd cc
less Greater e = absurd cc

before_through : (t u v : List ℕ) → before t u ≡ true → before u v ≡ true → before t v ≡ true
before_through t u v p q =
    ap is_lt (nat_list_cmp_total.trans t u v (less (time_cmp t u) p) (less (time_cmp u v) q))

-- what is before what is not after something is before it
before_up_to : (t u v : List ℕ) → before t u ≡ true → before v u ≡ false → before t v ≡ true
before_up_to t u v p q = by_order (time_cmp u v) refl
  where
    by_order : (r : Ordering) → time_cmp u v ≡ r → before t v ≡ true
    by_order Less e = before_through t u v p (ap is_lt e)
    by_order Equal e = subst (λ x. before t x ≡ true) (names_apart u v e) p
    by_order Greater e =
        let back : before v u ≡ true = ap is_lt (nat_list_cmp_total.antisymm v u ∙ ap ordering_reverse e) in absurd cc

-- what is not after something is before what that is before
before_from : (t u v : List ℕ) → before u t ≡ false → before u v ≡ true → before t v ≡ true
before_from t u v p q = by_order (time_cmp t u) refl
  where
    by_order : (r : Ordering) → time_cmp t u ≡ r → before t v ≡ true
    by_order Less e = before_through t u v (ap is_lt e) q
    by_order Equal e = subst (λ x. before x v ≡ true) (sym (names_apart t u e)) q
    by_order Greater e =
        let back : before u t ≡ true = ap is_lt (nat_list_cmp_total.antisymm u t ∙ ap ordering_reverse e) in absurd cc

never_itself : (t : List ℕ) → before t t ≡ false
never_itself t = by_order (time_cmp t t) refl
  where
    by_order : (r : Ordering) → time_cmp t t ≡ r → is_lt r ≡ false
    by_order Less e = let twice : Less ≡ Greater = sym e ∙ nat_list_cmp_total.antisymm t t ∙ ap ordering_reverse e in absurd cc
    by_order Equal e = refl
    by_order Greater e = refl

-- a truth value of which the contrary is absurd
not_true : (b : Bool) → (b ≡ true → ⊥) → b ≡ false
not_true true h = absurd (h refl)
not_true false h = refl

clash : {P : Type 0} (b : Bool) → b ≡ true → b ≡ false → P
clash b p q = let e : true ≡ false = sym p ∙ q in absurd cc

-- ---- among times
among_more : (t x : List ℕ) (ts : List (List ℕ)) → IsAmong t ts → IsAmong t (x ∷ ts)
among_more t x ts h = (x ∷ h.0, h.1, ap (λ r. x ∷ r) h.2)

-- what is among a time and others is among these and one more in between
among_between : (t x u : List ℕ) (ts : List (List ℕ)) → IsAmong t (x ∷ ts) → IsAmong t (x ∷ u ∷ ts)
among_between t x u ts ([], back, e) = let same : x ≡ t = cc in ([], u ∷ ts, λ i. same i ∷ u ∷ ts)
among_between t x u ts (y ∷ front, back, e) =
    let same : x ≡ y = cc in
    let rest : ts ≡ front ++ t ∷ back = cc in (y ∷ u ∷ front, back, λ i. same i ∷ u ∷ rest i)

-- ---- the first
abbrev NoneBefore : List ℕ → List (List ℕ) → Type 0
NoneBefore t ts = All (λ (u : List ℕ). before u t ≡ false) ts

first_step : (t u : List ℕ) (us : List (List ℕ)) (b : Bool) → before u t ≡ b → IsFirst (earliest u us) (u ∷ us) → IsFirst (earliest t us) (t ∷ us)
    → IsFirst (earliest (if b then u else t) us) (t ∷ u ∷ us)
first_step t u us true sooner h k =
    let e = earliest u us in
    let P : List ℕ → Type 0 = λ v. before v e ≡ false in
    let head = All-head P u us h.none_before in
    record {
      among = among_more e t (u ∷ us) h.among;
      none_before = All-cons P t (u ∷ us) (not_true (before t e) (λ p. clash (before u e) (before_through u t e sooner p) head)) h.none_before;
    }
first_step t u us false no_sooner h k =
    let e = earliest t us in
    let P : List ℕ → Type 0 = λ v. before v e ≡ false in
    let head = All-head P t us k.none_before in
    let tail = All-tail P t us k.none_before in
    record {
      among = among_between e t u us k.among;
      none_before = All-cons P t (u ∷ us) head (All-cons P u us (not_true (before u e) (λ p. clash (before u t) (before_up_to u e t p head) no_sooner)) tail);
    }

first_is : (t : List ℕ) (ts : List (List ℕ)) → IsFirst (earliest t ts) (t ∷ ts)
first_is t [] = record {
  among = ([], [], refl);
  none_before = All-cons (λ (u : List ℕ). before u t ≡ false) t [] (never_itself t) (All-nil (λ (u : List ℕ). before u t ≡ false));
}
first_is t (u ∷ us) = first_step t u us (before u t) refl (first_is u us) (first_is t us)

-- ---- the last
last_step : (t u : List ℕ) (us : List (List ℕ)) (b : Bool) → before t u ≡ b → IsLast (latest u us) (u ∷ us) → IsLast (latest t us) (t ∷ us)
    → IsLast (latest (if b then u else t) us) (t ∷ u ∷ us)
last_step t u us true behind h k =
    let e = latest u us in
    let P : List ℕ → Type 0 = λ v. before e v ≡ false in
    let head = All-head P u us h.none_after in
    record {
      among = among_more e t (u ∷ us) h.among;
      none_after = All-cons P t (u ∷ us) (not_true (before e t) (λ p. clash (before e u) (before_through e t u p behind) head)) h.none_after;
    }
last_step t u us false not_behind h k =
    let e = latest t us in
    let P : List ℕ → Type 0 = λ v. before e v ≡ false in
    let head = All-head P t us k.none_after in
    let tail = All-tail P t us k.none_after in
    record {
      among = among_between e t u us k.among;
      none_after = All-cons P t (u ∷ us) head (All-cons P u us (not_true (before e u) (λ p. clash (before t u) (before_from t e u head p) not_behind)) tail);
    }

last_is : (t : List ℕ) (ts : List (List ℕ)) → IsLast (latest t ts) (t ∷ ts)
last_is t [] = record {
  among = ([], [], refl);
  none_after = All-cons (λ (u : List ℕ). before t u ≡ false) t [] (never_itself t) (All-nil (λ (u : List ℕ). before t u ≡ false));
}
last_is t (u ∷ us) = last_step t u us (before t u) refl (last_is u us) (last_is t us)

-- ---- what is told
pub tallies_tell : TalliesTellFirstAndLast
tallies_tell [] tally e = absurd cc
tallies_tell (t ∷ ts) tally e =
    let same : record { count = counted (length (t ∷ ts)); first = earliest t ts; last = latest t ts } ≡ tally = cc in
    subst (λ y. Tells y (t ∷ ts)) same (record { count = refl; first = first_is t ts; last = last_is t ts })

pub untold : EmptyGroupsAreUntold
untold [] = (λ _. refl, λ _. refl)
untold (t ∷ ts) = (λ e. absurd cc, λ e. absurd cc)
