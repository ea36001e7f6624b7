-- A reply is counted at the place of its method and its status, and a denial at that of its privilege.
use Rattle.std.proofs.Common.{◌≡◌, ℕ, suc, ◌+◌, ◌*◌, ◌<◌, ◌≤◌, Bool, true, false, ◌==◌, ◌&&◌, cond, List, [], ◌∷◌, length, get_or, set, Option, Some, None, arith, refl, sym, ap, ◌∙◌, subst}
use Rattle.std.proofs.Math.ListN.{length-set}
use Rattle.std.proofs.lemmas.List.{get_or-set_same, get_or-set_other}
use Rattle.std.proofs.lemmas.Bool.{eq-eqb, eqb-true, eqb-false}
use Rattle.book_rights.specs.declared.methods.Method.{Method}
use Rattle.book_rights.specs.declared.privileges.Privilege.{Privilege}
use Rattle.book_desk_metrics.specs.Counting.{IsColumn, IsZero, cell, counted, counted_at, counted_for, denials_of, has_status, is_denial_of, is_denied, is_of, method_place, one_more, place_in, privilege_place, replies_to, status_place, statuses}
use Rattle.book_desk_metrics.specs.Timing.{more_if}
use Rattle.book_desk_metrics.specs.declared.counts.Counts.{Counts}
use Rattle.book_desk_metrics.specs.declared.counts.Told.{Told}
use Rattle.book_desk_metrics.proofs.Places.{method_place_below, place_in_below, privilege_place_below, status_place_below, statuses_length}

-- the counter at a place gains one where that is the place that is counted at
at_place_by : (b : Bool) (xs : List ℕ) (i j : ℕ) → (i == j) ≡ b → i < length xs → get_or (counted_at xs i) j 0 ≡ more_if b (get_or xs j 0)
at_place_by true xs i j e below =
    subst (λ k. get_or (counted_at xs i) k 0 ≡ one_more (get_or xs k 0)) (eqb-true i j e) (get_or-set_same xs i (one_more (get_or xs i 0)) 0 below)
at_place_by false xs i j e below = get_or-set_other xs i j (one_more (get_or xs i 0)) 0 (λ same. eqb-false i j e (sym same))

at_place : (xs : List ℕ) (i j : ℕ) → i < length xs → get_or (counted_at xs i) j 0 ≡ more_if (i == j) (get_or xs j 0)
at_place xs i j below = at_place_by (i == j) xs i j refl below

-- two numbers at one place of a list are equal
in_place_by : (a b : Bool) (x y z m n len : ℕ) → (x == z) ≡ a → (y == z) ≡ b → (n < len → m ≡ n → x ≡ y)
    → cond b 0 (n + 1) < suc len → cond a 0 (m + 1) ≡ cond b 0 (n + 1) → x ≡ y
in_place_by true true x y z m n len e f more below same = eqb-true x z e ∙ sym (eqb-true y z f)
in_place_by true false x y z m n len e f more below same = absurd (omega arith)
in_place_by false true x y z m n len e f more below same = absurd (omega arith)
in_place_by false false x y z m n len e f more below same = more (omega arith) (omega arith)

in_place : (x y : ℕ) (xs : List ℕ) → place_in y xs < length xs → place_in x xs ≡ place_in y xs → x ≡ y
in_place x y [] below same = absurd (omega arith)
in_place x y (z ∷ zs) below same =
    in_place_by (x == z) (y == z) x y z (place_in x zs) (place_in y zs) (length zs) refl refl (in_place x y zs) below same

same_answer : (a b : Bool) → (a ≡ true → b ≡ true) → (b ≡ true → a ≡ true) → a ≡ b
same_answer true b f g = sym (f refl)
same_answer false true f g = g refl
same_answer false false f g = refl

both : (a b : Bool) → a ≡ true → b ≡ true → (a && b) ≡ true
both true b e f = f
both false b e f = e

first_of_both : (a b : Bool) → (a && b) ≡ true → a ≡ true
first_of_both true b e = refl
first_of_both false b e = e

second_of_both : (a b : Bool) → (a && b) ≡ true → b ≡ true
second_of_both true b e = e
second_of_both false b e = absurd (cc)

-- a status is another than this one where its place is
has_place : (s : Option ℕ) → IsColumn s → (status : ℕ) → has_status s status ≡ (status_place (Some status) == status_place s)
has_place None column status = refl
has_place (Some t) column status =
    let apart : place_in t statuses ≡ 16 → ⊥ = λ e. let none : Some t ≡ None = column e in cc in
    let below : place_in t statuses < length statuses =
    let most = place_in_below t statuses in let sixteen = statuses_length in omega (arith, apart) in
    same_answer (status == t) (place_in status statuses == place_in t statuses)
    (λ e. eq-eqb (place_in status statuses) (place_in t statuses) (ap (λ x. place_in x statuses) (eqb-true status t e)))
    (λ e. eq-eqb status t (in_place status t statuses below (eqb-true (place_in status statuses) (place_in t statuses) e)))

cell_is : (a b c d : ℕ) → b ≤ 16 → d ≤ 16 → ((a == c) && (b == d)) ≡ ((17 * a + b) == (17 * c + d))
cell_is a b c d below below_too =
    same_answer ((a == c) && (b == d)) ((17 * a + b) == (17 * c + d))
    (λ e.
    let same : a ≡ c = eqb-true a c (first_of_both (a == c) (b == d) e) in
    let same_too : b ≡ d = eqb-true b d (second_of_both (a == c) (b == d) e) in
    eq-eqb (17 * a + b) (17 * c + d) (omega arith))
    (λ e.
    let same : 17 * a + b ≡ 17 * c + d = eqb-true (17 * a + b) (17 * c + d) e in
    both (a == c) (b == d) (eq-eqb a c (omega arith)) (eq-eqb b d (omega arith)))

-- a reply is counted at the place of a method and a status where it is of these
of_cell : (m : Option Method) (s : Option ℕ) → IsColumn s → (told : Told) → is_of m s told ≡ (cell told.method (Some told.status) == cell m s)
of_cell m s column told =
    ap (λ b. (method_place told.method == method_place m) && b) (has_place s column told.status)
    ∙ cell_is (method_place told.method) (status_place (Some told.status)) (method_place m) (status_place s)
    (status_place_below (Some told.status)) (status_place_below s)

pub cell_below : (m : Option Method) (s : Option ℕ) → cell m s < 221
cell_below m s = omega (arith, method_place_below m, status_place_below s)

-- all places are there
pub record Room (c : Counts) : Type 0 where
  pub replies : length c.replies ≡ 221
  pub denials : length c.denials ≡ 12

for_length : (xs : List ℕ) (p : Option Privilege) → length (counted_for xs p) ≡ length xs
for_length xs None = refl
for_length xs (Some p) = length-set xs (privilege_place p) (one_more (get_or xs (privilege_place p) 0))

pub keeps_room : (c : Counts) (told : Told) → Room c → Room (counted c told)
keeps_room c told room =
    let place = cell told.method (Some told.status) in
    record {
      replies = length-set c.replies place (one_more (get_or c.replies place 0)) ∙ room.replies;
      denials = for_length c.denials told.denied ∙ room.denials;
    }

pub counts_reply : (m : Option Method) (s : Option ℕ) → IsColumn s → (c : Counts) (told : Told) → Room c
    → replies_to (counted c told) m s ≡ more_if (is_of m s told) (replies_to c m s)
counts_reply m s column c told room =
    let place = cell told.method (Some told.status) in
    let below : place < length c.replies = omega (arith, cell_below told.method (Some told.status), room.replies) in
    at_place c.replies place (cell m s) below ∙ ap (λ b. more_if b (replies_to c m s)) (sym (of_cell m s column told))

for_place : (xs : List ℕ) (p : Privilege) (q : Option Privilege) → length xs ≡ 12
    → get_or (counted_for xs q) (privilege_place p) 0 ≡ more_if (is_denied p q) (get_or xs (privilege_place p) 0)
for_place xs p None room = refl
for_place xs p (Some q) room = at_place xs (privilege_place q) (privilege_place p) (omega (arith, privilege_place_below q))

pub counts_denial : (p : Privilege) (c : Counts) (told : Told) → Room c
    → denials_of (counted c told) p ≡ more_if (is_denial_of p told) (denials_of c p)
counts_denial p c told room = for_place c.denials p told.denied room.denials

pub has_room : (c : Counts) → IsZero c → Room c
has_room c zero = record { replies = zero.room; denials = zero.denied_room }
