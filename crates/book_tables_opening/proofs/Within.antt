-- A number is from 1 to its book's.
use Rattle.book_tables_opening.proofs.Common.{◌≡◌, ℕ, ℤ, pos, ◌≤◌, true, false, List, Some, refl, sym, ap, subst, ◌∙◌, true≢false, arith, Value, Null, Int, Real, Text, Blob, id_in, Row, number_in, node_numbered, Key, IsWithinBook}
use Rattle.std.proofs.Common.{negsuc}
use Rattle.std.specs.Int.Signed.{le_z}
use Rattle.std.proofs.lemmas.Bool.{leb-true, le-leb}
use Rattle.book_tables_opening.specs.Shown.{shown_number}

pub none : {P : Type 0} → false ≡ true → P
none h = absurd (true≢false (sym h))

up_to : (v : Value) (n : ℕ) → 1 ≤ n → le_z (pos n) (id_in v) ≡ true → n ≤ number_in v
up_to Null n one h = leb-true n 0 h
up_to (Int (pos m)) n one h = leb-true n m h
up_to (Int (negsuc m)) n one h = none h
up_to (Real x) n one h = leb-true n 0 h
up_to (Text t) n one h = leb-true n 0 h
up_to (Blob b) n one h = leb-true n 0 h

in_order : (v : Value) (n : ℕ) → 1 ≤ n → n ≤ number_in v → le_z (pos n) (id_in v) ≡ true
in_order Null n one h = le-leb n 0 h
in_order (Int (pos m)) n one h = le-leb n m h
in_order (Int (negsuc m)) n one h = absurd (omega (arith, one, h))
in_order (Real x) n one h = le-leb n 0 h
in_order (Text t) n one h = le-leb n 0 h
in_order (Blob b) n one h = le-leb n 0 h

module _ (nodes : List Row) (key : Key) (book : Row) (there : node_numbered nodes key.0 ≡ Some book) where
  pub is_within : le_z (pos 1) key.1 ≡ true → le_z key.1 (id_in (shown_number book)) ≡ true → IsWithinBook nodes key
  is_within from to = go key.1 refl
    where
      go : (number : ℤ) → key.1 ≡ number → IsWithinBook nodes key
      go (pos n) e =
          let one = leb-true 1 n (ap (le_z (pos 1)) (sym e) ∙ from) in
          record { book = book; there = there; number = n; number_is = e; from_one = one; to_last = up_to (shown_number book) n one (ap (λ k. le_z k (id_in (shown_number book))) (sym e) ∙ to) }
      go (negsuc n) e = none (ap (le_z (pos 1)) (sym e) ∙ from)

  pub goes_up : IsWithinBook nodes key → le_z key.1 (id_in (shown_number book)) ≡ true
  goes_up w =
      let same : book ≡ w.book = let both = sym there ∙ w.there in cc in
      ap (λ k. le_z k (id_in (shown_number book))) w.number_is
      ∙ in_order (shown_number book) w.number w.from_one (subst (λ r. w.number ≤ number_in (shown_number r)) (sym same) w.to_last)
