-- A key tells the rows of a table apart, as its UNIQUE or its PRIMARY KEY says.
use Rattle.book_tables_rows.proofs.Common.{◌≡◌, ℕ, Bool, true, false, ◌&&◌, List, [], ◌∷◌, refl, sym, true≢false, Ordering, Less, Equal, Greater, is_eq, IsTrue, inl, inr, AllByRecursion, Value, Binary, Row, value_cmp, is_null, rowid, plain, IsAscending, IsTable, is_int, equal, agree, Has, all_has}
use Rattle.sqlite.specs.Ops.{binary}
use Rattle.sqlite_schema.specs.Rules.{differ, clashes}
use Rattle.sqlite_keyed.proofs.ListLemmas.{none_from_any}
use Rattle.book_tables_rows.proofs.Keys.{not_null_if_int, differ_below}

-- ---- a key tells rows apart

module _ (keys : List ℕ) (all : List Row) (unique : (row : Row) → Has all row → clashes plain keys all row ≡ false) where
  distinct : (a b : Row) → Has all a → Has all b → IsTrue (is_int (rowid a)) → IsTrue (is_int (rowid b)) → value_cmp (rowid a) (rowid b) ≡ Less → agree plain keys a keys b ≡ false
  distinct a b in_a in_b int_a int_b less = go (agree plain keys a keys b) refl
    where
      go : (t : Bool) → agree plain keys a keys b ≡ t → t ≡ false
      go false q = refl
      go true q =
          let clash : (agree plain keys a keys b && differ (rowid a) (rowid b)) ≡ false =
          all_has (λ other. (agree plain keys other keys b && differ (rowid other) (rowid b)) ≡ false) all a (none_from_any _ all (unique b in_b)) in_a in
          absurd (true≢false (rw (q, differ_below (rowid a) (rowid b) (not_null_if_int _ int_a) (not_null_if_int _ int_b) less) at clash))

  from : (a : Row) → Has all a → IsTrue (is_int (rowid a)) → (rows : List Row) → ((r : Row) → Has rows r → Has all r) → AllByRecursion (λ r. IsTrue (is_int (rowid r))) rows
      → AllByRecursion (λ r. value_cmp (rowid a) (rowid r) ≡ Less) rows → AllByRecursion (λ r. agree plain keys a keys r ≡ false) rows
  from a in_a int_a [] within ints above = tt
  from a in_a int_a (r ∷ rows) within ints above =
      (distinct a r in_a (within r (inl refl)) int_a ints.0 above.0, from a in_a int_a rows (λ x h. within x (inr h)) ints.1 above.1)

  pub all_distinct : (rows : List Row) → ((r : Row) → Has rows r → Has all r) → IsTable rows → AllByRecursion (λ r. IsTrue (is_int (rowid r))) rows
      → IsAscending (λ a b. agree plain keys a keys b ≡ false) rows
  all_distinct [] within table ints = tt
  all_distinct (r ∷ rows) within table ints =
      (from r (within r (inl refl)) ints.0 rows (λ x h. within x (inr h)) ints.1 table.0, all_distinct rows (λ x h. within x (inr h)) table.1 ints.1)

-- ---- values that tie

pub tied : (o : Ordering) → is_eq o ≡ true → o ≡ Equal
tied Less h = absurd (true≢false (sym h))
tied Equal h = refl
tied Greater h = absurd (true≢false (sym h))

pub equal_tied : (a b : Value) → is_null a ≡ false → is_null b ≡ false → value_cmp a b ≡ Equal → equal Binary a b ≡ true
unfolding binary
equal_tied a b p q e = rw (p, q, e) refl
