-- No two rows of `node` have one path, as its UNIQUE says.
use Rattle.book_tables_rows.proofs.Common.{◌≡◌, ℕ, Bool, true, false, ◌&&◌, List, [], ◌∷◌, refl, sym, true≢false, Less, IsTrue, inl, inr, AllByRecursion, Value, Null, Int, Real, Text, Blob, Row, value_cmp, plain, first_key-plain, is_null, Trees, IsTable, is_int, IsShaped, agree, Has, all_has, agree_back, agree_chain, keys_are_unique, book_schema, is_at}
use Rattle.sqlite.specs.Ops.{binary}
use Rattle.sqlite_trees.specs.Tree.{rowid}
use Rattle.sqlite_trees.specs.declared.store.Shape.TheVariants.{Table}
use Rattle.sqlite_schema.specs.Rules.{differ, clashes}
use Rattle.sqlite_keyed.proofs.ListLemmas.{none_from_any}
use Rattle.sqlite_catalog.specs.Listing.{IsSound}
use Rattle.book_tables_rows.proofs.Once.{PassesOnce}

pub not_null_if_int : (v : Value) → IsTrue (is_int v) → is_null v ≡ false
not_null_if_int Null h = absurd (true≢false (sym h))
not_null_if_int (Int n) h = refl
not_null_if_int (Real x) h = refl
not_null_if_int (Text t) h = refl
not_null_if_int (Blob b) h = refl

pub differ_below : (a b : Value) → is_null a ≡ false → is_null b ≡ false → value_cmp a b ≡ Less → differ a b ≡ true
unfolding binary
differ_below a b p q less = rw (p, q, less) refl

-- both rows have the path, so they agree on it
agree_both : (path : List ℕ) (a b : Row) → is_at path a ≡ true → is_at path b ≡ true → agree plain (2 ∷ []) a (2 ∷ []) b ≡ true
agree_both path a b p q =
    let key : Row = Text path ∷ [] in
    let first : agree plain (2 ∷ []) a (0 ∷ []) key ≡ true = rw (first_key-plain, p) refl in
    let second : agree plain (2 ∷ []) b (0 ∷ []) key ≡ true = rw (first_key-plain, q) refl in
    agree_chain plain (2 ∷ []) (0 ∷ []) (2 ∷ []) a key b first (agree_back plain (2 ∷ []) (0 ∷ []) b key second)

module _ (path : List ℕ) (all : List Row) (unique : (row : Row) → Has all row → clashes plain (2 ∷ []) all row ≡ false) where
  apart : (a b : Row) → Has all a → Has all b → IsTrue (is_int (rowid a)) → IsTrue (is_int (rowid b)) → value_cmp (rowid a) (rowid b) ≡ Less → is_at path a ≡ true → is_at path b ≡ false
  apart a b in_a in_b int_a int_b less p = go (is_at path b) refl
    where
      go : (t : Bool) → is_at path b ≡ t → t ≡ false
      go false q = refl
      go true q =
          let clash : (agree plain (2 ∷ []) a (2 ∷ []) b && differ (rowid a) (rowid b)) ≡ false =
          all_has (λ other. (agree plain (2 ∷ []) other (2 ∷ []) b && differ (rowid other) (rowid b)) ≡ false) all a (none_from_any _ all (unique b in_b)) in_a in
          absurd (true≢false (rw (agree_both path a b p q, differ_below (rowid a) (rowid b) (not_null_if_int _ int_a) (not_null_if_int _ int_b) less) at clash))

  later : (a : Row) → Has all a → IsTrue (is_int (rowid a)) → (rows : List Row) → ((r : Row) → Has rows r → Has all r) → AllByRecursion (λ r. IsTrue (is_int (rowid r))) rows
      → AllByRecursion (λ r. value_cmp (rowid a) (rowid r) ≡ Less) rows → AllByRecursion (λ r. is_at path a ≡ true → is_at path r ≡ false) rows
  later a in_a int_a [] within ints above = tt
  later a in_a int_a (r ∷ rows) within ints above =
      (apart a r in_a (within r (inl refl)) int_a ints.0 above.0, later a in_a int_a rows (λ x h. within x (inr h)) ints.1 above.1)

  once_in : (rows : List Row) → ((r : Row) → Has rows r → Has all r) → IsTable rows → AllByRecursion (λ r. IsTrue (is_int (rowid r))) rows → PassesOnce (is_at path) rows
  once_in [] within table ints = tt
  once_in (r ∷ rows) within table ints =
      (later r (within r (inl refl)) ints.0 rows (λ x h. within x (inr h)) ints.1 table.0, once_in rows (λ x h. within x (inr h)) table.1 ints.1)

pub path_once : (path : List ℕ) (db : Trees) → IsSound book_schema db → IsShaped Table (db 0) → PassesOnce (is_at path) (db 0)
path_once path db sound shaped =
    once_in path (db 0) (λ row there. keys_are_unique book_schema db _ 0 (2 ∷ []) row sound (inl refl) refl there) (db 0) (λ r h. h) shaped.0 shaped.1
