-- What is found among the shown rows of all nodes is what is found among the rows.
use Rattle.book_tables_opening.proofs.Common.{◌≡◌, ℕ, ℤ, Bool, true, false, cond, List, [], ◌∷◌, map, find, Option, Some, None, option_map, refl, sym, ap, ◌∙◌, true≢false, arith, Value, Null, Int, Real, Text, Blob, id_in, Row, rowid, Has, Rows, is_at, row_at, found_has, has_text, has_mapped, shown_id, shown_path, node_shown, whole_nodes, is_text_of, is_int_of, first_shown_at, node_numbered, shown_with, number_at}
use Rattle.sqlite.specs.Collation.TheVariants.{Binary}
use Rattle.sqlite.specs.Ops.{binary}
use Rattle.sqlite_schema.specs.Rules.{equal}
use Rattle.sqlite_keyed.proofs.KeyedLemmas.{same_int}
use Rattle.sqlite_value.proofs.OrderLemmas.{value_cmp-apart}
use Rattle.book_tables_rows.specs.Columns.{node_path}

-- ---- tests on a value

-- SQL compares a value with a text as `is_text_of` does
pub equal_text : (t : List ℕ) (v : Value) → equal Binary v (Text t) ≡ is_text_of t v
unfolding binary
equal_text t Null = refl
equal_text t (Int n) = rw (value_cmp-apart (Int n) (Text t) (λ e. omega (arith, e))) refl
equal_text t (Real x) = rw (value_cmp-apart (Real x) (Text t) (λ e. omega (arith, e))) refl
equal_text t (Text u) = has_text 0 (Text u ∷ []) u t refl
equal_text t (Blob b) = rw (value_cmp-apart (Blob b) (Text t) (λ e. omega (arith, e))) refl

-- a value with which `is_int_of` passes is the number
pub is_that_int : (n : ℤ) (v : Value) → is_int_of n v ≡ true → v ≡ Int n
is_that_int n Null h = absurd (true≢false (sym h))
is_that_int n (Int m) h = ap Int (same_int m n h)
is_that_int n (Real x) h = absurd (true≢false (sym h))
is_that_int n (Text t) h = absurd (true≢false (sym h))
is_that_int n (Blob b) h = absurd (true≢false (sym h))

-- ---- what is found

module _ {X Y : Type 0} (f : X → Y) (p : Y → Bool) (q : X → Bool) (agree : (x : X) → p (f x) ≡ q x) where
  -- what is found in a mapped list is what is found before
  pub found_mapped : (xs : List X) → find p (map f xs) ≡ option_map f (find q xs)
  found_mapped [] = refl
  found_mapped (x ∷ xs) = in_head (found_mapped xs) (q x) (agree x)
    where
      in_head : find p (map f xs) ≡ option_map f (find q xs) → (b : Bool) → p (f x) ≡ b → cond (p (f x)) (Some (f x)) (find p (map f xs)) ≡ option_map f (cond b (Some x) (find q xs))
      in_head more true is = ap (λ t. cond t (Some (f x)) (find p (map f xs))) is
      in_head more false is = ap (λ t. cond t (Some (f x)) (find p (map f xs))) is ∙ more

module _ (rows : Rows) where
  -- the shown row at a path is that of the row at the path
  pub shown_at : (t : List ℕ) → first_shown_at (whole_nodes rows) t ≡ option_map node_shown (row_at rows t)
  shown_at t = found_mapped node_shown (λ row. is_text_of t (shown_path row)) (is_at t) (λ row. sym (equal_text t (node_path row))) rows.nodes

  -- the number of the shown row at a path is that of the row at the path
  pub number_shown : (t : List ℕ) → number_at (whole_nodes rows) t ≡ option_map (λ row. id_in (rowid row)) (row_at rows t)
  number_shown t = ap (option_map (λ row. id_in (shown_id row))) (shown_at t) ∙ twice (row_at rows t)
    where
      twice : (r : Option Row) → option_map (λ row. id_in (shown_id row)) (option_map node_shown r) ≡ option_map (λ row. id_in (rowid row)) r
      twice None = refl
      twice (Some row) = refl

  -- a shown row at a path is that of a row there
  pub shown_is_at : (t : List ℕ) (n : Row) → first_shown_at (whole_nodes rows) t ≡ Some n → (row : Row) × (row_at rows t ≡ Some row) × (n ≡ node_shown row)
  shown_is_at t n h = of_row (row_at rows t) refl (sym (shown_at t) ∙ h)
    where
      of_row : (r : Option Row) → row_at rows t ≡ r → option_map node_shown r ≡ Some n → (row : Row) × (row_at rows t ≡ Some row) × (n ≡ node_shown row)
      of_row None at e = absurd cc
      of_row (Some row) at e = (row, at, (let same : node_shown row ≡ n = cc in sym same))

  -- no shown row is at a path where there is no row
  pub none_shown_at : (t : List ℕ) → first_shown_at (whole_nodes rows) t ≡ None → row_at rows t ≡ None
  none_shown_at t h = of_row (row_at rows t) (sym (shown_at t) ∙ h)
    where
      of_row : (r : Option Row) → option_map node_shown r ≡ None → r ≡ None
      of_row None e = refl
      of_row (Some row) e = absurd cc

  numbered_is : (id : ℤ) (n : Row) → node_numbered (whole_nodes rows) id ≡ Some n → (row : Row) × Has rows.nodes row × (n ≡ node_shown row) × (Int id ≡ rowid row)
  numbered_is id n h =
      let found = found_has (λ row. is_int_of id (shown_id row)) (whole_nodes rows) n h in
      let row = has_mapped node_shown rows.nodes n found.0 in
      (row.0, row.1, row.2, sym (is_that_int id (rowid row.0) (sym (ap (λ r. is_int_of id (shown_id r)) row.2) ∙ found.1)))

  -- the shown row whose number is a value is that of a row with this number
  pub node_of_is : (v : Value) (n : Row) → shown_with (whole_nodes rows) v ≡ Some n → (row : Row) × Has rows.nodes row × (n ≡ node_shown row) × (v ≡ rowid row)
  node_of_is Null n h = absurd cc
  node_of_is (Int id) n h = numbered_is id n h
  node_of_is (Real x) n h = absurd cc
  node_of_is (Text t) n h = absurd cc
  node_of_is (Blob b) n h = absurd cc
