-- Whether the row that is shown has version 1.
use Rattle.std.proofs.Common.{◌≡◌, inl, inr, ℕ, ◌+◌, pos, negsuc, true, ◌≤◌, length, drop, List, [], ◌∷◌, map, None, refl, sym, ap, subst, ◌∙◌, true≢false, IsPermutation, arith}
use Rattle.std.specs.List.{AllByRecursion}
use Rattle.std.proofs.lemmas.Bool.{and_parts, eqb-true}
use Rattle.std.proofs.lemmas.List.Sorted.{IsPermutation-sym}
use Rattle.sqlite.specs.declared.types.Value.{Value}
use Rattle.sqlite.specs.declared.types.Value.TheVariants.{Null, Int, Real, Text, Blob}
use Rattle.sqlite.specs.Order.{Row, column}
use Rattle.sqlite.specs.State.{State}
use Rattle.sqlite.proofs.Callers.{one_permutation}
use Rattle.sqlite_catalog.specs.Listing.{IsSound}
use Rattle.sqlite_rules.specs.Lists.{Has}
use Rattle.sqlite_rules.proofs.ListLemmas.{all_has}
use Rattle.sqlite_schema.specs.Rules.{are_typed, has_computed}
use Rattle.sqlite_schema.specs.declared.schema.Column.{Column}
use Rattle.sqlite_schema.specs.declared.schema.Constraint.TheVariants.{Datatype}
use Rattle.sqlite.specs.Effect.{Database}
use Rattle.book_tables_rows.specs.Lists.{ShowsRows}
use Rattle.book_tables_rows.specs.Rows.{rows_of, IsBook}
use Rattle.book_tables_rows.specs.Schema.{book_schema, meta_table, meta_columns}
use Rattle.book_tables_schema.specs.Renewing.{IsFirstMeta}
use Rattle.book_tables_schema.specs.Whole.{meta_shown}
use Rattle.book_tables_renewing.specs.Renewal.{is_one, is_natural, are_first_meta}

one_told : (v : Value) → is_one v ≡ true → v ≡ Int (pos 1)
one_told Null h = absurd (true≢false (sym h))
one_told (Int (pos n)) h = ap (λ n. Int (pos n)) (eqb-true n 1 h)
one_told (Int (negsuc n)) h = absurd (true≢false (sym h))
one_told (Real x) h = absurd (true≢false (sym h))
one_told (Text t) h = absurd (true≢false (sym h))
one_told (Blob b) h = absurd (true≢false (sym h))

natural_told : (v : Value) → is_natural v ≡ true → (n : ℕ) × (v ≡ Int (pos n))
natural_told Null h = absurd (true≢false (sym h))
natural_told (Int (pos n)) h = (n, refl)
natural_told (Int (negsuc n)) h = absurd (true≢false (sym h))
natural_told (Real x) h = absurd (true≢false (sym h))
natural_told (Text t) h = absurd (true≢false (sym h))
natural_told (Blob b) h = absurd (true≢false (sym h))

abbrev shown_of : Row → Row
shown_of row = column row 1 ∷ column row 2 ∷ []

-- a row of `meta` has no more columns
typed_few : (at : ℕ) (cs : List Column) (vs : Row) → are_typed None at cs vs ≡ true → length vs ≤ length cs
typed_few at [] [] h = omega arith
typed_few at [] (v ∷ vs) h = absurd (true≢false (sym h))
typed_few at (c ∷ cs) [] h = omega arith
typed_few at (c ∷ cs) (v ∷ vs) h = let more : length vs ≤ length cs = typed_few (at + 1) cs vs (and_parts _ _ h).1 in omega (arith, more)

whole_row : (r : Row) (n : ℕ) → length (drop 1 r) ≤ 2 → column r 1 ≡ Int (pos 1) → column r 2 ≡ Int (pos n) → r ≡ column r 0 ∷ Int (pos 1) ∷ Int (pos n) ∷ []
whole_row [] n few one is = absurd cc
whole_row (a ∷ []) n few one is = absurd cc
whole_row (a ∷ b ∷ []) n few one is = absurd cc
whole_row (a ∷ b ∷ c ∷ []) n few one is = λ i. a ∷ one i ∷ is i ∷ []
whole_row (a ∷ b ∷ c ∷ d ∷ r) n few one is = absurd (omega (arith, few))

first_of : (meta : List Row) (v w : Value) → AllByRecursion (λ r. length (drop 1 r) ≤ 2) meta → map shown_of meta ≡ (v ∷ w ∷ []) ∷ [] → is_one v ≡ true → is_natural w ≡ true → (epoch : ℕ) × IsFirstMeta meta epoch
first_of [] v w few is one natural = absurd cc
first_of (r ∷ s ∷ more) v w few is one natural = absurd cc
first_of (r ∷ []) v w few is one natural =
    let version : column r 1 ≡ v = cc in
    let last : column r 2 ≡ w = cc in
    let n = natural_told w natural in
    (n.0, (column r 0, ap (λ x. x ∷ []) (whole_row r n.0 few.0 (version ∙ one_told v one) (last ∙ n.1))))

short : (row : Row) (meta : List Row) → map shown_of meta ≡ row ∷ [] → row ≡ column row 0 ∷ column row 1 ∷ []
short row [] is = absurd cc
short row (r ∷ s ∷ more) is = absurd cc
short row (r ∷ []) is = let same : shown_of r ≡ row = cc in subst (λ x. x ≡ column x 0 ∷ column x 1 ∷ []) same refl

all_of : (P : Row → Type 0) (rows : List Row) → ((row : Row) → Has rows row → P row) → AllByRecursion P rows
all_of P [] h = tt
all_of P (r ∷ rows) h = (h r (inl refl), all_of P rows (λ row there. h row (inr there)))

few_columns : (db : Database) → IsBook db → AllByRecursion (λ r. length (drop 1 r) ≤ 2) (rows_of db.trees).meta
few_columns db book =
    let sound : IsSound book_schema db.trees = subst (λ s. IsSound s db.trees) book.schema book.rules in
    all_of _ (db.trees 8) (λ row there. typed_few 0 meta_columns (drop 1 row) (and_parts (are_typed None 0 meta_columns (drop 1 row)) (has_computed meta_table row)
    (all_has _ (db.trees 8) row (sound.obeys.rules Datatype).1.1.1.1.0 there)).0)

module _ (s : State) (shown : List Row) (shows : ShowsRows s meta_shown shown) (book : IsBook s.now) where
  abbrev meta : List Row
  meta = (rows_of s.now.trees).meta

  same : IsPermutation (map shown_of meta) shown
  same = shows.1 book

  pub version_first : are_first_meta shown ≡ true → (epoch : ℕ) × IsFirstMeta meta epoch
  version_first passes = go shown same passes
    where
      go : (shown : List Row) → IsPermutation (map shown_of meta) shown → are_first_meta shown ≡ true → (epoch : ℕ) × IsFirstMeta meta epoch
      go [] all h = absurd (true≢false (sym h))
      go (row ∷ next ∷ rows) all h = absurd (true≢false (sym h))
      go (row ∷ []) all h =
          let is : map shown_of meta ≡ row ∷ [] = one_permutation row (map shown_of meta) (IsPermutation-sym _ _ all) in
          let both = and_parts (is_one (column row 0)) (is_natural (column row 1)) h in
          first_of meta (column row 0) (column row 1) (few_columns s.now book) (is ∙ ap (λ r. r ∷ []) (short row meta is)) both.0 both.1

  pub first_version : (epoch : ℕ) → IsFirstMeta meta epoch → are_first_meta shown ≡ true
  first_version epoch first =
      let one : Row = Int (pos 1) ∷ Int (pos epoch) ∷ [] in
      let is : shown ≡ one ∷ [] = one_permutation one shown (subst (λ m. IsPermutation (map shown_of m) shown) first.1 same) in
      ap are_first_meta is
