-- The places of rows by their paths and by their numbers, as loops from the last row find them.
use Rattle.book_tables_opening.proofs.Common.{◌≡◌, ℕ, ℤ, zero, suc, ◌<◌, Bool, true, false, cond, List, [], ◌∷◌, find, length, drop, get_or, slice_get, Option, Some, None, option_and_then, Ordering, is_eq, int_eq, refl, sym, ap, ◌∙◌, true≢false, arith, Value, Null, Int, Real, Text, Blob, Row, same, is_same, text_in, is_text_of, is_int_of, first_shown_at, node_numbered, shown_id, shown_path}
use Rattle.std.proofs.Common.{Less, Equal, Greater, nat_cmp}
use Rattle.std.specs.BTreeMap.{insert_entry}
use Rattle.std.specs.Cmp.Lexicographic.{slice_cmp, nat_list_cmp_total}
use Rattle.std.specs.Map.{lookup}
use Rattle.std.specs.Ordering.{match_ordering}
use Rattle.std.proofs.lemmas.Cmp.{eq_by_cmp_equiv}

-- ---- an element of a list by its place

module _ {X : Type 0} where
  drop_here : (xs : List X) (i : ℕ) (x : X) → i < length xs → get_or xs i x ≡ x → drop i xs ≡ x ∷ drop (suc i) xs
  drop_here [] i x below is = absurd (omega (arith, below))
  drop_here (y ∷ xs) zero x below is = ap (λ z. z ∷ xs) is
  drop_here (y ∷ xs) (suc i) x below is = drop_here xs i x (omega (arith, below)) is

  get_here : (xs : List X) (i : ℕ) (x : X) → i < length xs → get_or xs i x ≡ x → slice_get xs i ≡ Some x
  get_here [] i x below is = absurd (omega (arith, below))
  get_here (y ∷ xs) zero x below is = ap Some is
  get_here (y ∷ xs) (suc i) x below is = get_here xs i x (omega (arith, below)) is

-- ---- a map whose keys have texts

same_twice : (t a b : List ℕ) → same a b ≡ true → same t b ≡ same t a
same_twice t a b h = ap (same t) (sym (is_same a b h))

not_both : (t a b : List ℕ) → same a b ≡ false → same t a ≡ true → same t b ≡ false
not_both t a b apart is = ap (λ u. same u b) (is_same t a is) ∙ apart

exchanged : {Y : Type 0} (x y z : Y) (a b : Bool) → (a ≡ true → b ≡ false) → cond b y (cond a x z) ≡ cond a x (cond b y z)
exchanged x y z true true apart = absurd (true≢false (apart refl))
exchanged x y z true false apart = refl
exchanged x y z false b apart = refl

module _ {K : Type 0} (text : K → List ℕ) where
  abbrev by_text : K → K → Ordering
  by_text a b = slice_cmp nat_cmp (text a) (text b)

  abbrev pub found : {X : Type 0} → List ℕ → List (K × X) → Option X
  found t es = lookup (λ k. same t (text k)) es

  -- what is found after an entry was written
  pub found_inserted : {X : Type 0} (es : List (K × X)) (k : K) (v : X) (t : List ℕ) → found t (insert_entry by_text es k v) ≡ cond (same t (text k)) (Some v) (found t es)
  found_inserted [] k v t = refl
  found_inserted (e ∷ es) k v t = go (slice_cmp nat_cmp (text k) (text e.0)) refl (found_inserted es k v t)
    where
      go : (o : Ordering) → slice_cmp nat_cmp (text k) (text e.0) ≡ o → found t (insert_entry by_text es k v) ≡ cond (same t (text k)) (Some v) (found t es)
          → found t (match_ordering o ((k, v) ∷ e ∷ es) ((e.0, v) ∷ es) (e ∷ insert_entry by_text es k v)) ≡ cond (same t (text k)) (Some v) (cond (same t (text e.0)) (Some e.1) (found t es))
      go Less o more = refl
      go Equal o more =
          let tie = same_twice t (text k) (text e.0) (ap is_eq o) in
          ap (λ b. cond b (Some v) (found t es)) tie ∙ (elim (same t (text k)) as (λ b. cond b (Some v) (found t es) ≡ cond b (Some v) (cond b (Some e.1) (found t es))) [ true ↦ refl | false ↦ refl ])
          ∙ ap (λ b. cond (same t (text k)) (Some v) (cond b (Some e.1) (found t es))) (sym tie)
      go Greater o more = ap (λ rest. cond (same t (text e.0)) (Some e.1) rest) more ∙ exchanged (Some v) (Some e.1) (found t es) (same t (text k)) (same t (text e.0)) (not_both t (text k) (text e.0) (ap is_eq o))

-- ---- one more row is placed

turned : (a b : List ℕ) → same a b ≡ same b a
turned a b = (eq_by_cmp_equiv nat_list_cmp_total).symm a b

no_text : (v : Value) → text_in v ≡ None → (t : List ℕ) → is_text_of t v ≡ false
no_text Null h t = refl
no_text (Int n) h t = refl
no_text (Real x) h t = refl
no_text (Text u) h t = absurd (cc)
no_text (Blob b) h t = refl

some_text : (v : Value) (u : List ℕ) → text_in v ≡ Some u → (t : List ℕ) → is_text_of t v ≡ same u t
some_text Null u h t = absurd (cc)
some_text (Int n) u h t = absurd (cc)
some_text (Real x) u h t = absurd (cc)
some_text (Text w) u h t = let is : w ≡ u = cc in ap (λ s. same s t) is
some_text (Blob b) u h t = absurd (cc)

module _ (rows : List Row) (i : ℕ) (row : Row) (below : i < length rows) (is : get_or rows i row ≡ row) where
  abbrev pub row_in : Option ℕ → Option Row
  row_in place = option_and_then (λ j. slice_get rows j) place

  placed : (p : Row → Bool) (before after : Option ℕ) → after ≡ cond (p row) (Some i) before → row_in before ≡ find p (drop (suc i) rows) → row_in after ≡ find p (drop i rows)
  placed p before after written more =
      ap row_in written ∙ go (p row) ∙ sym (ap (find p) (drop_here rows i row below is))
    where
      go : (b : Bool) → row_in (cond b (Some i) before) ≡ cond b (Some row) (find p (drop (suc i) rows))
      go true = get_here rows i row below is
      go false = more

  -- with its path
  pub path_placed : (u : List ℕ) → text_in (shown_path row) ≡ Some u → (t : List ℕ) (before after : Option ℕ) → after ≡ cond (same t u) (Some i) before
      → row_in before ≡ first_shown_at (drop (suc i) rows) t → row_in after ≡ first_shown_at (drop i rows) t
  path_placed u has t before after written =
      placed (λ r. is_text_of t (shown_path r)) before after (written ∙ ap (λ b. cond b (Some i) before) (turned t u ∙ sym (some_text (shown_path row) u has t)))

  -- without one
  pub path_passed : text_in (shown_path row) ≡ None → (t : List ℕ) (before : Option ℕ) → row_in before ≡ first_shown_at (drop (suc i) rows) t → row_in before ≡ first_shown_at (drop i rows) t
  path_passed has t before =
      placed (λ r. is_text_of t (shown_path r)) before before (sym (ap (λ b. cond b (Some i) before) (no_text (shown_path row) has t)))

  -- with its number
  pub number_placed : (n : ℤ) → shown_id row ≡ Int n → (id : ℤ) (before after : Option ℕ) → after ≡ cond (int_eq n id) (Some i) before
      → row_in before ≡ node_numbered (drop (suc i) rows) id → row_in after ≡ node_numbered (drop i rows) id
  number_placed n has id before after written =
      placed (λ r. is_int_of id (shown_id r)) before after (written ∙ ap (λ b. cond b (Some i) before) (sym (ap (is_int_of id) has)))

  -- without one
  pub number_passed : ((n : ℤ) → shown_id row ≡ Int n → ⊥) → (id : ℤ) (before : Option ℕ) → row_in before ≡ node_numbered (drop (suc i) rows) id → row_in before ≡ node_numbered (drop i rows) id
  number_passed none id before =
      placed (λ r. is_int_of id (shown_id r)) before before (sym (ap (λ b. cond b (Some i) before) (no_int (shown_id row) none id)))
    where
      no_int : (v : Value) → ((n : ℤ) → v ≡ Int n → ⊥) → (id : ℤ) → is_int_of id v ≡ false
      no_int Null h id = refl
      no_int (Int n) h id = absurd (h n refl)
      no_int (Real x) h id = refl
      no_int (Text u) h id = refl
      no_int (Blob b) h id = refl
