-- The removed names of books, after one was taken out or added.
use Rattle.book_tables.proofs.Common.{◌≡◌, ◌≢◌, ℕ, ℤ, true, false, cond, ◌&&◌, List, [], ◌∷◌, ◌++◌, find, Option, Some, None, option_map, refl, sym, ap, ◌∙◌, and_parts, false_from_ne_true, find-append, AllByRecursion, option_or, Value, Int, Text, Row, rowid, IsShaped, Has, all_has, delete_where, IsName, Office, book_path, one_text, is_same, same_itself, by_names, gone_book, gone_book_place, gone_name_place, gone_number, Rows, has, number_in, is_gone, int_itself, row_at, removed_from, IsRemoved, Gives}
use mathlib.Core.Bool.{and-false}
use Rattle.sqlite_trees.specs.declared.store.Shape.TheVariants.{Table as TableShape}
use Rattle.book_office_values.specs.declared.paths.Path.TheVariants as path
use Rattle.book_tables_rows.specs.Writes.{gone_row}
use Rattle.book_tables.proofs.Looking.{find-delete_where, find-deleted, has_text, has_int, same_ints}
use Rattle.book_tables.proofs.RowFacts.{apart, or_none, all_from_has, number_of_row, numbers_apart}
use Rattle.book_tables.proofs.LeftRows.{book_name}

module _ (rows : Rows) (o : Office) (gives : Gives rows o) (shaped : IsShaped TableShape rows.nodes)
    (b c : List ℕ) (named : IsName b) (book_row : Row) (at_book : row_at rows (book_path b) ≡ Some book_row) (gone : List Row) where
  abbrev id : Value
  id = rowid book_row

  -- rows of different books have different numbers
  books_apart : (a : List ℕ) (r : Row) → row_at rows (book_path a) ≡ Some r → IsName a → a ≢ b → (v : Value) (x : Row) → v ≡ rowid r → has gone_book_place v x ≡ true → has gone_book_place id x ≡ true → ((y : ℤ) × (gone_book x ≡ Int y)) → ⊥
  books_apart a r found named_a differs v x v_is at_r at_b (y, y_is) =
      let k_r = number_of_row rows gives.nodes shaped (book_path a) r found in
      let k_b = number_of_row rows gives.nodes shaped (book_path b) book_row at_book in
      let is_r : y ≡ k_r.0 = same_ints 1 x y k_r.0 y_is (ap (λ w. has gone_book_place w x) (sym k_r.1 ∙ sym v_is) ∙ at_r) in
      let is_b : y ≡ k_b.0 = same_ints 1 x y k_b.0 y_is (ap (λ w. has gone_book_place w x) (sym k_b.1) ∙ at_b) in
      let one : rowid r ≡ id = k_r.1 ∙ ap Int (sym is_r ∙ is_b) ∙ sym k_b.1 in
      let texts = numbers_apart rows gives.nodes shaped (book_path a) (book_path b) r book_row found at_book one in
      differs (book_name (one_text (path.Book a) (path.Book b) named_a named texts))

  -- ---- a name was taken out

  module _ (all : AllByRecursion (IsRemoved rows) gone) where
    -- a removed name of another book, or another name of this one, is not deleted
    other_book : (a name : List ℕ) (r : Row) → row_at rows (book_path a) ≡ Some r → a ≢ b → IsName a → (x : Row) → Has gone x → is_gone (rowid r) name x ≡ true → is_gone id c x ≡ false
    other_book a name r found differs named_a x in_gone passes =
        let it = all_has (IsRemoved rows) gone x all in_gone in
        let k_x = number_of_row rows gives.nodes shaped (book_path it.book) it.there.0 it.there.1 in
        false_from_ne_true (is_gone id c x) (λ h. books_apart a r found named_a differs (rowid r) x refl (and_parts _ _ passes).0 (and_parts _ _ h).0 (k_x.0, it.there.2 ∙ k_x.1))

    other_name : (name : List ℕ) (v : Value) → name ≢ c → (x : Row) → Has gone x → is_gone v name x ≡ true → is_gone id c x ≡ false
    other_name name v differs x in_gone passes =
        let it = all_has (IsRemoved rows) gone x all in_gone in
        let its : it.name ≡ name = is_same it.name name (sym (has_text 2 x it.name name it.spelled) ∙ (and_parts _ _ passes).1) in
        let fails : has gone_name_place (Text c) x ≡ false = has_text 2 x it.name c it.spelled ∙ apart it.name c (λ is. differs (sym its ∙ is)) in
        ap (λ t. has gone_book_place id x && t) fails ∙ and-false (has gone_book_place id x)

    abbrev pub left : List Row
    left = delete_where (is_gone id c) gone

    pub deleted_elsewhere : (a name : List ℕ) → IsName a → (a ≡ b → name ≢ c) → removed_from left name (row_at rows (book_path a)) ≡ removed_from gone name (row_at rows (book_path a))
    deleted_elsewhere a name named_a other = in_row (row_at rows (book_path a)) refl
      where
        in_row : (found : Option Row) → row_at rows (book_path a) ≡ found → removed_from left name found ≡ removed_from gone name found
        in_row None is = refl
        in_row (Some r) is = ap (option_map (λ row. number_in (gone_number row))) (find-delete_where (is_gone (rowid r) name) (is_gone id c) gone
            (all_from_has _ gone (λ x in_gone passes. by_names a b (λ _. is_gone id c x ≡ false)
            (λ same. other_name name (rowid r) (other same) x in_gone passes)
            (λ differs. other_book a name r is differs named_a x in_gone passes))))

    pub deleted_here : removed_from left c (Some book_row) ≡ None
    deleted_here = ap (option_map (λ row. number_in (gone_number row))) (find-deleted (is_gone id c) (is_gone id c) gone (all_from_has _ gone (λ x there passes. passes)))

  -- ---- a name was added

  module _ (n : ℕ) (v : Value) (v_is : id ≡ v) where
    abbrev new : ℤ → Row
    new i = gone_row i v c n

    abbrev pub grown : ℤ → List Row
    grown i = gone ++ new i ∷ []

    not_new : (i : ℤ) (a name : List ℕ) (r : Row) → row_at rows (book_path a) ≡ Some r → IsName a → (a ≡ b → name ≢ c) → is_gone (rowid r) name (new i) ≡ false
    not_new i a name r found named_a other = false_from_ne_true (is_gone (rowid r) name (new i)) (λ h.
        let k_b = number_of_row rows gives.nodes shaped (book_path b) book_row at_book in
        let its : c ≡ name = is_same c name (sym (has_text 2 (new i) c name refl) ∙ (and_parts _ _ h).1) in
        let own : has gone_book_place id (new i) ≡ true = ap (λ w. has gone_book_place w (new i)) k_b.1 ∙ has_int 1 (new i) k_b.0 k_b.0 (sym v_is ∙ k_b.1) ∙ int_itself k_b.0 in
        by_names a b (λ _. ⊥)
        (λ same. other same (sym its))
        (λ differs. books_apart a r found named_a differs (rowid r) (new i) refl (and_parts _ _ h).0 own (k_b.0, sym v_is ∙ k_b.1)))

    pub added_elsewhere : (i : ℤ) (a name : List ℕ) → IsName a → (a ≡ b → name ≢ c) → removed_from (grown i) name (row_at rows (book_path a)) ≡ removed_from gone name (row_at rows (book_path a))
    added_elsewhere i a name named_a other = in_row (row_at rows (book_path a)) refl
      where
        in_row : (found : Option Row) → row_at rows (book_path a) ≡ found → removed_from (grown i) name found ≡ removed_from gone name found
        in_row None is = refl
        in_row (Some r) is = ap (option_map (λ row. number_in (gone_number row)))
            (find-append (is_gone (rowid r) name) gone (new i ∷ [])
            ∙ ap (λ t. option_or (find (is_gone (rowid r) name) gone) (cond t (Some (new i)) None)) (not_new i a name r is named_a other)
            ∙ or_none (find (is_gone (rowid r) name) gone))

    pub added_here : (i : ℤ) → find (is_gone id c) gone ≡ None → removed_from (grown i) c (Some book_row) ≡ Some n
    added_here i none =
        let k_b = number_of_row rows gives.nodes shaped (book_path b) book_row at_book in
        let own : has gone_book_place id (new i) ≡ true = ap (λ w. has gone_book_place w (new i)) k_b.1 ∙ has_int 1 (new i) k_b.0 k_b.0 (sym v_is ∙ k_b.1) ∙ int_itself k_b.0 in
        let its : is_gone id c (new i) ≡ true = (λ j. own j && has gone_name_place (Text c) (new i)) ∙ has_text 2 (new i) c c refl ∙ same_itself c in
        ap (option_map (λ row. number_in (gone_number row)))
        (find-append (is_gone id c) gone (new i ∷ [])
        ∙ ap (λ r. option_or r (cond (is_gone id c (new i)) (Some (new i)) None)) none
        ∙ ap (λ t. cond t (Some (new i)) None) its)

    pub added_row : (i : ℤ) → IsRemoved rows (new i)
    added_row i = record { book = b; named = named; there = (book_row, at_book, sym v_is); name = c; spelled = refl; number = refl }
