-- The shown row that a number finds, and facts of shown rows.
use Rattle.book_tables_opening.proofs.Common.{◌≡◌, ◌≢◌, ◌⊎◌, inl, inr, ℕ, ℤ, Bool, true, false, cond, List, [], ◌∷◌, map, find, Some, None, option_map, refl, sym, ap, ◌∙◌, true≢false, AllByRecursion, Value, Int, id_in, Database, Row, column, rowid, Has, by_option, some_apart, has, IsBook, int_itself, found_has, has_int, same_rowid, is_int_of, shown_with, shown_id, node_shown}
use Rattle.book_tables_opening.proofs.ShownNodes.{found_mapped, is_that_int}
use Rattle.book_tables_opening.proofs.RowForms.{rows, nodes, table_nodes, number_of_node}

-- what holds of what is shown of each row holds of all that is shown
pub mapped_all : {X Y : Type 0} (f : X → Y) (P : Y → Type 0) (xs : List X) → ((x : X) → Has xs x → P (f x)) → AllByRecursion P (map f xs)
mapped_all f P [] each = tt
mapped_all f P (x ∷ xs) each = (each x (inl refl), mapped_all f P xs (λ y there. each y (inr there)))

-- where one passes, one is found
pub one_is_found : {X : Type 0} (p : X → Bool) (xs : List X) (x : X) → Has xs x → p x ≡ true → find p xs ≢ None
one_is_found p [] x there passes = absurd there
one_is_found p (y ∷ xs) x there passes = in_head (p y) refl there (one_is_found p xs x)
  where
    in_head : (b : Bool) → p y ≡ b → (x ≡ y) ⊎ Has xs x → (Has xs x → p x ≡ true → find p xs ≢ None) → cond b (Some y) (find p xs) ≢ None
    in_head true e here more none = some_apart none
    in_head false e (inl is) more none = true≢false (sym passes ∙ ap p is ∙ e)
    in_head false e (inr later) more none = more later passes none

module _ (db : Database) (book : IsBook db) where
  -- the number of a row finds what is shown of it
  pub shown_node : (v : Value) (row : Row) → Has (rows db book).nodes row → v ≡ rowid row → shown_with (nodes db book) v ≡ Some (node_shown row)
  shown_node v row there is =
      let id : ℤ = id_in (rowid row) in
      let number : rowid row ≡ Int id = number_of_node db book row there in
      let passes : is_int_of id (rowid row) ≡ true = ap (is_int_of id) number ∙ int_itself id in
      let found : find (λ r. is_int_of id (rowid r)) (rows db book).nodes ≡ Some row = by_option (find (λ r. is_int_of id (rowid r)) (rows db book).nodes)
      (λ none. absurd (one_is_found (λ r. is_int_of id (rowid r)) (rows db book).nodes row there passes none))
      (λ other at.
      let its = found_has (λ r. is_int_of id (rowid r)) (rows db book).nodes other at in
      let one : other ≡ row = same_rowid (rows db book).nodes other row (table_nodes db book).shaped.0 its.0 there (is_that_int id (rowid other) its.1 ∙ sym number) in
      at ∙ ap Some one) in
      ap (shown_with (nodes db book)) (is ∙ number)
      ∙ found_mapped node_shown (λ r. is_int_of id (shown_id r)) (λ r. is_int_of id (rowid r)) (λ r. refl) (rows db book).nodes ∙ ap (option_map node_shown) found

  -- a column that has the number of a row passes as that
  pub has_number : (place : ℕ) (x row : Row) → Has (rows db book).nodes row → column x place ≡ rowid row → has place (rowid row) x ≡ true
  has_number place x row there is =
      let id : ℤ = id_in (rowid row) in
      let number : rowid row ≡ Int id = number_of_node db book row there in
      ap (λ v. has place v x) number ∙ has_int place x id id (is ∙ number) ∙ int_itself id
