-- The text of the node with a number, and the texts of all nodes.
use Rattle.book_tables_opening.proofs.Common.{◌≡◌, inl, inr, ℕ, ℤ, ◌+◌, ◌<◌, length, get_or, take, true, false, List, [], ◌∷◌, map, find, Option, Some, None, option_and_then, refl, sym, ap, subst, ◌∙◌, AllByRecursion, Int, id_in, Database, Row, State, rowid, Has, all_has, Rows, rows_of, has, IsBook, int_itself, has_int, same_ints, all_from_has, is_of_kind, text_in, node_text, node_shown, whole_nodes}
use Rattle.std.proofs.Common.{Bool, Less, IsPermutation, option_to_list}
use Rattle.std.proofs.lemmas.Bool.{false_from_ne_true}
use Rattle.std.proofs.lemmas.Cmp.{tied_itself}
use Rattle.std.proofs.lemmas.List.Elements.{All-from_recursion, All-get_or, All-more, recursion_from_All}
use Rattle.sqlite.specs.Order.{value_cmp}
use Rattle.sqlite_value.proofs.OrderLemmas.{value_cmp_total}
use Rattle.sqlite_trees.specs.Tree.{IsTable}
use Rattle.book_tables_rows.specs.Columns.{rowid_place}
use Rattle.book_tables_rows.specs.Lists.{ShowsRows}
use Rattle.book_tables_rows.proofs.Becoming.{one_or_none}
use Rattle.book_tables_rows.proofs.Once.{PassesOnce, filter_finds}
use Rattle.book_tables.proofs.ChildRows.{found_once}
use Rattle.book_tables_opening.specs.Opening.{HasTextIn, IsTextFor}
use Rattle.book_tables_opening.specs.WholeNodes.{first_text, text_of_number, texts_shown, textless_nodes, without_text}
use Rattle.book_tables_opening.proofs.RowForms.{all_mapped, number_of_node, table_nodes}
use Rattle.book_tables_opening.proofs.Textless.{HasOwnText}

abbrev is_numbered : ℤ → Row → Bool
is_numbered id = has rowid_place (Int id)

-- no two rows that rise by their numbers have one number
number_once : (id : ℤ) (rows : List Row) → IsTable rows → AllByRecursion (λ row. rowid row ≡ Int (id_in (rowid row))) rows → PassesOnce (is_numbered id) rows
number_once id [] rises ints = tt
number_once id (x ∷ rows) rises ints = (
  all_from_has (λ y. is_numbered id x ≡ true → is_numbered id y ≡ false) rows (λ y there at_x. false_from_ne_true (is_numbered id y) (λ at_y.
      let number_x : id_in (rowid x) ≡ id = same_ints 0 x (id_in (rowid x)) id ints.0 at_x in
      let int_y : rowid y ≡ Int (id_in (rowid y)) = all_has _ rows y ints.1 there in
      let number_y : id_in (rowid y) ≡ id = same_ints 0 y (id_in (rowid y)) id int_y at_y in
      let same : rowid x ≡ rowid y = ints.0 ∙ ap Int (number_x ∙ sym number_y) ∙ sym int_y in
      let less : value_cmp (rowid x) (rowid y) ≡ Less = all_has _ rows y rises.0 there in
      let tie = sym (ap (λ v. value_cmp v (rowid y)) same) ∙ less in
      let itself = tied_itself value_cmp_total (rowid y) in
      absurd cc)),
  number_once id rows rises.1 ints.1,
)

-- what a look-up by number shows tells the text of the node with it
told_first : (found : Option Row) → first_text (map (λ row. node_text row ∷ []) (option_to_list found)) ≡ option_and_then (λ row. text_in (node_text row)) found
told_first None = refl
told_first (Some row) = refl

module _ (db : Database) (book : IsBook db) where
  abbrev rows : Rows
  rows = rows_of db.trees

  once : (id : ℤ) → PassesOnce (is_numbered id) rows.nodes
  once id = number_once id rows.nodes (table_nodes db book).shaped.0 (all_from_has _ rows.nodes (number_of_node db book))

  pub text_told : (id : ℤ) (shown : List Row) → IsPermutation (texts_shown id rows) shown → first_text shown ≡ text_of_number rows id
  text_told id shown perm =
      let picked = filter_finds (is_numbered id) rows.nodes (once id) in
      let is = one_or_none (λ row. node_text row ∷ []) (find (is_numbered id) rows.nodes) shown (subst (λ xs. IsPermutation (map (λ row. node_text row ∷ []) xs) shown) picked perm) in
      ap first_text is ∙ told_first (find (is_numbered id) rows.nodes)

  -- a node's number finds it
  found_number : (row : Row) → Has rows.nodes row → find (is_numbered (id_in (rowid row))) rows.nodes ≡ Some row
  found_number row there =
      let id : ℤ = id_in (rowid row) in
      found_once (is_numbered id) rows.nodes row (once id) there (has_int 0 row id id (number_of_node db book row there) ∙ int_itself id)

  abbrev TextWhere : Row → Option Row → Type 0
  TextWhere row found = IsTextFor (is_of_kind 5 (node_shown row)) (option_and_then (λ r. text_in (node_text r)) found)

  pub texts_there : AllByRecursion HasOwnText (whole_nodes rows) → AllByRecursion (HasTextIn rows) (textless_nodes rows)
  texts_there all = over rows.nodes (λ row there. there) (all_mapped node_shown HasOwnText rows.nodes all)
    where
      over : (xs : List Row) → ((row : Row) → Has xs row → Has rows.nodes row) → AllByRecursion (λ row. HasOwnText (node_shown row)) xs → AllByRecursion (HasTextIn rows) (map without_text (map node_shown xs))
      over [] within own = tt
      over (x ∷ xs) within own = (subst (TextWhere x) (sym (found_number x (within x (inl refl)))) own.0, over xs (λ row there. within row (inr there)) own.1)

  pub texts_own : AllByRecursion (HasTextIn rows) (textless_nodes rows) → AllByRecursion HasOwnText (whole_nodes rows)
  texts_own all = over rows.nodes (λ row there. there) all
    where
      over : (xs : List Row) → ((row : Row) → Has xs row → Has rows.nodes row) → AllByRecursion (HasTextIn rows) (map without_text (map node_shown xs)) → AllByRecursion HasOwnText (map node_shown xs)
      over [] within own = tt
      over (x ∷ xs) within own = (subst (TextWhere x) (found_number x (within x (inl refl))) own.0, over xs (λ row there. within row (inr there)) own.1)

pub text_shown : (s : State) (id : ℤ) (shown : List Row) → ShowsRows s (texts_shown id) shown → IsBook s.now → first_text shown ≡ text_of_number (rows_of s.now.trees) id
text_shown s id shown shows book = text_told s.now book id shown (shows.1 book)

-- ---- the nodes one after the other

module _ {X : Type 0} (P : X → Type 0) (xs : List X) (i : ℕ) (x : X) (within : i < length xs) (is : get_or xs i x ≡ x) where
  -- what holds of the first so many and of the next holds of one more
  pub has_more : AllByRecursion P (take i xs) → P x → AllByRecursion P (take (i + 1) xs)
  has_more before its = recursion_from_All P (take (i + 1) xs) (All-more P xs i x within (All-from_recursion P (take i xs) before) (subst P (sym is) its))

  pub has_at : AllByRecursion P xs → P x
  has_at all = subst P is (All-get_or P xs i x within (All-from_recursion P xs all))
