-- What reads of whole tables show.
use Rattle.book_tables_schema.proofs.Common.{◌≡◌, false, List, [], ◌∷◌, codes, refl, subst, ◌∙◌, arith, State, book_schema}
use Rattle.std.proofs.Common.{ℕ, map, IsPermutation, ◌↔◌}
use Rattle.sqlite.specs.declared.types.Value.TheVariants.{Null}
use Rattle.sqlite.specs.Command.TheVariants.{Select}
use Rattle.sqlite.specs.Listing.{understood, reads_listing}
use Rattle.sqlite.specs.Order.{Row}
use Rattle.sqlite.specs.Program.{overlay}
use Rattle.sqlite.specs.State.{Shown}
use Rattle.sqlite.specs.Term.{Term, col}
use Rattle.sqlite.specs.Tree.{Trees}
use Rattle.sqlite.proofs.Callers.{IsPlain, command_of, reads_as}
use Rattle.sqlite_tied.specs.Compute.{everything}
use Rattle.book_tables_rows.specs.Lists.{ShowsRows}
use Rattle.std.proofs.lemmas.List.Sorted.{length_permutation}
use Rattle.book_tables_rows.specs.Schema.{ace_tree, ace2_tree}
use Rattle.book_tables_rows.specs.Texts as text
use Rattle.book_tables_rows.proofs.Becoming.{empty_permutation}
use Rattle.book_tables_rows.proofs.Keeping.{shown_open}
use Rattle.book_tables_rows.proofs.Meanings.{read_epoch_is, read_epoch_plain, read_epoch_unlisted}
use Rattle.book_tables_rows.proofs.Statements.{shown_by, simple, answers}
use Rattle.book_tables_rows.proofs.Reading.{all_pass}
use Rattle.book_tables_schema.specs.Whole.{list_nodes, list_all_entries, list_former, list_all_gone, nodes_shown, entries_shown, gone_shown, meta_shown}

-- ---- the meanings of the texts

abbrev list_nodes_columns : List Term
list_nodes_columns = col 1 0 ∷ col 1 2 ∷ col 1 3 ∷ col 1 4 ∷ col 1 5 ∷ col 1 6 ∷ col 1 8 ∷ []

list_nodes_is : command_of (understood book_schema list_nodes) ≡ Select (record { lets = []; body = simple 0 [] list_nodes_columns }) (codes "id" ∷ codes "path" ∷ codes "parent" ∷ codes "kind" ∷ codes "owner" ∷ codes "label" ∷ codes "number" ∷ [])
unfolding understood everything
list_nodes_is = refl

pub list_nodes_plain : IsPlain (understood book_schema list_nodes)
unfolding understood everything
list_nodes_plain = (refl, refl)

list_nodes_unlisted : reads_listing book_schema list_nodes ≡ false
unfolding understood everything
list_nodes_unlisted = refl

abbrev list_all_entries_columns : List Term
list_all_entries_columns = col 1 1 ∷ col 1 2 ∷ col 1 3 ∷ col 1 4 ∷ col 1 5 ∷ col 1 6 ∷ col 1 7 ∷ col 1 8 ∷ []

list_all_entries_is : command_of (understood book_schema list_all_entries) ≡ Select (record { lets = []; body = simple ace2_tree [] list_all_entries_columns }) (codes "node" ∷ codes "protected" ∷ codes "place" ∷ codes "form" ∷ codes "principal" ∷ codes "invert" ∷ codes "deny" ∷ codes "mask" ∷ [])
unfolding understood everything
list_all_entries_is = refl

pub list_all_entries_plain : IsPlain (understood book_schema list_all_entries)
unfolding understood everything
list_all_entries_plain = (refl, refl)

list_all_entries_unlisted : reads_listing book_schema list_all_entries ≡ false
unfolding understood everything
list_all_entries_unlisted = refl

abbrev list_all_gone_columns : List Term
list_all_gone_columns = col 1 1 ∷ col 1 2 ∷ col 1 3 ∷ []

list_all_gone_is : command_of (understood book_schema list_all_gone) ≡ Select (record { lets = []; body = simple 6 [] list_all_gone_columns }) (codes "book" ∷ codes "name" ∷ codes "number" ∷ [])
unfolding understood everything
list_all_gone_is = refl

pub list_all_gone_plain : IsPlain (understood book_schema list_all_gone)
unfolding understood everything
list_all_gone_plain = (refl, refl)

list_all_gone_unlisted : reads_listing book_schema list_all_gone ≡ false
unfolding understood everything
list_all_gone_unlisted = refl

-- ---- what they show

-- a query of a whole table, in no order, shows its rows
module _ (sql : List ℕ) (names : List (List ℕ)) (tree : ℕ) (project : List Term) (is : command_of (understood book_schema sql) ≡ Select (record { lets = []; body = simple tree [] project }) names)
    (plain : IsPlain (understood book_schema sql)) (unlisted : reads_listing book_schema sql ≡ false) (own : (db : Trees) → overlay db [] tree ≡ db tree) where
  shows_whole : (old new : State) (rows : List Row) → Shown sql [] old new rows → old.now.schema ≡ book_schema → IsPermutation (map (shown_by [] project) (old.now.trees tree)) rows
  shows_whole old new rows h has =
      let db = old.now.trees in
      let read = (reads_as sql [] old new book_schema has _ is plain unlisted rows h).answer Null in
      subst (λ xs. IsPermutation (map (shown_by [] project) xs) rows) (all_pass (overlay db [] tree) ∙ own db) (answers tree [] project (overlay db []) [] rows read)

pub shows_nodes : (old new : State) (rows : List Row) → Shown list_nodes [] old new rows → ShowsRows old nodes_shown rows
shows_nodes old new rows h = (shown_open list_nodes _ old new rows h, λ book. shows_whole list_nodes _ 0 list_nodes_columns list_nodes_is list_nodes_plain list_nodes_unlisted (λ db. refl) old new rows h book.schema)

pub shows_entries : (old new : State) (rows : List Row) → Shown list_all_entries [] old new rows → ShowsRows old entries_shown rows
shows_entries old new rows h = (shown_open list_all_entries _ old new rows h, λ book. shows_whole list_all_entries _ ace2_tree list_all_entries_columns list_all_entries_is list_all_entries_plain list_all_entries_unlisted (λ db. refl) old new rows h book.schema)

pub shows_gone : (old new : State) (rows : List Row) → Shown list_all_gone [] old new rows → ShowsRows old gone_shown rows
shows_gone old new rows h = (shown_open list_all_gone _ old new rows h, λ book. shows_whole list_all_gone _ 6 list_all_gone_columns list_all_gone_is list_all_gone_plain list_all_gone_unlisted (λ db. refl) old new rows h book.schema)

pub shows_meta : (old new : State) (rows : List Row) → Shown text.read_epoch [] old new rows → ShowsRows old meta_shown rows
shows_meta old new rows h = (shown_open text.read_epoch _ old new rows h, λ book. shows_whole text.read_epoch _ 8 (col 1 1 ∷ col 1 2 ∷ []) read_epoch_is read_epoch_plain read_epoch_unlisted (λ db. refl) old new rows h book.schema)

-- ---- the rows of `ace`

list_former_is : command_of (understood book_schema list_former) ≡ Select (record { lets = []; body = simple 2 [] (col 1 1 ∷ []) }) (codes "node" ∷ [])
unfolding understood everything
list_former_is = refl

pub list_former_plain : IsPlain (understood book_schema list_former)
unfolding understood everything
list_former_plain = (refl, refl)

list_former_unlisted : reads_listing book_schema list_former ≡ false
unfolding understood everything
list_former_unlisted = refl

none_shown : {X : Type 0} (f : Row → X) (rows : List Row) (shown : List X) → IsPermutation (map f rows) shown → (shown ≡ []) ↔ (rows ≡ [])
none_shown f [] shown same = (λ _. refl, λ _. empty_permutation shown same)
none_shown f (r ∷ rows) [] same = absurd (omega (arith, length_permutation (f r ∷ map f rows) [] same))
none_shown f (r ∷ rows) (x ∷ shown) same = (λ e. absurd cc, λ e. absurd cc)

pub shows_former : (old new : State) (rows : List Row) → Shown list_former [] old new rows → old.now.schema ≡ book_schema → (rows ≡ []) ↔ (old.now.trees ace_tree ≡ [])
shows_former old new rows h has =
    none_shown (shown_by [] (col 1 1 ∷ [])) (old.now.trees ace_tree) rows
    (shows_whole list_former _ 2 (col 1 1 ∷ []) list_former_is list_former_plain list_former_unlisted (λ db. refl) old new rows h has)
