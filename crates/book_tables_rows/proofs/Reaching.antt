-- What the texts of `reach` read, and what they make of the rows.
use Rattle.book_tables_rows.proofs.Common.{arith, ◌≡◌, inr, inl, ℕ, true, ◌&&◌, List, [], ◌∷◌, map, Ok, refl, ap, subst, ◌∙◌, IsPermutation, Null, Int, Text, Row, col, overlay, edit_of, next_rowid, Given, Chosen, Table, State, Shown, ExecutesInside, one_step, works, taken_by, Enforced, rows_of, has, book_schema, Becomes, and-true}
use Rattle.sqlite_schema.specs.Names.{same_name}
use Rattle.sqlite_tied.specs.Compute.{everything}
use Rattle.book_tables_rows.specs.Columns.{reach_group, reach_group_place, reach_member, reach_member_place}
use Rattle.book_tables_rows.specs.Lists.{ShowsRows}
use Rattle.book_tables_rows.specs.Reach.{reached_of, reach_shown}
use Rattle.book_tables_rows.specs.Schema.{reach_table, reach_tree}
use Rattle.book_tables_rows.specs.Texts as text
use Rattle.book_tables_rows.specs.Writes as writes
use Rattle.book_tables_rows.specs.Writes.{is_pair}
use Rattle.book_tables_rows.proofs.Becoming.{reach_changed}
use Rattle.book_tables_rows.proofs.Deleting.{deleted, picks_simple}
use Rattle.book_tables_rows.proofs.Inserting.{inserted}
use Rattle.book_tables_rows.proofs.Keeping.{shown_open}
use Rattle.book_tables_rows.proofs.Meanings.{equals, pair_terms, read_reach_is, read_reach_plain, read_reach_unlisted, read_reached_is, read_reached_plain, read_reached_unlisted, insert_reach_is, insert_reach_plain, delete_reach_is, delete_reach_plain, clear_reach_is, clear_reach_plain}
use Rattle.book_tables_rows.proofs.Reading.{picks, all_pass}
use Rattle.book_tables_rows.proofs.Statements.{simple}
use Rattle.book_tables_rows.proofs.Typing.{cast_integer}

-- ---- what is read

pub shows_reached : (old new : State) (member : List ℕ) (rows : List Row) → Shown text.read_reached (Text member ∷ []) old new rows → ShowsRows old (reached_of member) rows
shows_reached old new member rows h = (
  shown_open text.read_reached _ old new rows h,
  λ book. picks text.read_reached _ reach_tree (equals 2 0 ∷ []) (col 1 1 ∷ []) read_reached_is read_reached_plain read_reached_unlisted (Text member ∷ [])
      (has reach_member_place (Text member)) (λ row. reach_group row ∷ []) (λ db. refl) (λ r. and-true (has reach_member_place (Text member) r)) (λ r. refl) old new rows h book,
)

pub shows_reach : (old new : State) (rows : List Row) → Shown text.read_reach [] old new rows → ShowsRows old reach_shown rows
shows_reach old new rows h = (
  shown_open text.read_reach _ old new rows h,
  λ book. subst (λ xs. IsPermutation (map (λ row. reach_group row ∷ reach_member row ∷ []) xs) rows) (all_pass (old.now.trees reach_tree))
      (picks text.read_reach _ reach_tree [] (col 1 1 ∷ col 1 2 ∷ []) read_reach_is read_reach_plain read_reach_unlisted [] (λ row. true) (λ row. reach_group row ∷ reach_member row ∷ []) (λ db. refl) (λ r. refl) (λ r. refl) old new rows h book),
)

-- ---- what is written

-- no row refers to these
works_left : (olds : List Row) → works book_schema Enforced 0 reach_tree olds [] ≡ []
unfolding same_name everything
works_left olds = refl

works_come : (row : Row) → works book_schema Enforced 0 reach_tree [] (row ∷ []) ≡ []
unfolding same_name everything
works_come row = refl

pub becomes_unreached : (old new : State) (group member : List ℕ) (count : ℕ) → ExecutesInside 0 text.delete_reach (Text group ∷ Text member ∷ []) old new (Ok count) → Becomes old new (writes.delete_reach group member)
becomes_unreached old new group member count h = record {
  inside = h.1.mode;
  was_open = h.1.was_open;
  is_open = h.1.is_open;
  rows = λ book.
      let db = old.now.trees in
      let params : Row = Text group ∷ Text member ∷ [] in
      let terms = equals 1 0 ∷ equals 2 1 ∷ [] in
      let d = deleted old new text.delete_reach params 6 reach_table refl (inr (inr (inr (inr (inr (inr (inl refl))))))) (λ e. omega (arith, e)) (simple reach_tree terms (col 1 0 ∷ [])) (is_pair group member) delete_reach_is delete_reach_plain
      (picks_simple (overlay db []) reach_tree terms params (is_pair group member) (λ r. ap (λ b. has reach_group_place (Text group) r && b) (and-true (has reach_member_place (Text member) r))))
      (λ ids same next w. one_step book_schema Enforced db next _ (works_left (taken_by db (edit_of db reach_table ids Given 0 []))) w) count h.0 book in
      (d.0, reach_changed db new.now.trees d.1.0 d.1.2 (ap (λ (t : Table). t.tree) d.1.1) ∙ ap (λ m. record (rows_of db) { reach = m }) d.2);
}

pub becomes_cleared : (old new : State) (count : ℕ) → ExecutesInside 0 text.clear_reach [] old new (Ok count) → Becomes old new writes.clear_reach
becomes_cleared old new count h = record {
  inside = h.1.mode;
  was_open = h.1.was_open;
  is_open = h.1.is_open;
  rows = λ book.
      let db = old.now.trees in
      let d = deleted old new text.clear_reach [] 6 reach_table refl (inr (inr (inr (inr (inr (inr (inl refl))))))) (λ e. omega (arith, e)) (simple reach_tree [] (col 1 0 ∷ [])) (λ _. true) clear_reach_is clear_reach_plain
      (picks_simple (overlay db []) reach_tree [] [] (λ _. true) (λ r. refl))
      (λ ids same next w. one_step book_schema Enforced db next _ (works_left (taken_by db (edit_of db reach_table ids Given 0 []))) w) count h.0 book in
      (d.0, reach_changed db new.now.trees d.1.0 d.1.2 (ap (λ (t : Table). t.tree) d.1.1) ∙ ap (λ m. record (rows_of db) { reach = m }) d.2);
}

pub becomes_reached : (old new : State) (group member : List ℕ) (count : ℕ) → ExecutesInside 0 text.insert_reach (Text group ∷ Text member ∷ []) old new (Ok count) → Becomes old new (writes.insert_reach group member)
becomes_reached old new group member count h = record {
  inside = h.1.mode;
  was_open = h.1.was_open;
  is_open = h.1.is_open;
  rows = λ at.
      let db = old.now.trees in
      let values : Row = Text group ∷ Text member ∷ [] in
      let news : (edit_of db reach_table [] Chosen 0 ((Null ∷ values) ∷ [])).news ≡ (Int (next_rowid (db reach_tree)) ∷ values) ∷ [] = rw (cast_integer Null refl) refl in
      let d = inserted old new text.insert_reach values 6 reach_table refl (inr (inr (inr (inr (inr (inr (inl refl))))))) (λ e. omega (arith, e)) refl pair_terms 3 insert_reach_is insert_reach_plain
      (Null ∷ values) refl (Int (next_rowid (db reach_tree)) ∷ values) refl news (λ next w. one_step book_schema Enforced db next _ (ap (λ all. works book_schema Enforced 0 reach_tree [] all) news ∙ works_come (Int (next_rowid (db reach_tree)) ∷ values)) w) count h.0 at in
      (d.0, reach_changed db new.now.trees d.1.0 d.1.2 (ap (λ (t : Table). t.tree) d.1.1) ∙ ap (λ m. record (rows_of db) { reach = m }) d.2);
}
