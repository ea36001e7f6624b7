-- What the INSERTs of removed names, entries and members make of the rows.
use Rattle.book_tables_rows.proofs.Common.{◌≡◌, inl, inr, ℕ, ℤ, pos, Bool, true, false, List, [], ◌∷◌, Option, Ok, refl, ap, ◌∙◌, if◌then◌else◌, arith, Null, Int, Text, Row, edit_of, next_rowid, Chosen, Table, State, ExecutesInside, one_step, works, Enforced, is_of, book_schema, member_table, gone_table, meta_table, rows_of, flag, or_null, Becomes}
use Rattle.sqlite.specs.Kind.TheVariants as kinds
use Rattle.sqlite_schema.specs.Names.{same_name}
use Rattle.sqlite_tied.specs.Compute.{everything}
use Rattle.book_tables_rows.specs.Schema.{ace2_table, ace2_tree}
use Rattle.book_tables_rows.specs.Texts as text
use Rattle.book_tables_rows.specs.Writes as writes
use Rattle.book_tables_rows.specs.Writes.{gone_row, entry_row}
use Rattle.book_tables_rows.proofs.Becoming.{gone_changed, entries_changed, members_changed, meta_changed, owner_typed}
use Rattle.book_tables_rows.proofs.Inserting.{inserted}
use Rattle.book_tables_rows.proofs.Meanings.{gone_terms, insert_gone_is, insert_gone_plain, entry_terms, insert_entry_is, insert_entry_plain, pair_terms, insert_member_is, insert_member_plain, insert_meta_is, insert_meta_plain}
use Rattle.book_tables_rows.proofs.Typing.{cast_integer, cast_text}

-- no row refers to these tables
works_gone : (row : Row) → works book_schema Enforced 0 6 [] (row ∷ []) ≡ []
unfolding same_name everything
works_gone row = refl

works_entries : (row : Row) → works book_schema Enforced 0 ace2_tree [] (row ∷ []) ≡ []
unfolding same_name everything
works_entries row = refl

works_members : (row : Row) → works book_schema Enforced 0 4 [] (row ∷ []) ≡ []
unfolding same_name everything
works_members row = refl

works_meta : (row : Row) → works book_schema Enforced 0 8 [] (row ∷ []) ≡ []
unfolding same_name everything
works_meta row = refl

-- a truth value is bound so
pub flag_is : (b : Bool) → Int (if b then pos 1 else pos 0) ≡ flag b
flag_is true = refl
flag_is false = refl

flag_typed : (b : Bool) → is_of kinds.Integer (flag b) ≡ true
flag_typed true = refl
flag_typed false = refl

pub becomes_remembered : (old new : State) (book : ℤ) (name : List ℕ) (number count : ℕ) → ExecutesInside 0 text.insert_gone (Int book ∷ Text name ∷ Int (pos number) ∷ []) old new (Ok count)
    → Becomes old new (writes.insert_gone (Int book) name number)
becomes_remembered old new book name number count h = record {
  inside = h.1.mode;
  was_open = h.1.was_open;
  is_open = h.1.is_open;
  rows = λ at.
      let db = old.now.trees in
      let row : Row = gone_row (next_rowid (db 6)) (Int book) name number in
      let news : (edit_of db gone_table [] Chosen 0 ((Null ∷ Int book ∷ Text name ∷ Int (pos number) ∷ []) ∷ [])).news ≡ row ∷ [] = rw (cast_integer Null refl, cast_integer (Int book) refl, cast_integer (Int (pos number)) refl) refl in
      let d = inserted old new text.insert_gone (Int book ∷ Text name ∷ Int (pos number) ∷ []) 3 gone_table refl (inr (inr (inr (inl refl)))) (λ e. omega (arith, e)) refl gone_terms 4 insert_gone_is insert_gone_plain
      (Null ∷ Int book ∷ Text name ∷ Int (pos number) ∷ []) refl row refl news (λ next w. one_step book_schema Enforced db next _ (ap (λ all. works book_schema Enforced 0 6 [] all) news ∙ works_gone row) w) count h.0 at in
      (d.0, gone_changed db new.now.trees d.1.0 d.1.2 (ap (λ (t : Table). t.tree) d.1.1) ∙ ap (λ g. record (rows_of db) { gone = g }) d.2);
}

pub becomes_listed : (old new : State) (node : ℤ) (protected : Bool) (place form : ℕ) (principal : Option (List ℕ)) (invert deny : Bool) (mask count : ℕ)
    → ExecutesInside 0 text.insert_entry (Int node ∷ flag protected ∷ Int (pos place) ∷ Int (pos form) ∷ or_null principal ∷ flag invert ∷ flag deny ∷ Int (pos mask) ∷ []) old new (Ok count)
    → Becomes old new (writes.insert_entry (Int node) protected place form principal invert deny mask)
becomes_listed old new node protected place form principal invert deny mask count h = record {
  inside = h.1.mode;
  was_open = h.1.was_open;
  is_open = h.1.is_open;
  rows = λ at.
      let db = old.now.trees in
      let values : Row = Int node ∷ flag protected ∷ Int (pos place) ∷ Int (pos form) ∷ or_null principal ∷ flag invert ∷ flag deny ∷ Int (pos mask) ∷ [] in
      let row : Row = entry_row (next_rowid (db ace2_tree)) (Int node) protected place form principal invert deny mask in
      let news : (edit_of db ace2_table [] Chosen 0 ((Null ∷ values) ∷ [])).news ≡ row ∷ [] =
      rw (cast_integer Null refl, cast_integer (Int node) refl, cast_integer (flag protected) (flag_typed protected), cast_integer (Int (pos place)) refl, cast_integer (Int (pos form)) refl, cast_text (or_null principal) (owner_typed principal), cast_integer (flag invert) (flag_typed invert), cast_integer (flag deny) (flag_typed deny), cast_integer (Int (pos mask)) refl) refl in
      let d = inserted old new text.insert_entry values 5 ace2_table refl (inr (inr (inr (inr (inr (inl refl)))))) (λ e. omega (arith, e)) refl entry_terms 9 insert_entry_is insert_entry_plain
      (Null ∷ values) refl row refl news (λ next w. one_step book_schema Enforced db next _ (ap (λ all. works book_schema Enforced 0 ace2_tree [] all) news ∙ works_entries row) w) count h.0 at in
      (d.0, entries_changed db new.now.trees d.1.0 d.1.2 (ap (λ (t : Table). t.tree) d.1.1) ∙ ap (λ e. record (rows_of db) { entries = e }) d.2);
}

pub becomes_joined : (old new : State) (group member : List ℕ) (count : ℕ) → ExecutesInside 0 text.insert_member (Text group ∷ Text member ∷ []) old new (Ok count)
    → Becomes old new (writes.insert_member group member)
becomes_joined old new group member count h = record {
  inside = h.1.mode;
  was_open = h.1.was_open;
  is_open = h.1.is_open;
  rows = λ at.
      let db = old.now.trees in
      let values : Row = Text group ∷ Text member ∷ [] in
      let news : (edit_of db member_table [] Chosen 0 ((Null ∷ values) ∷ [])).news ≡ (Int (next_rowid (db 4)) ∷ values) ∷ [] = rw (cast_integer Null refl) refl in
      let d = inserted old new text.insert_member values 2 member_table refl (inr (inr (inl refl))) (λ e. omega (arith, e)) refl pair_terms 3 insert_member_is insert_member_plain
      (Null ∷ values) refl (Int (next_rowid (db 4)) ∷ values) refl news (λ next w. one_step book_schema Enforced db next _ (ap (λ all. works book_schema Enforced 0 4 [] all) news ∙ works_members (Int (next_rowid (db 4)) ∷ values)) w) count h.0 at in
      (d.0, members_changed db new.now.trees d.1.0 d.1.2 (ap (λ (t : Table). t.tree) d.1.1) ∙ ap (λ m. record (rows_of db) { members = m }) d.2);
}

pub becomes_begun : (old new : State) (version epoch count : ℕ) → ExecutesInside 0 text.insert_meta (Int (pos version) ∷ Int (pos epoch) ∷ []) old new (Ok count)
    → Becomes old new (writes.insert_meta version epoch)
becomes_begun old new version epoch count h = record {
  inside = h.1.mode;
  was_open = h.1.was_open;
  is_open = h.1.is_open;
  rows = λ at.
      let db = old.now.trees in
      let values : Row = Int (pos version) ∷ Int (pos epoch) ∷ [] in
      let news : (edit_of db meta_table [] Chosen 0 ((Null ∷ values) ∷ [])).news ≡ (Int (next_rowid (db 8)) ∷ values) ∷ [] = rw (cast_integer Null refl, cast_integer (Int (pos version)) refl, cast_integer (Int (pos epoch)) refl) refl in
      let d = inserted old new text.insert_meta values 4 meta_table refl (inr (inr (inr (inr (inl refl))))) (λ e. omega (arith, e)) refl pair_terms 3 insert_meta_is insert_meta_plain
      (Null ∷ values) refl (Int (next_rowid (db 8)) ∷ values) refl news (λ next w. one_step book_schema Enforced db next _ (ap (λ all. works book_schema Enforced 0 8 [] all) news ∙ works_meta (Int (next_rowid (db 8)) ∷ values)) w) count h.0 at in
      (d.0, meta_changed db new.now.trees d.1.0 d.1.2 (ap (λ (t : Table). t.tree) d.1.1) ∙ ap (λ m. record (rows_of db) { meta = m }) d.2);
}
