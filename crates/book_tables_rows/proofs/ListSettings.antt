-- A list is written anew, row by row.
use Rattle.book_tables_rows.proofs.Common.{and-true, ◌≡◌, inl, inr, ℕ, ◌+◌, ℤ, pos, Bool, false, ◌&&◌, List, [], ◌∷◌, Option, Some, None, option_map, string_bytes, Ok, refl, ap, subst, ◌∙◌, if◌then◌else◌, arith, Value, Int, Text, Binary, Row, lit, col, overlay, edit_of, Given, Table, State, ExecutesInside, one_step, works, taken_by, Enforced, ace_node_place, ace_protected_place, book_schema, member_table, Rows, rows_of, has, Said, or_null, flag, is_entry, said, Becomes}
use Rattle.std.proofs.Common.{String}
use Rattle.sqlite.specs.Values as values
use Rattle.sqlite.specs.Term.{op2}
use Rattle.sqlite_sql.specs.declared.ops.BinaryOp.TheVariants.{Compare}
use Rattle.sqlite_sql.specs.declared.ops.CompareOp.TheVariants.{Eq}
use Rattle.sqlite.specs.State.{KeepsCommit}
use Rattle.sqlite_schema.specs.Names.{same_name}
use Rattle.sqlite_tied.specs.Compute.{everything}
use Rattle.book_tables_rows.specs.Columns.{member_group_place}
use Rattle.book_tables_rows.specs.Schema.{ace2_table, ace2_tree}
use Rattle.book_tables_rows.specs.Texts as text
use Rattle.book_tables_rows.specs.declared.setting.EntryRow.{EntryRow}
use Rattle.book_tables_rows.specs.Writes as writes
use Rattle.book_tables_rows.specs.Writes.{Pair}
use Rattle.book_tables_rows.proofs.Becoming.{entries_changed, members_changed, works_entries}
use Rattle.book_tables_rows.proofs.Deleting.{deleted, picks_simple}
use Rattle.book_tables_rows.proofs.Meanings.{equals, delete_own_is, delete_own_plain, delete_members_is, delete_members_plain}
use Rattle.book_tables_rows.proofs.RowInserts.{becomes_listed, flag_is}
use Rattle.book_tables_rows.proofs.Statements.{simple}

-- ---- the old rows are taken out

pub becomes_disowned : (old new : State) (id : ℤ) (count : ℕ) → ExecutesInside 0 text.delete_own (Int id ∷ []) old new (Ok count) → Becomes old new (writes.delete_own (Int id))
becomes_disowned old new id count h = record {
  inside = h.1.mode;
  was_open = h.1.was_open;
  is_open = h.1.is_open;
  rows = λ book.
      let db = old.now.trees in
      let terms = equals 1 0 ∷ op2 (Compare Eq Binary) (col 1 2) (lit (Int (pos 0))) ∷ [] in
      let d = deleted old new text.delete_own (Int id ∷ []) 5 ace2_table refl (inr (inr (inr (inr (inr (inl refl)))))) (λ e. omega (arith, e)) (simple ace2_tree terms (col 1 0 ∷ [])) (is_entry (Int id) false) delete_own_is delete_own_plain
      (picks_simple (overlay db []) ace2_tree terms (Int id ∷ []) (is_entry (Int id) false) (λ r. ap (λ b. has ace_node_place (Int id) r && b) (and-true (has ace_protected_place (flag false) r))))
      (λ ids same next w. one_step book_schema Enforced db next _ (works_entries (taken_by db (edit_of db ace2_table ids Given 0 []))) w) count h.0 book in
      (d.0, entries_changed db new.now.trees d.1.0 d.1.2 (ap (λ (t : Table). t.tree) d.1.1) ∙ ap (λ e. record (rows_of db) { entries = e }) d.2);
}

-- no row refers to a member
works_members : (olds : List Row) → works book_schema Enforced 0 4 olds [] ≡ []
unfolding same_name everything
works_members olds = refl

pub becomes_unjoined : (old new : State) (group : List ℕ) (count : ℕ) → ExecutesInside 0 text.delete_members (Text group ∷ []) old new (Ok count) → Becomes old new (writes.delete_members group)
becomes_unjoined old new group count h = record {
  inside = h.1.mode;
  was_open = h.1.was_open;
  is_open = h.1.is_open;
  rows = λ book.
      let db = old.now.trees in
      let d = deleted old new text.delete_members (Text group ∷ []) 2 member_table refl (inr (inr (inl refl))) (λ e. omega (arith, e)) (simple 4 (equals 1 0 ∷ []) (col 1 0 ∷ [])) (has member_group_place (Text group)) delete_members_is delete_members_plain
      (picks_simple (overlay db []) 4 (equals 1 0 ∷ []) (Text group ∷ []) (has member_group_place (Text group)) (λ r. and-true (has member_group_place (Text group) r)))
      (λ ids same next w. one_step book_schema Enforced db next _ (works_members (taken_by db (edit_of db member_table ids Given 0 []))) w) count h.0 book in
      (d.0, members_changed db new.now.trees d.1.0 d.1.2 (ap (λ (t : Table). t.tree) d.1.1) ∙ ap (λ m. record (rows_of db) { members = m }) d.2);
}

-- ---- an entry is added

or_string : {A : Type 0} (o : Option (String A)) → values.bound_value (values.or_null (λ s. Text (string_bytes s)) o) ≡ or_null (option_map string_bytes o)
or_string None = refl
or_string (Some s) = refl

-- the values are bound as the row has them
pub becomes_entered : (old new : State) (node : ℤ) (protected : Bool) (place : ℕ) (e : EntryRow) (count : ℕ)
    → ExecutesInside 0 text.insert_entry (Int node ∷ Int (if protected then pos 1 else pos 0) ∷ Int (pos place) ∷ Int (pos e.form) ∷ values.bound_value (values.or_null (λ s. Text (string_bytes s)) e.principal) ∷ Int (if e.invert then pos 1 else pos 0) ∷ Int (if e.deny then pos 1 else pos 0) ∷ Int (pos e.mask) ∷ []) old new (Ok count)
    → Becomes old new (writes.insert_listed (Int node) protected place (said e))
becomes_entered old new node protected place e count runs =
    becomes_listed old new node protected place e.form (option_map string_bytes e.principal) e.invert e.deny e.mask count
    (subst (λ (row : Row). ExecutesInside 0 text.insert_entry row old new (Ok count))
    (λ j. Int node ∷ flag_is protected j ∷ Int (pos place) ∷ Int (pos e.form) ∷ or_string e.principal j ∷ flag_is e.invert j ∷ flag_is e.deny j ∷ Int (pos e.mask) ∷ []) runs)

pub commit_stays : (a b c : State) → KeepsCommit a b → KeepsCommit b c → KeepsCommit a c
commit_stays a b c first second = record { was_open = λ o. first.was_open (second.was_open o); committed = λ o. second.committed o ∙ first.committed (second.was_open o) }

-- ---- no entry and no member is a row of meta

pub meta_of_list : (id : Value) (protected : Bool) (place : ℕ) (list : List Said) (rows : Rows) → (writes.insert_list id protected place list rows).meta ≡ rows.meta
meta_of_list id protected place [] rows = refl
meta_of_list id protected place (e ∷ more) rows = meta_of_list id protected (place + 1) more (writes.insert_listed id protected place e rows)

pub meta_of_members : (group : List ℕ) (members : List (List ℕ)) (rows : Rows) → (writes.insert_members group members rows).meta ≡ rows.meta
meta_of_members group [] rows = refl
meta_of_members group (m ∷ more) rows = meta_of_members group more (writes.insert_member group m rows)

meta_of_fewer : (pairs : List Pair) (rows : Rows) → (writes.delete_pairs pairs rows).meta ≡ rows.meta
meta_of_fewer [] rows = refl
meta_of_fewer (p ∷ more) rows = meta_of_fewer more (writes.delete_reach p.group p.member rows)

meta_of_more : (pairs : List Pair) (rows : Rows) → (writes.insert_pairs pairs rows).meta ≡ rows.meta
meta_of_more [] rows = refl
meta_of_more (p ∷ more) rows = meta_of_more more (writes.insert_reach p.group p.member rows)

pub meta_of_reach : (gone come : List Pair) (rows : Rows) → (writes.renew_reach gone come rows).meta ≡ rows.meta
meta_of_reach gone come rows = meta_of_more come (writes.delete_pairs gone rows) ∙ meta_of_fewer gone rows
