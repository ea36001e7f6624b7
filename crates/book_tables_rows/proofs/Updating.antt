-- What the UPDATEs of a label, of a copy and of a place leave.
use Rattle.book_tables_rows.proofs.Common.{◌≡◌, ℕ, ℤ, pos, nat_lt, Option, List, [], ◌∷◌, Ok, refl, IsTrue, Null, Int, Text, Row, lit, col, rowid, State, ExecutesInside, cast_row, is_int, node_kind, node_label, node_number, node_owner, node_parent, node_path, node_text, node_table, is_mapped, or_null, rows_of, IsBook, Becomes}
use Rattle.book_tables_rows.specs.Texts as text
use Rattle.book_tables_rows.specs.Writes as writes
use Rattle.book_tables_rows.specs.Writes.{with_label, with_place, with_copy, moved_to}
use Rattle.book_tables_rows.proofs.Meanings.{set_label_is, set_label_plain, set_place_is, set_place_plain, set_copy_is, set_copy_plain, move_is, move_plain}
use Rattle.book_tables_rows.proofs.Typing.{cast_integer, cast_text, TypedNode}
use Rattle.book_tables_rows.proofs.Shapes.{int_of}
use Rattle.book_tables_rows.proofs.Becoming.{becomes_updated, tells_mapped, owner_typed}

pub becomes_labelled : (old new : State) (path label : List ℕ) (number count : ℕ) → ExecutesInside 0 text.set_label (Text path ∷ Text label ∷ Int (pos number) ∷ []) old new (Ok count) → Becomes old new (writes.set_label_rows path label number)
becomes_labelled old new path label number count h =
    becomes_updated old new text.set_label path (Text label ∷ Int (pos number) ∷ []) (col 1 0 ∷ lit Null ∷ col 1 2 ∷ col 1 3 ∷ col 1 4 ∷ col 1 5 ∷ col 0 1 ∷ col 1 7 ∷ col 0 2 ∷ []) (with_label label number)
    set_label_is set_label_plain (λ r. refl) (λ r. refl) (labelled_cast label number) count h
  where
    labelled_cast : (label : List ℕ) (number : ℕ) (r : Row) → IsTrue (is_int (rowid r)) → TypedNode r → cast_row node_table (with_label label number r) ≡ with_label label number r
    labelled_cast label number r int t =
        let id = int_of (rowid r) int in
        rw (id.1, cast_integer (Int id.0) refl, cast_integer Null refl, cast_text (node_path r) t.path, cast_integer (node_parent r) t.parent, cast_integer (node_kind r) t.kind, cast_text (node_owner r) t.owner, cast_text (node_text r) t.text, cast_integer (Int (pos number)) refl) refl

pub becomes_placed : (old new : State) (path : List ℕ) (owner : Option (List ℕ)) (label : List ℕ) (count : ℕ) → ExecutesInside 0 text.set_place (Text path ∷ or_null owner ∷ Text label ∷ []) old new (Ok count)
    → Becomes old new (writes.set_place path owner label)
becomes_placed old new path owner label count h =
    becomes_updated old new text.set_place path (or_null owner ∷ Text label ∷ []) (col 1 0 ∷ lit Null ∷ col 1 2 ∷ col 1 3 ∷ col 1 4 ∷ col 0 1 ∷ col 0 2 ∷ col 1 7 ∷ col 1 8 ∷ []) (with_place owner label)
    set_place_is set_place_plain (λ r. refl) (λ r. refl) (placed_cast owner label) count h
  where
    placed_cast : (owner : Option (List ℕ)) (label : List ℕ) (r : Row) → IsTrue (is_int (rowid r)) → TypedNode r → cast_row node_table (with_place owner label r) ≡ with_place owner label r
    placed_cast owner label r int t =
        let id = int_of (rowid r) int in
        rw (id.1, cast_integer (Int id.0) refl, cast_integer Null refl, cast_text (node_path r) t.path, cast_integer (node_parent r) t.parent, cast_integer (node_kind r) t.kind, cast_text (or_null owner) (owner_typed owner), cast_text (node_text r) t.text, cast_integer (node_number r) t.number) refl

copied_cast : (label words : List ℕ) (number : ℕ) (r : Row) → IsTrue (is_int (rowid r)) → TypedNode r → cast_row node_table (with_copy label words number r) ≡ with_copy label words number r
copied_cast label words number r int t =
    let id = int_of (rowid r) int in
    rw (id.1, cast_integer (Int id.0) refl, cast_integer Null refl, cast_text (node_path r) t.path, cast_integer (node_parent r) t.parent, cast_integer (node_kind r) t.kind, cast_text (node_owner r) t.owner, cast_integer (Int (pos number)) refl) refl

module _ (old new : State) (path label words : List ℕ) (number count : ℕ) (h : ExecutesInside 0 text.set_copy (Text path ∷ Text label ∷ Text words ∷ Int (pos number) ∷ []) old new (Ok count)) where
  pub becomes_copied : Becomes old new (writes.set_copy path label words number)
  becomes_copied =
      becomes_updated old new text.set_copy path (Text label ∷ Text words ∷ Int (pos number) ∷ []) (col 1 0 ∷ lit Null ∷ col 1 2 ∷ col 1 3 ∷ col 1 4 ∷ col 1 5 ∷ col 0 1 ∷ col 0 2 ∷ col 0 3 ∷ []) (with_copy label words number)
      set_copy_is set_copy_plain (λ r. refl) (λ r. refl) (copied_cast label words number) count h

  pub tells_copied : IsBook old.now → nat_lt 0 count ≡ is_mapped path (rows_of old.now.trees)
  tells_copied =
      tells_mapped old new text.set_copy path (Text label ∷ Text words ∷ Int (pos number) ∷ []) (col 1 0 ∷ lit Null ∷ col 1 2 ∷ col 1 3 ∷ col 1 4 ∷ col 1 5 ∷ col 0 1 ∷ col 0 2 ∷ col 0 3 ∷ []) (with_copy label words number)
      set_copy_is set_copy_plain (λ r. refl) (λ r. refl) (copied_cast label words number) count h

pub becomes_moved : (old new : State) (path destination : List ℕ) (parent : ℤ) (number count : ℕ) → ExecutesInside 0 text.move_node (Text path ∷ Text destination ∷ Int parent ∷ Int (pos number) ∷ []) old new (Ok count)
    → Becomes old new (writes.move_node path destination (Int parent) number)
becomes_moved old new path destination parent number count h =
    becomes_updated old new text.move_node path (Text destination ∷ Int parent ∷ Int (pos number) ∷ []) (col 1 0 ∷ lit Null ∷ col 0 1 ∷ col 0 2 ∷ col 1 4 ∷ col 1 5 ∷ col 1 6 ∷ col 1 7 ∷ col 0 3 ∷ []) (moved_to destination (Int parent) number)
    move_is move_plain (λ r. refl) (λ r. refl) (moved_cast destination parent number) count h
  where
    moved_cast : (destination : List ℕ) (parent : ℤ) (number : ℕ) (r : Row) → IsTrue (is_int (rowid r)) → TypedNode r → cast_row node_table (moved_to destination (Int parent) number r) ≡ moved_to destination (Int parent) number r
    moved_cast destination parent number r int t =
        let id = int_of (rowid r) int in
        rw (id.1, cast_integer (Int id.0) refl, cast_integer Null refl, cast_integer (Int parent) refl, cast_integer (node_kind r) t.kind, cast_text (node_owner r) t.owner, cast_text (node_label r) t.label, cast_text (node_text r) t.text, cast_integer (Int (pos number)) refl) refl
