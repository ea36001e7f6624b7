-- What a read of all nodes without their texts shows, and a read of one text.
use Rattle.std.specs.Prelude.{◌≡◌, ℕ, ℤ, List, [], ◌∷◌, map, filter, find, slice_get, codes, Option, option_and_then, IsTrue}
use Rattle.sqlite.specs.declared.types.Value.TheVariants.{Null, Int}
use Rattle.sqlite.specs.Order.{Row, column}
use Rattle.sqlite.specs.State.{State}
use Rattle.sqlite.specs.Tree.{rowid}
use Rattle.book_tables_rows.specs.Columns.{node_kind, node_label, node_number, node_owner, node_parent, node_path, node_text, rowid_place}
use Rattle.book_tables_rows.specs.Nodes.{text_in}
use Rattle.book_tables_rows.specs.Rows.{Rows, rows_of, has, IsBook}
use Rattle.book_tables_opening.specs.Shown.{shown_id, shown_kind, shown_label, shown_number, shown_owner, shown_parent, shown_path}

abbrev pub list_textless_nodes : List ℕ
list_textless_nodes = codes "SELECT id, path, parent, kind, owner, label, NULL, number FROM node ORDER BY id"

abbrev pub read_text : List ℕ
read_text = codes "SELECT text FROM node WHERE id = ?1"

-- number of the row, path, parent, kind, owner, label, text and change number of a node
abbrev pub node_shown : Row → Row
node_shown row = rowid row ∷ node_path row ∷ node_parent row ∷ node_kind row ∷ node_owner row ∷ node_label row ∷ node_text row ∷ node_number row ∷ []

abbrev pub whole_nodes : Rows → List Row
whole_nodes rows = map node_shown rows.nodes

-- what is shown of a node, with NULL in the place of its text
abbrev pub without_text : Row → Row
without_text row = shown_id row ∷ shown_path row ∷ shown_parent row ∷ shown_kind row ∷ shown_owner row ∷ shown_label row ∷ Null ∷ shown_number row ∷ []

abbrev pub textless_nodes : Rows → List Row
textless_nodes rows = map without_text (whole_nodes rows)

-- an open connection shows all nodes without their texts, in order of the numbers of their rows
abbrev pub ShowsTextlessNodes : State → List Row → Type 0
ShowsTextlessNodes s shown = IsTrue s.is_open × (IsBook s.now → shown ≡ textless_nodes (rows_of s.now.trees))

-- the texts of the nodes with a number: one, or none
abbrev pub texts_shown : ℤ → Rows → List Row
texts_shown id rows = map (λ row. node_text row ∷ []) (filter (has rowid_place (Int id)) rows.nodes)

-- the text in the first row that is shown, if it has one
abbrev pub first_text : List Row → Option (List ℕ)
first_text shown = option_and_then (λ row. text_in (column row 0)) (slice_get shown 0)

-- the text of the node with a number, if it has one
abbrev pub text_of_number : Rows → ℤ → Option (List ℕ)
text_of_number rows id = option_and_then (λ row. text_in (node_text row)) (find (has rowid_place (Int id)) rows.nodes)
