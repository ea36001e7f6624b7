-- What the row of a node tells of a resource.
use Rattle.std.specs.Prelude.{◌≡◌, ℕ, List, Option, option_map, IsTrue}
use Rattle.sqlite.specs.State.{State}
use Rattle.book_office.specs.declared.nodes.Node.{Node}
use Rattle.book_tables_rows.specs.Nodes.{Told, told_of}
use Rattle.book_tables_rows.specs.Rows.{rows_of, IsBook}
use Rattle.book_tables.specs.Rows.{kind_numbered, row_at}

-- a resource without its lists, as the columns of its row tell it
abbrev pub node_told : Told → Node
node_told t = record { kind = kind_numbered t.kind; owner = t.owner; label = t.label; text = t.text; number = t.number }

-- an open connection shows the resource at the text of a path, if there is one
abbrev pub ShowsNode : State → List ℕ → Option Node → Type 0
ShowsNode s path node = IsTrue s.is_open × (IsBook s.now → node ≡ option_map (λ row. node_told (told_of row)) (row_at (rows_of s.now.trees) path))
