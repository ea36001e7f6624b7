-- The children of a resource: how many there are, what their paths' texts begin with, and their names.
use Rattle.std.specs.Prelude.{◌≡◌, ℕ, ℤ, List, [], ◌++◌, true, false, map, filter, drop, length, codes, option_map, unwrap_or, IsTrue}
use Rattle.sqlite.specs.declared.types.Value.TheVariants.{Int}
use Rattle.sqlite.specs.Edit.{id_in}
use Rattle.sqlite.specs.Order.{Row}
use Rattle.sqlite.specs.State.{State}
use Rattle.sqlite.specs.Tree.{rowid}
use Rattle.book_lists.specs.declared.entries.Entry.{Entry}
use Rattle.book_office.specs.declared.nodes.Listed.{Listed}
use Rattle.book_tables_rows.specs.Lists as lists
use Rattle.book_tables_rows.specs.Lists.{child_id, child_kind, child_label, child_number, child_owner, child_path}
use Rattle.book_tables_rows.specs.Nodes.{number_in, text_in}
use Rattle.book_tables_rows.specs.Rows.{Rows, rows_of, IsBook}
use Rattle.book_tables_rows.specs.Writes.{is_under}
use Rattle.book_office_values.specs.declared.paths.Path.{Path}
use Rattle.book_office_values.specs.declared.paths.Path.TheVariants as path
use Rattle.book_office_values.specs.Paths.{path_text}
use Rattle.book_tables.specs.Rows.{row_at, kind_in, list_in}

-- how many rows stand under the row with a path; none where no row has it
abbrev pub child_count : Rows → List ℕ → ℕ
child_count rows path = unwrap_or (option_map (λ node. length (filter (is_under (rowid node)) rows.nodes)) (row_at rows path)) 0

-- an open connection shows how many there are
abbrev pub ShowsChildCount : State → List ℕ → ℕ → Type 0
ShowsChildCount s path count = IsTrue s.is_open × (IsBook s.now → count ≡ child_count (rows_of s.now.trees) path)

-- what the texts of the paths right below a path begin with
abbrev pub text_above : Path → List ℕ
text_above path.Root = codes "/"
text_above path.People = codes "/people/"
text_above path.Groups = codes "/groups/"
text_above path.Books = codes "/books/"
text_above (path.Person name) = path_text (path.Person name) ++ codes "/"
text_above (path.Group name) = path_text (path.Group name) ++ codes "/"
text_above (path.Book name) = path_text (path.Book name) ++ codes "/"
text_above (path.Card book name) = path_text (path.Card book name) ++ codes "/"

-- the last name of a path; the root has none
abbrev pub last_name : Path → List ℕ
last_name path.Root = []
last_name path.People = codes "people"
last_name path.Groups = codes "groups"
last_name path.Books = codes "books"
last_name (path.Person name) = name
last_name (path.Group name) = name
last_name (path.Book name) = name
last_name (path.Card book name) = name

-- ---- a listing

-- a child with these lists: what is shown of its row is number, path, kind, owner, label and change number, and its name stands behind what its path begins with
abbrev pub listed_shown : List ℕ → List Entry → List Entry → Row → Listed
listed_shown front protected own row = record {
  name = drop (length front) (unwrap_or (text_in (child_path row)) []);
  kind = kind_in (child_kind row);
  owner = text_in (child_owner row);
  label = unwrap_or (text_in (child_label row)) [];
  number = number_in (child_number row);
  protected = protected;
  own = own;
}

abbrev pub child_shown : Rows → List ℕ → Row → Listed
child_shown rows front row = listed_shown front (list_in rows.entries (Int (id_in (child_id row))) true) (list_in rows.entries (Int (id_in (child_id row))) false) row

-- an open connection shows the children of the node with a number, where these are their rows
abbrev pub ShowsChildrenOf : State → ℤ → List ℕ → List Row → List Listed → Type 0
ShowsChildrenOf s id front rows children = IsBook s.now → rows ≡ lists.children_of id (rows_of s.now.trees) → children ≡ map (child_shown (rows_of s.now.trees) front) rows

-- an open connection shows the children of the node at a path, in order of their paths; none where no row has it
abbrev pub ShowsListing : State → List ℕ → List ℕ → List Listed → Type 0
ShowsListing s path front children =
    IsTrue s.is_open × (IsBook s.now → children ≡ unwrap_or (option_map (λ node. map (child_shown (rows_of s.now.trees) front) (lists.children_of (id_in (rowid node)) (rows_of s.now.trees))) (row_at (rows_of s.now.trees) path)) [])
