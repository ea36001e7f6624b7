-- What rows tell of the lists at a path, and at each path above it.
use Rattle.std.specs.Prelude.{◌≡◌, ℕ, Bool, true, false, List, map, IsTrue}
use Rattle.sqlite.specs.State.{State}
use Rattle.book_lists.specs.declared.entries.Entry.{Entry}
use Rattle.book_office.specs.declared.nodes.Level.{Level}
use Rattle.book_office.specs.declared.nodes.Lists.{Lists}
use Rattle.book_office_values.specs.declared.paths.Path.{Path}
use Rattle.book_office_values.specs.Paths.{path_text, levels}
use Rattle.book_tables_rows.specs.Lists.{entries_at}
use Rattle.book_tables_rows.specs.Rows.{Rows, rows_of, IsBook}
use Rattle.book_tables.specs.Shares.{list_among}

-- a list of the row at the text of a path, in order of the places; empty where no row has it
abbrev pub list_told : Rows → List ℕ → Bool → List Entry
list_told rows path protected = list_among protected (entries_at path rows)

-- both lists at a path
abbrev pub level_told : Rows → Path → Level
level_told rows p = record { path = p; protected = list_told rows (path_text p) true; own = list_told rows (path_text p) false }

-- the lists at a path and at each path above it
abbrev pub lists_told : Rows → Path → Lists
lists_told rows p = record { levels = map (level_told rows) (levels p) }

-- an open connection shows both lists at a path
abbrev pub ShowsLevel : State → Path → Level → Type 0
ShowsLevel s p level = IsTrue s.is_open × (IsBook s.now → level ≡ level_told (rows_of s.now.trees) p)

-- an open connection shows the lists at a path and at each path above it
abbrev pub ShowsLists : State → Path → Lists → Type 0
ShowsLists s p lists = IsTrue s.is_open × (IsBook s.now → lists ≡ lists_told (rows_of s.now.trees) p)
