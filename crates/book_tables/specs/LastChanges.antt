-- The last changes of a book, as rows tell them.
use Rattle.std.specs.Prelude.{◌≡◌, ℕ, ℤ, ◌<◌, ◌-◌, false, List, [], ◌++◌, map, drop, length, slice_get, codes, Option, Some, None, option_map, unwrap_or, IsTrue, IsPermutation}
use Rattle.sqlite.specs.declared.types.Value.{Value}
use Rattle.sqlite.specs.declared.types.Value.TheVariants.{Int}
use Rattle.sqlite.specs.Edit.{id_in}
use Rattle.sqlite.specs.Order.{Row}
use Rattle.sqlite.specs.State.{State}
use Rattle.sqlite.specs.Tree.{rowid}
use Rattle.sqlite_trees.specs.Tree.{IsAscending}
use Rattle.book_lists.specs.declared.entries.Entry.{Entry}
use Rattle.book_office.specs.declared.nodes.Changed.{Changed}
use Rattle.book_tables_rows.specs.Lists as lists
use Rattle.book_tables_rows.specs.Lists.{AreFirst, changed_id, changed_label, changed_number, changed_number_place, changed_owner, changed_path, changed_text, removed_name, removed_number, removed_number_place}
use Rattle.book_tables_rows.specs.Nodes.{number_in, text_in}
use Rattle.book_tables_rows.specs.Rows.{Rows, rows_of, IsBook}
use Rattle.book_tables.specs.Rows.{row_at, list_in}

-- the change of a card with this own list: what is shown of its row is number, path, owner, label, text and change number, and its name stands behind what its path begins with
abbrev pub changed_shown : List ℕ → List Entry → Row → Changed
changed_shown front own row = record {
  number = number_in (changed_number row);
  name = drop (length front) (unwrap_or (text_in (changed_path row)) []);
  card = Some (record { owner = text_in (changed_owner row); label = unwrap_or (text_in (changed_label row)) []; own = own; text = unwrap_or (text_in (changed_text row)) [] });
}

-- the own list of the node with the number that is shown
abbrev pub own_shown : Rows → Row → List Entry
own_shown rows row = list_in rows.entries (Int (id_in (changed_id row))) false

abbrev pub card_shown : Rows → List ℕ → Row → Changed
card_shown rows front row = changed_shown front (own_shown rows row) row

-- the change of a removed name: what is shown of its row is name and change number
abbrev pub removed_shown : Row → Changed
removed_shown row = record { number = number_in (removed_number row); name = unwrap_or (text_in (removed_name row)) []; card = None }

-- the change number of the last of such rows
abbrev pub last_number : List Row → Option Value
last_number rows = option_map changed_number (slice_get rows (length rows - 1))

-- an open connection shows the changes of these cards, with their lists, where they are the first so many cards of the book with a number that are changed after another, however many
abbrev pub ShowsCards : State → ℤ → ℕ → List ℕ → List Row → List Changed → Type 0
ShowsCards s book number front rows changes =
    IsBook s.now → (at_most : Option ℕ) → AreFirst at_most changed_number_place (lists.changed_rows book number (rows_of s.now.trees)) rows → changes ≡ map (card_shown (rows_of s.now.trees) front) rows

-- the changes of the book whose row this is, from the first so many of its cards and the first so many of its removed names
-- above a number, in some order
pub record AreChangesOf (rows : Rows) (front : List ℕ) (number : ℕ) (at_most : Option ℕ) (book : Row) (changes : List Changed) : Type 0 where
  pub cards : List Row
  pub names : List Row
  pub first_cards : AreFirst at_most changed_number_place (lists.changed_rows (id_in (rowid book)) number rows) cards
  pub first_names : AreFirst at_most removed_number_place (lists.gone_after (id_in (rowid book)) number rows) names
  pub same : IsPermutation (map (card_shown rows front) cards ++ map removed_shown names) changes

-- those of the book at a path; none where no row has it
abbrev pub AreChangesAt : Rows → List ℕ → ℕ → Option ℕ → List Changed → Option Row → Type 0
AreChangesAt rows path number at_most changes None = changes ≡ []
AreChangesAt rows path number at_most changes (Some book) = AreChangesOf rows (path ++ codes "/") number at_most book changes

-- an open connection shows those changes
abbrev pub ShowsChanges : State → List ℕ → ℕ → Option ℕ → List Changed → Type 0
ShowsChanges s path number at_most changes = IsTrue s.is_open × (IsBook s.now → AreChangesAt (rows_of s.now.trees) path number at_most changes (row_at (rows_of s.now.trees) path))

-- the changes of the first so many cards of the book whose row this is above a number, in some order
pub record AreCardChangesOf (rows : Rows) (front : List ℕ) (number : ℕ) (at_most : Option ℕ) (book : Row) (changes : List Changed) : Type 0 where
  pub cards : List Row
  pub first_cards : AreFirst at_most changed_number_place (lists.changed_rows (id_in (rowid book)) number rows) cards
  pub same : IsPermutation (map (card_shown rows front) cards) changes

-- those of the book at a path; none where no row has it
abbrev pub AreCardChangesAt : Rows → List ℕ → ℕ → Option ℕ → List Changed → Option Row → Type 0
AreCardChangesAt rows path number at_most changes None = changes ≡ []
AreCardChangesAt rows path number at_most changes (Some book) = AreCardChangesOf rows (path ++ codes "/") number at_most book changes

-- an open connection shows those changes
abbrev pub ShowsCardChanges : State → List ℕ → ℕ → Option ℕ → List Changed → Type 0
ShowsCardChanges s path number at_most changes = IsTrue s.is_open × (IsBook s.now → AreCardChangesAt (rows_of s.now.trees) path number at_most changes (row_at (rows_of s.now.trees) path))

-- each change has a number below those of the changes after it
abbrev pub DoRise : List Changed → Type 0
DoRise = IsAscending (λ a b. a.number < b.number)
