-- What a look-up tells of a node.
use Rattle.std.specs.Prelude.{◌≡◌, ℕ, ℤ, pos, ◌+◌, List, [], find, Option, Some, None, option_map, unwrap_or, string_bytes, IsTrue}
use Rattle.sqlite.specs.declared.types.Value.{Value}
use Rattle.sqlite.specs.declared.types.Value.TheVariants.{Int, Text}
use Rattle.sqlite.specs.Edit.{id_in}
use Rattle.sqlite.specs.Order.{Row, column}
use Rattle.sqlite.specs.State.{State}
use Rattle.sqlite.specs.Tree.{rowid}
use Rattle.book_tables_rows.specs.Columns.{node_kind, node_label, node_number, node_owner, node_text, rowid_place}
use Rattle.book_tables_rows.specs.declared.nodes.FoundNode.{FoundNode}
use Rattle.book_tables_rows.specs.declared.setting.EntryRow.{EntryRow}
use Rattle.book_tables_rows.specs.Rows.{Rows, rows_of, has, IsBook}
use Rattle.book_tables_rows.specs.Steps.{Change, change_of}
use Rattle.book_tables_rows.specs.Writes.{Pair, is_at, is_mapped, is_under, put_card_rows, remove_book_rows, remove_cards, remove_card_rows, add_book_rows, set_label_rows, label_card_rows, put_copy_rows, clear_at, leave_book, arrive_in, delete_gone, delete_entries_below, delete_entries, Said, set_list_rows, set_members_rows, AreFree, IsMeta, HasMeta}

abbrev pub number_in : Value → ℕ
number_in (Int (pos n)) = n
number_in _ = 0

abbrev pub text_in : Value → Option (List ℕ)
text_in (Text t) = Some t
text_in _ = None

-- what the columns of a node say, but for its path and parent
pub record Told : Type 0 where
  pub id : ℤ
  pub kind : ℕ
  pub owner : Option (List ℕ)
  pub label : List ℕ
  pub text : Option (List ℕ)
  pub number : ℕ

abbrev pub told_by : Value → Value → Value → Value → Value → Value → Told
told_by id kind owner label text number =
    record { id = id_in id; kind = number_in kind; owner = text_in owner; label = unwrap_or (text_in label) []; text = text_in text; number = number_in number }

abbrev pub told_of : Row → Told
told_of row = told_by (rowid row) (node_kind row) (node_owner row) (node_label row) (node_text row) (node_number row)

-- the columns that a look-up shows
abbrev pub told_id : Row → Value
told_id row = column row 0

abbrev pub told_kind : Row → Value
told_kind row = column row 1

abbrev pub told_owner : Row → Value
told_owner row = column row 2

abbrev pub told_label : Row → Value
told_label row = column row 3

abbrev pub told_text : Row → Value
told_text row = column row 4

abbrev pub told_number : Row → Value
told_number row = column row 5

abbrev pub told_shown : Row → Told
told_shown row = told_by (told_id row) (told_kind row) (told_owner row) (told_label row) (told_text row) (told_number row)

abbrev pub told : FoundNode → Told
told f = record { id = f.id; kind = f.kind; owner = option_map string_bytes f.owner; label = string_bytes f.label; text = option_map string_bytes f.text; number = f.number }

-- the row at a path, in the tables of an open connection
abbrev pub Finds : State → List ℕ → Option Told → Type 0
Finds s path found = IsTrue s.is_open × (IsBook s.now → found ≡ option_map told_of (find (is_at path) (rows_of s.now.trees).nodes))

-- the rows after a card was put into its book
pub record PutsCard (rows after : Rows) (book_path card_path name : List ℕ) (owner : Option (List ℕ)) (text : List ℕ) : Type 0 where
  pub book : Row
  pub there : find (is_at book_path) rows.nodes ≡ Some book
  pub rows_are : after ≡ put_card_rows (Int (id_in (rowid book))) (is_mapped card_path rows) book_path card_path name owner text (number_in (node_number book) + 1) rows

abbrev pub putting_card : List ℕ → List ℕ → List ℕ → Option (List ℕ) → List ℕ → Change
putting_card book_path card_path name owner text = change_of (λ rows after. PutsCard rows after book_path card_path name owner text)

-- the epoch in what is shown of `meta`, version and epoch
abbrev pub told_epoch : Row → Value
told_epoch row = column row 1

-- the epoch that an open connection shows, where `meta` has its one row
abbrev pub ShowsEpoch : State → ℕ → Type 0
ShowsEpoch s epoch = IsTrue s.is_open × (IsBook s.now → (n : ℕ) → IsMeta (rows_of s.now.trees).meta n → epoch ≡ n)

-- the rows after a book was taken out, with the next epoch
pub record RemovesBook (rows after : Rows) (path : List ℕ) : Type 0 where
  pub book : Row
  pub there : find (is_at path) rows.nodes ≡ Some book
  pub epoch : ℕ
  pub meta : IsMeta rows.meta epoch
  pub rows_are : after ≡ remove_book_rows (Int (id_in (rowid book))) (epoch + 1) rows

-- rows from which a book can be taken out: once what refers to its cards is taken out, no row refers to them, and then none to the book
pub record FitRemoval (path : List ℕ) (rows : Rows) : Type 0 where
  pub cards : (book : Row) → find (is_at path) rows.nodes ≡ Some book
      → AreFree (is_under (Int (id_in (rowid book)))) (delete_gone (Int (id_in (rowid book))) (delete_entries_below (Int (id_in (rowid book))) rows))
  pub book : (book : Row) → find (is_at path) rows.nodes ≡ Some book
      → AreFree (has rowid_place (Int (id_in (rowid book)))) (delete_entries (Int (id_in (rowid book))) (remove_cards (Int (id_in (rowid book))) rows))
  pub meta : HasMeta rows

abbrev pub removing_book : List ℕ → Change
removing_book path = record { Fits = FitRemoval path; Makes = λ rows after. RemovesBook rows after path }

-- the rows after a card was taken out of its book, with the book's next number
pub record RemovesCard (rows after : Rows) (book_path card_path name : List ℕ) : Type 0 where
  pub book : Row
  pub there : find (is_at book_path) rows.nodes ≡ Some book
  pub card : Row
  pub card_there : find (is_at card_path) rows.nodes ≡ Some card
  pub rows_are : after ≡ remove_card_rows (Int (id_in (rowid book))) (Int (id_in (rowid card))) book_path name (number_in (node_number book) + 1) rows

-- rows from which a card can be taken out: without its entries, no row refers to it
pub record FitCardRemoval (card_path : List ℕ) (rows : Rows) : Type 0 where
  pub card : (card : Row) → find (is_at card_path) rows.nodes ≡ Some card
      → AreFree (has rowid_place (Int (id_in (rowid card)))) (delete_entries (Int (id_in (rowid card))) rows)

abbrev pub removing_card : List ℕ → List ℕ → List ℕ → Change
removing_card book_path card_path name = record { Fits = FitCardRemoval card_path; Makes = λ rows after. RemovesCard rows after book_path card_path name }

-- the rows after a book was added under the node of all books
pub record AddsBook (rows after : Rows) (home_path path : List ℕ) (owner : Option (List ℕ)) : Type 0 where
  pub home : Row
  pub there : find (is_at home_path) rows.nodes ≡ Some home
  pub rows_are : after ≡ add_book_rows (Int (id_in (rowid home))) path owner rows

abbrev pub adding_book : List ℕ → List ℕ → Option (List ℕ) → Change
adding_book home_path path owner = change_of (λ rows after. AddsBook rows after home_path path owner)

-- the rows after a card got a label, with the book's next number
pub record LabelsCard (rows after : Rows) (book_path card_path label : List ℕ) : Type 0 where
  pub book : Row
  pub there : find (is_at book_path) rows.nodes ≡ Some book
  pub rows_are : after ≡ label_card_rows book_path card_path label (number_in (node_number book) + 1) rows

abbrev pub labelling_card : List ℕ → List ℕ → List ℕ → Change
labelling_card book_path card_path label = change_of (λ rows after. LabelsCard rows after book_path card_path label)

-- the rows after another node got a label: it keeps its number
pub record LabelsNode (rows after : Rows) (path label : List ℕ) : Type 0 where
  pub node : Row
  pub there : find (is_at path) rows.nodes ≡ Some node
  pub rows_are : after ≡ set_label_rows path label (number_in (node_number node)) rows

abbrev pub labelling_node : List ℕ → List ℕ → Change
labelling_node path label = change_of (λ rows after. LabelsNode rows after path label)

-- the rows after the text and the label of a card were put into a book, with the book's next number
pub record PutsCopy (rows after : Rows) (source_path book_path card_path name : List ℕ) (owner : Option (List ℕ)) : Type 0 where
  pub source : Row
  pub source_there : find (is_at source_path) rows.nodes ≡ Some source
  pub text : List ℕ
  pub text_is : text_in (node_text source) ≡ Some text
  pub book : Row
  pub there : find (is_at book_path) rows.nodes ≡ Some book
  pub rows_are : after
      ≡ put_copy_rows (Int (id_in (rowid book))) (is_mapped card_path rows) book_path card_path name owner (unwrap_or (text_in (node_label source)) []) text (number_in (node_number book) + 1) rows

abbrev pub copying_card : List ℕ → List ℕ → List ℕ → List ℕ → Option (List ℕ) → Change
copying_card source_path book_path card_path name owner = change_of (λ rows after. PutsCopy rows after source_path book_path card_path name owner)

-- the rows after a card at the destination was taken out and a name left its book, with the book's next number
pub record LeavesBook (rows after : Rows) (book_path name destination : List ℕ) : Type 0 where
  pub book : Row
  pub there : find (is_at book_path) rows.nodes ≡ Some book
  pub rows_are : after ≡ leave_book (Int (id_in (rowid book))) book_path name (number_in (node_number book) + 1) (clear_at (find (is_at destination) rows.nodes) rows)

abbrev pub leaving_book : List ℕ → List ℕ → List ℕ → Change
leaving_book book_path name destination = record { Fits = FitCardRemoval destination; Makes = λ rows after. LeavesBook rows after book_path name destination }

-- the rows after a card arrived in a book, with the book's next number
pub record ArrivesIn (rows after : Rows) (book_path card_path destination name : List ℕ) : Type 0 where
  pub book : Row
  pub there : find (is_at book_path) rows.nodes ≡ Some book
  pub rows_are : after ≡ arrive_in (Int (id_in (rowid book))) book_path card_path destination name (number_in (node_number book) + 1) rows

abbrev pub arriving_in : List ℕ → List ℕ → List ℕ → List ℕ → Change
arriving_in book_path card_path destination name = change_of (λ rows after. ArrivesIn rows after book_path card_path destination name)

-- the rows after a card was moved: it left one book, and arrived in the other or in the same
pub record MovesCard (rows after : Rows) (source_book card_path source_name target_book destination target_name : List ℕ) : Type 0 where
  pub between : Rows
  pub left : LeavesBook rows between source_book source_name destination
  pub arrived : ArrivesIn between after target_book card_path destination target_name

abbrev pub moving_card : List ℕ → List ℕ → List ℕ → List ℕ → List ℕ → List ℕ → Change
moving_card source_book card_path source_name target_book destination target_name =
    record { Fits = FitCardRemoval destination; Makes = λ rows after. MovesCard rows after source_book card_path source_name target_book destination target_name }

-- what an entry says that is to be written
abbrev pub said : EntryRow → Said
said e = record { form = e.form; principal = option_map string_bytes e.principal; invert = e.invert; deny = e.deny; mask = e.mask }

-- rows with an epoch that can be raised
pub record FitEpoch (rows : Rows) : Type 0 where
  pub meta : HasMeta rows

-- the rows after the own list of a node was written, with the next epoch
pub record SetsList (rows after : Rows) (path : List ℕ) (list : List Said) : Type 0 where
  pub node : Row
  pub there : find (is_at path) rows.nodes ≡ Some node
  pub epoch : ℕ
  pub meta : IsMeta rows.meta epoch
  pub rows_are : after ≡ set_list_rows (Int (id_in (rowid node))) list (epoch + 1) rows

abbrev pub setting_list : List ℕ → List Said → Change
setting_list path list = record { Fits = FitEpoch; Makes = λ rows after. SetsList rows after path list }

-- the rows after the direct members of a group were written and `reach` was renewed, with the next epoch
pub record SetsMembers (rows after : Rows) (group : List ℕ) (members : List (List ℕ)) (old new : List Pair) : Type 0 where
  pub epoch : ℕ
  pub meta : IsMeta rows.meta epoch
  pub rows_are : after ≡ set_members_rows group members old new (epoch + 1) rows

abbrev pub setting_members : List ℕ → List (List ℕ) → List Pair → List Pair → Change
setting_members group members old new = record { Fits = FitEpoch; Makes = λ rows after. SetsMembers rows after group members old new }
