-- What each statement makes of the rows.
use Rattle.std.specs.Prelude.{◌≡◌, ℕ, ◌+◌, ℤ, pos, Bool, true, false, ◌&&◌, List, [], ◌∷◌, ◌++◌, filter, find, is_some, Option, Some, None}
use Rattle.sqlite.specs.declared.types.Value.{Value}
use Rattle.sqlite.specs.declared.types.Value.TheVariants.{Null, Int, Text}
use Rattle.sqlite.specs.Order.{Row, value_cmp}
use Rattle.std.specs.List.{list_any}
use Rattle.sqlite_rules.specs.Lists.{Has}
use Rattle.sqlite.specs.Collation.TheVariants.{Binary}
use Rattle.sqlite_schema.specs.Rules.{equal}
use Rattle.sqlite.specs.Edit.{next_rowid, id_in}
use Rattle.sqlite.specs.Tree.{rowid}
use Rattle.sqlite_keyed.specs.Lists.{update_where, delete_where, sort_by}
use Rattle.std.specs.declared.cmp.Ordering.{Ordering}
use Rattle.book_tables_rows.specs.Columns.{ace_node, ace_node_place, ace_place, ace_protected_place, gone_book_place, gone_name_place, member_group_place, meta_version, node_kind, node_label, node_number, node_owner, node_parent, node_parent_place, node_path, node_path_place, node_text, rowid_place, reach_group_place, reach_member_place}
use Rattle.book_tables_rows.specs.Rows.{Rows, has}

-- a value, or NULL
abbrev pub or_null : Option (List ℕ) → Value
or_null None = Null
or_null (Some text) = Text text

-- a row of `node` stands at a path, or under the node with a number
abbrev pub is_at : List ℕ → Row → Bool
is_at path = has node_path_place (Text path)

-- a row of `node` is there at a path
abbrev pub is_mapped : List ℕ → Rows → Bool
is_mapped path rows = is_some (find (is_at path) rows.nodes)

abbrev pub is_under : Value → Row → Bool
is_under id = has node_parent_place id

-- a row of `gone` is a removed name of the book with a number
abbrev pub is_gone : Value → List ℕ → Row → Bool
is_gone id name row = has gone_book_place id row && has gone_name_place (Text name) row

-- the values of a truth value
abbrev pub flag : Bool → Value
flag false = Int (pos 0)
flag true = Int (pos 1)

-- a row of `ace` belongs to the protected or the own list of the node with a number
abbrev pub is_entry : Value → Bool → Row → Bool
is_entry id protected row = has ace_node_place id row && has ace_protected_place (flag protected) row

abbrev pub by_place : Row → Row → Ordering
by_place a b = value_cmp (ace_place a) (ace_place b)

-- the rows of a list, in order of their places
abbrev pub entries_of : List Row → Value → Bool → List Row
entries_of entries id protected = sort_by by_place (filter (is_entry id protected) entries)

-- ---- one statement each

abbrev pub node_row : ℤ → List ℕ → Value → ℕ → Option (List ℕ) → List ℕ → Option (List ℕ) → ℕ → Row
node_row id path parent kind owner label text number =
    Int id ∷ Null ∷ Text path ∷ parent ∷ Int (pos kind) ∷ or_null owner ∷ Text label ∷ or_null text ∷ Int (pos number) ∷ []

abbrev pub insert_node : List ℕ → Value → ℕ → Option (List ℕ) → List ℕ → Option (List ℕ) → ℕ → Rows → Rows
insert_node path parent kind owner label text number rows =
    record rows { nodes = rows.nodes ++ node_row (next_rowid rows.nodes) path parent kind owner label text number ∷ [] }

abbrev pub with_number : ℕ → Row → Row
with_number number row =
    rowid row ∷ Null ∷ node_path row ∷ node_parent row ∷ node_kind row ∷ node_owner row ∷ node_label row ∷ node_text row ∷ Int (pos number) ∷ []

abbrev pub row_with_text : List ℕ → ℕ → Row → Row
row_with_text text number row =
    rowid row ∷ Null ∷ node_path row ∷ node_parent row ∷ node_kind row ∷ node_owner row ∷ node_label row ∷ Text text ∷ Int (pos number) ∷ []

abbrev pub set_number : List ℕ → ℕ → Rows → Rows
set_number path number rows = record rows { nodes = update_where (is_at path) (with_number number) rows.nodes }

abbrev pub set_text : List ℕ → List ℕ → ℕ → Rows → Rows
set_text path text number rows = record rows { nodes = update_where (is_at path) (row_with_text text number) rows.nodes }

abbrev pub delete_gone_name : Value → List ℕ → Rows → Rows
delete_gone_name id name rows = record rows { gone = delete_where (is_gone id name) rows.gone }

abbrev pub delete_gone : Value → Rows → Rows
delete_gone id rows = record rows { gone = delete_where (has gone_book_place id) rows.gone }

abbrev pub delete_entries : Value → Rows → Rows
delete_entries id rows = record rows { entries = delete_where (has ace_node_place id) rows.entries }

-- the entries of each of these nodes
abbrev pub delete_entries_of : List Value → Rows → Rows
delete_entries_of [] rows = rows
delete_entries_of (id ∷ ids) rows = delete_entries_of ids (delete_entries id rows)

-- an entry of some node that passes a test
abbrev pub is_of_some : (Row → Bool) → List Row → Row → Bool
is_of_some passes nodes entry = list_any (λ node. passes node && equal Binary (rowid node) (ace_node entry)) nodes

-- an entry of a child of the node with a number
abbrev pub is_below : Value → List Row → Row → Bool
is_below id nodes entry = is_of_some (is_under id) nodes entry

abbrev pub delete_entries_below : Value → Rows → Rows
delete_entries_below id rows = record rows { entries = delete_where (is_below id rows.nodes) rows.entries }

abbrev pub delete_children : Value → Rows → Rows
delete_children id rows = record rows { nodes = delete_where (is_under id) rows.nodes }

abbrev pub delete_node : Value → Rows → Rows
delete_node id rows = record rows { nodes = delete_where (has rowid_place id) rows.nodes }

abbrev pub with_epoch : ℕ → Row → Row
with_epoch epoch row = rowid row ∷ meta_version row ∷ Int (pos epoch) ∷ []

abbrev pub set_epoch : ℕ → Rows → Rows
set_epoch epoch rows = record rows { meta = update_where (λ _. true) (with_epoch epoch) rows.meta }

-- a removed name of a book
abbrev pub gone_row : ℤ → Value → List ℕ → ℕ → Row
gone_row id book name number = Int id ∷ book ∷ Text name ∷ Int (pos number) ∷ []

abbrev pub insert_gone : Value → List ℕ → ℕ → Rows → Rows
insert_gone book name number rows = record rows { gone = rows.gone ++ gone_row (next_rowid rows.gone) book name number ∷ [] }

-- an entry of a node: its list and its place there, and then what it says
abbrev pub entry_row : ℤ → Value → Bool → ℕ → ℕ → Option (List ℕ) → Bool → Bool → ℕ → Row
entry_row id node protected place form principal invert deny mask =
    Int id ∷ node ∷ flag protected ∷ Int (pos place) ∷ Int (pos form) ∷ or_null principal ∷ flag invert ∷ flag deny ∷ Int (pos mask) ∷ []

abbrev pub insert_entry : Value → Bool → ℕ → ℕ → Option (List ℕ) → Bool → Bool → ℕ → Rows → Rows
insert_entry node protected place form principal invert deny mask rows =
    record rows { entries = rows.entries ++ entry_row (next_rowid rows.entries) node protected place form principal invert deny mask ∷ [] }

abbrev pub insert_member : List ℕ → List ℕ → Rows → Rows
insert_member group member rows = record rows { members = rows.members ++ (Int (next_rowid rows.members) ∷ Text group ∷ Text member ∷ []) ∷ [] }

abbrev pub reach_row : ℤ → List ℕ → List ℕ → Row
reach_row id group member = Int id ∷ Text group ∷ Text member ∷ []

abbrev pub insert_reach : List ℕ → List ℕ → Rows → Rows
insert_reach group member rows = record rows { reach = rows.reach ++ reach_row (next_rowid rows.reach) group member ∷ [] }

-- a row of `reach` is of this group and this member
abbrev pub is_pair : List ℕ → List ℕ → Row → Bool
is_pair group member row = has reach_group_place (Text group) row && has reach_member_place (Text member) row

abbrev pub delete_reach : List ℕ → List ℕ → Rows → Rows
delete_reach group member rows = record rows { reach = delete_where (is_pair group member) rows.reach }

abbrev pub clear_reach : Rows → Rows
clear_reach rows = record rows { reach = delete_where (λ _. true) rows.reach }

abbrev pub insert_meta : ℕ → ℕ → Rows → Rows
insert_meta version epoch rows = record rows { meta = rows.meta ++ (Int (next_rowid rows.meta) ∷ Int (pos version) ∷ Int (pos epoch) ∷ []) ∷ [] }

abbrev pub delete_own : Value → Rows → Rows
delete_own id rows = record rows { entries = delete_where (is_entry id false) rows.entries }

abbrev pub delete_members : List ℕ → Rows → Rows
delete_members group rows = record rows { members = delete_where (has member_group_place (Text group)) rows.members }

abbrev pub with_label : List ℕ → ℕ → Row → Row
with_label label number row =
    rowid row ∷ Null ∷ node_path row ∷ node_parent row ∷ node_kind row ∷ node_owner row ∷ Text label ∷ node_text row ∷ Int (pos number) ∷ []

abbrev pub with_copy : List ℕ → List ℕ → ℕ → Row → Row
with_copy label text number row =
    rowid row ∷ Null ∷ node_path row ∷ node_parent row ∷ node_kind row ∷ node_owner row ∷ Text label ∷ Text text ∷ Int (pos number) ∷ []

abbrev pub with_place : Option (List ℕ) → List ℕ → Row → Row
with_place owner label row =
    rowid row ∷ Null ∷ node_path row ∷ node_parent row ∷ node_kind row ∷ or_null owner ∷ Text label ∷ node_text row ∷ node_number row ∷ []

-- the row of a node at another path, under another node
abbrev pub moved_to : List ℕ → Value → ℕ → Row → Row
moved_to path parent number row =
    rowid row ∷ Null ∷ Text path ∷ parent ∷ node_kind row ∷ node_owner row ∷ node_label row ∷ node_text row ∷ Int (pos number) ∷ []

abbrev pub set_label_rows : List ℕ → List ℕ → ℕ → Rows → Rows
set_label_rows path label number rows = record rows { nodes = update_where (is_at path) (with_label label number) rows.nodes }

abbrev pub set_place : List ℕ → Option (List ℕ) → List ℕ → Rows → Rows
set_place path owner label rows = record rows { nodes = update_where (is_at path) (with_place owner label) rows.nodes }

abbrev pub set_copy : List ℕ → List ℕ → List ℕ → ℕ → Rows → Rows
set_copy path label text number rows = record rows { nodes = update_where (is_at path) (with_copy label text number) rows.nodes }

abbrev pub move_node : List ℕ → List ℕ → Value → ℕ → Rows → Rows
move_node path destination parent number rows = record rows { nodes = update_where (is_at path) (moved_to destination parent number) rows.nodes }

-- ---- the writes of an edit

-- the card's row gets the text, or a row is added and its name is no removed one
abbrev pub write_card : Value → Bool → List ℕ → List ℕ → Option (List ℕ) → List ℕ → ℕ → Rows → Rows
write_card id false at name owner text number rows = delete_gone_name id name (insert_node at id 5 owner [] (Some text) number rows)
write_card id true at name owner text number rows = set_text at text number rows

-- PUT of a card under the book whose row has a number: the card is written, and the book has the change number
abbrev pub put_card_rows : Value → Bool → List ℕ → List ℕ → List ℕ → Option (List ℕ) → List ℕ → ℕ → Rows → Rows
put_card_rows id there book_path card_path name owner text number rows =
    set_number book_path number (write_card id there card_path name owner text number rows)

-- the cards of a book, and what refers to them
abbrev pub remove_cards : Value → Rows → Rows
remove_cards id rows = delete_children id (delete_gone id (delete_entries_below id rows))

-- DELETE of the book whose row has a number: its cards, its removed names, its entries and its row are taken out, and the epoch is another
abbrev pub remove_book_rows : Value → ℕ → Rows → Rows
remove_book_rows id epoch rows = set_epoch epoch (delete_node id (delete_entries id (remove_cards id rows)))

-- DELETE of the card whose row has a number: its entries and its row are taken out, its name is a removed one, and the book has the change number
abbrev pub remove_card_rows : Value → Value → List ℕ → List ℕ → ℕ → Rows → Rows
remove_card_rows book card book_path name number rows =
    set_number book_path number (insert_gone book name number (delete_node card (delete_entries card rows)))

-- MKCOL: a book under the node of all books, with an empty label, no text and the number 0
abbrev pub add_book_rows : Value → List ℕ → Option (List ℕ) → Rows → Rows
add_book_rows home path owner rows = insert_node path home 4 owner [] None 0 rows

-- PROPPATCH of a card's displayname: the card has the label, and card and book have the change number
abbrev pub label_card_rows : List ℕ → List ℕ → List ℕ → ℕ → Rows → Rows
label_card_rows book_path card_path label number rows = set_number book_path number (set_label_rows card_path label number rows)

-- the card's row gets label and text, or a row is added and its name is no removed one
abbrev pub write_copy : Value → Bool → List ℕ → List ℕ → Option (List ℕ) → List ℕ → List ℕ → ℕ → Rows → Rows
write_copy id false at name owner label text number rows = delete_gone_name id name (insert_node at id 5 owner label (Some text) number rows)
write_copy id true at name owner label text number rows = set_copy at label text number rows

-- COPY into the book whose row has a number: the card is written, and the book has the change number
abbrev pub put_copy_rows : Value → Bool → List ℕ → List ℕ → List ℕ → Option (List ℕ) → List ℕ → List ℕ → ℕ → Rows → Rows
put_copy_rows id there book_path card_path name owner label text number rows =
    set_number book_path number (write_copy id there card_path name owner label text number rows)

-- a card that is there is taken out with its entries
abbrev pub clear_at : Option Row → Rows → Rows
clear_at None rows = rows
clear_at (Some card) rows = delete_node (Int (id_in (rowid card))) (delete_entries (Int (id_in (rowid card))) rows)

-- MOVE, at the source: the name is a removed one, and the book has the change number
abbrev pub leave_book : Value → List ℕ → List ℕ → ℕ → Rows → Rows
leave_book book book_path name number rows = set_number book_path number (insert_gone book name number rows)

-- MOVE, at the destination: the card's row has another path and parent, its name is no removed one, and card and book have the change number
abbrev pub arrive_in : Value → List ℕ → List ℕ → List ℕ → List ℕ → ℕ → Rows → Rows
arrive_in book book_path card_path destination name number rows =
    set_number book_path number (move_node card_path destination book number (delete_gone_name book name rows))

-- ---- lists and members that are written anew

-- what an entry of a list says
pub record Said : Type 0 where
  pub form : ℕ
  pub principal : Option (List ℕ)
  pub invert : Bool
  pub deny : Bool
  pub mask : ℕ

-- an entry at a place of a list of a node
abbrev pub insert_listed : Value → Bool → ℕ → Said → Rows → Rows
insert_listed node protected place entry rows = insert_entry node protected place entry.form entry.principal entry.invert entry.deny entry.mask rows

-- entries at the places from one on
abbrev pub insert_list : Value → Bool → ℕ → List Said → Rows → Rows
insert_list node protected place [] rows = rows
insert_list node protected place (entry ∷ more) rows = insert_list node protected (place + 1) more (insert_listed node protected place entry rows)

-- the same of the own list
abbrev pub insert_own : Value → ℕ → Said → Rows → Rows
insert_own node place entry rows = insert_listed node false place entry rows

abbrev pub insert_entries : Value → ℕ → List Said → Rows → Rows
insert_entries node place list rows = insert_list node false place list rows

-- the own list of the node whose row has a number is this one
abbrev pub write_list : Value → List Said → Rows → Rows
write_list node list rows = insert_entries node 0 list (delete_own node rows)

-- the protected and the own list of the node whose row has a number are these
abbrev pub write_both : Value → List Said → List Said → Rows → Rows
write_both node protected own rows = insert_list node false 0 own (insert_list node true 0 protected (delete_entries node rows))

-- ACL (RFC 3744, 8.1): the node has this own list, and the epoch is another
abbrev pub set_list_rows : Value → List Said → ℕ → Rows → Rows
set_list_rows node list epoch rows = set_epoch epoch (write_list node list rows)

abbrev pub insert_members : List ℕ → List (List ℕ) → Rows → Rows
insert_members group [] rows = rows
insert_members group (member ∷ more) rows = insert_members group more (insert_member group member rows)

-- the direct members of the group at a path are these
abbrev pub write_members : List ℕ → List (List ℕ) → Rows → Rows
write_members group members rows = insert_members group members (delete_members group rows)

-- a group, and whoever a chain of members leads to from it
pub record Pair : Type 0 where
  pub group : List ℕ
  pub member : List ℕ

abbrev pub delete_pairs : List Pair → Rows → Rows
delete_pairs [] rows = rows
delete_pairs (pair ∷ more) rows = delete_pairs more (delete_reach pair.group pair.member rows)

abbrev pub insert_pairs : List Pair → Rows → Rows
insert_pairs [] rows = rows
insert_pairs (pair ∷ more) rows = insert_pairs more (insert_reach pair.group pair.member rows)

-- the rows of some pairs are taken out of `reach`, and those of others are added
abbrev pub renew_reach : List Pair → List Pair → Rows → Rows
renew_reach old new rows = insert_pairs new (delete_pairs old rows)

-- PROPPATCH of a group's members (RFC 3744, 4.3): the group has these, `reach` is renewed, and the epoch is another
abbrev pub set_members_rows : List ℕ → List (List ℕ) → List Pair → List Pair → ℕ → Rows → Rows
set_members_rows group members old new epoch rows = set_epoch epoch (renew_reach old new (write_members group members rows))

-- ---- rows that a write fits

-- no row refers to a node that passes, but for nodes that pass too
pub record AreFree (p : Row → Bool) (rows : Rows) : Type 0 where
  pub nodes : (node child : Row) → Has rows.nodes node → p node ≡ true → Has rows.nodes child → p child ≡ false → has node_parent_place (rowid node) child ≡ false
  pub entries : (node entry : Row) → Has rows.nodes node → p node ≡ true → Has rows.entries entry → has ace_node_place (rowid node) entry ≡ false
  pub gone : (node name : Row) → Has rows.nodes node → p node ≡ true → Has rows.gone name → has gone_book_place (rowid node) name ≡ false

-- one row, with version 2 and the epoch
abbrev pub IsMeta : List Row → ℕ → Type 0
IsMeta meta epoch = (id : Value) × (meta ≡ (id ∷ Int (pos 2) ∷ Int (pos epoch) ∷ []) ∷ [])

abbrev pub HasMeta : Rows → Type 0
HasMeta rows = (epoch : ℕ) × IsMeta rows.meta epoch
