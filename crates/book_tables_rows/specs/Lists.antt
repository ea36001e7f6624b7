-- What a look-up of a list shows.
use Rattle.std.specs.Prelude.{◌≡◌, ℕ, ℤ, pos, negsuc, Bool, true, false, ◌&&◌, List, [], ◌∷◌, map, filter, find, length, min, slice_get, Option, Some, None, option_map, unwrap_or, IsTrue, IsPermutation}
use Rattle.std.specs.Ordering.{ordering_then, is_gt}
use Rattle.std.specs.declared.cmp.Ordering.{Ordering}
use Rattle.sqlite.specs.Collation.TheVariants.{Binary}
use Rattle.sqlite.specs.Ops.{binary, is_true}
use Rattle.sqlite_sql.specs.declared.ops.BinaryOp.TheVariants.{Compare}
use Rattle.sqlite_sql.specs.declared.ops.CompareOp.TheVariants.{Gt, Le}
use Rattle.sqlite.specs.Query.{limited}
use Rattle.sqlite_keyed.specs.Lists.{sort_by}
use Rattle.sqlite_trees.specs.Tree.{IsAscending}
use Rattle.sqlite.specs.declared.types.Value.{Value}
use Rattle.sqlite.specs.declared.types.Value.TheVariants.{Int}
use Rattle.sqlite.specs.Order.{Row, column, value_cmp}
use Rattle.sqlite.specs.State.{State}
use Rattle.sqlite.specs.Tree.{rowid}
use Rattle.book_tables_rows.specs.Columns.{ace_deny, ace_form, ace_invert, ace_mask, ace_node, ace_node_place, ace_place, ace_principal, ace_protected, gone_book_place, gone_name, gone_number, gone_number_place, member_group, member_member, node_kind, node_label, node_number, node_number_place, node_owner, node_path, node_text}
use Rattle.book_tables_rows.specs.Rows.{Rows, rows_of, has, IsBook}
use Rattle.book_tables_rows.specs.Nodes.{number_in}
use Rattle.book_tables_rows.specs.Writes.{Said, is_at, is_under, is_of_some, is_entry, entries_of, or_null, flag, write_list, write_both}

-- form, principal, invert, deny and mask of an entry
abbrev pub entry_columns : Row → Row
entry_columns row = ace_form row ∷ ace_principal row ∷ ace_invert row ∷ ace_deny row ∷ ace_mask row ∷ []

-- each of them by its name
abbrev pub entry_form : Row → Value
entry_form entry = column entry 0

abbrev pub entry_principal : Row → Value
entry_principal entry = column entry 1

abbrev pub entry_invert : Row → Value
entry_invert entry = column entry 2

abbrev pub entry_deny : Row → Value
entry_deny entry = column entry 3

abbrev pub entry_mask : Row → Value
entry_mask entry = column entry 4

-- an open connection shows these rows, in some order
abbrev pub ShowsRows : State → (Rows → List Row) → List Row → Type 0
ShowsRows s picked shown = IsTrue s.is_open × (IsBook s.now → IsPermutation (picked (rows_of s.now.trees)) shown)

-- what LIMIT is given for the first so many rows: less than 0, and so no limit, where no number is given
abbrev pub limit_of : Option ℕ → ℤ
limit_of None = negsuc 0
limit_of (Some most) = pos most

-- the first so many of some rows in order of the values of a column; all of them where no number is given
pub record AreFirst (at_most : Option ℕ) (place : ℕ) (all shown : List Row) : Type 0 where
  pub ordered : List Row
  pub same : IsPermutation all ordered
  pub in_order : IsAscending (λ a b. is_gt (value_cmp (column a place) (column b place)) ≡ false) ordered
  pub first : shown ≡ limited at_most ordered

-- an open connection shows the first so many of these rows
abbrev pub ShowsFirst : State → Option ℕ → ℕ → (Rows → List Row) → List Row → Type 0
ShowsFirst s at_most place picked shown = IsTrue s.is_open × (IsBook s.now → AreFirst at_most place (picked (rows_of s.now.trees)) shown)

-- a row's number in a column is above another, as SQL compares values
abbrev pub is_above : ℕ → ℕ → Row → Bool
is_above place number row = is_true (binary (Compare Gt Binary) (column row place) (Int (pos number)))

-- it is at most another
abbrev pub is_at_most : ℕ → ℕ → Row → Bool
is_at_most place number row = is_true (binary (Compare Le Binary) (column row place) (Int (pos number)))

-- group and member of each pair
abbrev pub pairs_of : Rows → List Row
pairs_of rows = map (λ row. member_group row ∷ member_member row ∷ []) rows.members

abbrev pub pair_group_place : ℕ
pair_group_place = 0

abbrev pub pair_member_place : ℕ
pair_member_place = 1

abbrev pub pair_group : Row → Value
pair_group pair = column pair pair_group_place

abbrev pub pair_member : Row → Value
pair_member pair = column pair pair_member_place

-- name and number of the removed names of a book whose numbers are above another
abbrev pub gone_after : ℤ → ℕ → Rows → List Row
gone_after book number rows = map (λ row. gone_name row ∷ gone_number row ∷ []) (filter (λ row. has gone_book_place (Int book) row && is_above gone_number_place number row) rows.gone)

abbrev pub removed_name : Row → Value
removed_name removed = column removed 0

abbrev pub removed_number_place : ℕ
removed_number_place = 1

abbrev pub removed_number : Row → Value
removed_number removed = column removed removed_number_place

-- number of the row, path, owner, label, text and change number of the children of a node whose change numbers are above another
abbrev pub changed_rows : ℤ → ℕ → Rows → List Row
changed_rows book number rows =
    map (λ row. rowid row ∷ node_path row ∷ node_owner row ∷ node_label row ∷ node_text row ∷ node_number row ∷ []) (filter (λ row. is_under (Int book) row && is_above node_number_place number row) rows.nodes)

abbrev pub changed_id : Row → Value
changed_id changed = column changed 0

abbrev pub changed_path : Row → Value
changed_path changed = column changed 1

abbrev pub changed_owner : Row → Value
changed_owner changed = column changed 2

abbrev pub changed_label : Row → Value
changed_label changed = column changed 3

abbrev pub changed_text : Row → Value
changed_text changed = column changed 4

abbrev pub changed_number_place : ℕ
changed_number_place = 5

abbrev pub changed_number : Row → Value
changed_number changed = column changed changed_number_place

abbrev pub by_path : Row → Row → Ordering
by_path a b = value_cmp (node_path a) (node_path b)

-- number of the row, path, kind, owner, label and change number of the children of a node, in order of their paths
abbrev pub children_of : ℤ → Rows → List Row
children_of id rows = map (λ row. rowid row ∷ node_path row ∷ node_kind row ∷ node_owner row ∷ node_label row ∷ node_number row ∷ []) (sort_by by_path (filter (is_under (Int id)) rows.nodes))

abbrev pub child_id : Row → Value
child_id child = column child 0

abbrev pub child_path : Row → Value
child_path child = column child 1

abbrev pub child_kind : Row → Value
child_kind child = column child 2

abbrev pub child_owner : Row → Value
child_owner child = column child 3

abbrev pub child_label : Row → Value
child_label child = column child 4

abbrev pub child_number : Row → Value
child_number child = column child 5

-- an open connection shows the children of a node, in order of their paths
abbrev pub ShowsChildren : State → ℤ → List Row → Type 0
ShowsChildren s id shown = IsTrue s.is_open × (IsBook s.now → shown ≡ children_of id (rows_of s.now.trees))

-- in order of the node, of the list and of the place
abbrev pub by_list : Row → Row → Ordering
by_list a b = ordering_then (value_cmp (ace_node a) (ace_node b)) (ordering_then (value_cmp (ace_protected a) (ace_protected b)) (value_cmp (ace_place a) (ace_place b)))

-- node, list, form, principal, invert, deny and mask of an entry
abbrev pub listed_columns : Row → Row
listed_columns row = ace_node row ∷ ace_protected row ∷ ace_form row ∷ ace_principal row ∷ ace_invert row ∷ ace_deny row ∷ ace_mask row ∷ []

abbrev pub listed_node : Row → Value
listed_node listed = column listed 0

abbrev pub listed_protected : Row → Value
listed_protected listed = column listed 1

-- the place where form, principal, invert, deny and mask begin in such a row
abbrev pub listed_entry_place : ℕ
listed_entry_place = 2

-- the entries of the nodes that pass a test, in order of the node's number, the own list of each before its protected one, in order of their places
abbrev pub listed_entries : (Row → Bool) → Rows → List Row
listed_entries passes rows = map listed_columns (sort_by by_list (filter (is_of_some passes rows.nodes) rows.entries))

-- those of all children of a node
abbrev pub child_entries : ℤ → Rows → List Row
child_entries id rows = listed_entries (is_under (Int id)) rows

-- an open connection shows the entries of the children of a node
abbrev pub ShowsChildEntries : State → ℤ → List Row → Type 0
ShowsChildEntries s id shown = IsTrue s.is_open × (IsBook s.now → shown ≡ child_entries id (rows_of s.now.trees))

-- a child of a node whose change number is above one and at most another
abbrev pub is_changed_between : ℤ → ℕ → ℕ → Row → Bool
is_changed_between book number last row = is_under (Int book) row && (is_above node_number_place number row && is_at_most node_number_place last row)

-- the entries of those children
abbrev pub changed_entries : ℤ → ℕ → ℕ → Rows → List Row
changed_entries book number last rows = listed_entries (is_changed_between book number last) rows

-- an open connection shows them
abbrev pub ShowsChangedEntries : State → ℤ → ℕ → ℕ → List Row → Type 0
ShowsChangedEntries s book number last shown = IsTrue s.is_open × (IsBook s.now → shown ≡ changed_entries book number last (rows_of s.now.trees))

-- the entries of the node at a path, its own list before its protected one, in order of their places; none where no row has the path
abbrev pub entries_at : List ℕ → Rows → List Row
entries_at path rows = unwrap_or (option_map (λ node. map listed_columns (sort_by by_list (filter (has ace_node_place (rowid node)) rows.entries))) (find (is_at path) rows.nodes)) []

-- an open connection shows the entries of the node at a path
abbrev pub ShowsEntriesAt : State → List ℕ → List Row → Type 0
ShowsEntriesAt s path shown = IsTrue s.is_open × (IsBook s.now → shown ≡ entries_at path (rows_of s.now.trees))

-- how many children the node at a path has, 0 where there is none; SQL counts no further than the last whole number
abbrev pub row_count_at : List ℕ → Rows → ℕ
row_count_at path rows = unwrap_or (option_map (λ node. min 9223372036854775807 (length (filter (is_under (rowid node)) rows.nodes))) (find (is_at path) rows.nodes)) 0

abbrev pub told_count : Row → Value
told_count row = column row 0

-- the count that the first row tells, 0 where there is none
abbrev pub first_number : List Row → ℕ
first_number rows = unwrap_or (option_map (λ row. number_in (told_count row)) (slice_get rows 0)) 0

-- an open connection shows that count
abbrev pub ShowsCount : State → List ℕ → ℕ → Type 0
ShowsCount s path count = IsTrue s.is_open × (IsBook s.now → count ≡ row_count_at path (rows_of s.now.trees))

-- ---- laws of lists that are written

-- what the row of a written entry shows
abbrev pub said_columns : Said → Row
said_columns e = Int (pos e.form) ∷ or_null e.principal ∷ flag e.invert ∷ flag e.deny ∷ Int (pos e.mask) ∷ []

-- an own list that was written is read as it was given
abbrev pub WrittenListsAreRead : Type 0
WrittenListsAreRead = (rows : Rows) (id : ℤ) (list : List Said) → map entry_columns (entries_of (write_list (Int id) list rows).entries (Int id) false) ≡ map said_columns list

-- a list that has no entry in common with an own list stays as that one is written
abbrev pub OtherListsStay : Type 0
OtherListsStay = (rows : Rows) (id : ℤ) (list : List Said) (other : Value) (protected : Bool) → ((row : Row) → is_entry (Int id) false row ≡ true → is_entry other protected row ≡ false)
    → entries_of (write_list (Int id) list rows).entries other protected ≡ entries_of rows.entries other protected

-- both lists of a node that were written are read as they were given
abbrev pub BothListsAreRead : Type 0
BothListsAreRead = (rows : Rows) (id : ℤ) (protected own : List Said)
    → (map entry_columns (entries_of (write_both (Int id) protected own rows).entries (Int id) true) ≡ map said_columns protected)
    × (map entry_columns (entries_of (write_both (Int id) protected own rows).entries (Int id) false) ≡ map said_columns own)

-- a list that has no entry of a node stays as the lists of that one are written
abbrev pub ListsOfOthersStay : Type 0
ListsOfOthersStay = (rows : Rows) (id : ℤ) (protected own : List Said) (other : Value) (list : Bool) → ((row : Row) → has ace_node_place (Int id) row ≡ true → is_entry other list row ≡ false)
    → entries_of (write_both (Int id) protected own rows).entries other list ≡ entries_of rows.entries other list
