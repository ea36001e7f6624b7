-- Adopting a policy: what it makes of the rows.
use Rattle.std.specs.Prelude.{◌≡◌, ⊤, ◌⊎◌, ℕ, ◌+◌, List, [], ◌∷◌, map, find, Option, Some, None, option_map, string_bytes}
use Rattle.sqlite.specs.declared.types.Value.TheVariants.{Int}
use Rattle.sqlite.specs.Edit.{id_in}
use Rattle.sqlite.specs.Order.{Row}
use Rattle.sqlite.specs.Tree.{rowid}
use Rattle.book_tables_rows.specs.declared.adopting.GroupRow.{GroupRow}
use Rattle.book_tables_rows.specs.declared.adopting.ListsRow.{ListsRow}
use Rattle.book_tables_rows.specs.declared.adopting.PlaceRow.{PlaceRow}
use Rattle.book_tables_rows.specs.Nodes.{FitEpoch, said}
use Rattle.book_tables_rows.specs.Rows.{Rows}
use Rattle.book_tables_rows.specs.Steps.{Change}
use Rattle.book_tables_rows.specs.Writes.{Pair, Said, IsMeta, is_at, insert_node, renew_reach, set_epoch, set_place, write_both, write_members}

-- ---- what is written

-- a node with an owner and a label; the parent and the kind are those of a node that is not there yet
pub record Place : Type 0 where
  pub path : List ℕ
  pub parent : List ℕ
  pub kind : ℕ
  pub owner : Option (List ℕ)
  pub label : List ℕ

-- a node with its two lists
pub record Listed : Type 0 where
  pub path : List ℕ
  pub protected : List Said
  pub own : List Said

-- a group with its direct members
pub record Joined : Type 0 where
  pub group : List ℕ
  pub members : List (List ℕ)

abbrev pub placed_row : PlaceRow → Place
placed_row row = record { path = string_bytes row.path; parent = string_bytes row.parent; kind = row.kind; owner = option_map string_bytes row.owner; label = string_bytes row.label }

abbrev pub listed_row : ListsRow → Listed
listed_row row = record { path = string_bytes row.path; protected = map said row.protected.items; own = map said row.own.items }

abbrev pub joined : GroupRow → Joined
joined row = record { group = string_bytes row.group; members = map string_bytes row.members.items }

-- ---- one write each

-- a node under the one whose row was found, with no text and the number 0
abbrev pub add_under : Option Row → Place → Rows → Rows
add_under None place rows = rows
add_under (Some above) place rows = insert_node place.path (Int (id_in (rowid above))) place.kind place.owner place.label None 0 rows

abbrev pub add_place : Place → Rows → Rows
add_place place rows = add_under (find (is_at place.parent) rows.nodes) place rows

-- the node whose row was found gets owner and label; where none was found it is added
abbrev pub write_found : Option Row → Place → Rows → Rows
write_found None place rows = add_place place rows
write_found (Some node) place rows = set_place place.path place.owner place.label rows

abbrev pub write_place : Place → Rows → Rows
write_place place rows = write_found (find (is_at place.path) rows.nodes) place rows

-- the node whose row was found gets the two lists
abbrev pub list_found : Option Row → Listed → Rows → Rows
list_found None lists rows = rows
list_found (Some node) lists rows = write_both (Int (id_in (rowid node))) lists.protected lists.own rows

abbrev pub write_lists : Listed → Rows → Rows
write_lists lists rows = list_found (find (is_at lists.path) rows.nodes) lists rows

abbrev pub write_group : Joined → Rows → Rows
write_group group rows = write_members group.group group.members rows

-- ---- what each write needs

abbrev pub HasRow : List ℕ → Rows → Type 0
HasRow path rows = (row : Row) × (find (is_at path) rows.nodes ≡ Some row)

-- the node is there, or its parent
abbrev pub CanPlace : Place → Rows → Type 0
CanPlace place rows = HasRow place.path rows ⊎ HasRow place.parent rows

abbrev pub CanList : Listed → Rows → Type 0
CanList lists rows = HasRow lists.path rows

-- ---- all of them

-- one write after another
abbrev pub in_turn : {A : Type 0} → (A → Rows → Rows) → List A → Rows → Rows
in_turn write [] rows = rows
in_turn write (item ∷ more) rows = in_turn write more (write item rows)

-- each has what it needs at its turn
abbrev pub InTurn : {A : Type 0} → (A → Rows → Type 0) → (A → Rows → Rows) → List A → Rows → Type 0
InTurn Can write [] rows = ⊤
InTurn Can write (item ∷ more) rows = Can item rows × InTurn Can write more (write item rows)

-- the nodes, then the lists, then the members
abbrev pub written_rows : List Place → List Listed → List Joined → Rows → Rows
written_rows places lists groups rows = in_turn write_group groups (in_turn write_lists lists (in_turn write_place places rows))

-- each node that is named is there at its turn, or is added under its parent
abbrev pub CanAdopt : List Place → List Listed → Rows → Type 0
CanAdopt places lists rows = InTurn CanPlace write_place places rows × InTurn CanList write_lists lists (in_turn write_place places rows)

-- and `reach` renewed, with another epoch
abbrev pub adopted_rows : List Place → List Listed → List Joined → List Pair → List Pair → ℕ → Rows → Rows
adopted_rows places lists groups old new epoch rows = set_epoch epoch (renew_reach old new (written_rows places lists groups rows))

-- the rows after a policy was adopted, with the next epoch
pub record AdoptsPolicy (rows after : Rows) (places : List Place) (lists : List Listed) (groups : List Joined) (old new : List Pair) : Type 0 where
  pub there : CanAdopt places lists rows
  pub epoch : ℕ
  pub meta : IsMeta rows.meta epoch
  pub rows_are : after ≡ adopted_rows places lists groups old new (epoch + 1) rows

abbrev pub adopting : List Place → List Listed → List Joined → List Pair → List Pair → Change
adopting places lists groups old new = record { Fits = FitEpoch; Makes = λ rows after. AdoptsPolicy rows after places lists groups old new }
