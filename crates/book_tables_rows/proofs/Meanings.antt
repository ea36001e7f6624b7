-- What the fixed texts mean under the schema.
use Rattle.book_tables_rows.proofs.Common.{◌≡◌, ℕ, false, pos, List, [], ◌∷◌, None, refl, Ok, Null, Int, Term, lit, col, Binary, Query, inner, end, Values, Insert, Update, Delete, Schema, IsPlain, command_of, statement_of, node_table, ace_table, member_table, gone_table, meta_table, book_schema}
use Rattle.std.proofs.Common.{negsuc, codes}
use Rattle.sqlite.specs.Term.{op2}
use Rattle.sqlite_sql.specs.declared.ops.BinaryOp.TheVariants.{Compare}
use Rattle.sqlite_sql.specs.declared.ops.CompareOp.TheVariants.{Eq, Gt, Le}
use Rattle.sqlite_value.specs.Keys.{ascending}
use Rattle.sqlite.specs.Query.{counted}
use Rattle.sqlite.specs.Command.TheVariants.{CreateTable, CreateIndex, Select}
use Rattle.sqlite.specs.Compile.{table_defined_by, index_defined_by}
use Rattle.sqlite_catalog.specs.Change.{created, indexed}
use Rattle.sqlite_tied.specs.Compute.{everything}
use Rattle.sqlite.specs.Listing.{understood, reads_listing}
use Rattle.sqlite.specs.Table.{Table}
use Rattle.book_tables_rows.specs.Schema.{ace2_table, reach_table, plain_index, first_schema, base_schema, ace2_tree, reach_tree}
use Rattle.book_tables_rows.specs.Texts as text

-- ---- the tables

pub node_is : table_defined_by text.create_node ≡ Ok node_table
unfolding understood everything
node_is = refl

pub ace_is : table_defined_by text.create_ace ≡ Ok (record ace_table { tree = 0 })
unfolding understood everything
ace_is = refl

pub ace2_is : table_defined_by text.create_ace2 ≡ Ok (record ace2_table { tree = 0 })
unfolding understood everything
ace2_is = refl

pub member_is : table_defined_by text.create_member ≡ Ok (record member_table { tree = 0 })
unfolding understood everything
member_is = refl

pub gone_is : table_defined_by text.create_gone ≡ Ok (record gone_table { tree = 0 })
unfolding understood everything
gone_is = refl

pub meta_is : table_defined_by text.create_meta ≡ Ok (record meta_table { tree = 0 })
unfolding understood everything
meta_is = refl

pub reach_is : table_defined_by text.create_reach ≡ Ok (record reach_table { tree = 0 })
unfolding understood everything
reach_is = refl

abbrev pub no_schema : Schema
no_schema = record { tables = []; indexes = []; views = [] }

-- the schemas that the texts make, in their order
abbrev pub with_node : Schema
with_node = created no_schema node_table

abbrev pub with_ace : Schema
with_ace = created with_node ace_table

abbrev pub with_member : Schema
with_member = created with_ace member_table

abbrev pub with_gone : Schema
with_gone = created with_member gone_table

abbrev pub with_meta : Schema
with_meta = created with_gone meta_table

-- the tables of version 1
pub first_is : with_meta ≡ first_schema
unfolding everything
first_is = refl

abbrev pub with_ace2 : Schema
with_ace2 = created with_meta ace2_table

-- those of version 2 without `reach`
pub base_is : with_ace2 ≡ base_schema
unfolding everything
base_is = refl

abbrev pub with_reach : Schema
with_reach = created with_ace2 reach_table

abbrev pub with_parent : Schema
with_parent = indexed with_reach node_table (plain_index (codes "node_parent") 0 0 (3 ∷ 8 ∷ []))

abbrev pub with_owner : Schema
with_owner = indexed with_parent node_table (plain_index (codes "node_owner") 0 0 (5 ∷ []))

abbrev pub with_principal : Schema
with_principal = indexed with_owner ace_table (plain_index (codes "ace_principal") 0 0 (5 ∷ []))

abbrev pub with_members : Schema
with_members = indexed with_principal member_table (plain_index (codes "member_member") 0 0 (2 ∷ []))

abbrev pub with_entries : Schema
with_entries = indexed with_members ace2_table (plain_index (codes "ace2_principal") 0 0 (5 ∷ []))

abbrev pub with_removed : Schema
with_removed = indexed with_entries gone_table (plain_index (codes "gone_book") 0 0 (1 ∷ 3 ∷ []))

abbrev pub made_schema : Schema
made_schema = indexed with_removed reach_table (plain_index (codes "reach_grp") 0 0 (1 ∷ []))

pub made_is : made_schema ≡ book_schema
unfolding everything
made_is = refl

-- ---- what is read

abbrev pub plain_query : Query
plain_query = record {
  from = inner 0 end;
  filter = [];
  group = None;
  project = [];
  distinct = false;
  collations = [];
  order = [];
  limit = lit (Int (negsuc 0));
  offset = lit (Int (pos 0));
}

-- a column equals a parameter
abbrev pub equals : ℕ → ℕ → Term
equals place parameter = op2 (Compare Eq Binary) (col 1 place) (col 0 parameter)

-- it is above one, or at most one
abbrev pub above : ℕ → ℕ → Term
above place parameter = op2 (Compare Gt Binary) (col 1 place) (col 0 parameter)

abbrev pub at_most : ℕ → ℕ → Term
at_most place parameter = op2 (Compare Le Binary) (col 1 place) (col 0 parameter)

abbrev pub find_query : Query
find_query = record plain_query {
  filter = equals 2 0 ∷ [];
  project = col 1 0 ∷ col 1 4 ∷ col 1 5 ∷ col 1 6 ∷ col 1 7 ∷ col 1 8 ∷ [];
}

pub find_is : command_of (understood book_schema text.find_node)
    ≡ Select (record { lets = []; body = find_query }) (codes "id" ∷ codes "kind" ∷ codes "owner" ∷ codes "label" ∷ codes "text" ∷ codes "number" ∷ [])
unfolding understood everything
find_is = refl

-- ---- what is written

abbrev pub insert_terms : List Term
insert_terms = lit Null ∷ lit Null ∷ col 0 0 ∷ col 0 1 ∷ col 0 2 ∷ col 0 3 ∷ col 0 4 ∷ col 0 5 ∷ col 0 6 ∷ []

pub insert_is : command_of (understood book_schema text.insert_node) ≡ Insert 0 (Values insert_terms 9)
unfolding understood everything
insert_is = refl

abbrev pub set_text_query : Query
set_text_query = record plain_query {
  filter = equals 2 0 ∷ [];
  project = col 1 0 ∷ col 1 0 ∷ lit Null ∷ col 1 2 ∷ col 1 3 ∷ col 1 4 ∷ col 1 5 ∷ col 1 6 ∷ col 0 1 ∷ col 0 2 ∷ [];
}

pub set_text_is : command_of (understood book_schema text.set_text) ≡ Update 0 (record { lets = []; body = set_text_query })
unfolding understood everything
set_text_is = refl

abbrev pub set_number_query : Query
set_number_query = record plain_query {
  filter = equals 2 0 ∷ [];
  project = col 1 0 ∷ col 1 0 ∷ lit Null ∷ col 1 2 ∷ col 1 3 ∷ col 1 4 ∷ col 1 5 ∷ col 1 6 ∷ col 1 7 ∷ col 0 1 ∷ [];
}

pub set_number_is : command_of (understood book_schema text.set_number) ≡ Update 0 (record { lets = []; body = set_number_query })
unfolding understood everything
set_number_is = refl

abbrev pub set_epoch_query : Query
set_epoch_query = record plain_query {
  from = inner 8 end;
  project = col 1 0 ∷ col 1 0 ∷ col 1 1 ∷ col 0 0 ∷ [];
}

pub set_epoch_is : command_of (understood book_schema text.set_epoch) ≡ Update 4 (record { lets = []; body = set_epoch_query })
unfolding understood everything
set_epoch_is = refl

-- a query for the rows that are deleted
abbrev pub rows_where : ℕ → List Term → Query
rows_where tree filter = record plain_query { from = inner tree end; filter = filter; project = col 1 0 ∷ [] }

pub delete_gone_name_is : command_of (understood book_schema text.delete_gone_name) ≡ Delete 3 (record { lets = []; body = rows_where 6 (equals 1 0 ∷ equals 2 1 ∷ []) })
unfolding understood everything
delete_gone_name_is = refl

pub delete_gone_is : command_of (understood book_schema text.delete_gone) ≡ Delete 3 (record { lets = []; body = rows_where 6 (equals 1 0 ∷ []) })
unfolding understood everything
delete_gone_is = refl

pub delete_entries_is : command_of (understood book_schema text.delete_entries) ≡ Delete 5 (record { lets = []; body = rows_where ace2_tree (equals 1 0 ∷ []) })
unfolding understood everything
delete_entries_is = refl

pub delete_children_is : command_of (understood book_schema text.delete_children) ≡ Delete 0 (record { lets = []; body = rows_where 0 (equals 3 0 ∷ []) })
unfolding understood everything
delete_children_is = refl

pub delete_node_is : command_of (understood book_schema text.delete_node) ≡ Delete 0 (record { lets = []; body = rows_where 0 (equals 0 0 ∷ []) })
unfolding understood everything
delete_node_is = refl

-- ---- nothing is returned, and no time is read

pub insert_plain : IsPlain (understood book_schema text.insert_node)
unfolding understood everything
insert_plain = (refl, refl)

pub set_text_plain : IsPlain (understood book_schema text.set_text)
unfolding understood everything
set_text_plain = (refl, refl)

pub set_number_plain : IsPlain (understood book_schema text.set_number)
unfolding understood everything
set_number_plain = (refl, refl)

pub set_epoch_plain : IsPlain (understood book_schema text.set_epoch)
unfolding understood everything
set_epoch_plain = (refl, refl)

pub delete_gone_name_plain : IsPlain (understood book_schema text.delete_gone_name)
unfolding understood everything
delete_gone_name_plain = (refl, refl)

pub delete_gone_plain : IsPlain (understood book_schema text.delete_gone)
unfolding understood everything
delete_gone_plain = (refl, refl)

pub delete_entries_plain : IsPlain (understood book_schema text.delete_entries)
unfolding understood everything
delete_entries_plain = (refl, refl)

pub delete_children_plain : IsPlain (understood book_schema text.delete_children)
unfolding understood everything
delete_children_plain = (refl, refl)

pub delete_node_plain : IsPlain (understood book_schema text.delete_node)
unfolding understood everything
delete_node_plain = (refl, refl)

pub find_plain : IsPlain (understood book_schema text.find_node)
unfolding understood everything
find_plain = (refl, refl)

pub find_unlisted : reads_listing book_schema text.find_node ≡ false
unfolding understood everything
find_unlisted = refl

-- ---- the texts that make the tables, each where it runs

abbrev pub MakesTable : Schema → List ℕ → Type 0
MakesTable schema sql = (command_of (understood schema sql) ≡ CreateTable) × (statement_of sql (understood schema sql) ≡ sql) × IsPlain (understood schema sql)

abbrev pub MakesIndex : Schema → ℕ → List ℕ → Type 0
MakesIndex schema at sql = (command_of (understood schema sql) ≡ CreateIndex at) × (statement_of sql (understood schema sql) ≡ sql) × IsPlain (understood schema sql)

pub tables_run : MakesTable no_schema text.create_node × MakesTable with_node text.create_ace × MakesTable with_ace text.create_member × MakesTable with_member text.create_gone × MakesTable with_gone text.create_meta
    × MakesTable with_meta text.create_ace2 × MakesTable with_ace2 text.create_reach
unfolding understood everything
tables_run = ((refl, refl, (refl, refl)), (refl, refl, (refl, refl)), (refl, refl, (refl, refl)), (refl, refl, (refl, refl)), (refl, refl, (refl, refl)), (refl, refl, (refl, refl)), (refl, refl, (refl, refl)))

pub indexes_run : MakesIndex with_reach 0 text.index_parent × MakesIndex with_parent 0 text.index_owner × MakesIndex with_owner 1 text.index_principal × MakesIndex with_principal 2 text.index_member
    × MakesIndex with_members 5 text.index_entries × MakesIndex with_entries 3 text.index_gone × MakesIndex with_removed 6 text.index_reach
unfolding understood everything
indexes_run = ((refl, refl, (refl, refl)), (refl, refl, (refl, refl)), (refl, refl, (refl, refl)), (refl, refl, (refl, refl)), (refl, refl, (refl, refl)), (refl, refl, (refl, refl)), (refl, refl, (refl, refl)))

abbrev pub DefinesIndex : Table → List ℕ → List ℕ → List ℕ → Type 0
DefinesIndex table sql name columns = index_defined_by table sql ≡ Ok (plain_index name 0 table.tree columns)

pub indexes_are : DefinesIndex node_table text.index_parent (codes "node_parent") (3 ∷ 8 ∷ []) × DefinesIndex node_table text.index_owner (codes "node_owner") (5 ∷ [])
    × DefinesIndex ace_table text.index_principal (codes "ace_principal") (5 ∷ []) × DefinesIndex member_table text.index_member (codes "member_member") (2 ∷ [])
    × DefinesIndex ace2_table text.index_entries (codes "ace2_principal") (5 ∷ []) × DefinesIndex gone_table text.index_gone (codes "gone_book") (1 ∷ 3 ∷ [])
    × DefinesIndex reach_table text.index_reach (codes "reach_grp") (1 ∷ [])
unfolding understood everything
indexes_are = (refl, refl, refl, refl, refl, refl, refl)

-- ---- a node with the number of its children: the count is a column of its own, after the node's

abbrev pub with_count : Query
with_count = record plain_query {
  from = inner 0 (counted 9223372036854775807 (inner 0 end) (op2 (Compare Eq Binary) (col 2 3) (col 1 0) ∷ []) end);
}

pub count_children_is : command_of (understood book_schema text.count_children)
    ≡ Select (record { lets = []; body = record with_count { filter = equals 2 0 ∷ []; project = col 2 0 ∷ [] } })
    (codes "(SELECT count(*) FROM node AS child WHERE child.parent = node.id)" ∷ [])
unfolding understood everything
count_children_is = refl

pub count_children_plain : IsPlain (understood book_schema text.count_children)
unfolding understood everything
count_children_plain = (refl, refl)

pub count_children_unlisted : reads_listing book_schema text.count_children ≡ false
unfolding understood everything
count_children_unlisted = refl

abbrev pub children_columns : List Term
children_columns = col 1 0 ∷ col 1 2 ∷ col 1 4 ∷ col 1 5 ∷ col 1 6 ∷ col 1 8 ∷ []

pub list_children_is : command_of (understood book_schema text.list_children)
    ≡ Select (record { lets = []; body = record plain_query { filter = equals 3 0 ∷ []; project = children_columns; order = (col 1 2, ascending Binary) ∷ [] } })
    (codes "id" ∷ codes "path" ∷ codes "kind" ∷ codes "owner" ∷ codes "label" ∷ codes "number" ∷ [])
unfolding understood everything
list_children_is = refl

pub list_children_plain : IsPlain (understood book_schema text.list_children)
unfolding understood everything
list_children_plain = (refl, refl)

pub list_children_unlisted : reads_listing book_schema text.list_children ≡ false
unfolding understood everything
list_children_unlisted = refl

-- node, list, form, principal, invert, deny and mask of the entries that nodes are joined with, in order of the node, of the list and of the place
abbrev pub joined_query : List Term → Query
joined_query terms = record plain_query {
  from = inner 0 (inner ace2_tree end);
  filter = terms;
  project = col 2 1 ∷ col 2 2 ∷ col 2 4 ∷ col 2 5 ∷ col 2 6 ∷ col 2 7 ∷ col 2 8 ∷ [];
  order = (col 2 1, ascending Binary) ∷ (col 2 2, ascending Binary) ∷ (col 2 3, ascending Binary) ∷ [];
}

-- the entries of which some child of a node is the node
abbrev pub child_entries_terms : List Term
child_entries_terms = equals 3 0 ∷ op2 (Compare Eq Binary) (col 1 0) (col 2 1) ∷ []

pub list_child_entries_is : command_of (understood book_schema text.list_child_entries)
    ≡ Select (record { lets = []; body = joined_query child_entries_terms }) (codes "node" ∷ codes "protected" ∷ codes "form" ∷ codes "principal" ∷ codes "invert" ∷ codes "deny" ∷ codes "mask" ∷ [])
unfolding understood everything
list_child_entries_is = refl

pub list_child_entries_plain : IsPlain (understood book_schema text.list_child_entries)
unfolding understood everything
list_child_entries_plain = (refl, refl)

pub list_child_entries_unlisted : reads_listing book_schema text.list_child_entries ≡ false
unfolding understood everything
list_child_entries_unlisted = refl

-- the entries of which some child with a change number in a range is the node
abbrev pub changed_entries_terms : List Term
changed_entries_terms = equals 3 0 ∷ above 8 1 ∷ at_most 8 2 ∷ op2 (Compare Eq Binary) (col 1 0) (col 2 1) ∷ []

pub list_changed_entries_is : command_of (understood book_schema text.list_changed_entries)
    ≡ Select (record { lets = []; body = joined_query changed_entries_terms }) (codes "node" ∷ codes "protected" ∷ codes "form" ∷ codes "principal" ∷ codes "invert" ∷ codes "deny" ∷ codes "mask" ∷ [])
unfolding understood everything
list_changed_entries_is = refl

pub list_changed_entries_plain : IsPlain (understood book_schema text.list_changed_entries)
unfolding understood everything
list_changed_entries_plain = (refl, refl)

pub list_changed_entries_unlisted : reads_listing book_schema text.list_changed_entries ≡ false
unfolding understood everything
list_changed_entries_unlisted = refl

-- the entries of which the node at a path is the node
abbrev pub entries_at_query : Query
entries_at_query = joined_query (equals 2 0 ∷ op2 (Compare Eq Binary) (col 2 1) (col 1 0) ∷ [])

pub list_entries_at_is : command_of (understood book_schema text.list_entries_at)
    ≡ Select (record { lets = []; body = entries_at_query }) (codes "node" ∷ codes "protected" ∷ codes "form" ∷ codes "principal" ∷ codes "invert" ∷ codes "deny" ∷ codes "mask" ∷ [])
unfolding understood everything
list_entries_at_is = refl

pub list_entries_at_plain : IsPlain (understood book_schema text.list_entries_at)
unfolding understood everything
list_entries_at_plain = (refl, refl)

pub list_entries_at_unlisted : reads_listing book_schema text.list_entries_at ≡ false
unfolding understood everything
list_entries_at_unlisted = refl

pub read_epoch_is : command_of (understood book_schema text.read_epoch) ≡ Select (record { lets = []; body = record plain_query { from = inner 8 end; project = col 1 1 ∷ col 1 2 ∷ [] } }) (codes "version" ∷ codes "epoch" ∷ [])
unfolding understood everything
read_epoch_is = refl

pub read_members_is : command_of (understood book_schema text.read_members)
    ≡ Select (record { lets = []; body = record plain_query { from = inner 4 end; project = col 1 1 ∷ col 1 2 ∷ [] } }) (codes "grp" ∷ codes "member" ∷ [])
unfolding understood everything
read_members_is = refl

pub read_members_plain : IsPlain (understood book_schema text.read_members)
unfolding understood everything
read_members_plain = (refl, refl)

pub read_members_unlisted : reads_listing book_schema text.read_members ≡ false
unfolding understood everything
read_members_unlisted = refl

pub read_epoch_plain : IsPlain (understood book_schema text.read_epoch)
unfolding understood everything
read_epoch_plain = (refl, refl)

pub read_epoch_unlisted : reads_listing book_schema text.read_epoch ≡ false
unfolding understood everything
read_epoch_unlisted = refl

-- ---- the other INSERTs

abbrev pub gone_terms : List Term
gone_terms = lit Null ∷ col 0 0 ∷ col 0 1 ∷ col 0 2 ∷ []

pub insert_gone_is : command_of (understood book_schema text.insert_gone) ≡ Insert 3 (Values gone_terms 4)
unfolding understood everything
insert_gone_is = refl

pub insert_gone_plain : IsPlain (understood book_schema text.insert_gone)
unfolding understood everything
insert_gone_plain = (refl, refl)

abbrev pub entry_terms : List Term
entry_terms = lit Null ∷ col 0 0 ∷ col 0 1 ∷ col 0 2 ∷ col 0 3 ∷ col 0 4 ∷ col 0 5 ∷ col 0 6 ∷ col 0 7 ∷ []

pub insert_entry_is : command_of (understood book_schema text.insert_entry) ≡ Insert 5 (Values entry_terms 9)
unfolding understood everything
insert_entry_is = refl

pub insert_entry_plain : IsPlain (understood book_schema text.insert_entry)
unfolding understood everything
insert_entry_plain = (refl, refl)

abbrev pub pair_terms : List Term
pair_terms = lit Null ∷ col 0 0 ∷ col 0 1 ∷ []

pub insert_member_is : command_of (understood book_schema text.insert_member) ≡ Insert 2 (Values pair_terms 3)
unfolding understood everything
insert_member_is = refl

pub insert_member_plain : IsPlain (understood book_schema text.insert_member)
unfolding understood everything
insert_member_plain = (refl, refl)

pub insert_meta_is : command_of (understood book_schema text.insert_meta) ≡ Insert 4 (Values pair_terms 3)
unfolding understood everything
insert_meta_is = refl

pub insert_meta_plain : IsPlain (understood book_schema text.insert_meta)
unfolding understood everything
insert_meta_plain = (refl, refl)

-- ---- the other DELETEs and UPDATEs

pub delete_own_is : command_of (understood book_schema text.delete_own) ≡ Delete 5 (record { lets = []; body = rows_where ace2_tree (equals 1 0 ∷ op2 (Compare Eq Binary) (col 1 2) (lit (Int (pos 0))) ∷ []) })
unfolding understood everything
delete_own_is = refl

pub delete_own_plain : IsPlain (understood book_schema text.delete_own)
unfolding understood everything
delete_own_plain = (refl, refl)

pub delete_members_is : command_of (understood book_schema text.delete_members) ≡ Delete 2 (record { lets = []; body = rows_where 4 (equals 1 0 ∷ []) })
unfolding understood everything
delete_members_is = refl

pub delete_members_plain : IsPlain (understood book_schema text.delete_members)
unfolding understood everything
delete_members_plain = (refl, refl)

abbrev pub set_label_query : Query
set_label_query = record plain_query {
  filter = equals 2 0 ∷ [];
  project = col 1 0 ∷ col 1 0 ∷ lit Null ∷ col 1 2 ∷ col 1 3 ∷ col 1 4 ∷ col 1 5 ∷ col 0 1 ∷ col 1 7 ∷ col 0 2 ∷ [];
}

pub set_label_is : command_of (understood book_schema text.set_label) ≡ Update 0 (record { lets = []; body = set_label_query })
unfolding understood everything
set_label_is = refl

pub set_label_plain : IsPlain (understood book_schema text.set_label)
unfolding understood everything
set_label_plain = (refl, refl)

abbrev pub set_place_query : Query
set_place_query = record plain_query {
  filter = equals 2 0 ∷ [];
  project = col 1 0 ∷ col 1 0 ∷ lit Null ∷ col 1 2 ∷ col 1 3 ∷ col 1 4 ∷ col 0 1 ∷ col 0 2 ∷ col 1 7 ∷ col 1 8 ∷ [];
}

pub set_place_is : command_of (understood book_schema text.set_place) ≡ Update 0 (record { lets = []; body = set_place_query })
unfolding understood everything
set_place_is = refl

pub set_place_plain : IsPlain (understood book_schema text.set_place)
unfolding understood everything
set_place_plain = (refl, refl)

abbrev pub set_copy_query : Query
set_copy_query = record plain_query {
  filter = equals 2 0 ∷ [];
  project = col 1 0 ∷ col 1 0 ∷ lit Null ∷ col 1 2 ∷ col 1 3 ∷ col 1 4 ∷ col 1 5 ∷ col 0 1 ∷ col 0 2 ∷ col 0 3 ∷ [];
}

pub set_copy_is : command_of (understood book_schema text.set_copy) ≡ Update 0 (record { lets = []; body = set_copy_query })
unfolding understood everything
set_copy_is = refl

pub set_copy_plain : IsPlain (understood book_schema text.set_copy)
unfolding understood everything
set_copy_plain = (refl, refl)

abbrev pub move_query : Query
move_query = record plain_query {
  filter = equals 2 0 ∷ [];
  project = col 1 0 ∷ col 1 0 ∷ lit Null ∷ col 0 1 ∷ col 0 2 ∷ col 1 4 ∷ col 1 5 ∷ col 1 6 ∷ col 1 7 ∷ col 0 3 ∷ [];
}

pub move_is : command_of (understood book_schema text.move_node) ≡ Update 0 (record { lets = []; body = move_query })
unfolding understood everything
move_is = refl

pub move_plain : IsPlain (understood book_schema text.move_node)
unfolding understood everything
move_plain = (refl, refl)

-- ---- the other reads

abbrev pub changed_columns : List Term
changed_columns = col 1 0 ∷ col 1 2 ∷ col 1 5 ∷ col 1 6 ∷ col 1 7 ∷ col 1 8 ∷ []

pub list_changed_is : command_of (understood book_schema text.list_changed)
    ≡ Select (record { lets = []; body = record plain_query { filter = equals 3 0 ∷ above 8 1 ∷ []; project = changed_columns; order = (col 1 8, ascending Binary) ∷ []; limit = col 0 2 } })
    (codes "id" ∷ codes "path" ∷ codes "owner" ∷ codes "label" ∷ codes "text" ∷ codes "number" ∷ [])
unfolding understood everything
list_changed_is = refl

pub list_changed_plain : IsPlain (understood book_schema text.list_changed)
unfolding understood everything
list_changed_plain = (refl, refl)

pub list_changed_unlisted : reads_listing book_schema text.list_changed ≡ false
unfolding understood everything
list_changed_unlisted = refl

pub list_gone_is : command_of (understood book_schema text.list_gone)
    ≡ Select (record { lets = []; body = record plain_query { from = inner 6 end; filter = equals 1 0 ∷ above 3 1 ∷ []; project = col 1 2 ∷ col 1 3 ∷ []; order = (col 1 3, ascending Binary) ∷ []; limit = col 0 2 } })
    (codes "name" ∷ codes "number" ∷ [])
unfolding understood everything
list_gone_is = refl

pub list_gone_plain : IsPlain (understood book_schema text.list_gone)
unfolding understood everything
list_gone_plain = (refl, refl)

pub list_gone_unlisted : reads_listing book_schema text.list_gone ≡ false
unfolding understood everything
list_gone_unlisted = refl

-- ---- the texts of `reach`

pub read_reach_is : command_of (understood book_schema text.read_reach)
    ≡ Select (record { lets = []; body = record plain_query { from = inner reach_tree end; project = col 1 1 ∷ col 1 2 ∷ [] } }) (codes "grp" ∷ codes "member" ∷ [])
unfolding understood everything
read_reach_is = refl

pub read_reach_plain : IsPlain (understood book_schema text.read_reach)
unfolding understood everything
read_reach_plain = (refl, refl)

pub read_reach_unlisted : reads_listing book_schema text.read_reach ≡ false
unfolding understood everything
read_reach_unlisted = refl

pub read_reached_is : command_of (understood book_schema text.read_reached)
    ≡ Select (record { lets = []; body = record plain_query { from = inner reach_tree end; filter = equals 2 0 ∷ []; project = col 1 1 ∷ [] } }) (codes "grp" ∷ [])
unfolding understood everything
read_reached_is = refl

pub read_reached_plain : IsPlain (understood book_schema text.read_reached)
unfolding understood everything
read_reached_plain = (refl, refl)

pub read_reached_unlisted : reads_listing book_schema text.read_reached ≡ false
unfolding understood everything
read_reached_unlisted = refl

pub insert_reach_is : command_of (understood book_schema text.insert_reach) ≡ Insert 6 (Values pair_terms 3)
unfolding understood everything
insert_reach_is = refl

pub insert_reach_plain : IsPlain (understood book_schema text.insert_reach)
unfolding understood everything
insert_reach_plain = (refl, refl)

pub delete_reach_is : command_of (understood book_schema text.delete_reach) ≡ Delete 6 (record { lets = []; body = rows_where reach_tree (equals 1 0 ∷ equals 2 1 ∷ []) })
unfolding understood everything
delete_reach_is = refl

pub delete_reach_plain : IsPlain (understood book_schema text.delete_reach)
unfolding understood everything
delete_reach_plain = (refl, refl)

pub clear_reach_is : command_of (understood book_schema text.clear_reach) ≡ Delete 6 (record { lets = []; body = rows_where reach_tree [] })
unfolding understood everything
clear_reach_is = refl

pub clear_reach_plain : IsPlain (understood book_schema text.clear_reach)
unfolding understood everything
clear_reach_plain = (refl, refl)
