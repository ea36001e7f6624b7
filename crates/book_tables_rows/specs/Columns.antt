-- The columns of the tables by their names. A row begins with its number, and its columns stand from place 1 on.
use Rattle.std.specs.Prelude.{ℕ}
use Rattle.sqlite.specs.declared.types.Value.{Value}
use Rattle.sqlite.specs.Order.{Row, column}

-- ---- node, whose number stands in place 0

abbrev pub node_path : Row → Value
node_path row = column row 2

abbrev pub node_parent : Row → Value
node_parent row = column row 3

abbrev pub node_kind : Row → Value
node_kind row = column row 4

abbrev pub node_owner : Row → Value
node_owner row = column row 5

abbrev pub node_label : Row → Value
node_label row = column row 6

abbrev pub node_text : Row → Value
node_text row = column row 7

abbrev pub node_number : Row → Value
node_number row = column row 8

-- ---- ace

abbrev pub ace_node : Row → Value
ace_node row = column row 1

abbrev pub ace_protected : Row → Value
ace_protected row = column row 2

abbrev pub ace_place : Row → Value
ace_place row = column row 3

abbrev pub ace_form : Row → Value
ace_form row = column row 4

abbrev pub ace_principal : Row → Value
ace_principal row = column row 5

abbrev pub ace_invert : Row → Value
ace_invert row = column row 6

abbrev pub ace_deny : Row → Value
ace_deny row = column row 7

abbrev pub ace_mask : Row → Value
ace_mask row = column row 8

-- ---- gone

abbrev pub gone_book : Row → Value
gone_book row = column row 1

abbrev pub gone_name : Row → Value
gone_name row = column row 2

abbrev pub gone_number : Row → Value
gone_number row = column row 3

-- ---- member

abbrev pub member_group : Row → Value
member_group row = column row 1

abbrev pub member_member : Row → Value
member_member row = column row 2

-- ---- meta

abbrev pub meta_version : Row → Value
meta_version row = column row 1

abbrev pub meta_epoch : Row → Value
meta_epoch row = column row 2

-- ---- reach

abbrev pub reach_group : Row → Value
reach_group row = column row 1

abbrev pub reach_member : Row → Value
reach_member row = column row 2

-- ---- the places of the columns by which rows are looked for

abbrev pub rowid_place : ℕ
rowid_place = 0

abbrev pub node_path_place : ℕ
node_path_place = 2

abbrev pub node_parent_place : ℕ
node_parent_place = 3

abbrev pub node_number_place : ℕ
node_number_place = 8

abbrev pub ace_node_place : ℕ
ace_node_place = 1

abbrev pub ace_protected_place : ℕ
ace_protected_place = 2

abbrev pub gone_book_place : ℕ
gone_book_place = 1

abbrev pub gone_name_place : ℕ
gone_name_place = 2

abbrev pub gone_number_place : ℕ
gone_number_place = 3

abbrev pub member_group_place : ℕ
member_group_place = 1

abbrev pub member_member_place : ℕ
member_member_place = 2

abbrev pub reach_group_place : ℕ
reach_group_place = 1

abbrev pub reach_member_place : ℕ
reach_member_place = 2
