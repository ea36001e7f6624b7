-- The columns that the reads of whole tables show, by their names.
use Rattle.std.specs.Prelude.{ℕ}
use Rattle.sqlite.specs.declared.types.Value.{Value}
use Rattle.sqlite.specs.Order.{Row, column}

-- ---- node

abbrev pub shown_id : Row → Value
shown_id row = column row 0

abbrev pub shown_path : Row → Value
shown_path row = column row 1

abbrev pub shown_parent : Row → Value
shown_parent row = column row 2

abbrev pub shown_kind : Row → Value
shown_kind row = column row 3

abbrev pub shown_owner : Row → Value
shown_owner row = column row 4

abbrev pub shown_label : Row → Value
shown_label row = column row 5

abbrev pub shown_text : Row → Value
shown_text row = column row 6

abbrev pub shown_number : Row → Value
shown_number row = column row 7

-- ---- ace

abbrev pub shown_node : Row → Value
shown_node row = column row 0

abbrev pub shown_protected : Row → Value
shown_protected row = column row 1

abbrev pub shown_place : Row → Value
shown_place row = column row 2

abbrev pub shown_form : Row → Value
shown_form row = column row 3

abbrev pub shown_principal : Row → Value
shown_principal row = column row 4

abbrev pub shown_invert : Row → Value
shown_invert row = column row 5

abbrev pub shown_deny : Row → Value
shown_deny row = column row 6

abbrev pub shown_mask : Row → Value
shown_mask row = column row 7

-- ---- member

abbrev pub shown_group : Row → Value
shown_group row = column row 0

abbrev pub shown_member : Row → Value
shown_member row = column row 1

-- ---- gone

abbrev pub shown_gone_book : Row → Value
shown_gone_book row = column row 0

abbrev pub shown_gone_name : Row → Value
shown_gone_name row = column row 1

abbrev pub shown_gone_number : Row → Value
shown_gone_number row = column row 2

-- ---- meta

abbrev pub shown_version : Row → Value
shown_version row = column row 0

abbrev pub shown_epoch : Row → Value
shown_epoch row = column row 1

-- ---- the places of the columns by which shown nodes are looked for

abbrev pub shown_path_place : ℕ
shown_path_place = 1

abbrev pub shown_parent_place : ℕ
shown_parent_place = 2
