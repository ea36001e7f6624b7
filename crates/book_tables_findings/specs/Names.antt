-- How a row is named, in one line (own profile).
use Rattle.std.specs.Prelude.{ℕ, ◌&&◌, nat_le, nat_lt, cond, List, [], ◌++◌, map, codes, unwrap_or}
use Rattle.std.specs.Fmt.{signed_decimal}
use Rattle.sqlite.specs.declared.types.Value.{Value}
use Rattle.sqlite.specs.Edit.{id_in}
use Rattle.sqlite.specs.Order.{Row}
use Rattle.book_tables_rows.specs.Nodes.{text_in}
use Rattle.book_tables_opening.specs.Shown.{shown_gone_book, shown_gone_name, shown_group, shown_id, shown_member, shown_node, shown_path, shown_place, shown_protected}

-- a byte that prints, and '?' in place of another
abbrev pub plain : ℕ → ℕ
plain b = cond (nat_le 32 b && nat_lt b 127) b 63

-- the text in a value, if it has one
abbrev pub plain_text : Value → List ℕ
plain_text v = map plain (unwrap_or (text_in v) [])

-- the whole number in a value, and 0 where there is none
abbrev pub number_text : Value → List ℕ
number_text v = signed_decimal (id_in v)

-- number of the row and path, as in '17 (/books/sales/ann)'
abbrev pub node_name : Row → List ℕ
node_name row = number_text (shown_id row) ++ codes " (" ++ plain_text (shown_path row) ++ codes ")"

-- node, whether protected, and place, as in 'of node 17, protected 0, place 3'
abbrev pub entry_name : Row → List ℕ
entry_name row =
    codes "of node " ++ number_text (shown_node row) ++ codes ", protected " ++ number_text (shown_protected row) ++ codes ", place " ++ number_text (shown_place row)

-- group and member, as in '/groups/sales, /people/ann'
abbrev pub member_name : Row → List ℕ
member_name row = plain_text (shown_group row) ++ codes ", " ++ plain_text (shown_member row)

-- book and name, as in 'of node 5, ann'
abbrev pub gone_row_name : Row → List ℕ
gone_row_name row = codes "of node " ++ number_text (shown_gone_book row) ++ codes ", " ++ plain_text (shown_gone_name row)
