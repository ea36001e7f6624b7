-- The table `reach`: what its reads show, and which pairs its rows are.
use Rattle.std.specs.Prelude.{ℕ, Bool, List, [], ◌∷◌, map, filter, find, is_some, string_bytes}
use Rattle.sqlite.specs.declared.types.Value.TheVariants.{Text}
use Rattle.sqlite.specs.Order.{Row}
use Rattle.book_tables_rows.specs.Columns.{reach_group, reach_member, reach_member_place}
use Rattle.book_tables_rows.specs.Rows.{Rows, has}
use Rattle.book_tables_rows.specs.Writes.{Pair, is_pair}
use Rattle.book_tables_rows.specs.declared.reach.ReachRow.{ReachRow}

-- ---- what reads show

-- the groups that the rows pair with a member
abbrev pub reached_of : List ℕ → Rows → List Row
reached_of member rows = map (λ row. reach_group row ∷ []) (filter (has reach_member_place (Text member)) rows.reach)

-- group and member of each row
abbrev pub reach_shown : Rows → List Row
reach_shown rows = map (λ row. reach_group row ∷ reach_member row ∷ []) rows.reach

-- some row pairs the group with the member
abbrev pub has_reach : Rows → List ℕ → List ℕ → Bool
has_reach rows group member = is_some (find (is_pair group member) rows.reach)

-- ---- what is written

abbrev pub pair_said : ReachRow → Pair
pair_said row = record { group = string_bytes row.group; member = string_bytes row.member }
