-- What a read of the members of one group shows, and one of the groups of a member.
use Rattle.std.specs.Prelude.{◌≡◌, ℕ, ◌&&◌, List, [], ◌∷◌, map, filter, codes, IsTrue}
use Rattle.std.specs.FinSet as set
use Rattle.std.specs.Str.{bytes_eq}
use Rattle.sqlite.specs.declared.types.Value.TheVariants.{Text}
use Rattle.sqlite.specs.Order.{Row}
use Rattle.sqlite.specs.State.{State}
use Rattle.book_lists.specs.Memberships.{Memberships}
use Rattle.book_lists.specs.declared.memberships.Membership.{Membership}
use Rattle.book_tables_rows.specs.Columns.{member_group, member_group_place, member_member, member_member_place}
use Rattle.book_tables_rows.specs.Rows.{Rows, rows_of, has, IsBook}
use Rattle.book_tables.specs.Rows.{has_member}
use Rattle.book_tables.specs.Searching.{near_end}
use Rattle.book_tables.specs.declared.searching.Way.{Way}
use Rattle.book_tables.specs.declared.searching.Way.TheVariants.{Down, Up}

abbrev pub list_group : List ℕ
list_group = codes "SELECT grp, member FROM member WHERE grp = ?1"

abbrev pub list_groups_of : List ℕ
list_groups_of = codes "SELECT grp, member FROM member WHERE member = ?1"

-- the place of the end by which pairs are looked up
abbrev pub place_of : Way → ℕ
place_of Down = member_group_place
place_of Up = member_member_place

-- group and member of each pair with a path at that end
abbrev pub pairs_at : Way → List ℕ → Rows → List Row
pairs_at way at rows = map (λ row. member_group row ∷ member_member row ∷ []) (filter (has (place_of way) (Text at)) rows.members)

-- an open connection shows those pairs that rows have
abbrev pub ShowsPairsAt : State → Way → List ℕ → Memberships → Type 0
ShowsPairsAt s way at pairs = IsTrue s.is_open × (IsBook s.now → (m : Membership) → set.contains pairs m ≡ (has_member (rows_of s.now.trees) m && bytes_eq (near_end way m) at))
