-- What rows tell of entries, and of the members of groups.
use Rattle.std.specs.Prelude.{◌≡◌, ℕ, ◌+◌, Bool, ◌&&◌, [], ◌∷◌, IsTrue}
use Rattle.std.specs.FinSet as set
use Rattle.sqlite.specs.declared.types.Value.TheVariants.{Text}
use Rattle.sqlite.specs.Order.{Row, column}
use Rattle.sqlite.specs.State.{State}
use Rattle.book_lists.specs.Memberships.{Memberships}
use Rattle.book_lists.specs.declared.entries.Entry.{Entry}
use Rattle.book_lists.specs.declared.memberships.Membership.{Membership}
use Rattle.book_tables_rows.specs.Lists.{pair_group_place, pair_member_place}
use Rattle.book_tables_rows.specs.Rows.{rows_of, has, IsBook}
use Rattle.book_tables.specs.Rows.{entry_told, has_member}

-- ---- entries

-- form, principal, invert, deny and mask, from a place of a row on
abbrev pub entry_columns_at : ℕ → Row → Row
entry_columns_at place row = column row place ∷ column row (place + 1) ∷ column row (place + 2) ∷ column row (place + 3) ∷ column row (place + 4) ∷ []

-- the entry that those columns tell
abbrev pub entry_shown : ℕ → Row → Entry
entry_shown place row = entry_told (column row place) (column row (place + 1)) (column row (place + 2)) (column row (place + 3)) (column row (place + 4))

-- ---- members

-- the columns of a pair, group and member, are these
abbrev pub tells_member : Membership → Row → Bool
tells_member m row = has pair_group_place (Text m.group) row && has pair_member_place (Text m.member) row

-- an open connection shows the pairs of group and member that rows have
abbrev pub ShowsPairs : State → Memberships → Type 0
ShowsPairs s pairs = IsTrue s.is_open × (IsBook s.now → (m : Membership) → set.contains pairs m ≡ has_member (rows_of s.now.trees) m)
