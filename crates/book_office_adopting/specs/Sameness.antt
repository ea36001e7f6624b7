-- Whether two Offices are equal.
use Rattle.std.specs.Prelude.{Bool, true, false, ◌&&◌, nat_eq}
use Rattle.book_office_values.specs.contracts.offices.Office as office_type
use Rattle.book_office_values.specs.declared.offices.Office.{Office}
use base.Stored.{Gv, gnil, gnum, gcons}

-- whether two trees of numbers are equal
abbrev pub same_tree : Gv → Gv → Bool
same_tree gnil gnil = true
same_tree gnil (gnum n) = false
same_tree gnil (gcons a b) = false
same_tree (gnum m) gnil = false
same_tree (gnum m) (gnum n) = nat_eq m n
same_tree (gnum m) (gcons a b) = false
same_tree (gcons a b) gnil = false
same_tree (gcons a b) (gnum n) = false
same_tree (gcons a b) (gcons c d) = same_tree a c && same_tree b d

-- an Office is stored as a tree of numbers, and different ones as different trees
unfoldable pub same_office : Office → Office → Bool
same_office o p = same_tree (office_type.the_row.coded.code o) (office_type.the_row.coded.code p)
