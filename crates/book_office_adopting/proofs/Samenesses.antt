-- Whether two Offices are equal, decided by their trees.
use Rattle.book_office_adopting.proofs.Common.{◌≡◌, true, ◌&&◌, refl, ap, false≢true, Office}
use Rattle.std.proofs.lemmas.Bool.{eqb-true, eq-eqb, and_parts}
use Rattle.book_office_values.specs.contracts.offices.Office as office_type
use Rattle.book_office_adopting.specs.Sameness.{same_tree, same_office}
use base.Stored.{Gv, gnil, gnum, gcons}

same_tree_is : (a b : Gv) → same_tree a b ≡ true → a ≡ b
same_tree_is gnil gnil e = refl
same_tree_is gnil (gnum n) e = absurd (false≢true e)
same_tree_is gnil (gcons a b) e = absurd (false≢true e)
same_tree_is (gnum m) gnil e = absurd (false≢true e)
same_tree_is (gnum m) (gnum n) e = ap gnum (eqb-true m n e)
same_tree_is (gnum m) (gcons a b) e = absurd (false≢true e)
same_tree_is (gcons a b) gnil e = absurd (false≢true e)
same_tree_is (gcons a b) (gnum n) e = absurd (false≢true e)
same_tree_is (gcons a b) (gcons c d) e =
    let both = and_parts (same_tree a c) (same_tree b d) e in
    let first = same_tree_is a c both.0 in
    let second = same_tree_is b d both.1 in
    λ i. gcons (first i) (second i)

tree_itself : (a : Gv) → same_tree a a ≡ true
tree_itself gnil = refl
tree_itself (gnum n) = eq-eqb n n refl
tree_itself (gcons a b) = (λ i. tree_itself a i && tree_itself b i)

pub same_office_is : (o p : Office) → same_office o p ≡ true → o ≡ p
unfolding same_office
same_office_is o p e = office_type.the_row.coded.inj o p (same_tree_is _ _ e)

pub office_itself : (o : Office) → same_office o o ≡ true
unfolding same_office
office_itself o = tree_itself (office_type.the_row.coded.code o)
