-- Each need of a request but the report of names is the widening of a set of the eight leaves of version 1.
use Rattle.book_lists.proofs.Common.{◌≡◌, Bool, true, false, ◌&&◌, ◌||◌, List, [], ◌∷◌, refl, sym, ap, ◌∙◌, subst, Leaf}
use Rattle.std.specs.List.{AllByRecursion}
use Rattle.book_rights.specs.declared.methods.Method.{Method}
use Rattle.book_rights.specs.declared.methods.Method.TheVariants.{Get, Head, Options, Put, Propfind, Proppatch, Acl, Copy, Move, Delete, Mkcol, Report}
use Rattle.book_rights.specs.declared.methods.Shape.{Shape}
use Rattle.book_rights.specs.declared.places.Need.{Need}
use Rattle.book_rights.specs.declared.places.Place.TheVariants.{Target}
use Rattle.book_rights.specs.declared.privileges.Leaf.TheVariants.{ReadTexts, ReadNames, ReadAcl, ReadCurrentUserPrivilegeSet}
use Rattle.book_rights.specs.Leaves.{only, place_of, same_by_leaf, same_set}
use Rattle.book_rights.specs.Needs.{at, either, read_and}
use Rattle.book_rights.specs.Privileges.{is_read}
use Rattle.book_lists.specs.Widening.{IsWidened, NeedsAreWidened, widened}

or_none : (a b : Bool) → a ≡ (a || (b && false))
or_none true true = refl
or_none true false = refl
or_none false true = refl
or_none false false = refl

-- a set with neither leaf of `read` is its own widening
as_it_was : (set : Leaf → Bool) → set ReadTexts ≡ false → set ReadNames ≡ false → IsWidened set
as_it_was set no_texts no_names = (
  set,
  no_names,
  same_set set (widened set) (λ leaf.
      or_none (set leaf) (only ReadNames leaf) ∙ ap (λ t. set leaf || (only ReadNames leaf && t)) (sym no_texts)),
)

reading : IsWidened is_read
reading = (only ReadTexts, refl, same_by_leaf _ _ refl refl refl refl refl refl refl refl refl)

-- `read`, and what is asked with it, of version 1
abbrev first_reading : Bool → Bool → Leaf → Bool
first_reading acl privileges leaf = only ReadTexts leaf || ((acl && only ReadAcl leaf) || (privileges && only ReadCurrentUserPrivilegeSet leaf))

reading_too : (acl privileges : Bool) → IsWidened (read_and acl privileges)
reading_too true true = (first_reading true true, refl, same_by_leaf _ _ refl refl refl refl refl refl refl refl refl)
reading_too true false = (first_reading true false, refl, same_by_leaf _ _ refl refl refl refl refl refl refl refl refl)
reading_too false true = (first_reading false true, refl, same_by_leaf _ _ refl refl refl refl refl refl refl refl refl)
reading_too false false = (first_reading false false, refl, same_by_leaf _ _ refl refl refl refl refl refl refl refl refl)

abbrev AreWidened : List Need → Type 0
AreWidened needs = AllByRecursion (λ (need : Need). IsWidened need.set) needs

by_either : (test : Bool) (xs ys : List Need) → AreWidened xs → AreWidened ys → AreWidened (either test xs ys)
by_either true xs ys a b = a
by_either false xs ys a b = b

pub needs_widened : NeedsAreWidened
needs_widened Get shape named = (reading, tt)
needs_widened Head shape named = (reading, tt)
needs_widened Options shape named = (reading, tt)
needs_widened Put shape named = by_either shape.target_mapped _ _ (as_it_was _ refl refl, tt) (as_it_was _ refl refl, tt)
needs_widened Propfind shape named = (reading_too shape.acl shape.privileges, tt)
needs_widened Proppatch shape named = (as_it_was _ refl refl, tt)
needs_widened Acl shape named = (as_it_was _ refl refl, tt)
needs_widened Copy shape named = (reading, by_either shape.destination_mapped _ _ (as_it_was _ refl refl, tt) (as_it_was _ refl refl, tt))
needs_widened Move shape named =
    (as_it_was _ refl refl, (as_it_was _ refl refl, by_either shape.destination_mapped _ _ (as_it_was _ refl refl, tt) tt))
needs_widened Delete shape named = by_either shape.book _ _ (as_it_was _ refl refl, (as_it_was _ refl refl, tt)) (as_it_was _ refl refl, tt)
needs_widened Mkcol shape named = (as_it_was _ refl refl, tt)
needs_widened Report shape named =
    subst (λ names. AreWidened (either names (at Target (only ReadNames) ∷ []) (at Target (read_and shape.effective false) ∷ []))) (sym named)
    (reading_too shape.effective false, tt)
