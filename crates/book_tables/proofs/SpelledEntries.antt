-- The columns of an entry tell that entry.
use Rattle.book_tables.proofs.Common.{◌≡◌, pos, Bool, true, false, ◌&&◌, refl, ◌∙◌, and_parts, Int, Entry, flag}
use Rattle.book_rights.specs.declared.privileges.Leaf.{Leaf}
use Rattle.book_rights.specs.declared.privileges.Leaf.TheVariants.{ReadTexts, WriteContent, WriteProperties, Bind, Unbind, ReadAcl, WriteAcl, ReadCurrentUserPrivilegeSet, ReadNames}
use Rattle.book_rights.specs.Leaves.{at_leaf, same_leaves, same_leaves-decides, set_of-nine_of, leaves_in, mask_of}
use Rattle.book_lists.specs.declared.entries.Who.{Who}
use Rattle.book_lists.specs.declared.entries.Who.TheVariants.{Href, Everyone, Authenticated, Unauthenticated, Owner, Own}
use Rattle.book_tables.specs.Rows.{flag_in, form_code, principal_value, who_numbered, entry_told}

-- ---- the mask of a set is that of no other

-- a test holds of both truth values
abbrev both : (Bool → Bool) → Bool
both p = p true && p false

each : (p : Bool → Bool) → both p ≡ true → (b : Bool) → p b ≡ true
each p h true = (and_parts _ _ h).0
each p h false = (and_parts _ _ h).1

abbrev kept : Bool → Bool → Bool → Bool → Bool → Bool → Bool → Bool → Bool → Bool
kept a b c d e f g h i = same_leaves (leaves_in (mask_of (at_leaf a b c d e f g h i))) (at_leaf a b c d e f g h i)

abbrev from_eight : Bool → Bool → Bool → Bool → Bool → Bool → Bool → Bool → Bool
from_eight a b c d e f g h = both (kept a b c d e f g h)

abbrev from_seven : Bool → Bool → Bool → Bool → Bool → Bool → Bool → Bool
from_seven a b c d e f g = both (from_eight a b c d e f g)

abbrev from_six : Bool → Bool → Bool → Bool → Bool → Bool → Bool
from_six a b c d e f = both (from_seven a b c d e f)

abbrev from_five : Bool → Bool → Bool → Bool → Bool → Bool
from_five a b c d e = both (from_six a b c d e)

abbrev from_four : Bool → Bool → Bool → Bool → Bool
from_four a b c d = both (from_five a b c d)

abbrev from_three : Bool → Bool → Bool → Bool
from_three a b c = both (from_four a b c)

abbrev from_two : Bool → Bool → Bool
from_two a b = both (from_three a b)

abbrev from_one : Bool → Bool
from_one a = both (from_two a)

all_kept : both from_one ≡ true
all_kept = refl

kept_each : (a b c d e f g h i : Bool) → kept a b c d e f g h i ≡ true
kept_each a b c d e f g h i =
    each (kept a b c d e f g h) (each (from_eight a b c d e f g) (each (from_seven a b c d e f) (each (from_six a b c d e) (each (from_five a b c d)
    (each (from_four a b c) (each (from_three a b) (each (from_two a) (each from_one all_kept a) b) c) d) e) f) g) h) i

pub leaves_in-mask_of : (set : Leaf → Bool) → leaves_in (mask_of set) ≡ set
leaves_in-mask_of set =
    (same_leaves-decides _ _).0 (kept_each (set ReadTexts) (set WriteContent) (set WriteProperties) (set Bind) (set Unbind) (set ReadAcl) (set WriteAcl) (set ReadCurrentUserPrivilegeSet) (set ReadNames))
    ∙ set_of-nine_of set

-- ---- the other columns

pub flag_is : (b : Bool) → flag_in (flag b) ≡ b
flag_is true = refl
flag_is false = refl

pub who_is : (who : Who) → who_numbered (form_code who) (principal_value who) ≡ who
who_is (Href principal) = refl
who_is Everyone = refl
who_is Authenticated = refl
who_is Unauthenticated = refl
who_is Owner = refl
who_is Own = refl

-- columns that spell an entry tell it
pub entry_is : (e : Entry) → entry_told (Int (pos (form_code e.who))) (principal_value e.who) (flag e.invert) (flag e.deny) (Int (pos (mask_of e.set))) ≡ e
entry_is e = λ i. record { who = who_is e.who i; invert = flag_is e.invert i; deny = flag_is e.deny i; set = leaves_in-mask_of e.set i }
