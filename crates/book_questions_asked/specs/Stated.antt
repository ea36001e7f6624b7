-- What a decision on leaves at a resource rests on, as a text of `explain` states it (RFC 3744, section 6; the text is own profile).
use Rattle.std.specs.Prelude.{◌≡◌, Bool, ◌&&◌, not, List, filter, length, nat_le}
use Rattle.std.specs.List.{list_all}
use Rattle.book_limits.specs.declared.TheConstants.{MAX_ENTRIES, MAX_MEMBERS}
use Rattle.book_rights.specs.Leaves.{no_leaf, same_leaves}
use Rattle.book_rights.specs.declared.privileges.Leaf.{Leaf}
use Rattle.book_lists.specs.Callers.{IsCircle}
use Rattle.book_lists.specs.Circles.{CircleOf, belongs}
use Rattle.book_lists.specs.Memberships.{set_of}
use Rattle.book_lists.specs.declared.entries.Entry.{Entry}
use Rattle.book_lists.specs.declared.memberships.Membership.{Membership}
use Rattle.book_office.specs.Levels.{effective_at}
use Rattle.book_office_values.specs.declared.offices.Office.{Office}
use Rattle.book_office_listings.specs.Verdicts.{bare_entries, here_of}
use Rattle.book_questions.specs.declared.whys.InForce.{InForce}
use Rattle.book_questions_asked.specs.declared.stated.Asked.{Asked}
use Rattle.book_questions_asked.specs.declared.stated.Stated.{Stated}

-- the memberships whose members the caller belongs to: those that stand on chains to it
abbrev pub leading : CircleOf → List Membership → List Membership
leading circle pairs = filter (λ (pair : Membership). belongs circle pair.member) pairs

-- what is stated: the memberships on chains to the caller, of those of the Office; the caller; the owner of the resource, and itself
-- where it is a principal; the leaves; and the entries in force in order
pub record IsStated (o : Office) (asked : Asked) (set : Leaf → Bool) (stated : Stated) : Type 0 where
  pub pairs : List Membership
  pub circle : CircleOf
  pub all : set_of pairs ≡ o.pairs
  pub is_circle : IsCircle o.pairs asked.caller circle
  pub members : stated.members ≡ leading circle pairs
  pub caller : stated.caller ≡ asked.caller
  pub here : stated.here ≡ here_of o asked.at
  pub set_is : stated.set ≡ set
  pub entries : stated.entries ≡ bare_entries (effective_at o asked.at)

abbrev pub holds_some : (Leaf → Bool) → Bool
holds_some set = not (same_leaves set no_leaf)

-- at most 1,000 memberships and 64 entries
abbrev pub are_few : Stated → Bool
are_few stated = nat_le (length stated.members) MAX_MEMBERS && nat_le (length stated.entries) MAX_ENTRIES

-- each entry holds a leaf
abbrev pub all_hold : List Entry → Bool
all_hold entries = list_all (λ (entry : Entry). holds_some entry.set) entries

-- `explain` takes as much: so few, and of each entry, and of the need, a privilege
abbrev pub fits : Stated → Bool
fits stated = are_few stated && (holds_some stated.set && all_hold stated.entries)

-- what is stated, of what is read
abbrev pub stated_of : Asked → (Leaf → Bool) → List Membership → CircleOf → InForce → Stated
stated_of asked set pairs circle force = record { members = leading circle pairs; caller = asked.caller; here = force.here; set = set; entries = bare_entries force.list }
