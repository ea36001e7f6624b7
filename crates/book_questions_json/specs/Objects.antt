-- The object of a fact (own profile; RFC 8259). The keys of an object stand in byte order.
use Rattle.std.specs.Prelude.{ℕ, Bool, List, ◌++◌, map, codes, Option, Some, None}
use Rattle.std.specs.List.{flat_map}
use Rattle.serde_json.specs.Data.{Data, array, boolean, member, no_members, null, number, object, string, unsigned}
use Rattle.serde_json.specs.View.{items_of}
use Rattle.serde_json.specs.Written.{compact_text}
use Rattle.book_rights.specs.Privileges.{leaf_name, name_of}
use Rattle.book_rights.specs.declared.privileges.Leaf.{Leaf}
use Rattle.book_rights.specs.declared.privileges.Privilege.{Privilege}
use Rattle.book_lists_explain.specs.ShortNames.{short_list}
use Rattle.book_office.specs.declared.nodes.EffectiveEntry.{EffectiveEntry}
use Rattle.book_office_audit.specs.EntryLines.{who_text}
use Rattle.book_office_listings.specs.declared.messages.DecidingEntry.{DecidingEntry}
use Rattle.book_office_listings.specs.declared.messages.Denial.{Denial}
use Rattle.book_office_values.specs.Paths.{path_text}
use Rattle.book_questions.specs.Who.{caller_text}
use Rattle.book_questions_json.specs.Facts.{Decided, Fact, LeafFact, Standing, holder, need, verdict}

abbrev pub texts_data : List (List ℕ) → Data
texts_data texts = array (items_of (map string texts))

-- the short names of a set
abbrev pub name_data : Privilege → Data
name_data name = string (name_of name)

abbrev pub names_data : (Leaf → Bool) → Data
names_data set = array (items_of (map name_data (short_list set)))

-- {"by":[PATH, ..],"deny":BOOL,"from":PATH,"invert":BOOL,"number":N,"number-there":N,"privileges":[NAME, ..],"protected":BOOL,
-- "who":FORM}: the principals from the caller up to the one by which the entry applies, whether it denies, where it stands, whether
-- it is inverted, its number in the list in force and its number where it stands, its privileges, whether it is protected, and its
-- principal form
abbrev pub standing_with : Data → Data → ℕ → ℕ → List ℕ → EffectiveEntry → Data
standing_with by names n there place entry =
    object (member (codes "by") by
    (member (codes "deny") (boolean entry.entry.deny)
    (member (codes "from") (string place)
    (member (codes "invert") (boolean entry.entry.invert)
    (member (codes "number") (number (unsigned n))
    (member (codes "number-there") (number (unsigned there))
    (member (codes "privileges") names
    (member (codes "protected") (boolean entry.protected)
    (member (codes "who") (string (who_text entry.entry.who)) no_members)))))))))

abbrev pub standing_data : ℕ → Standing → Data
standing_data n s = standing_with (texts_data s.by) (names_data s.entry.entry.set) n s.number_there (path_text s.entry.path) s.entry

-- the entry in full, or its number alone
abbrev pub entry_data : ℕ → Option Standing → Data
entry_data n None = object (member (codes "number") (number (unsigned n)) no_members)
entry_data n (Some s) = standing_data n s

abbrev pub decided_data : Option Decided → Data
decided_data None = null
decided_data (Some d) = entry_data d.number d.standing

-- {"entry":ENTRY,"grant":BOOL,"privilege":NAME}; the entry is null where none decides
abbrev pub leaf_data : LeafFact → Data
leaf_data fact =
    object (member (codes "entry") (decided_data fact.decided)
    (member (codes "grant") (boolean fact.grant)
    (member (codes "privilege") (string (leaf_name fact.leaf)) no_members)))

abbrev pub leaves_data : List LeafFact → Data
leaves_data facts = array (items_of (map leaf_data facts))

-- {"number":N,"privilege":NAME,"resource":PATH}; the number is null where no entry decides
abbrev pub number_data : Option DecidingEntry → Data
number_data None = null
number_data (Some entry) = number (unsigned entry.number)

abbrev pub denial_data : Option Denial → Data
denial_data None = null
denial_data (Some denial) =
    object (member (codes "number") (number_data denial.entry)
    (member (codes "privilege") (string (name_of denial.privilege))
    (member (codes "resource") (string (path_text denial.resource)) no_members)))

-- the verdict: {"denied":DENIAL}, which is null where it is granted; a need: {"leaves":[LEAF, ..],"privileges":[NAME, ..],
-- "resource":PATH}; and a caller: {"caller":PATH,"leaves":[LEAF, ..]}, who is `nobody` or has the path of a person
abbrev pub data_of : Fact → Data
data_of (verdict denial) = object (member (codes "denied") (denial_data denial) no_members)
data_of (need fact) =
    object (member (codes "leaves") (leaves_data fact.leaves)
    (member (codes "privileges") (names_data fact.set)
    (member (codes "resource") (string (path_text fact.resource)) no_members)))
data_of (holder fact) = object (member (codes "caller") (string (caller_text fact.caller)) (member (codes "leaves") (leaves_data fact.leaves) no_members))

-- an object, and the end of its line
abbrev pub data_line : Data → List ℕ
data_line d = compact_text d ++ codes "\n"

abbrev pub object_line : Fact → List ℕ
object_line fact = data_line (data_of fact)

-- the objects of facts, one on a line
abbrev pub objects_text : List Fact → List ℕ
objects_text facts = flat_map object_line facts
