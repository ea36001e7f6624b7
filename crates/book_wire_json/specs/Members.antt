-- What the report group-members says (own profile). The keys of an object stand in byte order.
use Rattle.std.specs.Prelude.{ℕ, List, map, codes}
use Rattle.serde_json.specs.Data.{Data, string, array, object, member, no_members}
use Rattle.serde_json.specs.View.{items_of}
use Rattle.book_office_members.specs.declared.members.MemberLine.{MemberLine}
use Rattle.book_office_members.specs.declared.members.Members.{Members}
use Rattle.book_office_values.specs.Paths.{card_path}

-- [PATH, ..]: cards of a book
abbrev pub href_data : List ℕ → List ℕ → Data
href_data book name = string (card_path book name)

abbrev pub hrefs_data : List ℕ → List (List ℕ) → Data
hrefs_data book names = array (items_of (map (href_data book) names))

-- {"hrefs":[PATH, ..],"uri":VALUE}: the cards whose UID is the value of a MEMBER line, and the value
abbrev pub line_data : List ℕ → MemberLine → Data
line_data book line =
    object (member (codes "hrefs") (hrefs_data book line.names) (member (codes "uri") (string line.value) no_members))

-- {"members":[LINE, ..],"reached":[PATH, ..]}
abbrev pub members_data : List ℕ → Members → Data
members_data book members =
    object (member (codes "members") (array (items_of (map (line_data book) members.lines)))
    (member (codes "reached") (hrefs_data book members.reached) no_members))
