-- A resource as a line of text (own profile): an object whose keys without a value are left out.
use Rattle.std.specs.Prelude.{ℕ, Bool, true, false, List, [], ◌∷◌, ◌++◌, map, codes, Option, Some, None, option_map}
use Rattle.json.specs.Json.{Json, boolean, string, array, object}
use Rattle.book_rights.specs.Privileges.{name_of}
use Rattle.book_rights.specs.declared.privileges.Leaf.{Leaf}
use Rattle.book_rights.specs.declared.privileges.Privilege.{Privilege}
use Rattle.book_lists.specs.declared.entries.Entry.{Entry}
use Rattle.book_lists_explain.specs.ShortNames.{short_list}
use Rattle.book_office_audit.specs.EntryLines.{who_text}
use Rattle.book_office_values.specs.Paths.{path_text}
use Rattle.book_dumps.specs.Objects.{Slot, if_some, items_of, members_of, number_json, present, text_line, unless_empty}
use Rattle.book_dumps.specs.declared.lines.Line.{Line}
use Rattle.book_dumps.specs.declared.lines.Removed.{Removed}

-- the mark of an inverted entry
abbrev pub mark : Bool → Option Json
mark true = Some (boolean true)
mark false = None

abbrev pub action_key : Bool → List ℕ
action_key true = codes "deny"
action_key false = codes "grant"

abbrev pub privilege_json : Privilege → Json
privilege_json privilege = string (name_of privilege)

-- [NAME, ..]: the short names of a set, of which there may be none
abbrev pub set_json : (Leaf → Bool) → Json
set_json set = array (items_of (map privilege_json (short_list set)))

-- an entry with the keys of a policy: `who`, `invert` true where it is inverted, and `grant` or `deny`
abbrev pub entry_members : Entry → List (List ℕ × Json)
entry_members e =
    (codes "who", string (who_text e.who)) ∷ (if_some (codes "invert") (mark e.invert) ++ (action_key e.deny, set_json e.set) ∷ [])

abbrev pub entry_json : Entry → Json
entry_json e = object (members_of (entry_members e))

-- [ENTRY, ..]
abbrev pub entries_json : List Entry → Json
entries_json entries = array (items_of (map entry_json entries))

-- [PATH, ..]
abbrev pub paths_json : List (List ℕ) → Json
paths_json paths = array (items_of (map string paths))

-- {NAME:N, ..}: the removed names of a book with the numbers of their last changes
abbrev pub removed_member : Removed → List ℕ × Json
removed_member r = (r.name, number_json r.number)

abbrev pub removed_json : List Removed → Json
removed_json removed = object (members_of (map removed_member removed))

-- the keys of a resource with their values
abbrev pub slots : Line → List Slot
slots l =
    (codes "path", Some (string (path_text l.path)))
    ∷ (codes "owner", option_map string l.owner)
    ∷ (codes "label", unless_empty string l.label)
    ∷ (codes "protected", unless_empty entries_json l.protected)
    ∷ (codes "own", unless_empty entries_json l.own)
    ∷ (codes "members", unless_empty paths_json l.members)
    ∷ (codes "number", option_map number_json l.number)
    ∷ (codes "removed", unless_empty removed_json l.removed)
    ∷ (codes "text", option_map string l.text)
    ∷ []

abbrev pub line_json : Line → Json
line_json l = object (members_of (present (slots l)))

-- the resource as a line of text
abbrev pub line_text : Line → List ℕ
line_text l = text_line (line_json l)
