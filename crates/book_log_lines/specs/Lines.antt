-- A line of a log as text (own profile): an object whose keys without a value are left out.
use Rattle.std.specs.Prelude.{ℕ, Bool, List, [], ◌∷◌, ◌++◌, map, codes, Option, Some, None, option_map}
use Rattle.json.specs.Json.{Json, boolean, string, array, object}
use Rattle.json.specs.Print.{print}
use Rattle.json.specs.Tree.{json_tokens}
use Rattle.book_rights.specs.Privileges.{name_of}
use Rattle.book_rights.specs.declared.methods.Method.{Method}
use Rattle.book_rights.specs.declared.privileges.Leaf.{Leaf}
use Rattle.book_rights.specs.declared.privileges.Privilege.{Privilege}
use Rattle.book_lists.specs.declared.entries.Entry.{Entry}
use Rattle.book_lists_explain.specs.ShortNames.{short_list}
use Rattle.book_office_values.specs.Paths.{path_text}
use Rattle.book_office_values.specs.declared.paths.Path.{Path}
use Rattle.book_json_lines.specs.Objects.{if_some, items_of, members_of, number_json, text_line, unless_empty}
use Rattle.book_log_lines.specs.Words.{action_key, adoption_name, form_key, form_text, method_name}
use Rattle.book_log_lines.specs.declared.lines.AdoptionLine.{AdoptionLine}
use Rattle.book_log_lines.specs.declared.lines.Decided.{Decided}
use Rattle.book_log_lines.specs.declared.lines.Denied.{Denied}
use Rattle.book_log_lines.specs.declared.lines.Line.{Line}
use Rattle.book_log_lines.specs.declared.lines.Line.TheVariants as line
use Rattle.book_log_lines.specs.declared.lines.ReplyLine.{ReplyLine}
use Rattle.book_log_lines.specs.declared.lines.Touched.{Touched}

abbrev pub path_json : Path → Json
path_json p = string (path_text p)

abbrev pub method_json : Method → Json
method_json m = string (method_name m)

abbrev pub privilege_json : Privilege → Json
privilege_json privilege = string (name_of privilege)

-- [NAME, ..]
abbrev pub privileges_json : List Privilege → Json
privileges_json privileges = array (items_of (map privilege_json privileges))

-- an entry as the body of an ACL submits it (RFC 3744, section 5.5): `grant` or `deny` with the short names of its leaves, and
-- `principal` or `invert` with its principal form
abbrev pub entry_members : Entry → List (List ℕ × Json)
entry_members e = (action_key e.deny, privileges_json (short_list e.set)) ∷ (form_key e.invert, string (form_text e.who)) ∷ []

abbrev pub entry_json : Entry → Json
entry_json e = object (members_of (entry_members e))

abbrev pub entry_text : Entry → List ℕ
entry_text e = print (json_tokens (entry_json e))

-- the entry that decides: where it stands, in which list, its number in that list and in the effective one, and the entry
abbrev pub decided_members : Decided → List (List ℕ × Json)
decided_members d =
    (codes "from", path_json d.from)
    ∷ (codes "protected", boolean d.protected)
    ∷ (codes "place", number_json d.place)
    ∷ (codes "number", number_json d.number)
    ∷ (codes "entry", entry_json d.entry)
    ∷ []

abbrev pub decided_if : Option Decided → List (List ℕ × Json)
decided_if None = []
decided_if (Some d) = decided_members d

-- what was denied, where, and by which entry
abbrev pub denied_members : Denied → List (List ℕ × Json)
denied_members d = (codes "resource", path_json d.resource) ∷ (codes "privilege", privilege_json d.privilege) ∷ decided_if d.by

abbrev pub denied_if : Option Denied → List (List ℕ × Json)
denied_if None = []
denied_if (Some d) = denied_members d

-- {"path":PATH,"number":N}
abbrev pub touched_json : Touched → Json
touched_json t = object (members_of ((codes "path", path_json t.path) ∷ (codes "number", number_json t.number) ∷ []))

abbrev pub touched_list : List Touched → Json
touched_list ts = array (items_of (map touched_json ts))

-- ---- a reply
abbrev pub stamp_members : ReplyLine → List (List ℕ × Json)
stamp_members l = (codes "time", string l.time) ∷ (codes "connection", number_json l.connection) ∷ []

abbrev pub asked_members : ReplyLine → List (List ℕ × Json)
asked_members l =
    if_some (codes "caller") (option_map string l.caller)
    ++ (if_some (codes "method") (option_map method_json l.method)
    ++ (if_some (codes "path") (option_map path_json l.path) ++ if_some (codes "destination") (option_map path_json l.destination)))

abbrev pub answer_members : ReplyLine → List (List ℕ × Json)
answer_members l = (codes "status", number_json l.status) ∷ if_some (codes "error") (option_map string l.error)

abbrev pub edit_members : ReplyLine → List (List ℕ × Json)
edit_members l = if_some (codes "touched") (unless_empty touched_list l.touched) ++ if_some (codes "epoch") (option_map number_json l.epoch)

abbrev pub reply_members : ReplyLine → List (List ℕ × Json)
reply_members l = stamp_members l ++ (asked_members l ++ (answer_members l ++ (denied_if l.denied ++ edit_members l)))

-- ---- an adoption
abbrev pub adoption_members : AdoptionLine → List (List ℕ × Json)
adoption_members l =
    (codes "time", string l.time) ∷ (codes "epoch", number_json l.epoch) ∷ (codes "adopted", string (adoption_name l.adopted)) ∷ []

-- ---- a line
abbrev pub line_members : Line → List (List ℕ × Json)
line_members (line.Reply l) = reply_members l
line_members (line.Adoption l) = adoption_members l

abbrev pub line_json : Line → Json
line_json l = object (members_of (line_members l))

-- the line as text, with its line feed
abbrev pub line_text : Line → List ℕ
line_text l = text_line (line_json l)
