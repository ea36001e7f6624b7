-- A line has one line feed, at its end.
use Rattle.book_log_lines.proofs.Common.{ℕ, List, [], ◌∷◌, ◌++◌, map, refl, Json, Option, Some, None, option_map, codes}
use Rattle.std.specs.List.{All}
use Rattle.std.proofs.lemmas.List.Elements.{All-head, All-tail}
use Rattle.json.specs.Json.{string}
use Rattle.book_json_lines.specs.Lines.{HasNumerals, IsLine, ItemsHaveNumerals, MembersHaveNumerals}
use Rattle.book_json_lines.specs.Objects.{if_some, items_of, members_of, number_json, unless_empty}
use Rattle.book_json_lines.proofs.Feeds.{value_line}
use Rattle.book_lists.specs.declared.entries.Entry.{Entry}
use Rattle.book_lists_explain.specs.ShortNames.{short_list}
use Rattle.book_office_values.specs.declared.paths.Path.{Path}
use Rattle.book_rights.specs.declared.methods.Method.{Method}
use Rattle.book_rights.specs.declared.privileges.Privilege.{Privilege}
use Rattle.book_log_lines.specs.Laws.{AreShortBy, AreShortIn, IsShort, IsShortIf, IsShortLine, IsShortReply, LinesEndOnce}
use Rattle.book_log_lines.specs.Lines.{answer_members, asked_members, decided_if, decided_members, denied_if, denied_members, edit_members, entry_json, line_json, line_members, method_json, path_json, privilege_json, reply_members, touched_json, touched_list}
use Rattle.book_log_lines.specs.declared.lines.AdoptionLine.{AdoptionLine}
use Rattle.book_log_lines.specs.declared.lines.Decided.{Decided}
use Rattle.book_log_lines.specs.declared.lines.Denied.{Denied}
use Rattle.book_log_lines.specs.declared.lines.Line.{Line}
use Rattle.book_log_lines.specs.declared.lines.Line.TheVariants as line
use Rattle.book_log_lines.specs.declared.lines.ReplyLine.{ReplyLine}
use Rattle.book_log_lines.specs.declared.lines.Touched.{Touched}

abbrev Has : List (List ℕ × Json) → Type 0
Has ms = MembersHaveNumerals (members_of ms)

abbrev HasIf : Option Json → Type 0
HasIf None = Unit {0}
HasIf (Some j) = HasNumerals j

has_both : (ms ns : List (List ℕ × Json)) → Has ms → Has ns → Has (ms ++ ns)
has_both [] ns a b = b
has_both (m ∷ ms) ns a b = (a.0, has_both ms ns a.1 b)

has_some : (k : List ℕ) (v : Option Json) → HasIf v → Has (if_some k v)
has_some k None h = tt
has_some k (Some j) h = (h, tt)

text_if : (s : Option (List ℕ)) → HasIf (option_map string s)
text_if None = tt
text_if (Some s) = tt

path_if : (p : Option Path) → HasIf (option_map path_json p)
path_if None = tt
path_if (Some p) = tt

method_if : (m : Option Method) → HasIf (option_map method_json m)
method_if None = tt
method_if (Some m) = tt

number_if : (n : Option ℕ) → IsShortIf n → HasIf (option_map number_json n)
number_if None h = tt
number_if (Some n) h = (n, h, refl)

each_name : (ps : List Privilege) → ItemsHaveNumerals (items_of (map privilege_json ps))
each_name [] = tt
each_name (p ∷ ps) = (tt, each_name ps)

has_entry : (e : Entry) → HasNumerals (entry_json e)
has_entry e = (each_name (short_list e.set), (tt, tt))

has_decided : (d : Option Decided) → AreShortBy d → Has (decided_if d)
has_decided None h = tt
has_decided (Some d) h = (tt, (tt, ((d.place, h.0, refl), ((d.number, h.1, refl), (has_entry d.entry, tt)))))

has_denied : (d : Option Denied) → AreShortIn d → Has (denied_if d)
has_denied None h = tt
has_denied (Some d) h = (tt, (tt, has_decided d.by h))

each_touched : (ts : List Touched) → All (λ (t : Touched). IsShort t.number) ts → ItemsHaveNumerals (items_of (map touched_json ts))
each_touched [] h = tt
each_touched (t ∷ ts) h =
    ((tt, ((t.number, All-head (λ (t : Touched). IsShort t.number) t ts h, refl), tt)), each_touched ts (All-tail (λ (t : Touched). IsShort t.number) t ts h))

touched_if : (ts : List Touched) → All (λ (t : Touched). IsShort t.number) ts → HasIf (unless_empty touched_list ts)
touched_if [] h = tt
touched_if (t ∷ ts) h = each_touched (t ∷ ts) h

has_asked : (l : ReplyLine) → Has (asked_members l)
has_asked l =
    let to = if_some (codes "destination") (option_map path_json l.destination) in
    let at = if_some (codes "path") (option_map path_json l.path) in
    let by = if_some (codes "method") (option_map method_json l.method) in
    let who = if_some (codes "caller") (option_map string l.caller) in
    has_both who (by ++ (at ++ to)) (has_some (codes "caller") (option_map string l.caller) (text_if l.caller))
    (has_both by (at ++ to) (has_some (codes "method") (option_map method_json l.method) (method_if l.method))
    (has_both at to (has_some (codes "path") (option_map path_json l.path) (path_if l.path))
    (has_some (codes "destination") (option_map path_json l.destination) (path_if l.destination))))

has_answer : (l : ReplyLine) → IsShortReply l → Has (answer_members l)
has_answer l h = ((l.status, h.status, refl), has_some (codes "error") (option_map string l.error) (text_if l.error))

has_edit : (l : ReplyLine) → IsShortReply l → Has (edit_members l)
has_edit l h =
    has_both (if_some (codes "touched") (unless_empty touched_list l.touched)) (if_some (codes "epoch") (option_map number_json l.epoch))
    (has_some (codes "touched") (unless_empty touched_list l.touched) (touched_if l.touched h.touched))
    (has_some (codes "epoch") (option_map number_json l.epoch) (number_if l.epoch h.epoch))

has_reply : (l : ReplyLine) → IsShortReply l → Has (reply_members l)
has_reply l h =
    let done = denied_if l.denied ++ edit_members l in (
      tt,
      (
        (l.connection, h.connection, refl),
        has_both (asked_members l) (answer_members l ++ done) (has_asked l)
            (has_both (answer_members l) done (has_answer l h)
            (has_both (denied_if l.denied) (edit_members l) (has_denied l.denied h.denied) (has_edit l h))),
      ),
    )

has_line : (l : Line) → IsShortLine l → HasNumerals (line_json l)
has_line (line.Reply l) h = has_reply l h
has_line (line.Adoption l) h = (tt, ((l.epoch, h, refl), (tt, tt)))

pub lines_end_once : LinesEndOnce
lines_end_once l h = value_line (line_json l) (has_line l h)
