-- What is told of the denials of a log (own profile): who was refused what, where, by which entry, and when.
use Rattle.std.specs.Prelude.{ℕ, Bool, true, false, not, List, [], ◌∷◌, ◌++◌, codes, decimal, Option, Some, None, option_map, option_and_then, if◌then◌else◌}
use Rattle.std.specs.FinMap as map
use Rattle.std.specs.List.{filter_map, flat_map}
use Rattle.std.specs.Ordering.{is_lt}
use Rattle.std.specs.Str.{bytes_eq}
use Rattle.json.specs.Json.{Json, boolean, string}
use Rattle.json.specs.Print.{print}
use Rattle.json.specs.Tree.{members_tokens}
use Rattle.book_json_lines.specs.Objects.{if_some, members_of, number_json}
use Rattle.book_rights.specs.Privileges.{name_of}
use Rattle.book_office_values.specs.Names.{NamesTo}
use Rattle.book_office_values.specs.Paths.{path_text}
use Rattle.book_log_lines.specs.Lines.{entry_json, entry_text, method_json, path_json, privilege_json}
use Rattle.book_log_lines.specs.Times.{time_cmp}
use Rattle.book_log_lines.specs.Words.{method_name}
use Rattle.book_log_lines.specs.declared.lines.Decided.{Decided}
use Rattle.book_log_lines.specs.declared.lines.Denied.{Denied}
use Rattle.book_log_lines.specs.declared.lines.Line.{Line}
use Rattle.book_log_lines.specs.declared.lines.Line.TheVariants as line
use Rattle.book_log_lines.specs.declared.lines.ReplyLine.{ReplyLine}
use Rattle.book_log_denials.specs.Tallies.{with_told}
use Rattle.book_log_denials.specs.declared.forms.Form.{Form}
use Rattle.book_log_denials.specs.declared.forms.Form.TheVariants as form
use Rattle.book_log_denials.specs.declared.tallies.Tally.{Tally}

-- ---- the text of a group
-- nobody, and what was not read, is told as a dash
abbrev pub or_dash : Option (List ℕ) → List ℕ
or_dash None = codes "-"
or_dash (Some text) = text

abbrev pub list_word : Bool → List ℕ
list_word true = codes "protected"
list_word false = codes "own"

-- ` by LIST entry PLACE at FROM: ENTRY`
abbrev pub standing_text : Decided → List ℕ
standing_text d =
    codes " by " ++ (list_word d.protected ++ (codes " entry " ++ (decimal d.place ++ (codes " at " ++ (path_text d.from ++ (codes ": " ++ entry_text d.entry))))))

abbrev pub by_text : Option Decided → List ℕ
by_text None = codes ", no entry grants it"
by_text (Some d) = standing_text d

-- `CALLER METHOD PATH`
abbrev pub asked_text : ReplyLine → List ℕ
asked_text l =
    or_dash l.caller ++ (codes " " ++ (or_dash (option_map method_name l.method) ++ (codes " " ++ or_dash (option_map path_text l.path))))

-- `CALLER METHOD PATH: RESOURCE PRIVILEGE`, and by which entry
abbrev pub sentence_text : ReplyLine → Denied → List ℕ
sentence_text l d =
    asked_text l ++ (codes ": " ++ (path_text d.resource ++ (codes " " ++ (name_of d.privilege ++ by_text d.by))))

-- ---- the members of a group's object
-- the caller, the method and the path, as far as there are any
abbrev pub caller_members : ReplyLine → List (List ℕ × Json)
caller_members l =
    if_some (codes "caller") (option_map string l.caller)
    ++ (if_some (codes "method") (option_map method_json l.method) ++ if_some (codes "path") (option_map path_json l.path))

abbrev pub denial_members : Denied → List (List ℕ × Json)
denial_members d = (codes "resource", path_json d.resource) ∷ (codes "privilege", privilege_json d.privilege) ∷ []

abbrev pub standing_members : Decided → List (List ℕ × Json)
standing_members d =
    (codes "from", path_json d.from) ∷ (codes "protected", boolean d.protected) ∷ (codes "place", number_json d.place) ∷ []

-- where the entry that denies stands, and the entry, if there is one
abbrev pub by_members : Option Decided → List (List ℕ × Json)
by_members None = []
by_members (Some d) = standing_members d ++ (codes "entry", entry_json d.entry) ∷ []

abbrev pub group_members : ReplyLine → Denied → List (List ℕ × Json)
group_members l d = caller_members l ++ (denial_members d ++ by_members d.by)

-- members, and the brace behind them
abbrev pub members_text : List (List ℕ × Json) → List ℕ
members_text ms = print (members_tokens (members_of ms))

-- ---- a group
-- denials are of one group where this text of them is the same
abbrev pub group_text : Form → ReplyLine → Denied → List ℕ
group_text form.Text l d = sentence_text l d
group_text form.Object l d = members_text (group_members l d)

-- ---- the denials of a log
-- a time is not before another, if there is one
abbrev pub is_from : Option (List ℕ) → List ℕ → Bool
is_from None t = true
is_from (Some s) t = not (is_lt (time_cmp t s))

-- the group of a denial and its time
abbrev pub denial_in : Form → Line → Option (List ℕ × List ℕ)
denial_in told (line.Reply l) = option_map (λ (d : Denied). (group_text told l d, l.time)) l.denied
denial_in told (line.Adoption l) = None

abbrev pub if_from : Option (List ℕ) → List ℕ × List ℕ → Option (List ℕ × List ℕ)
if_from since d = if is_from since d.1 then Some d else None

-- the denial of a line, if it has one that is not before the time
abbrev pub told_in : Form → Option (List ℕ) → Line → Option (List ℕ × List ℕ)
told_in told since l = option_and_then (if_from since) (denial_in told l)

-- the groups with the denials of lines, one line after the other
abbrev pub with_lines : Form → Option (List ℕ) → NamesTo Tally → List Line → NamesTo Tally
with_lines told since m [] = m
with_lines told since m (l ∷ ls) = with_lines told since (with_told m (told_in told since l)) ls

-- its time, if it is of the group
abbrev pub if_of : List ℕ → List ℕ × List ℕ → Option (List ℕ)
if_of group d = if bytes_eq group d.0 then Some d.1 else None

abbrev pub time_in : Form → Option (List ℕ) → List ℕ → Line → Option (List ℕ)
time_in told since group l = option_and_then (if_of group) (told_in told since l)

-- the times of the denials of a group that are not before the time, in the order of the lines
abbrev pub times_of : Form → Option (List ℕ) → List ℕ → List Line → List (List ℕ)
times_of told since group lines = filter_map (time_in told since group) lines

-- ---- the answer
-- `FIRST LAST`
abbrev pub times_text : Tally → List ℕ
times_text y = y.first ++ (codes " " ++ y.last)

-- the members that tell both times
abbrev pub span_text : Tally → List ℕ
span_text y = codes ",\"first\":\"" ++ (y.first ++ (codes "\",\"last\":\"" ++ (y.last ++ codes "\",")))

-- `N FIRST LAST GROUP`, or an object that begins with these three
abbrev pub tally_line : Form → List ℕ → Tally → List ℕ
tally_line form.Text group y = decimal y.count ++ (codes " " ++ (times_text y ++ (codes " " ++ (group ++ codes "\n"))))
tally_line form.Object group y = codes "{\"count\":" ++ (decimal y.count ++ (span_text y ++ (group ++ codes "\n")))

abbrev pub group_line : Form → List ℕ × Tally → List ℕ
group_line told e = tally_line told e.0 e.1

-- a line for each group, in byte order of their texts
abbrev pub groups_text : Form → NamesTo Tally → List ℕ
groups_text told groups = flat_map (group_line told) (map.entries groups)
