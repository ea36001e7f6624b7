-- What is stated, as lines that `explain` reads (own profile).
use Rattle.std.specs.Prelude.{ℕ, Bool, true, false, List, [], ◌++◌, codes, Option, Some, None}
use Rattle.std.specs.List.{flat_map}
use Rattle.book_rights.specs.declared.privileges.Leaf.{Leaf}
use Rattle.book_lists.specs.declared.circles.Caller.{Caller}
use Rattle.book_lists.specs.declared.circles.Caller.TheVariants.{Nobody, Known}
use Rattle.book_lists.specs.declared.entries.Entry.{Entry}
use Rattle.book_lists.specs.declared.memberships.Membership.{Membership}
use Rattle.book_lists_explain.specs.Answers.{spaced}
use Rattle.book_lists_explain.specs.ShortNames.{short_list}
use Rattle.book_office_audit.specs.EntryLines.{who_text}
use Rattle.book_questions_asked.specs.declared.stated.Stated.{Stated}

abbrev pub member_line : Membership → List ℕ
member_line m = codes "member " ++ (m.group ++ (codes " " ++ (m.member ++ codes "\n")))

abbrev pub caller_line : Caller → List ℕ
caller_line Nobody = codes "caller -\n"
caller_line (Known person) = codes "caller " ++ (person ++ codes "\n")

abbrev pub owner_line : Option (List ℕ) → List ℕ
owner_line None = []
owner_line (Some owner) = codes "owner " ++ (owner ++ codes "\n")

abbrev pub here_line : Option (List ℕ) → List ℕ
here_line None = []
here_line (Some principal) = codes "here " ++ (principal ++ codes "\n")

-- the short names of a set, each after a space, and the end of the line
abbrev pub asked_line : (Leaf → Bool) → List ℕ
asked_line set = flat_map spaced (short_list set) ++ codes "\n"

abbrev pub need_line : (Leaf → Bool) → List ℕ
need_line set = codes "need" ++ asked_line set

abbrev pub action_word : Bool → List ℕ
action_word true = codes "deny "
action_word false = codes "grant "

abbrev pub invert_word : Bool → List ℕ
invert_word true = codes "not "
invert_word false = codes ""

abbrev pub entry_line : Entry → List ℕ
entry_line entry = action_word entry.deny ++ (invert_word entry.invert ++ (who_text entry.who ++ asked_line entry.set))

-- the memberships, the caller, the owner, the resource, the need, and the entries in order
abbrev pub stated_text : Stated → List ℕ
stated_text stated =
    flat_map member_line stated.members ++ (caller_line stated.caller ++ (owner_line stated.here.owner ++ (here_line stated.here.principal
    ++ (need_line stated.set ++ flat_map entry_line stated.entries))))
