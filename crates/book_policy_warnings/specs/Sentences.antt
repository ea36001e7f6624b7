-- The lines that tell warnings (own profile).
use Rattle.std.specs.Prelude.{ℕ, zero, suc, Bool, true, false, ◌++◌, ◌-◌, List, [], length, take, codes, decimal, Option, Some, None}
use Rattle.std.specs.List.{flat_map}
use Rattle.book_rights.specs.declared.privileges.Leaf.{Leaf}
use Rattle.book_lists.specs.Principals.{group_path, person_path}
use Rattle.book_lists.specs.declared.entries.Who.{Who}
use Rattle.book_lists.specs.declared.entries.Who.TheVariants.{Href, Everyone, Authenticated, Unauthenticated, Owner, Own}
use Rattle.book_lists_explain.specs.Answers.{spaced}
use Rattle.book_lists_explain.specs.ShortNames.{short_list}
use Rattle.book_office_values.specs.Paths.{path_text}
use Rattle.book_office_values.specs.declared.paths.Path.{Path}
use Rattle.book_policy_gaps.specs.Lines.{gap_line}
use Rattle.book_policy_idle.specs.declared.idle.IdleEntry.{IdleEntry}
use Rattle.book_policy_idle.specs.declared.reasons.Ahead.{Ahead}
use Rattle.book_policy_idle.specs.declared.reasons.Reason.{Reason}
use Rattle.book_policy_idle.specs.declared.reasons.Reason.TheVariants.{ForNobody, BehindOne, BehindSeveral, DecidedAlike}
use Rattle.book_policy_openings.specs.declared.gains.Gain.{Gain}
use Rattle.book_policy_openings.specs.declared.openings.Opening.{Opening}
use Rattle.book_policy_openings.specs.declared.steps.Step.{Step}
use Rattle.book_policy_openings.specs.declared.steps.Step.TheVariants.{Join, Grant}
use Rattle.book_policy_warnings.specs.declared.warnings.Warning.{Warning}
use Rattle.book_policy_warnings.specs.declared.warnings.Warning.TheVariants.{NeverDecides, LeavesOpen, Opens, Gets}

-- a caller, by the bare name of the person, if it is one
abbrev pub caller_text : Option (List ℕ) → List ℕ
caller_text None = codes "a caller who is not known"
caller_text (Some person) = person

-- the form of an entry that is for a caller alone
abbrev pub form_text : Option (List ℕ) → List ℕ
form_text None = codes "unauthenticated"
form_text (Some person) = person_path person

-- leaves by their short names, each after a space
abbrev pub short_text : (Leaf → Bool) → List ℕ
short_text leaves = flat_map spaced (short_list leaves)

abbrev pub join_text : Option (List ℕ) → List ℕ → List ℕ
join_text caller group = codes "PROPPATCH " ++ (group_path group ++ (codes " (+ " ++ (form_text caller ++ codes ")")))

abbrev pub grant_text : Option (List ℕ) → Path → (Leaf → Bool) → List ℕ
grant_text caller p leaves =
    codes "ACL " ++ (path_text p ++ (codes " (grant " ++ (form_text caller ++ (short_text leaves ++ codes ")"))))

-- the request of a step: whom it adds to a group, or what it grants to whom
abbrev pub step_text : Option (List ℕ) → Step → List ℕ
step_text caller (Join group) = join_text caller group
step_text caller (Grant p leaves) = grant_text caller p leaves

abbrev pub second_text : Option (List ℕ) → Option Step → List ℕ
second_text caller None = []
second_text caller (Some step) = codes "; " ++ step_text caller step

abbrev pub granted_text : List ℕ → List ℕ
granted_text book = codes "; then GET /books/" ++ (book ++ codes "/* is granted\n")

-- who, by which requests, and what is granted then
abbrev pub opening_line : Opening → List ℕ
opening_line opening =
    caller_text opening.caller ++ (codes ": " ++ (step_text opening.caller opening.first ++ (second_text opening.caller opening.second
    ++ granted_text opening.book)))

-- leaves by their short names, to the end of the line
abbrev pub leaves_text : (Leaf → Bool) → List ℕ
leaves_text leaves = short_text leaves ++ codes "\n"

-- where they are granted then
abbrev pub then_text : Path → List ℕ
then_text p = codes "; then at " ++ (path_text p ++ codes " is granted:")

-- where leaves are granted then, and which
abbrev pub gained_text : Path → (Leaf → Bool) → List ℕ
gained_text p leaves = then_text p ++ leaves_text leaves

-- who, by which requests, and what is granted then
abbrev pub gain_line : Gain → List ℕ
gain_line gain =
    caller_text gain.caller ++ (codes ": " ++ (step_text gain.caller gain.first ++ (second_text gain.caller gain.second
    ++ gained_text gain.at gain.leaves)))

-- the text of a principal form
abbrev pub who_text : Who → List ℕ
who_text (Href principal) = principal
who_text Everyone = codes "all"
who_text Authenticated = codes "authenticated"
who_text Unauthenticated = codes "unauthenticated"
who_text Owner = codes "owner"
who_text Own = codes "self"

-- where an entry stands, and for whom it is
abbrev pub place_text : List ℕ → Who → List ℕ
place_text at who = codes " (at " ++ (at ++ (codes ", who " ++ (who_text who ++ codes "): ")))

-- the list in which an entry stands
abbrev pub list_text : Bool → List ℕ
list_text true = codes "protected"
list_text false = codes "own"

-- the entry behind which one is
abbrev pub ahead_text : Ahead → List ℕ
ahead_text ahead = list_text ahead.protected ++ (codes " entry " ++ (decimal ahead.number ++ (codes " at " ++ ahead.at)))

-- why an entry changes no decision
abbrev pub reason_text : Reason → List ℕ
reason_text ForNobody = codes "never decides: it is for nobody\n"
reason_text (BehindOne ahead) = codes "never decides: behind " ++ (ahead_text ahead ++ codes "\n")
reason_text BehindSeveral = codes "never decides: behind the entries before it\n"
reason_text DecidedAlike = codes "can be left out: without it the same is decided\n"

-- an entry that changes no decision, by its number among those of the policy, from 1
abbrev pub idle_line : IdleEntry → List ℕ
idle_line idle = codes "entry " ++ (decimal idle.number ++ (place_text idle.at idle.who ++ reason_text idle.reason))

abbrev pub warning_line : Warning → List ℕ
warning_line (NeverDecides idle) = idle_line idle
warning_line (LeavesOpen gap) = gap_line gap
warning_line (Opens opening) = opening_line opening
warning_line (Gets gain) = gain_line gain

abbrev pub warning_lines : List Warning → List ℕ
warning_lines warnings = flat_map warning_line warnings

-- how many more there are, if there are any
abbrev pub more_line : ℕ → List ℕ
more_line zero = []
more_line (suc n) = decimal (suc n) ++ codes " more\n"

-- at most 1,000 lines, and then how many more
abbrev pub warnings_text : List Warning → List ℕ
warnings_text warnings = warning_lines (take 1000 warnings) ++ more_line (length warnings - 1000)
