-- The decision on what is stated is the decision of the Office, and `explain` answers it.
use Rattle.std.specs.Prelude.{◌≡◌, ◌↔◌, ℕ, Bool, List, ◌∷◌, ◌++◌, codes, decimal, Option, Some, None, Ok}
use Rattle.book_rights.specs.Privileges.{name_of}
use Rattle.book_rights.specs.declared.privileges.Leaf.{Leaf}
use Rattle.book_lists.specs.Memberships.{set_of}
use Rattle.book_lists_explain.specs.Answers.{IsAnswer}
use Rattle.book_lists_explain.specs.Explanations.{AnswersText}
use Rattle.book_machine.specs.Needing.{needed_at}
use Rattle.book_machine.specs.declared.needing.Needed.{Needed}
use Rattle.book_office.specs.Levels.{effective_at}
use Rattle.book_office.specs.Sound.{IsSound}
use Rattle.book_office_values.specs.declared.offices.Office.{Office}
use Rattle.book_office_values.specs.declared.paths.Path.{Path}
use Rattle.book_office_listings.specs.Verdicts.{bare_entries, here_of}
use Rattle.book_office_listings.specs.declared.messages.DecidingEntry.{DecidingEntry}
use Rattle.book_office_listings.specs.declared.messages.Denial.{Denial}
use Rattle.book_questions.specs.Whys.{IsWhy, first_denial}
use Rattle.book_questions.specs.declared.whys.Why.{Why}
use Rattle.book_questions_asked.specs.Asking.{TellsAsk, asked_at}
use Rattle.book_questions_asked.specs.Stated.{IsStated}
use Rattle.book_questions_asked.specs.declared.stated.Asked.{Asked}
use Rattle.book_questions_asked.specs.declared.stated.Stated.{Stated}

-- the text tells the decision of the Office on the leaves, and what is granted there
abbrev pub IsDecision : Office → Asked → (Leaf → Bool) → List ℕ → Type 0
IsDecision o asked set answer = IsAnswer o.pairs asked.caller set (here_of o asked.at) (bare_entries (effective_at o asked.at)) answer

-- what answers the stated memberships, caller, need, resource and entries is what answers those of the Office: the decision, the entry
-- and the leaves that are granted
abbrev pub StatedDecisionsAreTheOffices : Type 0
StatedDecisionsAreTheOffices = (o : Office) (asked : Asked) (set : Leaf → Bool) (stated : Stated) (answer : List ℕ) → IsStated o asked set stated
    → IsAnswer (set_of stated.members) stated.caller stated.set stated.here stated.entries answer → IsDecision o asked set answer

-- to the text that is told of a sound Office `explain` answers exactly the decision of the Office
abbrev pub ExplainAnswersAsk : Type 0
ExplainAnswersAsk = (o : Office) (name : Option (List ℕ)) (p : Option Path) (set : Leaf → Bool) (asked : Asked) (text answer : List ℕ) → IsSound o
    → asked_at o name p ≡ Ok asked → TellsAsk o name p set (Ok (Some text)) → AnswersText text answer ↔ IsDecision o asked set answer

-- ---- the same as `why` tells it
abbrev pub entry_text : Option DecidingEntry → List ℕ
entry_text None = codes ", none granted"
entry_text (Some entry) = codes " by " ++ decimal entry.number

-- granted, or the privilege that is denied and the number of the entry that denies it
abbrev pub decision_text : Option Denial → List ℕ
decision_text None = codes "allowed"
decision_text (Some denial) = codes "denied " ++ (name_of denial.privilege ++ entry_text denial.entry)

-- this is the first line of the text
abbrev pub IsFirstLine : List ℕ → List ℕ → Type 0
IsFirstLine line text = (rest : List ℕ) × (text ≡ line ++ 10 ∷ rest)

-- the first line of what `explain` answers is the decision that `why` tells of the same caller, leaves and resource
abbrev pub ExplainTellsWhy : Type 0
ExplainTellsWhy = (o : Office) (name : Option (List ℕ)) (p : Option Path) (set : Leaf → Bool) (needed : Needed) (why : Why) (text answer : List ℕ) → IsSound o
    → needed_at o name p set ≡ Ok needed → IsWhy o needed why → TellsAsk o name p set (Ok (Some text)) → AnswersText text answer
    → IsFirstLine (decision_text (first_denial why.needs)) answer
