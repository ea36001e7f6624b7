-- What the words of a question ask (own profile).
use Rattle.std.specs.Prelude.{◌≡◌, ◌≢◌, ◌⊎◌, ℕ, Bool, List, codes, map, string_bytes, Option, Some, None, if◌then◌else◌}
use Rattle.std.specs.Option.{option_copied}
use Rattle.std.specs.Str.{bytes_eq}
use Rattle.book_rights.specs.Privileges.{name_of}
use Rattle.book_lists_explain.specs.Lines.{AreLeaves, HasUnknown}
use Rattle.book_rights.specs.declared.privileges.Leaf.{Leaf}
use Rattle.book_rights.specs.declared.privileges.Privilege.{Privilege}
use Rattle.book_office_values.specs.declared.paths.Path.{Path}
use Rattle.book_machine.specs.declared.refusals.Refusal.TheVariants.{Unavailable}
use Rattle.book_questions.specs.Questions.{ReadsPath, ReadsQuestion}
use Rattle.book_questions.specs.declared.questions.Question.{Question}
use Rattle.book_desk_questions.specs.declared.asked.Asked.{Asked}
use Rattle.book_desk_questions.specs.declared.asked.Asked.TheVariants as asked
use Rattle.book_desk_questions.specs.declared.asked.Asking.{Asking}
use Rattle.book_desk_questions.specs.declared.asked.Asking.TheVariants as asking
use Rattle.book_desk_questions.specs.declared.asked.DecisionWords.{DecisionWords}
use Rattle.book_desk_questions.specs.declared.asked.PartWords.{PartWords}
use Rattle.book_desk_questions.specs.declared.asked.RightsWords.{RightsWords}
use Rattle.book_desk_questions.specs.declared.asked.WhoWords.{WhoWords}
use Rattle.book_desk_questions.specs.declared.asked.WhyWords.{WhyWords}
use Rattle.book_desk_questions.specs.declared.asked.Words.{Words}
use Rattle.book_desk_questions.specs.declared.asked.Words.TheVariants as words
use Rattle.book_desk_questions.specs.declared.failures.Unanswered.{Unanswered}
use Rattle.book_desk_questions.specs.declared.failures.Unanswered.TheVariants.{Refused, UnknownPrivilege}

-- the bare name of a caller; a dash is nobody
abbrev pub caller_in : List ℕ → Option (List ℕ)
caller_in word = if bytes_eq word (codes "-") then None else Some word

abbrev pub asking_name : Asking → List ℕ
asking_name asking.Why = codes "why"
asking_name asking.Who = codes "who"
asking_name asking.Rights = codes "rights"
asking_name asking.Ask = codes "ask"
asking_name asking.Audit = codes "audit"
asking_name asking.Show = codes "show"

abbrev pub asking_of : Words → Asking
asking_of (words.Why w) = asking.Why
asking_of (words.Who w) = asking.Who
asking_of (words.Rights w) = asking.Rights
asking_of (words.Decision w) = asking.Ask
asking_of (words.Part w) = asking.Audit
asking_of (words.Show path) = asking.Show

-- ---- why something is granted to a caller, or denied
-- the words ask this of a caller
abbrev pub AsksWhy : WhyWords → Asked → Type 0
AsksWhy w a = (question : Question) × (a ≡ asked.Why w.caller.now question w.json) × ReadsQuestion w.what.now w.path.now (option_copied w.destination) (Some question)

-- they name neither a method nor a privilege; or memory was refused
abbrev pub AsksWhyNothing : WhyWords → Unanswered → Type 0
AsksWhyNothing w failure =
    ((failure ≡ UnknownPrivilege) × ReadsQuestion w.what.now w.path.now (option_copied w.destination) None) ⊎ (failure ≡ Refused Unavailable)

-- ---- to whom a privilege is granted, or denied
-- the words ask this of everybody
abbrev pub AsksWho : WhoWords → Asked → Type 0
AsksWho w a =
    (privilege : Privilege) × (p : Option Path) × (a ≡ asked.Who (record { privilege = privilege; path = p; denied = w.denied }) w.json)
    × (w.privilege.now ≡ name_of privilege) × ReadsPath w.path.now p

-- they name no privilege; or memory was refused
abbrev pub AsksWhoNothing : WhoWords → Unanswered → Type 0
AsksWhoNothing w failure =
    ((failure ≡ UnknownPrivilege) × ((privilege : Privilege) → w.privilege.now ≢ name_of privilege)) ⊎ (failure ≡ Refused Unavailable)

-- ---- who holds which rights
-- the path, or that of the root
abbrev pub at_or_root : Option (List ℕ) → List ℕ
at_or_root None = codes "/"
at_or_root (Some path) = path

-- the words ask this of all rights
abbrev pub AsksRights : RightsWords → Asked → Type 0
AsksRights w a =
    (p : Option Path) × (a ≡ asked.Rights (record { name = option_copied w.caller; path = p; shared = w.shared }) w.json)
    × ReadsPath (at_or_root (option_copied w.at)) p

-- ---- a decision
-- the words ask this of a decision
abbrev pub AsksDecision : DecisionWords → Asked → Type 0
AsksDecision w a =
    (p : Option Path) × (set : Leaf → Bool) × (a ≡ asked.Decision w.caller.now p set) × ReadsPath w.path.now p
    × AreLeaves (map string_bytes w.privileges.now) set

-- one of them names no privilege; or memory was refused
abbrev pub AsksDecisionNothing : DecisionWords → Unanswered → Type 0
AsksDecisionNothing w failure =
    ((failure ≡ UnknownPrivilege) × HasUnknown (map string_bytes w.privileges.now)) ⊎ (failure ≡ Refused Unavailable)

-- ---- a part
-- the words ask this of a part
abbrev pub AsksPart : PartWords → Asked → Type 0
AsksPart w a = (p : Option Path) × (a ≡ asked.Part p w.wanted) × ReadsPath (at_or_root (option_copied w.at)) p

-- ---- one resource
abbrev pub AsksShow : List ℕ → Asked → Type 0
AsksShow path a = (p : Option Path) × (a ≡ asked.Show p) × ReadsPath path p

-- ---- any question
abbrev pub AsksFor : Words → Asked → Type 0
AsksFor (words.Why w) a = AsksWhy w a
AsksFor (words.Who w) a = AsksWho w a
AsksFor (words.Rights w) a = AsksRights w a
AsksFor (words.Decision w) a = AsksDecision w a
AsksFor (words.Part w) a = AsksPart w a
AsksFor (words.Show path) a = AsksShow path.now a

abbrev pub AsksForNothing : Words → Unanswered → Type 0
AsksForNothing (words.Why w) failure = AsksWhyNothing w failure
AsksForNothing (words.Who w) failure = AsksWhoNothing w failure
AsksForNothing (words.Rights w) failure = failure ≡ Refused Unavailable
AsksForNothing (words.Decision w) failure = AsksDecisionNothing w failure
AsksForNothing (words.Part w) failure = failure ≡ Refused Unavailable
AsksForNothing (words.Show path) failure = failure ≡ Refused Unavailable
