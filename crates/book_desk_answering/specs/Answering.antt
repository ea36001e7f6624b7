-- What is answered to a demand of whoever keeps a server: what the command of its name writes and tells over the Office in force
-- (own profile).
use Rattle.std.specs.Prelude.{◌≡◌, ℕ, Bool, true, false, not, ◌&&◌, if◌then◌else◌, is_some, List, [], ◌++◌, length, codes, map, string_bytes, Option, Some, None}
use Rattle.std.specs.Io.KnownBytes.{Keeps}
use Rattle.std.specs.Option.{option_copied}
use Rattle.std.specs.Str.{bytes_eq}
use Rattle.book_desk_administering.specs.Putting.{PutsPolicy}
use Rattle.book_desk_app.specs.Audits.{Audits, FailsToAudit}
use Rattle.book_desk_app.specs.Endings.{EndsWith}
use Rattle.book_desk_app.specs.Telling.{TellsFailure, TellsLine}
use Rattle.book_desk_checks.specs.Checking.{ChecksCopy}
use Rattle.book_desk_control.specs.Replies.{outcome_of_status}
use Rattle.book_desk_control.specs.declared.demands.AskBody.{AskBody}
use Rattle.book_desk_control.specs.declared.demands.AuditBody.{AuditBody}
use Rattle.book_desk_control.specs.declared.demands.Demand.{Demand}
use Rattle.book_desk_control.specs.declared.demands.Demand.TheVariants as demand
use Rattle.book_desk_control.specs.declared.demands.RightsBody.{RightsBody}
use Rattle.book_desk_control.specs.declared.demands.WhoBody.{WhoBody}
use Rattle.book_desk_control.specs.declared.demands.WhyBody.{WhyBody}
use Rattle.book_desk_control.specs.declared.replies.Ending.{Ending as CommandEnding}
use Rattle.book_desk_control.specs.declared.replies.Kind.{Kind}
use Rattle.book_desk_control.specs.declared.replies.Kind.TheVariants as kind
use Rattle.book_desk_control.specs.declared.replies.Outcome.{Outcome}
use Rattle.book_desk_control.specs.declared.replies.Outcome.TheVariants as outcome
use Rattle.book_desk_questions.specs.Answers.{AnswersWords}
use Rattle.book_desk_questions.specs.Differing.{DiffersBy}
use Rattle.book_desk_questions.specs.Dumping.{EndsDump}
use Rattle.book_desk_questions.specs.declared.asked.Words.{Words}
use Rattle.book_desk_questions.specs.declared.asked.Words.TheVariants as words
use Rattle.book_office.specs.Keeping.{Standing}
use Rattle.book_wire_serving.specs.Serving.{Serving}
use Rattle.book_desk_answering.specs.Copies.{Copied}
use Rattle.book_desk_answering.specs.declared.replies.Reply.{Reply}

-- ---- replies
-- the status of a reply: by that of the command, and 507 where there is no place for a policy
abbrev pub outcome_in : ℕ → List ℕ → Outcome
outcome_in status body = if bytes_eq body (codes "adopt: full\n") then outcome.Full else outcome_of_status status

-- how a command ended: its status, and how much it told
abbrev pub ending_of : ℕ → List ℕ → CommandEnding
ending_of ended told = record { status = ended; told = length told }

-- a reply of what a command wrote, and then of what it told, with how it ended
pub record IsReply (k : Kind) (ended : ℕ) (written told : List ℕ) (reply : Reply) : Type 0 where
  pub ending : reply.ending ≡ Some (ending_of ended told)
  pub outcome : reply.outcome ≡ outcome_in ended (written ++ told)
  pub kind : reply.kind ≡ k
  pub body : reply.body.items ≡ written ++ told

-- what a command has: what was told and written before it and after it, and its status. All that it told was told to its end
abbrev pub Ending : Type 1
Ending = Option (List ℕ) → Option (List ℕ) → Option (List ℕ) → Option (List ℕ) → ℕ → Type 0

-- a reply of what a command wrote and told, which ended so
abbrev pub RepliesBy : Kind → Ending → Reply → Type 0
RepliesBy k Ends reply =
    (told written : List ℕ) × (status : ℕ) × Ends (Some []) (Some told) (Some []) (Some written) status × IsReply k status written told reply

-- the server can't do this
pub record IsNotDone (reply : Reply) : Type 0 where
  pub ending : reply.ending ≡ None
  pub outcome : reply.outcome ≡ outcome.NotImplemented
  pub kind : reply.kind ≡ kind.Json
  pub body : reply.body.items ≡ codes "{\"error\":\"not-implemented\"}"

-- ---- the words of a demand
abbrev pub IsWhy : WhyBody → Words → Type 0
IsWhy b (words.Why w) =
    (w.caller.now ≡ b.caller) × (w.what.now ≡ b.what) × (w.path.now ≡ b.path) × (option_copied w.destination ≡ b.destination) × (w.json ≡ b.json)
IsWhy b (words.Who w) = ⊥
IsWhy b (words.Rights w) = ⊥
IsWhy b (words.Decision w) = ⊥
IsWhy b (words.Part w) = ⊥
IsWhy b (words.Show path) = ⊥

abbrev pub IsWho : WhoBody → Words → Type 0
IsWho b (words.Why w) = ⊥
IsWho b (words.Who w) = (w.privilege.now ≡ b.privilege) × (w.path.now ≡ b.path) × (w.denied ≡ b.denied) × (w.json ≡ b.json)
IsWho b (words.Rights w) = ⊥
IsWho b (words.Decision w) = ⊥
IsWho b (words.Part w) = ⊥
IsWho b (words.Show path) = ⊥

abbrev pub IsRights : RightsBody → Words → Type 0
IsRights b (words.Why w) = ⊥
IsRights b (words.Who w) = ⊥
IsRights b (words.Rights w) =
    (option_copied w.at ≡ b.at) × (option_copied w.caller ≡ b.caller) × (w.shared ≡ b.shared) × (w.json ≡ b.json)
IsRights b (words.Decision w) = ⊥
IsRights b (words.Part w) = ⊥
IsRights b (words.Show path) = ⊥

abbrev pub IsAsk : AskBody → Words → Type 0
IsAsk b (words.Why w) = ⊥
IsAsk b (words.Who w) = ⊥
IsAsk b (words.Rights w) = ⊥
IsAsk b (words.Decision w) = (w.caller.now ≡ b.caller) × (w.path.now ≡ b.path) × (map string_bytes w.privileges.now ≡ b.privileges)
IsAsk b (words.Part w) = ⊥
IsAsk b (words.Show path) = ⊥

abbrev pub IsPart : AuditBody → Words → Type 0
IsPart b (words.Why w) = ⊥
IsPart b (words.Who w) = ⊥
IsPart b (words.Rights w) = ⊥
IsPart b (words.Decision w) = ⊥
IsPart b (words.Part w) = (option_copied w.at ≡ b.at) × (w.wanted.listed ≡ b.books) × (w.wanted.labels ≡ b.labels)
IsPart b (words.Show path) = ⊥

abbrev pub IsShow : List ℕ → Words → Type 0
IsShow path (words.Why w) = ⊥
IsShow path (words.Who w) = ⊥
IsShow path (words.Rights w) = ⊥
IsShow path (words.Decision w) = ⊥
IsShow path (words.Part w) = ⊥
IsShow path (words.Show w) = w.now ≡ path

-- no word says which part
abbrev pub is_whole : AuditBody → Bool
is_whole b = not (is_some b.at) && (not b.books && not b.labels)

-- objects for programs, or a text
abbrev pub kind_of : Bool → Kind
kind_of true = kind.JsonLines
kind_of false = kind.Text

-- ---- what is answered, over the Office of a service
module _ (old new : Standing) where
  -- a question in words is answered as the command answers it
  abbrev pub AnswersIn : Words → Ending
  AnswersIn w told tells held holds status = AnswersWords (TellsLine true told tells) w old held holds status new × (status ≡ 0 → Keeps told tells)

  abbrev pub AuditsIn : Ending
  AuditsIn told tells held holds status =
      EndsWith (TellsFailure true told tells) (Audits old held holds new) (λ failure. FailsToAudit old failure held holds new) status
      × (status ≡ 0 → Keeps told tells)

  abbrev pub DumpsIn : Ending
  DumpsIn told tells held holds status = EndsDump (TellsLine true told tells) old held holds status new × (status ≡ 0 → Keeps told tells)

  abbrev pub ChecksIn : List ℕ → Bool → Ending
  ChecksIn bytes strict told tells held holds status = ChecksCopy bytes strict true old held holds told tells status new

  abbrev pub DiffersIn : List ℕ → Bool → Ending
  DiffersIn bytes strict told tells held holds status = DiffersBy (TellsLine true told tells) (Keeps told tells) bytes strict old held holds status new

  -- the words are such, and were answered
  abbrev pub AnswersSuch : (Words → Type 0) → Kind → Reply → Type 0
  AnswersSuch AreSuch k reply = (w : Words) × AreSuch w × RepliesBy k (AnswersIn w) reply

  -- the whole audit, or that of a part
  abbrev pub AuditsPart : Bool → AuditBody → Reply → Type 0
  AuditsPart true b reply = RepliesBy kind.Text AuditsIn reply
  AuditsPart false b reply = AnswersSuch (IsPart b) kind.Text reply

-- it was copied there, in one call of what copies, and nothing is written
abbrev pub CopiesIn : Copied → List ℕ → Ending
CopiesIn Copies to told tells held holds status = Copies to true told tells status × (holds ≡ held)

-- over services with what they stand for
module _ {M : Type 0} (serving : M → Serving) (old new : M) where
  abbrev pub PutsIn : List ℕ → Ending
  PutsIn bytes told tells held holds status = PutsPolicy serving bytes true told tells old held holds status new

  -- What a demand of the Office has as its reply, with what was copied. Of the server nothing is answered here.
  abbrev pub AnswersDemand : Copied → Demand → Reply → Type 0
  AnswersDemand Copies demand.Health reply = IsNotDone reply
  AnswersDemand Copies demand.Metrics reply = IsNotDone reply
  AnswersDemand Copies (demand.Audit b) reply = AuditsPart (serving old).standing (serving new).standing (is_whole b) b reply
  AnswersDemand Copies (demand.Why b) reply = AnswersSuch (serving old).standing (serving new).standing (IsWhy b) (kind_of b.json) reply
  AnswersDemand Copies (demand.Who b) reply = AnswersSuch (serving old).standing (serving new).standing (IsWho b) (kind_of b.json) reply
  AnswersDemand Copies (demand.Rights b) reply = AnswersSuch (serving old).standing (serving new).standing (IsRights b) (kind_of b.json) reply
  AnswersDemand Copies (demand.Ask b) reply = AnswersSuch (serving old).standing (serving new).standing (IsAsk b) kind.Text reply
  AnswersDemand Copies (demand.Show path) reply = AnswersSuch (serving old).standing (serving new).standing (IsShow path) kind.JsonLines reply
  AnswersDemand Copies (demand.Check bytes strict) reply = RepliesBy kind.Text (ChecksIn (serving old).standing (serving new).standing bytes strict) reply
  AnswersDemand Copies (demand.Differs bytes strict) reply = RepliesBy kind.Text (DiffersIn (serving old).standing (serving new).standing bytes strict) reply
  AnswersDemand Copies (demand.Policy bytes) reply = RepliesBy kind.Text (PutsIn bytes) reply
  AnswersDemand Copies demand.Dump reply = RepliesBy kind.JsonLines (DumpsIn (serving old).standing (serving new).standing) reply
  AnswersDemand Copies (demand.Backup to) reply = RepliesBy kind.Text (CopiesIn Copies to) reply
  AnswersDemand Copies demand.Stop reply = IsNotDone reply
