-- What the program does where it answers a question about a store (own profile).
use Rattle.std.specs.Prelude.{◌≡◌, ◌⊎◌, ℕ, Bool, true, false, List, Option, Some, None, Result, Ok, Err, option_map}
use Rattle.std.specs.Io.KnownBytes.{Appends, Keeps}
use Rattle.sqlite.specs.State.{State}
use Rattle.book_office.specs.Keeping.{Standing}
use Rattle.book_office_values.specs.declared.offices.Office.{Office}
use Rattle.book_dumps.specs.Lines.{line_text}
use Rattle.book_dumps.specs.Told.{line_at}
use Rattle.book_machine.specs.Asking.{Asks, Meets}
use Rattle.book_machine.specs.declared.refusals.Refusal.{Refusal}
use Rattle.book_machine.specs.declared.refusals.Refusal.TheVariants.{NotFound}
use Rattle.book_office_values.specs.declared.paths.Path.{Path}
use Rattle.book_questions_asked.specs.Asking.{TellsAsk}
use Rattle.book_questions_audit.specs.Telling.{TellsPart}
use Rattle.book_questions_rights.specs.Rights.{TellsRights}
use Rattle.book_questions.specs.Questions.{TellsWhy}
use Rattle.book_questions.specs.Who.{TellsWho}
use Rattle.book_questions.specs.declared.questions.Question.{Question}
use Rattle.book_questions_json.specs.HeldBlocks.{TellsRightsObjects}
use Rattle.book_questions_json.specs.Telling.{TellsWhoObjects, TellsWhyObjects}
use Rattle.book_desk_app.specs.Failures.{store_text}
use Rattle.book_desk_app.specs.Stores.{AreTablesOf, standing_in}
use Rattle.book_desk_app.specs.declared.failures.StoreFailure.{StoreFailure}
use Rattle.book_desk_questions.specs.Asked.{AsksFor, AsksForNothing, asking_of, caller_in}
use Rattle.book_desk_questions.specs.Failures.{unanswered_status, unanswered_text}
use Rattle.book_desk_questions.specs.declared.asked.Asked.{Asked}
use Rattle.book_desk_questions.specs.declared.asked.Asked.TheVariants as asked
use Rattle.book_desk_questions.specs.declared.asked.AskedRights.{AskedRights}
use Rattle.book_desk_questions.specs.declared.asked.AskedWho.{AskedWho}
use Rattle.book_desk_questions.specs.declared.asked.Asking.{Asking}
use Rattle.book_desk_questions.specs.declared.asked.Words.{Words}
use Rattle.book_desk_questions.specs.declared.failures.Unanswered.{Unanswered}
use Rattle.book_desk_questions.specs.declared.failures.Unanswered.TheVariants.{Refused, UnknownPrivilege, TooMany, Output}
use Rattle.book_wire_serving.specs.Serving.{StandsStill}

-- ---- the answer, over what a keeper stands for
-- the line of the dump for a path; or nothing is mapped there
abbrev pub or_not_found : Option (List ℕ) → Result (List ℕ) Refusal
or_not_found None = Err NotFound
or_not_found (Some text) = Ok text

abbrev pub shown_at : Office → Option Path → Result (List ℕ) Refusal
shown_at o None = Err NotFound
shown_at o (Some p) = or_not_found (option_map line_text (line_at o p))

-- what is told of a question that always has an answer
abbrev pub always : Result (List ℕ) Refusal → Result (Option (List ℕ)) Refusal
always (Ok text) = Ok (Some text)
always (Err refusal) = Err refusal

abbrev pub Always : (Result (List ℕ) Refusal → Type 0) → Result (Option (List ℕ)) Refusal → Type 0
Always Tells (Ok None) = ⊥
Always Tells (Ok (Some text)) = Tells (Ok text)
Always Tells (Err refusal) = Tells (Err refusal)

-- why something is granted to a caller, or denied, as objects or as a text
abbrev pub TellsWhyAs : Bool → Office → Option (List ℕ) → Question → Result (List ℕ) Refusal → Type 0
TellsWhyAs true o name question r = TellsWhyObjects o name question r
TellsWhyAs false o name question r = TellsWhy o name question r

-- to whom a privilege is granted, or denied
abbrev pub TellsWhoAs : Bool → Office → AskedWho → Result (List ℕ) Refusal → Type 0
TellsWhoAs true o a r = TellsWhoObjects o a.denied a.privilege a.path r
TellsWhoAs false o a r = TellsWho o a.denied a.privilege a.path r

-- who holds which rights
abbrev pub TellsRightsAs : Bool → Office → AskedRights → Result (List ℕ) Refusal → Type 0
TellsRightsAs true o a r = TellsRightsObjects o a.name a.path a.shared r
TellsRightsAs false o a r = TellsRights o a.name a.path a.shared r

-- the answer; none where there is too much to tell
abbrev pub TellsAsked : Office → Asked → Result (Option (List ℕ)) Refusal → Type 0
TellsAsked o (asked.Why caller question json) r = Always (TellsWhyAs json o (caller_in caller) question) r
TellsAsked o (asked.Who a json) r = Always (TellsWhoAs json o a) r
TellsAsked o (asked.Rights a json) r = Always (TellsRightsAs json o a) r
TellsAsked o (asked.Decision caller p set) r = TellsAsk o (caller_in caller) p set r
TellsAsked o (asked.Part p wanted) r = Always (TellsPart o p wanted) r
TellsAsked o (asked.Show p) r = Always (λ told. Meets told (shown_at o p)) r

module _ (old : Standing) (a : Asked) (held holds : Option (List ℕ)) (new : Standing) where
  -- the text that was told of the Office, which stays, or none
  abbrev pub IsToldOf : Option (List ℕ) → Type 0
  IsToldOf told = Asks old new (Ok told) (λ o r. TellsAsked o a r)

  -- what was written is the answer
  abbrev pub Answers : Type 0
  Answers = (text : List ℕ) × IsToldOf (Some text) × Appends held holds text

  -- it was refused, or there is too much to tell, and nothing was written; or its text could not be written
  abbrev pub FailsToAnswer : Unanswered → Type 0
  FailsToAnswer (Refused refusal) = Asks {A = Option (List ℕ)} old new (Err refusal) (λ o r. TellsAsked o a r) × Keeps held holds
  FailsToAnswer UnknownPrivilege = ⊥
  FailsToAnswer TooMany = IsToldOf None × Keeps held holds
  FailsToAnswer Output = (text : List ℕ) × IsToldOf (Some text)

-- it was answered; or it was not, with the status of what was told. With how a line is told, the command, and the status
abbrev pub EndsAsked : (List ℕ → Type 0) → Asking → Standing → Asked → Option (List ℕ) → Option (List ℕ) → ℕ → Standing → Type 0
EndsAsked Told command old a held holds status new =
    ((status ≡ 0) × Answers old a held holds new)
    ⊎ ((failure : Unanswered) × (status ≡ unanswered_status failure) × FailsToAnswer old a held holds new failure × Told (unanswered_text command failure))

-- the words ask nothing, which was told, and the Office was not read; or what they ask was answered over it. With how a line is told
abbrev pub AnswersWords : (List ℕ → Type 0) → Words → Standing → Option (List ℕ) → Option (List ℕ) → ℕ → Standing → Type 0
AnswersWords Told words old held holds status new =
    ((failure : Unanswered) × AsksForNothing words failure × (status ≡ unanswered_status failure) × StandsStill old new × Keeps held holds
    × Told (unanswered_text (asking_of words) failure))
    ⊎ ((a : Asked) × AsksFor words a × EndsAsked Told (asking_of words) old a held holds status new)

-- ---- a run over a store
module _ {C K : Type 0} (state : C → State) (connection : K → C) (failures : K → ℕ) (Told : List ℕ → Type 0) where
  -- the question was answered over the tables, or not, and the Office stays. With what the writer held and holds, the status, and
  -- the tables afterwards
  abbrev pub AnswersOver : Asking → Asked → K → Option (List ℕ) → Option (List ℕ) → ℕ → K → Type 0
  AnswersOver command a old held holds status new =
      EndsAsked Told command (standing_in state connection failures old) a held holds status (standing_in state connection failures new)

  -- the tables of the store were not had; or it was answered over them
  abbrev pub AnswersIn : (C → StoreFailure → Type 0) → Asking → Asked → C → Option (List ℕ) → Option (List ℕ) → ℕ → Option C → Type 0
  AnswersIn is_not_had command a store held holds status back =
      ((failure : StoreFailure) × is_not_had store failure × (status ≡ 3) × (back ≡ None) × Keeps held holds × Told (store_text failure))
      ⊎ ((old : K) × (new : K) × AreTablesOf state connection failures store old × AnswersOver command a old held holds status new × (back ≡ Some (connection new)))

  -- the words ask nothing, and the store was not touched; or what they ask was answered over it
  abbrev pub RunsAsked : (C → StoreFailure → Type 0) → Words → C → Option (List ℕ) → Option (List ℕ) → ℕ → Option C → Type 0
  RunsAsked is_not_had words store held holds status back =
      ((failure : Unanswered) × AsksForNothing words failure × (status ≡ unanswered_status failure) × (back ≡ Some store) × Keeps held holds
      × Told (unanswered_text (asking_of words) failure))
      ⊎ ((a : Asked) × AsksFor words a × AnswersIn is_not_had (asking_of words) a store held holds status back)
