-- What a service does for the requests of a wire.
use Rattle.std.specs.Prelude.{◌≡◌, ◌⊎◌, ℕ, Bool, true, false, List, [], ◌∷◌, codes, Option, Some, None}
use Rattle.std.specs.List.{flat_map}
use Rattle.book_log_lines.specs.Lines.{line_text}
use Rattle.book_log_lines.specs.declared.lines.Line.{Line}
use Rattle.book_office.specs.Keeping.{FallsBack, Leftover, Standing}
use Rattle.book_office.specs.Levels.{lists_at}
use Rattle.book_office_values.specs.declared.offices.Office.{Office}
use Rattle.book_log_replies.specs.Effects.{effect_of, no_effect}
use Rattle.book_log_replies.specs.Replies.{denial_in}
use Rattle.book_office_listings.specs.declared.messages.Denial.{Denial}
use Rattle.book_machine.specs.Asking.{IsWellFormed}
use Rattle.book_machine.specs.Laws.{FindsItsOffices}
use Rattle.book_machine.specs.LeadingRuns.{AreWellFormed}
use Rattle.book_machine.specs.Promises.{ServePromise}
use Rattle.book_machine.specs.Runs.{Call, Run, last_office, MayLeaveAfter}
use Rattle.book_machine.specs.Steps.{Serves}
use Rattle.book_machine.specs.SyncedCopies.{Synced}
use Rattle.book_machine.specs.declared.messages.Content.TheVariants as content
use Rattle.book_machine.specs.declared.messages.Reply.{Reply}
use Rattle.book_machine.specs.declared.messages.Request.{Request}
use Rattle.book_wire_serving.specs.Logs.{Log, Appended, Gains, IsBare, IsLineBy, IsLineOf, IsUnavailable}

-- what a service stands for, and its log
pub record Serving : Type 1 where
  pub standing : Standing
  pub log : Log

-- nothing was done
pub record StandsStill (old new : Standing) : Type 0 where
  pub was_honest : new.honest → old.honest
  pub falls : FallsBack old.fallback new.fallback
  pub kept : new.honest → (o : Office) → old.stands o → new.stands o
  pub left : new.honest → (x : Leftover) → new.left x → old.left x
  pub counted : new.failures ≡ old.failures

-- nothing was done, and nothing was noted
pub record Stays (old new : Serving) : Type 0 where
  pub still : StandsStill old.standing new.standing
  pub log : new.log ≡ old.log

-- nothing was done, and a refusal was noted that tells nothing of a request
pub record NotesRefusal (old new : Serving) (status : ℕ) (error : List ℕ) : Type 0 where
  pub still : StandsStill old.standing new.standing
  pub noted : Gains old.log new.log (λ lines. (l : Line) × (lines ≡ l ∷ []) × IsBare status error l)

-- a request and its reply; the request is none where memory was refused before it was read
pub record Answered : Type 0 where
  pub name : Option (List ℕ)
  pub request : Option Request
  pub reply : Reply

-- what is told of an edit, by the Office that it made
pub record IsToldBy (o : Office) (new : Standing) (name : Option (List ℕ)) (request : Request) (reply : Reply) (text : List ℕ) : Type 0 where
  pub after : Office
  pub stands : new.stands after
  pub served : Serves o name request reply after
  pub l : Line
  pub text_is : text ≡ line_text l
  pub is_line : IsLineBy name request reply (effect_of after request) [] l

-- The text is a line of the request and its reply. Where the reply is a denial, its entry is told by the lists that are in force then; where
-- it is that of an edit, the cards that were touched are told with the numbers that they have afterwards, and the epoch of that Office.
pub record IsTextOf (old new : Standing) (name : Option (List ℕ)) (request : Request) (reply : Reply) (text : List ℕ) : Type 0 where
  pub l : Line
  pub text_is : text ≡ line_text l
  pub is_line : IsLineOf name request reply l
  pub by_force : new.honest → (o : Office) → old.stands o → (denial : Denial) → denial_in reply.content ≡ Some denial
      → IsLineBy name request reply no_effect (lists_at o denial.resource).levels l
  pub of_edit : new.honest → (o : Office) → old.stands o → reply.content ≡ content.Empty → IsToldBy o new name request reply text

-- The machine served a well-formed request, and nothing is noted of it yet. Unless the log has failed, a text is owed: one where the
-- reply is sent, and another where `unavailable` is sent in its place.
pub record Owes (old new : Serving) (owed : Bool → List ℕ) (name : Option (List ℕ)) (request : Request) (reply : Reply) : Type 0 where
  pub served : ServePromise old.standing new.standing name request reply
  pub well_formed : IsWellFormed request
  pub was_sound : new.log.failed ≡ false → old.log.failed ≡ false
  pub held : new.log.held ≡ old.log.held
  pub text : new.log.failed ≡ false → (bytes : List ℕ) → new.log.held ≡ Some bytes
      → IsTextOf old.standing new.standing name request reply (owed true)
  pub other : new.log.failed ≡ false → (bytes : List ℕ) → new.log.held ≡ Some bytes
      → (l : Line) × (owed false ≡ line_text l) × IsUnavailable l

-- what was owed is noted, or a write of it failed
pub record NotesOwed (old new : Serving) (text : List ℕ) : Type 0 where
  pub still : StandsStill old.standing new.standing
  pub noted : Appended old.log new.log text

-- the machine served the request, and a line tells it and its reply; or the request was not read, and a line tells that it is unavailable
abbrev pub ServesAny : Serving → Serving → Option (List ℕ) → Option Request → Reply → Type 0
ServesAny old new name (Some request) reply =
    ServePromise old.standing new.standing name request reply × IsWellFormed request
    × Gains old.log new.log (λ lines. (l : Line) × (lines ≡ l ∷ []) × IsLineOf name request reply l)
ServesAny old new name None reply = NotesRefusal old new 503 (codes "unavailable")

-- the call that the machine was given, and its reply
abbrev pub call_in : Option (List ℕ) → Option Request → List Call
call_in name (Some request) = (name, request) ∷ []
call_in name None = []

abbrev pub reply_in : Option Request → Reply → List Reply
reply_in (Some request) reply = reply ∷ []
reply_in None reply = []

abbrev pub calls_in : Answered → List Call
calls_in a = call_in a.name a.request

abbrev pub replies_in : Answered → List Reply
replies_in a = reply_in a.request a.reply

-- the calls that the machine was given, and their replies
abbrev pub calls_answered : List Answered → List Call
calls_answered answered = flat_map calls_in answered

abbrev pub replies_of : List Answered → List Reply
replies_of answered = flat_map replies_in answered

-- the line of what was answered
abbrev pub IsLineOfAny : Option (List ℕ) → Option Request → Reply → Line → Type 0
IsLineOfAny name (Some request) reply l = IsLineOf name request reply l
IsLineOfAny name None reply l = IsUnavailable l

-- the lines of what was answered, in its order; in between are those of refusals where no request could be read
abbrev pub AreLinesOf : List Answered → List Line → Type 0
AreLinesOf answered [] = answered ≡ []
AreLinesOf answered (l ∷ lines) =
    (((status : ℕ) × (error : List ℕ) × IsBare status error l) × AreLinesOf answered lines)
    ⊎ ((a : Answered) × (more : List Answered) × (answered ≡ a ∷ more) × IsLineOfAny a.name a.request a.reply l × AreLinesOf more lines)

-- the replies are those of a run of the machine over the requests that were read; what a stop may leave, call by call; and the lines
-- that the log gained are theirs
pub record Runs (old new : Serving) (answered : List Answered) : Type 0 where
  -- all calls are well formed
  pub well_formed : AreWellFormed (calls_answered answered)
  pub was_honest : new.standing.honest → old.standing.honest
  pub falls : FallsBack old.standing.fallback new.standing.fallback
  pub run : new.standing.honest → (o : Office) → old.standing.stands o
      → (offices : List Office) × new.standing.stands (last_office o offices) × Run o (calls_answered answered) (replies_of answered) offices
      × ((x : Leftover) → new.standing.left x → MayLeaveAfter old.standing.left o (calls_answered answered) (replies_of answered) offices x)
  pub noted : Gains old.log new.log (AreLinesOf answered)

-- over services with what they stand for: copies that are kept by the reports of a stream are what their callers may read, since
-- each of its calls finds the Office that those before it left
abbrev pub StreamsAreSynced : {M : Type 0} → (M → Serving) → Type 0
StreamsAreSynced {M} serving = (old new : M) (answered : List Answered) → Runs (serving old) (serving new) answered
    → (serving new).standing.honest → (o : Office) → (serving old).standing.stands o
    → (offices : List Office) × (serving new).standing.stands (last_office o offices)
    × FindsItsOffices o (calls_answered answered) (replies_of answered) offices
    × Synced (serving old).standing (calls_answered answered) (replies_of answered)
