-- What a machine that keeps a log stands for.
use Rattle.std.specs.Prelude.{◌≡◌, ◌≢◌, ℕ, Bool, true, false, List, [], ◌∷◌, ◌++◌, Option, Some, None}
use Rattle.std.specs.Io.KnownBytes.{Appends}
use Rattle.book_office.specs.Keeping.{Standing}
use Rattle.book_log_lines.specs.declared.lines.Line.{Line}
use Rattle.book_wire_serving.specs.Logs.{Gains, Log}
use Rattle.book_wire_serving.specs.Rounds.{with_log}
use Rattle.book_wire_serving.specs.Serving.{Owes, Serving}
use Rattle.book_log_service.specs.Texts.{IsUnavailableText}
use Rattle.book_log_service.specs.declared.logged.Logged.{Logged}
use Rattle.book_machine.specs.declared.messages.Content.TheVariants as content
use Rattle.book_machine.specs.declared.messages.Reply.{Reply}
use Rattle.book_machine.specs.declared.messages.Request.{Request}

abbrev pub log_of : Bool → Option (List ℕ) → Log
log_of failed held = record { failed = failed; held = held }

-- what the keeper stands for, whether a write has failed, and what the writer holds
abbrev pub serving_of : {K W C : Type 0} → (K → Standing) → (W → Option (List ℕ)) → Logged K W C → Serving
serving_of standing contents l = record { standing = standing l.machine.keeper; log = log_of l.failed (contents l.writer) }

-- one line of which this is so is added
abbrev pub NotesLine : (Line → Type 0) → Bool → Option (List ℕ) → Bool → Option (List ℕ) → Type 0
NotesLine IsSo failed held failed_then held_then =
    Gains (log_of failed held) (log_of failed_then held_then) (λ lines. (l : Line) × (lines ≡ l ∷ []) × IsSo l)

-- a text is owed, whatever the log holds
abbrev pub OwesNoted : Standing → Standing → Bool → Bool → (Bool → List ℕ) → Option (List ℕ) → Request → Reply → Type 0
OwesNoted old new failed failed_then owed name request reply =
    (held : Option (List ℕ)) → Owes (with_log (log_of failed held) old) (with_log (log_of failed_then held) new) owed name request reply

-- the line that a request is unavailable, if there is one
abbrev pub spare_text : Option (List ℕ) → List ℕ
spare_text None = []
spare_text (Some text) = text

-- the line of the reply, where one was made and the reply is sent; and else that it is unavailable
abbrev pub owed_text : Option (List ℕ) → Option (List ℕ) → Bool → List ℕ
owed_text made spare false = spare_text spare
owed_text None spare true = spare_text spare
owed_text (Some text) spare true = text

-- there is a line that a request is unavailable
abbrev pub IsSpared : Option (List ℕ) → Type 0
IsSpared None = ⊥
IsSpared (Some text) = IsUnavailableText text

-- Where there was such a line, a reply with a content fails no log, and there still is one: so memory that is refused ends no server.
pub record Survives (old new : Option (List ℕ)) (before after : Bool) (reply : Reply) : Type 0 where
  pub sound : old ≢ None → reply.content ≢ content.Empty → after ≡ before
  pub spared : old ≢ None → new ≢ None

-- what was held stays, and a front of a text follows
abbrev pub AppendsFront : Option (List ℕ) → Option (List ℕ) → List ℕ → Type 0
AppendsFront old new text = (front : List ℕ) × (left : List ℕ) × (text ≡ front ++ left) × Appends old new front

-- what was held stays, and something may follow
abbrev pub Grows : Option (List ℕ) → Option (List ℕ) → Type 0
Grows old new = (more : List ℕ) × Appends old new more
