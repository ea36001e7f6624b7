-- The log of what is served: a line for each reply, in the order in which they were made (own profile).
use Rattle.std.specs.Prelude.{◌≡◌, ◌≢◌, ◌⊎◌, ℕ, Bool, false, List, [], ◌++◌, codes, Option, Some, None}
use Rattle.std.specs.List.{flat_map}
use Rattle.book_log_lines.specs.Lines.{line_text}
use Rattle.book_log_lines.specs.declared.lines.Line.{Line}
use Rattle.book_log_lines.specs.declared.lines.Line.TheVariants as line
use Rattle.book_log_lines.specs.declared.lines.ReplyLine.{ReplyLine}
use Rattle.book_log_replies.specs.Effects.{no_effect}
use Rattle.book_log_replies.specs.Replies.{reply_of}
use Rattle.book_log_replies.specs.declared.replies.Effect.{Effect}
use Rattle.book_log_replies.specs.declared.replies.Exchange.{Exchange}
use Rattle.book_machine.specs.Refusals.{refused}
use Rattle.book_machine.specs.declared.messages.Content.TheVariants as content
use Rattle.book_machine.specs.declared.messages.Reply.{Reply}
use Rattle.book_machine.specs.declared.messages.Request.{Request}
use Rattle.book_machine.specs.declared.refusals.Refusal.TheVariants.{Unavailable}
use Rattle.book_office.specs.declared.nodes.Level.{Level}

-- whether a write of a line has failed; and the bytes of the log, where they are known
pub record Log : Type 0 where
  pub failed : Bool
  pub held : Option (List ℕ)

abbrev pub no_log : Log
no_log = record { failed = false; held = None }

abbrev pub lines_text : List Line → List ℕ
lines_text lines = flat_map line_text lines

-- where no write has failed since, the bytes are followed by a text
pub record Appended (old new : Log) (text : List ℕ) : Type 0 where
  pub was_sound : new.failed ≡ false → old.failed ≡ false
  pub held : new.failed ≡ false → (bytes : List ℕ) → old.held ≡ Some bytes → new.held ≡ Some (bytes ++ text)

-- where no write has failed since, lines were added of which this is so
pub record Gains (old new : Log) (AreSo : List Line → Type 0) : Type 0 where
  pub was_sound : new.failed ≡ false → old.failed ≡ false
  pub lines : new.failed ≡ false → (bytes : List ℕ) → old.held ≡ Some bytes
      → (lines : List Line) × (new.held ≡ Some (bytes ++ lines_text lines)) × AreSo lines

-- a line that tells a refusal, and nothing of a request
abbrev pub bare_line : List ℕ → ℕ → ℕ → List ℕ → ReplyLine
bare_line time connection status error = record {
  time = time;
  connection = connection;
  caller = None;
  method = None;
  path = None;
  destination = None;
  status = status;
  error = Some error;
  denied = None;
  touched = [];
  epoch = None;
}

-- such a line, at some time on some connection
abbrev pub IsBare : ℕ → List ℕ → Line → Type 0
IsBare status error l = (time : List ℕ) × (connection : ℕ) × (l ≡ line.Reply (bare_line time connection status error))

-- the line that stands where memory was refused for another
abbrev pub IsUnavailable : Line → Type 0
IsUnavailable l = IsBare 503 (codes "unavailable") l

-- when a reply is made, on which connection, for whom, and what an edit did
abbrev pub made_at : List ℕ → ℕ → Option (List ℕ) → Effect → Exchange
made_at time connection name effect =
    record { time = time; connection = connection; caller = name; touched = effect.touched; epoch = effect.epoch }

-- the line of a request of that caller and its reply, with what an edit did, by the lists in force at the resource of a denial, at some
-- time on some connection
abbrev pub IsLineBy : Option (List ℕ) → Request → Reply → Effect → List Level → Line → Type 0
IsLineBy name request reply effect levels l =
    (time : List ℕ) × (connection : ℕ) × (l ≡ line.Reply (reply_of (made_at time connection name effect) request reply levels))

-- a reply with a content is told without an effect
abbrev pub IsEffectIn : Reply → Effect → Type 0
IsEffectIn reply effect = reply.content ≢ content.Empty → effect ≡ no_effect

-- the line of a request of that caller and its reply, or that it is unavailable
abbrev pub IsLineOf : Option (List ℕ) → Request → Reply → Line → Type 0
IsLineOf name request reply l =
    ((effect : Effect) × (levels : List Level) × IsEffectIn reply effect × IsLineBy name request reply effect levels l)
    ⊎ ((reply ≡ refused Unavailable) × IsUnavailable l)
