-- What of a reply is made before it is written.
use Rattle.std.specs.Prelude.{◌≡◌, ◌≢◌, ◌≤◌, ◌⊎◌, ℕ, Bool, true, false, List, [], ◌++◌, length, drop, codes, Option, Some, None, Result, Ok, Err}
use Rattle.std.specs.List.{concat}
use Rattle.book_machine.specs.AllowedMethods.{allowed_text}
use Rattle.book_machine.specs.Refusals.{refused}
use Rattle.book_machine.specs.declared.allowed_methods.AllowedMethods.{AllowedMethods}
use Rattle.book_machine.specs.declared.messages.Content.{Content}
use Rattle.book_machine.specs.declared.messages.Content.TheVariants as content
use Rattle.book_machine.specs.declared.messages.Reply.{Reply}
use Rattle.book_machine.specs.declared.refusals.Refusal.TheVariants.{Unavailable}
use Rattle.book_wire_serving.specs.declared.faults.StreamFault.{StreamFault}
use Rattle.book_wire_json.specs.Pieces.{pieces}

abbrev pub allowed_line : Option AllowedMethods → List ℕ
allowed_line None = []
allowed_line (Some methods) = codes "Allow: " ++ (allowed_text methods ++ codes "\r\n")

-- what is left of a body from a piece on
abbrev pub rest_of_body : Content → ℕ → List ℕ
rest_of_body content next = concat (drop next (pieces content))

-- what is left of a long body, if there is one
abbrev pub left_of : Option (List ℕ) → List ℕ
left_of (Some rest) = rest
left_of None = []

-- The text is the front of a body up to a piece, a chunk where more is left, and the whole body has so many bytes.
pub record IsChunk (content : Content) (text : List ℕ) (next size : ℕ) : Type 0 where
  pub bytes : text ++ rest_of_body content next ≡ concat (pieces content)
  pub counted : size ≡ length (concat (pieces content))
  pub within : next ≤ length (pieces content)
  pub enough : (length (pieces content) ≤ next) ⊎ (65536 ≤ length text)

-- the bytes of the body are in the reply, or there are none
abbrev pub is_there : Content → Bool
is_there content.Empty = true
is_there (content.Card text) = true
is_there (content.Allow methods) = true
is_there (content.Listing responses) = false
is_there (content.Synced report) = false
is_there (content.Members book members) = false
is_there (content.Rulings rulings) = false
is_there (content.Names book names) = false
is_there (content.Refusal refusal) = false

-- the reply that is sent: the one that was made, or unavailable in place of one with a content
abbrev pub IsSentAs : Bool → Reply → Reply → Type 0
IsSentAs true reply sent = sent ≡ reply
IsSentAs false reply sent = (reply.content ≢ content.Empty) × (sent ≡ refused Unavailable)

-- what is noted of a reply that was sent: that itself, or unavailable; and that itself where it could not be sent
abbrev pub as_sent : Result Bool StreamFault → Bool
as_sent (Ok as_made) = as_made
as_sent (Err fault) = true

-- a beginning of the text was added
pub record IsBegun (old text new : List ℕ) : Type 0 where
  pub front : List ℕ
  pub left : List ℕ
  pub cut : text ≡ front ++ left
  pub added : new ≡ old ++ front
