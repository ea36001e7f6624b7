-- Lines that are made before the reply is known.
use Rattle.std.specs.Prelude.{ℕ, List, [], Option, Some, None}
use Rattle.book_log_service.specs.Texts.{IsTextBy}
use Rattle.book_log_service.specs.declared.drafts.Draft.{Draft}
use Rattle.book_log_service.specs.declared.drafts.Drafts.{Drafts}
use Rattle.book_log_replies.specs.declared.replies.Effect.{Effect}
use Rattle.book_machine.specs.declared.messages.Content.TheVariants as content
use Rattle.book_machine.specs.declared.messages.Reply.{Reply}
use Rattle.book_machine.specs.declared.messages.Request.{Request}

-- the reply that has a status and no content
abbrev pub empty_reply : ℕ → Reply
empty_reply status = record { status = status; content = content.Empty }

-- the line of the request where that is its reply, and the edit has that effect
abbrev pub IsDraft : Option (List ℕ) → Request → Effect → Draft → Type 0
IsDraft name request effect draft = IsTextBy name request (empty_reply draft.status) effect [] draft.text

abbrev pub AreDrafts : Option (List ℕ) → Request → Effect → Option Drafts → Type 0
AreDrafts name request effect None = Unit {0}
AreDrafts name request effect (Some drafts) = IsDraft name request effect drafts.first × IsDraft name request effect drafts.second

-- the text of a draft: for each effect of which the drafts are
abbrev pub IsOfDrafts : Option Drafts → Reply → List ℕ → Type 0
IsOfDrafts drafts reply text = (name : Option (List ℕ)) (request : Request) (effect : Effect) → AreDrafts name request effect drafts → IsTextBy name request reply effect [] text
