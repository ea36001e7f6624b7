-- What is sent of a reply of the machine, and what is owed for it.
use Rattle.std.specs.Prelude.{◌≡◌, ◌≢◌, ◌⊎◌, ℕ, Bool, false, List, Option, Some, None}
use Rattle.book_machine.specs.Refusals.{refused}
use Rattle.book_machine.specs.declared.messages.Content.TheVariants as content
use Rattle.book_machine.specs.declared.messages.Reply.{Reply}
use Rattle.book_machine.specs.declared.messages.Request.{Request}
use Rattle.book_machine.specs.declared.refusals.Refusal.TheVariants.{Unavailable}
use Rattle.book_office.specs.Keeping.{FallsBack, Leftover, Standing, one_more}
use Rattle.book_office_values.specs.declared.offices.Office.{Office}
use Rattle.book_wire_serving.specs.Serving.{IsTextOf, StandsStill}
use Rattle.book_log_service.specs.Drafts.{IsOfDrafts}
use Rattle.book_log_service.specs.Spelling.{IsDenial}
use Rattle.book_log_service.specs.declared.drafts.Drafts.{Drafts}

-- a text of a reply with a content, or that of a draft
abbrev pub IsMadeText : Standing → Standing → Option (List ℕ) → Request → Option Drafts → Reply → List ℕ → Type 0
IsMadeText old new name request drafts reply text =
    ((reply.content ≢ content.Empty) × IsTextOf old new name request reply text) ⊎ ((reply.content ≡ content.Empty) × IsOfDrafts drafts reply text)

-- the reply is sent, and its line is owed, unless the log has failed
pub record Sends (old new : Standing) (name : Option (List ℕ)) (request : Request) (drafts : Option Drafts) (reply sent : Reply) (failed : Bool) (made : Option (List ℕ)) : Type 0 where
  pub same : sent ≡ reply
  pub still : StandsStill old new
  pub told : failed ≡ false → (text : List ℕ) × (made ≡ Some text) × IsMadeText old new name request drafts reply text

-- `unavailable` is sent in place of a reply that changed nothing. The store may have failed once, where that is a denial.
pub record Withdraws (old new : Standing) (reply sent : Reply) (made : Option (List ℕ)) : Type 0 where
  pub unavailable : sent ≡ refused Unavailable
  pub telling : reply.content ≢ content.Empty
  pub was_honest : new.honest → old.honest
  pub falls : FallsBack old.fallback new.fallback
  pub kept : new.honest → (o : Office) → old.stands o → new.stands o
  pub left : new.honest → (x : Leftover) → new.left x → old.left x
  pub failed : (new.failures ≡ old.failures) ⊎ (IsDenial reply × (new.failures ≡ one_more old.failures))
  pub none : made ≡ None

abbrev pub Settles : Standing → Standing → Option (List ℕ) → Request → Option Drafts → Reply → Reply → Bool → Option (List ℕ) → Type 0
Settles old new name request drafts reply sent failed made =
    Sends old new name request drafts reply sent failed made ⊎ Withdraws old new reply sent made
