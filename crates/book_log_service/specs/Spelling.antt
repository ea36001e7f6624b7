-- What it is to ask the keeper for what a line tells.
use Rattle.std.specs.Prelude.{◌≡◌, ◌⊎◌, ℕ, List, Option, Some, Result, IfOk, OnOk, OnErr}
use Rattle.book_log_replies.specs.Replies.{denial_in}
use Rattle.book_machine.specs.declared.messages.Reply.{Reply}
use Rattle.book_machine.specs.declared.messages.Request.{Request}
use Rattle.book_office.specs.Keeping.{FallsBack, Leftover, Standing, one_more}
use Rattle.book_office.specs.declared.keepers.StoreFault.{StoreFault}
use Rattle.book_office_listings.specs.declared.messages.Denial.{Denial}
use Rattle.book_office_values.specs.declared.offices.Office.{Office}
use Rattle.book_wire_serving.specs.Serving.{IsTextOf}

-- the reply is a denial
abbrev pub IsDenial : Reply → Type 0
IsDenial reply = (denial : Denial) × (denial_in reply.content ≡ Some denial)

-- The text is a line of the request and its reply, and the Office stays as it was. The store may fail once, where the reply is a denial.
pub record Spells (old new : Standing) (name : Option (List ℕ)) (request : Request) (reply : Reply) (result : Result (List ℕ) StoreFault) : Type 0 where
  pub was_honest : new.honest → old.honest
  pub falls : FallsBack old.fallback new.fallback
  pub kept : new.honest → (o : Office) → old.stands o → new.stands o
  pub left : new.honest → (x : Leftover) → new.left x → old.left x
  pub told : IfOk result (λ text. IsTextOf old new name request reply text)
  pub counted : OnOk result (new.failures ≡ old.failures)
  pub failed : OnErr result ((new.failures ≡ old.failures) ⊎ (IsDenial reply × (new.failures ≡ one_more old.failures)))
