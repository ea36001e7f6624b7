-- What the machine's three calls promise, over any keeper: `serve`, `serve_all` and `adopt`.
use Rattle.std.specs.Prelude.{◌≡◌, ◌≢◌, ◌⊎◌, ℕ, List, Option, Result, Err, OnOk}
use Rattle.book_policy_values.specs.declared.parts.PolicyTables.{PolicyTables}
use Rattle.book_office_adopting.specs.Adopting.{adopt}
use Rattle.book_office.specs.Keeping.{FallsBack, Leftover, whole, Standing, one_more}
use Rattle.book_office_values.specs.declared.offices.Office.{Office}
use Rattle.book_machine.specs.Adoptions.{Adopts, HasRoomFor}
use Rattle.book_machine.specs.Agreement.{named, Agree}
use Rattle.book_machine.specs.Refusals.{refused}
use Rattle.book_machine.specs.Runs.{Call, Run, last_office, MayLeave, MayLeaveAfter}
use Rattle.book_machine.specs.Steps.{Steps, Serves}
use Rattle.book_machine.specs.Unseen.{RunsAlike}
use Rattle.book_machine.specs.declared.adoptions.AdoptFault.{AdoptFault}
use Rattle.book_machine.specs.declared.adoptions.AdoptFault.TheVariants as fault
use Rattle.book_machine.specs.declared.adoptions.Adopted.{Adopted}
use Rattle.book_machine.specs.declared.messages.Reply.{Reply}
use Rattle.book_machine.specs.declared.messages.Request.{Request}
use Rattle.book_machine.specs.declared.refusals.Refusal.TheVariants.{Unavailable}

-- `serve`: the reply and the Office afterwards are those of the machine's step, or memory was refused or the store failed and the Office
-- is as it was; what a stop may leave; and the store failed once where the reply is unavailable, or not at all
pub record ServePromise (old new : Standing) (name : Option (List ℕ)) (request : Request) (reply : Reply) : Type 0 where
  pub was_honest : new.honest → old.honest
  pub falls : FallsBack old.fallback new.fallback
  pub served : new.honest → (o : Office) → old.stands o → (after : Office) × new.stands after × Serves o name request reply after
  pub left : new.honest → (o : Office) → old.stands o → (x : Leftover) → new.left x → MayLeave old.left o (name, request) reply x
  pub counted : (new.failures ≡ old.failures) ⊎ ((reply ≡ refused Unavailable) × (new.failures ≡ one_more old.failures))

-- `serve` hides what the caller may not read: the reply is also the one of a step from each Office that agrees, unless it is unavailable
pub record ServeHidesUnread (old new : Standing) (name : Option (List ℕ)) (request : Request) (reply : Reply) : Type 0 where
  pub unseen : new.honest → (o : Office) → old.stands o → reply ≢ refused Unavailable
      → (p : Office) → Agree o p (named name) → (later : Office) × Steps p name request reply later

-- `serve_all`: the replies and the Offices after them are a run; what a stop may leave, call by call; and where one caller asked for no
-- MOVE and the epoch did not rise, the replies are also those of a run from each Office that agrees
pub record ServeAllPromise (old new : Standing) (calls : List Call) (replies : List Reply) : Type 0 where
  pub was_honest : new.honest → old.honest
  pub falls : FallsBack old.fallback new.fallback
  pub run : new.honest → (o : Office) → old.stands o
      → (offices : List Office) × new.stands (last_office o offices) × Run o calls replies offices
      × ((x : Leftover) → new.left x → MayLeaveAfter old.left o calls replies offices x)
      × RunsAlike o calls replies offices

-- `adopt`: the Office that adopts the policy, or the one before; what a stop may leave; and the store failed once where the answer is
-- unavailable, or not at all
pub record AdoptPromise (old new : Standing) (t : PolicyTables) (result : Result Adopted AdoptFault) : Type 0 where
  pub was_honest : new.honest → old.honest
  pub falls : FallsBack old.fallback new.fallback
  pub adopted : new.honest → (o : Office) → old.stands o → (after : Office) × new.stands after × Adopts o t result after
  pub left : new.honest → (o : Office) → old.stands o → (x : Leftover) → new.left x
      → old.left x ⊎ (HasRoomFor t o × (x ≡ whole (adopt t o)))
  pub left_made : new.honest → OnOk result ((o : Office) → old.stands o → (x : Leftover) → new.left x → x ≡ whole (adopt t o))
  pub counted : (new.failures ≡ old.failures) ⊎ ((result ≡ Err fault.Unavailable) × (new.failures ≡ one_more old.failures))
