-- Which reply is counted of what a service served.
use Rattle.std.specs.Prelude.{◌≡◌, ℕ, ◌-◌, Bool, true, false, List, [], ◌∷◌, Option, Some, None, option_map}
use Rattle.book_log_replies.specs.Replies.{denial_in}
use Rattle.book_machine.specs.declared.messages.Reply.{Reply}
use Rattle.book_machine.specs.declared.messages.Request.{Request}
use Rattle.book_office_listings.specs.declared.messages.Denial.{Denial}
use Rattle.book_desk_metrics.specs.Timing.{timed}
use Rattle.book_desk_metrics.specs.declared.counts.Told.{Told}
use Rattle.book_desk_metrics.specs.declared.times.Times.{Times}

-- a reply to a request
abbrev pub told_of : Request → Reply → Told
told_of request reply = record {
  method = Some request.method;
  status = reply.status;
  denied = option_map (λ (d : Denial). d.privilege) (denial_in reply.content);
}

-- `unavailable`, to the same request
abbrev pub unavailable_of : Told → Told
unavailable_of told = record { method = told.method; status = 503; denied = None }

-- a refusal where no request could be read
abbrev pub refusal_of : ℕ → Told
refusal_of status = record { method = None; status = status; denied = None }

-- the reply that is noted, if one was made: as it was made, or `unavailable` in its place
abbrev pub noted : Option Told → Bool → List Told
noted None as_made = []
noted (Some told) true = told ∷ []
noted (Some told) false = unavailable_of told ∷ []

-- one time was added, between what a clock told before and after
pub record IsTimed {C : Type 0} (tells : C → ℕ → C → Type 0) (old : C) (times : Times) (new : C) (times_then : Times) : Type 0 where
  pub begun : ℕ
  pub ended : ℕ
  pub between : C
  pub told : tells old begun between
  pub told_then : tells between ended new
  pub timed : times_then ≡ timed times (ended - begun)
