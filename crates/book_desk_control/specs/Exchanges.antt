-- One connection over which whoever keeps the server asks: what it brought, and its reply.
use Rattle.std.specs.Prelude.{◌≡◌, ℕ, Bool, true, false, if◌then◌else◌, nat_lt, List, [], ◌++◌, length, drop, Option, None, Some, not, ◌==◌}
use Rattle.book_desk_control.specs.Demands.{demand_of}
use Rattle.book_desk_control.specs.Hearing.{Hears, body_at}
use Rattle.book_desk_control.specs.Refusals.{outcome_of, refusal_text}
use Rattle.book_desk_control.specs.Replies.{head_text}
use Rattle.book_desk_control.specs.declared.demands.Demand.{Demand}
use Rattle.book_desk_control.specs.declared.exchanges.Exchange.{Exchange}
use Rattle.book_desk_control.specs.declared.hearing.Heard.{Heard}
use Rattle.book_desk_control.specs.declared.hearing.Heard.TheVariants.{Part, Refused, Whole}
use Rattle.book_desk_control.specs.declared.questions.Question.{Question}
use Rattle.book_desk_control.specs.declared.refusals.Refusal.{Refusal}
use Rattle.book_desk_control.specs.declared.refusals.Refusal.TheVariants.{BadBody}
use Rattle.book_desk_control.specs.declared.replies.Ending.{Ending}
use Rattle.book_desk_control.specs.declared.replies.Kind.{Kind}
use Rattle.book_desk_control.specs.declared.replies.Kind.TheVariants.{Json}
use Rattle.book_desk_control.specs.declared.replies.Outcome.{Outcome}

abbrev pub begun : Exchange
begun = record { received = []; is_heard = false; head = []; body = []; head_sent = 0; body_sent = 0 }

abbrev pub is_answered : Exchange → Bool
is_answered x = not (length x.head == 0)

-- with this reply
abbrev pub answered : Exchange → Outcome → Option Ending → Kind → List ℕ → Exchange
answered x outcome ending kind body = record {
  received = x.received;
  is_heard = x.is_heard;
  head = head_text outcome ending kind (length body);
  body = body;
  head_sent = x.head_sent;
  body_sent = x.body_sent;
}

abbrev pub refused : Exchange → Refusal → Exchange
refused x refusal = answered x (outcome_of refusal) None Json (refusal_text refusal)

-- more bytes came
abbrev pub with_received : Exchange → List ℕ → Exchange
with_received x bytes = record {
  received = bytes;
  is_heard = x.is_heard;
  head = x.head;
  body = x.body;
  head_sent = x.head_sent;
  body_sent = x.body_sent;
}

-- what it brought is taken out of it, and no more is read
abbrev pub heard : Exchange → Exchange
heard x = record {
  received = [];
  is_heard = true;
  head = x.head;
  body = x.body;
  head_sent = x.head_sent;
  body_sent = x.body_sent;
}

-- what the question asks with the body that stands there
abbrev pub demand_at : Question → List ℕ → ℕ → ℕ → Option Demand
demand_at question bytes start count = demand_of question (body_at bytes start count)

-- a demand waits for its reply; a body that asks nothing is refused
abbrev pub after_demand : Exchange → Option Demand → Exchange
after_demand x (Some demand) = heard x
after_demand x None = refused (heard x) BadBody

abbrev pub Follows : Exchange → List ℕ → Heard → Option Demand → Exchange → Type 0
Follows old bytes Part demand new = (demand ≡ None) × (new ≡ with_received old bytes)
Follows old bytes (Refused refusal) demand new = (demand ≡ None) × (new ≡ refused (heard old) refusal)
Follows old bytes (Whole question start count) demand new =
    (demand ≡ demand_at question bytes start count) × (new ≡ after_demand old demand)

-- what comes of all bytes that it brought so far
abbrev pub IsBrought : Exchange → List ℕ → Option Demand → Exchange → Type 0
IsBrought old bytes demand new = (h : Heard) × Hears bytes h × Follows old bytes h demand new

-- nothing of its reply changes
abbrev pub KeepsReply : Exchange → Exchange → Type 0
KeepsReply old new =
    (new.head ≡ old.head) × (new.body ≡ old.body) × (new.head_sent ≡ old.head_sent) × (new.body_sent ≡ old.body_sent)

-- what is left to be sent
abbrev pub left : Exchange → List ℕ
left x = drop x.head_sent x.head ++ drop x.body_sent x.body

-- what is sent next: all that is left of the head, or where that is sent, of the body
abbrev pub unsent : Exchange → List ℕ
unsent x = if nat_lt x.head_sent (length x.head) then drop x.head_sent x.head else drop x.body_sent x.body
