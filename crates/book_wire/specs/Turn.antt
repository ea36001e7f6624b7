-- What one step of a stream does.
use Rattle.std.specs.Prelude.{◌≡◌, ℕ, ◌<◌, ◌⊎◌, Bool, true, List, [], ◌∷◌, ◌++◌, map, length}
use Rattle.std.specs.List.{flat_map, AllByRecursion}
use Rattle.book_wire.specs.declared.head.WireRefusal.{WireRefusal}
use Rattle.book_wire_serving.specs.declared.faults.StreamFault.{StreamFault}
use Rattle.book_wire_serving.specs.declared.faults.StreamFault.TheVariants as fault
use Rattle.book_wire.specs.declared.turns.Turn.{Turn}
use Rattle.book_wire.specs.declared.turns.Turn.TheVariants.{Wait, Answered, Last, Refused}
use Rattle.book_wire.specs.Requests.{caller_name}
use Rattle.book_wire_serving.specs.Serving.{Serving, NotesRefusal, ServesAny, Stays, Runs}
use Rattle.book_wire.specs.Spelling.{refusal_text, wire_name, wire_status}
use Rattle.book_wire.specs.Stream.{Exchange, IsExchange, IsOpen, IsLast, IsPartial, Refuses, SoFar, Waits, WaitsFor, reply_text, text_of, answered_of}

-- what is unread begins with the exchange, and the machine served it
pub record Takes (before : Serving) (unread written : List ℕ) (e : Exchange) (after : Serving) (left : List ℕ) : Type 0 where
  pub unread_is : unread ≡ e.text ++ left
  pub written_is : written ≡ reply_text e
  pub serves : ServesAny before after (caller_name e.asked.caller) e.request e.reply
  pub not_empty : 0 < length e.text

abbrev pub IsTurn : Serving → List ℕ → List ℕ → Turn → Serving → List ℕ → Type 0
IsTurn before unread written (Wait wanted) after left =
    IsPartial unread × WaitsFor unread wanted × (written ≡ []) × Stays before after × (left ≡ unread)
IsTurn before unread written Answered after left = (e : Exchange) × IsOpen e × Takes before unread written e after left
IsTurn before unread written Last after left = (e : Exchange) × IsLast e × Takes before unread written e after left
IsTurn before unread written Refused after left =
    (refusal : WireRefusal) × (bare : Bool) × Refuses unread refusal bare × (written ≡ refusal_text refusal bare)
    × NotesRefusal before after (wire_status refusal) (wire_name refusal) × (left ≡ unread)

-- why what is to be sent could not be made or noted: the reply, or its line, with which the log has failed
abbrev pub StopsBy : StreamFault → Serving → Type 0
StopsBy fault.Memory after = ⊥
StopsBy fault.Read after = ⊥
StopsBy fault.Write after = Unit {0}
StopsBy fault.Log after = after.log.failed ≡ true

-- the text that a write failed in: a refusal, or the reply to one more request, which acted
abbrev pub IsPending : Serving → List ℕ → List ℕ → Serving → Type 0
IsPending before unread pending after =
    ((e : Exchange) × (left : List ℕ) × IsExchange e × Takes before unread pending e after left)
    ⊎ ((refusal : WireRefusal) × (bare : Bool) × Refuses unread refusal bare × (pending ≡ refusal_text refusal bare)
    × NotesRefusal before after (wire_status refusal) (wire_name refusal))

-- the reply in which a write failed: to one more request, which the machine served, or a refusal
abbrev pub StopsAt : Serving → List Exchange → List ℕ → List ℕ → Serving → Type 0
StopsAt before exchanges unread pending after =
    ((e : Exchange) × (more : List ℕ) × IsExchange e × (unread ≡ e.text ++ more) × (pending ≡ reply_text e)
    × Runs before after (map answered_of (exchanges ++ e ∷ [])))
    ⊎ ((refusal : WireRefusal) × (bare : Bool) × Refuses unread refusal bare × (pending ≡ refusal_text refusal bare)
    × Runs before after (map answered_of exchanges))

-- A write failed. What was written is the replies so far, and a front of one more: to a request that acted, or of a refusal.
pub record StopsWriting (before : Serving) (input written : List ℕ) (after : Serving) : Type 0 where
  pub exchanges : List Exchange
  pub taken : List ℕ
  pub unread : List ℕ
  pub replies : List ℕ
  pub pending : List ℕ
  pub front : List ℕ
  pub left : List ℕ
  pub input_is : input ≡ taken ++ unread
  pub opened : AllByRecursion IsOpen exchanges
  pub taken_is : taken ≡ flat_map text_of exchanges
  pub replies_are : replies ≡ flat_map reply_text exchanges
  pub stops : StopsAt before exchanges unread pending after
  pub cut : pending ≡ front ++ left
  pub written_is : written ≡ replies ++ front

-- A read failed. Each whole request was answered, and no other acted.
pub record StopsReading (before : Serving) (input written : List ℕ) (after : Serving) : Type 0 where
  pub requests : ℕ
  pub unread : List ℕ
  pub so_far : SoFar before input written requests after unread
  pub waits : Waits unread
