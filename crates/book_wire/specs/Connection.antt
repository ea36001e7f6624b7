-- One connection between two calls (RFC 9112, section 9.3).
use Rattle.std.specs.Prelude.{◌≡◌, ◌⊎◌, ℕ, Bool, true, false, List, [], ◌++◌}
use Rattle.book_wire_serving.specs.Serving.{Serving}
use Rattle.book_wire.specs.declared.stream.Ended.TheVariants.{Closed}
use Rattle.book_wire.specs.declared.turns.Turn.{Turn}
use Rattle.book_wire.specs.declared.turns.Turn.TheVariants.{Wait, Answered, Last, Refused}
use Rattle.book_wire.specs.Stream.{IsPartial, IsServed, SoFar, WaitsFor}

-- what is unread, what is made and not sent, whether the connection closes once that is sent, and whether whole requests may
-- be unread, since too much waits to be sent
pub record View : Type 0 where
  pub unread : List ℕ
  pub unsent : List ℕ
  pub closing : Bool
  pub stalled : Bool

abbrev pub fresh : View
fresh = record { unread = []; unsent = []; closing = false; stalled = false }

-- one that brought this, and is not answered yet
abbrev pub resumed : List ℕ → View
resumed unread = record { unread = unread; unsent = []; closing = false; stalled = true }

-- after this turn the connection closes
abbrev pub closes_after : Turn → Bool
closes_after (Wait wanted) = false
closes_after Answered = false
closes_after Last = true
closes_after Refused = true

-- with fewer unread bytes than these no request is whole after this turn
abbrev pub wanted_after : Turn → ℕ
wanted_after (Wait wanted) = wanted
wanted_after Answered = 0
wanted_after Last = 0
wanted_after Refused = 0

-- with fewer unread bytes than are wanted no request is whole; where none are wanted nothing is known
abbrev pub MayWait : List ℕ → ℕ → Type 0
MayWait unread wanted = (wanted ≡ 0) ⊎ ((front : List ℕ) × (more : List ℕ) × (unread ≡ front ++ more) × WaitsFor front wanted)

-- so many whole requests of the input were answered: the rest is unread, or the connection closes
pub record IsFed (before : Serving) (input written : List ℕ) (requests : ℕ) (after : Serving) (now : View) : Type 0 where
  pub stays : now.closing ≡ false → SoFar before input written requests after now.unread
  pub closes : now.closing ≡ true → IsServed before input written requests Closed after
  pub waits : now.closing ≡ false → now.stalled ≡ false → IsPartial now.unread
