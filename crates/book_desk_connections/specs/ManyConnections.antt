-- Many connections of one machine (RFC 9112, section 9): whatever the order in which their bytes come, each is answered for its own
-- requests alone, and the requests of all are one run of the machine, in the order in which they were completed.
use Rattle.std.specs.Prelude.{◌≡◌, ◌≢◌, ℕ, ◌<◌, ◌≤◌, ◌⊎◌, true, false, ◌==◌, if◌then◌else◌, List, [], ◌∷◌, ◌++◌, length, get_or, Option, Some, None}
use Rattle.std.specs.List.{flat_map, AllByRecursion}
use Rattle.book_wire.specs.Connection.{View}
use Rattle.book_wire_serving.specs.Serving.{Answered}
use Rattle.book_wire.specs.Stream.{Exchange, IsExchange, IsOpen, IsPartial, IsTold, EndsOpen, Waits, text_of, reply_text, answered_of}
use Rattle.book_wire.specs.declared.stream.Ended.TheVariants.{Closed}
use Rattle.book_desk_connections.specs.declared.connections.Accepted.{Accepted}

-- what a connection received, and what it was sent
pub record History : Type 0 where
  pub received : List ℕ
  pub sent : List ℕ

abbrev pub nothing : History
nothing = record { received = []; sent = [] }

-- a whole request of the connection of that number, and its reply
pub record Entry : Type 0 where
  pub number : ℕ
  pub exchange : Exchange

abbrev pub answered_in : Entry → Answered
answered_in e = answered_of e.exchange

-- requests of the connection of that number
abbrev pub entries : ℕ → List Exchange → List Entry
entries k [] = []
entries k (e ∷ es) = record { number = k; exchange = e } ∷ entries k es

-- those of one connection
abbrev pub own : ℕ → List Entry → List Exchange
own k [] = []
own k (e ∷ log) = if k == e.number then e.exchange ∷ own k log else own k log

-- the histories, but for one
abbrev pub with_history : (ℕ → History) → ℕ → History → ℕ → History
with_history histories k p j = if j == k then p else histories j

-- the connection received bytes
abbrev pub receives : (ℕ → History) → ℕ → List ℕ → ℕ → History
receives histories k bytes = with_history histories k (record { received = (histories k).received ++ bytes; sent = (histories k).sent })

-- the connection was sent bytes
abbrev pub is_sent : (ℕ → History) → ℕ → List ℕ → ℕ → History
is_sent histories k bytes = with_history histories k (record { received = (histories k).received; sent = (histories k).sent ++ bytes })

-- it received some bytes, and was sent others
abbrev pub grows : (ℕ → History) → ℕ → List ℕ → List ℕ → ℕ → History
grows histories k came went =
    with_history histories k (record { received = (histories k).received ++ came; sent = (histories k).sent ++ went })

-- What it received is its whole requests and what is unread; what was and is to be sent is their replies. Where it closes, these
-- are what a stream is told that closes. Where it stays and nothing stalls it, no whole request is unread.
pub record IsThere (es : List Exchange) (history : History) (v : View) : Type 0 where
  pub stays : v.closing ≡ false → AllByRecursion IsOpen es × (history.received ≡ flat_map text_of es ++ v.unread)
      × (history.sent ++ v.unsent ≡ flat_map reply_text es)
  pub closes : v.closing ≡ true → IsTold es history.received (history.sent ++ v.unsent) Closed
  pub waits : v.closing ≡ false → v.stalled ≡ false → Waits v.unread

-- each but the last leaves the connection open; where all do, the rest may be refused
abbrev pub EndsSomehow : List Exchange → List ℕ → List ℕ → Type 0
EndsSomehow es rest refusal =
    (AllByRecursion IsOpen es × ((refusal ≡ []) ⊎ EndsOpen rest refusal Closed))
    ⊎ ((opened : List Exchange) × (last : Exchange) × (es ≡ opened ++ last ∷ []) × AllByRecursion IsOpen opened
    × IsExchange last × (refusal ≡ []))

-- Wherever it was let go: what it received is its whole requests and a rest, and what it was sent is a front of their replies and
-- the refusal of the rest.
pub record IsBehind (es : List Exchange) (history : History) : Type 0 where
  pub rest : List ℕ
  pub refusal : List ℕ
  pub unsent : List ℕ
  pub received_is : history.received ≡ flat_map text_of es ++ rest
  pub sent_is : history.sent ++ unsent ≡ flat_map reply_text es ++ refusal
  pub ends : EndsSomehow es rest refusal

-- a connection that is there, by its place
abbrev pub Holds : List (Option Accepted) → ℕ → Accepted → Type 0
Holds places i l = (i < length places) × (get_or places i None ≡ Some l)

-- the number of the connection that is there
abbrev pub number_in : Option Accepted → ℕ
number_in (Some l) = l.number
number_in None = 0

abbrev pub number_at : List (Option Accepted) → ℕ → ℕ
number_at places i = number_in (get_or places i None)

-- every place is as it was
pub record AllStay (old new : List (Option Accepted)) : Type 0 where
  pub stay : (j : ℕ) → get_or new j None ≡ get_or old j None

-- every other place is as it was
pub record OthersStay (i : ℕ) (old new : List (Option Accepted)) : Type 0 where
  pub stay : (j : ℕ) → j ≢ i → get_or new j None ≡ get_or old j None

-- one that takes bytes
abbrev pub TakesBytes : List (Option Accepted) → ℕ → Type 0
TakesBytes places i = (l : Accepted) × Holds places i l × (l.connection.closing ≡ false)

-- each whole request was answered, or a reply waits to be sent
abbrev pub IsAnswered : View → Type 0
IsAnswered v = v.closing ≡ false → IsPartial v.unread ⊎ (0 < length v.unsent)

-- So many connections came, and each of them was and is served; those that are there have a place each.
pub record AreServed (histories : ℕ → History) (log : List Entry) (opened : ℕ) (places : List (Option Accepted)) : Type 0 where
  pub all : (k : ℕ) → IsBehind (own k log) (histories k)
  pub here : (i : ℕ) (l : Accepted) → Holds places i l → (l.number < opened) × IsThere (own l.number log) (histories l.number) l.connection
  pub apart : (i j : ℕ) (l m : Accepted) → Holds places i l → Holds places j m → l.number ≡ m.number → i ≡ j
  pub later : (k : ℕ) → opened ≤ k → (own k log ≡ []) × (histories k ≡ nothing)
