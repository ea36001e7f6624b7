-- A round of connections: one request of each is served, and one commit of the store keeps what they edited, or nothing of it.
use Rattle.std.specs.Prelude.{◌≡◌, ◌≢◌, ◌⊎◌, ℕ, false, List, [], ◌∷◌, ◌++◌, map, length, get_or, Option, Some, None}
use Rattle.std.specs.List.{flat_map, All, AllByRecursion}
use Rattle.book_wire.specs.Connection.{resumed}
use Rattle.book_wire.specs.Stream.{Exchange, IsExchange, IsOpen, text_of}
use Rattle.book_wire_serving.specs.Rounds.{IsTried}
use Rattle.book_wire_serving.specs.Serving.{Answered, Runs, Serving}
use Rattle.book_desk_connections.specs.ManyConnections.{History, Entry, AreServed, Holds, answered_in, own}
use Rattle.book_desk_connections.specs.declared.connections.Accepted.{Accepted}
use Rattle.book_desk_connections.specs.declared.connections.Connections.{Connections}
use Rattle.book_desk_connections.specs.declared.feeding.Feeds.{Feeds}
use Rattle.book_desk_connections.specs.declared.feeding.Lost.{Lost}
use Rattle.book_desk_connections.specs.declared.rounds.Held.{Held}

-- the connection at the place is there with its number, and it was not to close
pub record StaysOpenAt (j : ℕ) (old new : List (Option Accepted)) : Type 0 where
  pub was : Accepted
  pub is : Accepted
  pub there_was : Holds old j was
  pub there_is : Holds new j is
  pub number : is.number ≡ was.number
  pub open_was : was.connection.closing ≡ false

-- the connection at the place was let go, and it was not to close
pub record LeavesAt (j : ℕ) (old new : List (Option Accepted)) : Type 0 where
  pub was : Accepted
  pub there_was : Holds old j was
  pub open_was : was.connection.closing ≡ false
  pub empty : get_or new j None ≡ None

-- the one that was let go
abbrev pub IsLostAt : Option Lost → ℕ → Type 0
IsLostAt None j = ⊥
IsLostAt (Some lost) j = lost.place ≡ j

-- the place is as it was, or its connection goes on, or it is the one that was let go
abbrev pub GoesOnAt : Option Lost → (j : ℕ) → (old new : List (Option Accepted)) → Type 0
GoesOnAt lost j old new = (get_or new j None ≡ get_or old j None) ⊎ StaysOpenAt j old new ⊎ (IsLostAt lost j × LeavesAt j old new)

-- no request is of a connection that is not there
abbrev pub AreOfThose : List (Option Accepted) → List Entry → Type 0
AreOfThose places more = (k : ℕ) → ((i : ℕ) (l : Accepted) → Holds places i l → l.number ≢ k) → own k more ≡ []

-- Requests of connections that are there were answered, each connection for its own, and no byte came or went. At most one connection was
-- let go: it had a fault.
pub record AreFed (before after : Serving) (old new : List (Option Accepted)) (lost : Option Lost) : Type 0 where
  pub count : length new ≡ length old
  pub places : (j : ℕ) → GoesOnAt lost j old new
  pub gone : (j : ℕ) → IsLostAt lost j → LeavesAt j old new
  pub served : (histories : ℕ → History) (log : List Entry) (opened : ℕ) → AreServed histories log opened old
      → (more : List Entry) × AreServed histories (log ++ more) opened new × AreOfThose old more × Runs before after (map answered_in more)

-- the places of all others are as they were
abbrev pub OthersAreSame : List Held → List (Option Accepted) → List (Option Accepted) → Type 0
OthersAreSame held old new = (j : ℕ) → All (λ (h : Held). h.place ≢ j) held → get_or new j None ≡ get_or old j None

-- what a service does for them in a round
pub record IsFeeding (before after : Serving) (old new : Feeds) : Type 0 where
  pub same_wire : new.wire.ghost_name ≡ old.wire.ghost_name
  pub same_places : new.places.ghost_name ≡ old.places.ghost_name
  pub same_answered : new.answered.ghost_name ≡ old.answered.ghost_name
  pub same_lost : new.lost.ghost_name ≡ old.lost.ghost_name
  pub same_held : new.held ≡ old.held
  pub fed : AreFed before after old.places.now.items new.places.now.items new.lost.now
  pub others : OthersAreSame old.held.now old.places.now.items new.places.now.items

-- a copy of what a connection that is there brought; nothing of it is unsent
abbrev pub IsHeldIn : List (Option Accepted) → Held → Type 0
IsHeldIn places h = (l : Accepted) × Holds places h.place l × (l.number ≡ h.number) × (l.connection.unread ≡ h.unread.items)
    × (l.connection.unsent ≡ []) × (l.connection.closing ≡ false)

-- the connection at the place is as it was, but it may be that whole requests of it are unread
pub record IsBackAt (j : ℕ) (old new : List (Option Accepted)) : Type 0 where
  pub was : Accepted
  pub is : Accepted
  pub there_was : Holds old j was
  pub there_is : Holds new j is
  pub number : is.number ≡ was.number
  pub back : is.connection ≡ resumed was.connection.unread
  pub unsent : was.connection.unsent ≡ []
  pub open_was : was.connection.closing ≡ false

pub record AreBack (old new : List (Option Accepted)) : Type 0 where
  pub at : (j : ℕ) → (get_or new j None ≡ get_or old j None) ⊎ IsBackAt j old new

-- whole requests and their replies, of which each but the last leaves the connection open
abbrev pub AreExchanges : List Exchange → Type 0
AreExchanges es = AllByRecursion IsOpen es
    ⊎ ((opened : List Exchange) × (last : Exchange) × (es ≡ opened ++ last ∷ []) × AllByRecursion IsOpen opened × IsExchange last)

-- each connection had sent these requests, behind those of it that were answered
abbrev pub AreSentNext : (ℕ → History) → List Entry → List Entry → Type 0
AreSentNext histories log tried = (k : ℕ) → (rest : List ℕ)
    × ((histories k).received ≡ flat_map text_of (own k log ++ own k tried) ++ rest) × AreExchanges (own k log ++ own k tried)

-- what was tried was sent by connections, behind what was answered by then
pub record WereSent (histories : ℕ → History) (log : List Entry) (answered : List Answered) : Type 0 where
  pub before : List Entry
  pub after : List Entry
  pub tried : List Entry
  pub log_is : log ≡ before ++ after
  pub are : map answered_in tried ≡ answered
  pub sent : AreSentNext histories before tried

-- A round was tried and not kept: each connection is there as it was, nothing was answered, and what was tried was sent by them.
pub record TriesRound {M : Type 0} (serving : M → Serving) (old new : Connections M) : Type 0 where
  pub opened : new.opened ≡ old.opened
  pub back : AreBack old.places.items new.places.items
  pub tried : (histories : ℕ → History) (log : List Entry) → AreServed histories log old.opened old.places.items
      → (tried : List Entry) × AreSentNext histories log tried × IsTried (serving old.service) (serving new.service) (map answered_in tried)

-- a round was kept
pub record KeepsRound {M : Type 0} (serving : M → Serving) (old new : Connections M) (lost : Option Lost) : Type 0 where
  pub opened : new.opened ≡ old.opened
  pub fed : AreFed (serving old.service) (serving new.service) old.places.items new.places.items lost
