-- A connection and its stream (RFC 9112, section 9): what the one received and was sent is what the other gave and was given.
use Rattle.std.specs.Prelude.{◌≡◌, ◌≢◌, ◌⊎◌, ℕ, Bool, true, false, List, [], ◌++◌, map, Option}
use Rattle.std.specs.Io.KnownBytes.{Appends, Consumes, IsAtEnd}
use Rattle.book_wire.specs.Connection.{View}
use Rattle.book_wire_serving.specs.Serving.{Runs, Serving}
use Rattle.book_wire.specs.Stream.{Exchange, answered_of}
use Rattle.book_desk_connections.specs.ManyConnections.{History, Entry, AreServed, Holds, OthersStay, entries, grows, number_at}
use Rattle.book_desk_connections.specs.declared.connections.Accepted.{Accepted}
use Rattle.book_desk_connections.specs.declared.connections.Connections.{Connections}

-- A stream with the bytes that it still gives, and those that it was given: it was read and written in turn. The first list is
-- what its reads gave, the second what its writes took.
pub data IsMoved {S : Type 0} (remaining contents : S → Option (List ℕ)) : S → List ℕ → List ℕ → S → Type 0 where
  rests : (s : S) → IsMoved remaining contents s [] [] s
  reads : (s t : S) (bytes : List ℕ) → Consumes (remaining s) (remaining t) bytes → IsMoved remaining contents s bytes [] t
  writes : (s t : S) (bytes : List ℕ) → Appends (contents s) (contents t) bytes → IsMoved remaining contents s [] bytes t
  moves_on : (s t u : S) (a b c d : List ℕ) → IsMoved remaining contents s a b t → IsMoved remaining contents t c d u
      → IsMoved remaining contents s (a ++ c) (b ++ d) u

-- a read found its end, and it was not read since
abbrev pub WasAtEnd : {S : Type 0} → (S → Option (List ℕ)) → (S → Option (List ℕ)) → S → Type 0
WasAtEnd {S} remaining contents s = (t : S) × IsAtEnd (remaining t) × (went : List ℕ) × IsMoved remaining contents t [] went s

-- the connection at the place is still there
pub record IsStillAt (place : ℕ) (old new : List (Option Accepted)) : Type 0 where
  pub number : number_at new place ≡ number_at old place
  pub there : (l : Accepted) → Holds old place l → (m : Accepted) × Holds new place m

-- The stream gave some bytes and took others, and these are what the connection at the place received and was sent. The requests
-- that were answered are its own.
pub record Serves {M S : Type 0} (serving : M → Serving) (remaining contents : S → Option (List ℕ)) (place : ℕ)
    (old new : Connections M) (stream stream_then : S) (came went : List ℕ) : Type 0 where
  pub moved : IsMoved remaining contents stream came went stream_then
  pub opened : new.opened ≡ old.opened
  pub others : OthersStay place old.places.items new.places.items
  pub served : (histories : ℕ → History) (log : List Entry) → AreServed histories log old.opened old.places.items
      → (more : List Exchange)
      × AreServed (grows histories (number_at old.places.items place) came went) (log ++ entries (number_at old.places.items place) more)
      new.opened new.places.items
      × Runs (serving old.service) (serving new.service) (map answered_of more)

-- a turn of the connection at the place; where its input was at its end, nothing is read
pub record TakesATurn {M S : Type 0} (serving : M → Serving) (remaining contents : S → Option (List ℕ)) (place : ℕ)
    (old new : Connections M) (stream stream_then : S) (at_end : Bool) : Type 0 where
  pub came : List ℕ
  pub went : List ℕ
  pub serves : Serves serving remaining contents place old new stream stream_then came went
  pub unread : at_end ≡ true → came ≡ []

-- the last reply of the connection at the place is sent, and it is to close
abbrev pub IsDoneAt : List (Option Accepted) → ℕ → Type 0
IsDoneAt places place = (l : Accepted) × Holds places place l × (l.connection.closing ≡ true) × (l.connection.unsent ≡ [])

-- nothing of the connection at the place is unread or unsent
abbrev pub IsIdleAt : List (Option Accepted) → ℕ → Type 0
IsIdleAt places place = (l : Accepted) × Holds places place l × (l.connection.unread ≡ []) × (l.connection.unsent ≡ [])

-- no whole request is unread
abbrev pub HasNoWhole : View → Type 0
HasNoWhole v = (v.stalled ≡ false) ⊎ (v.unread ≡ [])

-- each whole request of the connection at the place is answered, and all is sent
abbrev pub IsAnsweredAt : List (Option Accepted) → ℕ → Type 0
IsAnsweredAt places place =
    (l : Accepted) × Holds places place l × (l.connection.closing ≡ false) × HasNoWhole l.connection × (l.connection.unsent ≡ [])

-- a request of the connection at the place began and is not whole, and each before it is answered
abbrev pub IsWithinAt : List (Option Accepted) → ℕ → Type 0
IsWithinAt places place =
    (l : Accepted) × Holds places place l × (l.connection.closing ≡ false) × (l.connection.stalled ≡ false) × (l.connection.unread ≢ [])
