-- Connections, one after the other (RFC 9112, section 9): each is a stream of requests by itself, whatever it brought.
use Rattle.std.specs.Prelude.{◌≡◌, ◌≢◌, ◌⊎◌, ℕ, List, [], ◌∷◌, ◌++◌, codes, length, map, Bool, true, false, cond, Option, Result, Ok, Err}
use Rattle.std.specs.Io.KnownBytes.{Appends, Consumes}
use Rattle.std.specs.List.{AllByRecursion}
use Rattle.book_wire_serving.specs.Serving.{Serving, Stays}
use Rattle.book_wire.specs.Stream.{IsInput, IsStream}
use Rattle.book_desk_app.specs.ServingFailures.{stream_text}
use Rattle.book_wire.specs.Turn.{StopsReading, StopsWriting}
use Rattle.book_wire.specs.declared.stream.Served.{Served}
use Rattle.book_wire_serving.specs.declared.faults.StreamFault.{StreamFault}
use Rattle.book_wire_serving.specs.declared.faults.StreamFault.TheVariants.{Memory, Read, Write, Log}

-- the input and what was written where a stream had this fault
abbrev pub ConnectionStops : Serving → List ℕ → List ℕ → StreamFault → Serving → Type 0
ConnectionStops old input written Memory new = (input ≡ []) × (written ≡ []) × Stays old new
ConnectionStops old input written Read new = StopsReading old input written new
ConnectionStops old input written Write new = StopsWriting old input written new
ConnectionStops old input written Log new = StopsWriting old input written new × (new.log.failed ≡ true)

-- what a stream came to over a reader with these bytes before and after it, and a writer with these: where it ended, its
-- input is all that the reader gives; else it is what was taken from the reader; and what was written is what the writer got
abbrev pub ComesTo : Serving → Option (List ℕ) → Option (List ℕ) → Option (List ℕ) → Option (List ℕ) → Result Served StreamFault → Serving → Type 0
ComesTo old before after held holds (Ok served) new =
    (input : List ℕ) × (written : List ℕ) × IsInput before input × Appends held holds written × IsStream old input written served new
ComesTo old before after held holds (Err fault) new =
    (input : List ℕ) × (written : List ℕ) × Consumes before after input × Appends held holds written × ConnectionStops old input written fault new

-- a connection: the two halves of its stream as they were accepted, and as they were left; and what it came to
pub record ServedConnection (S : Type 0) : Type 0 where
  pub reader : S
  pub writer : S
  pub reader_left : S
  pub writer_left : S
  pub outcome : Result Served StreamFault

abbrev pub outcomes_of : {S : Type 0} → List (ServedConnection S) → List (Result Served StreamFault)
outcomes_of {S} connections = map (λ (c : ServedConnection S). c.outcome) connections

-- over streams with the bytes that they still give and those that they were given, and services with what they stand for
module _ {S : Type 0} (remaining contents : S → Option (List ℕ)) where
  abbrev pub IsConnection : Serving → ServedConnection S → Serving → Type 0
  IsConnection old c new = ComesTo old (remaining c.reader) (remaining c.reader_left) (contents c.writer) (contents c.writer_left) c.outcome new

  module _ {M : Type 0} (serving : M → Serving) where
    -- each begins with the service that the one before it left
    abbrev pub AreConnections : M → List (ServedConnection S) → M → Type 0
    AreConnections old [] new = new ≡ old
    AreConnections old (c ∷ more) new = (between : M) × IsConnection (serving old) c (serving between) × AreConnections between more new

abbrev pub had_no_fault : Result Served StreamFault → Bool
had_no_fault (Ok served) = true
had_no_fault (Err fault) = false

-- none had the fault that a line of the log could not be written
abbrev pub AreLogged : List (Result Served StreamFault) → Type 0
AreLogged outcomes = AllByRecursion (λ (outcome : Result Served StreamFault). outcome ≢ Err Log) outcomes

-- only the last had that fault
abbrev pub EndUnlogged : List (Result Served StreamFault) → Type 0
EndUnlogged outcomes = (before : List (Result Served StreamFault)) × (outcomes ≡ before ++ Err Log ∷ []) × AreLogged before

-- so many were served; or none after the first that had that fault
abbrev pub AreAllServed : ℕ → List (Result Served StreamFault) → Type 0
AreAllServed count outcomes = ((length outcomes ≡ count) × AreLogged outcomes) ⊎ EndUnlogged outcomes

abbrev pub none_had_a_fault : List (Result Served StreamFault) → Bool
none_had_a_fault [] = true
none_had_a_fault (outcome ∷ more) = cond (had_no_fault outcome) (none_had_a_fault more) false

-- what is told of a connection: its fault, as a line
abbrev pub line_of_connection : Result Served StreamFault → List ℕ
line_of_connection (Ok served) = []
line_of_connection (Err fault) = stream_text fault ++ codes "\n"

abbrev pub lines_of_connections : List (Result Served StreamFault) → List ℕ
lines_of_connections [] = []
lines_of_connections (outcome ∷ more) = line_of_connection outcome ++ lines_of_connections more
