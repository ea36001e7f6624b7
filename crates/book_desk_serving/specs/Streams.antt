-- What `pipe` and `serve` do, and the status that ends them (own profile).
use Rattle.std.specs.Prelude.{◌≡◌, ◌⊎◌, ℕ, List, ◌++◌, codes, Bool, true, false, cond, length, Option}
use Rattle.std.specs.Io.KnownBytes.{Appends, Consumes}
use Rattle.book_desk_sockets.specs.Places.{SaysWhere}
use Rattle.book_office.specs.Keeping.{Standing}
use Rattle.book_wire_serving.specs.Logs.{Log, no_log}
use Rattle.book_wire_serving.specs.Serving.{Serving}
use Rattle.book_desk_serving.specs.Connections.{AreConnections, ServedConnection, ConnectionStops, AreAllServed, lines_of_connections, none_had_a_fault, outcomes_of}
use Rattle.book_desk_app.specs.Failures.{failure_text, log_failure}
use Rattle.book_desk_app.specs.Telling.{Tells, TellsFailure}
use Rattle.book_desk_app.specs.declared.failures.Failure.{Failure}
use Rattle.book_desk_app.specs.declared.failures.Failure.TheVariants.{Listen, Output, Stream}
use Rattle.book_wire.specs.Stream.{IsInput, IsStream}
use Rattle.book_wire.specs.declared.stream.Ended.{Ended}
use Rattle.book_wire.specs.declared.stream.Ended.TheVariants.{Clean, Cut, Closed}
use Rattle.book_wire.specs.declared.stream.Served.{Served}
use Rattle.book_wire_serving.specs.declared.faults.StreamFault.{StreamFault}
use Rattle.book_wire_serving.specs.declared.faults.StreamFault.TheVariants.{Log as LogFault}

-- what serves with a log
abbrev pub with_log : Log → Standing → Serving
with_log log s = record { standing = s; log = log }

-- what serves without one
abbrev pub unlogged : Standing → Serving
unlogged s = with_log no_log s

-- ---- requests on standard input

-- 1 is an input that ends within a request
abbrev pub ended_status : Ended → ℕ
ended_status Clean = 0
ended_status Cut = 1
ended_status Closed = 0

-- the input is a stream, and what was written are its replies
abbrev pub Pipes : Serving → Option (List ℕ) → Option (List ℕ) → Option (List ℕ) → ℕ → Serving → Type 0
Pipes old reads held holds status new =
    (served : Served) × (status ≡ ended_status served.ended) × (input : List ℕ) × (written : List ℕ)
    × IsInput reads input × Appends held holds written × IsStream old input written served new

-- the fault that is told: that a line of the log could not be written comes first
abbrev pub told_fault : Bool → StreamFault → StreamFault
told_fault true fault = LogFault
told_fault false fault = fault

-- the stream stopped with a fault, which was told so; or it was served, and the log has failed, which was told
abbrev pub StopsToPipe : (Failure → Type 0) → Serving → Option (List ℕ) → Option (List ℕ) → Option (List ℕ) → Option (List ℕ) → Serving → Type 0
StopsToPipe Told old before after held holds new =
    ((fault : StreamFault) × (input : List ℕ) × (written : List ℕ)
    × Consumes before after input × Appends held holds written × ConnectionStops old input written fault new
    × Told (Stream (record { fault = told_fault new.log.failed fault })))
    ⊎ ((status : ℕ) × Pipes old before held holds status new × (new.log.failed ≡ true) × Told log_failure)

-- ---- connections

module _ {S : Type 0} (remaining contents : S → Option (List ℕ)) {M : Type 0} (serving : M → Serving) (has_port : Bool) (path : Option (List ℕ)) where
  -- it said where it listens, so many connections were served, none of which had a fault, and the log has not failed
  abbrev pub ServesSoundly : M → Option (List ℕ) → Option (List ℕ) → ℕ → M → Type 0
  ServesSoundly old held holds count new =
      SaysWhere has_port path held holds
      × ((connections : List (ServedConnection S)) × AreConnections remaining contents serving old connections new
      × (length connections ≡ count) × (none_had_a_fault (outcomes_of connections) ≡ true))
      × ((serving new).log.failed ≡ false)

  -- what was told, where the writer of lines took each text to its end before and takes each now, and what it held and holds
  module _ (was_whole is_whole : Bool) (told tells : Option (List ℕ)) where
    -- it could not be said where it listens, which was told, and no connection was served
    abbrev pub SaysNothing : ℕ → Type 0
    SaysNothing status =
        (failure : Failure) × ((failure ≡ Listen) ⊎ (failure ≡ Output)) × (status ≡ 3) × TellsFailure is_whole told tells failure

    -- so many connections came, or a line of the log could not be written, and the fault of each that had one was told; or after these
    -- none could be accepted, or the log has failed, which was told last
    abbrev pub EndsServing : List (ServedConnection S) → ℕ → ℕ → Type 0
    EndsServing connections count status =
        (AreAllServed count (outcomes_of connections)
        × (status ≡ cond (none_had_a_fault (outcomes_of connections)) 0 3)
        × Tells was_whole is_whole told tells (lines_of_connections (outcomes_of connections)))
        ⊎ ((status ≡ 3) × Tells was_whole is_whole told tells (lines_of_connections (outcomes_of connections) ++ (failure_text Listen ++ codes "\n")))
        ⊎ ((status ≡ 3) × Tells was_whole is_whole told tells (lines_of_connections (outcomes_of connections) ++ (failure_text log_failure ++ codes "\n")))

    -- these connections were served, in turn, and what each was sent is what its stream says
    abbrev pub Serves : M → Option (List ℕ) → Option (List ℕ) → ℕ → ℕ → M → Type 0
    Serves old held holds count status new =
        (SaysNothing status × (new ≡ old))
        ⊎ (SaysWhere has_port path held holds
        × ((connections : List (ServedConnection S)) × AreConnections remaining contents serving old connections new × EndsServing connections count status))
