-- What a stream came to says of services what its run says of them.
use Rattle.book_desk_serving.proofs.Common.{◌≡◌, ◌∙◌, sym, subst, ℕ, List, Option, Ok, Err, inl, inr, Served, StreamFault}
use Rattle.std.proofs.Common.{Bool, Result, map}
use Rattle.book_wire_serving.specs.Serving.{Answered, Runs, Serving, Stays}
use Rattle.book_wire.specs.Stream.{Answers, Exchange, IsStream, answered_of}
use Rattle.book_wire.specs.Turn.{StopsAt, StopsReading, StopsWriting}
use Rattle.book_wire_serving.specs.declared.faults.StreamFault.TheVariants.{Memory, Read, Write, Log}
use Rattle.book_desk_serving.specs.Connections.{ComesTo, ConnectionStops}
use Rattle.book_desk_serving.specs.Streams.{Pipes, told_fault}
use Rattle.book_desk_serving.specs.Tasks.{EndsPipe}
use Rattle.book_desk_app.specs.declared.failures.Failure.{Failure}
use Rattle.book_desk_app.specs.declared.failures.Failure.TheVariants.{Stream}

-- where each run of the one is a run of the other
module _ (one two old new : Serving) (runs_as : (answered : List Answered) → Runs one two answered → Runs old new answered)
    (stays_as : Stays one two → Stays old new) (log_as : two.log.failed ≡ new.log.failed) where
  answers_as : (exchanges : List Exchange) (input written : List ℕ) → Answers one exchanges input written two → Answers old exchanges input written new
  answers_as exchanges input written answers = record {
    input_is = answers.input_is;
    written_is = answers.written_is;
    runs = runs_as (map answered_of exchanges) answers.runs;
  }

  stream_as : (input written : List ℕ) (served : Served) → IsStream one input written served two → IsStream old input written served new
  stream_as input written served stream =
      let it = stream.2 in (
        stream.0,
        stream.1,
        record {
          exchanges = it.exchanges;
          told = it.told;
          runs = runs_as (map answered_of it.exchanges) it.runs;
          count = it.count;
        },
      )

  cut_as : (exchanges : List Exchange) (unread pending : List ℕ) → StopsAt one exchanges unread pending two → StopsAt old exchanges unread pending new
  cut_as exchanges unread pending (inl it) = inl (it.0, it.1, it.2, it.3, it.4, runs_as _ it.5)
  cut_as exchanges unread pending (inr it) = inr (it.0, it.1, it.2, it.3, runs_as _ it.4)

  reading_as : (input written : List ℕ) → StopsReading one input written two → StopsReading old input written new
  reading_as input written stops =
      let it = stops.so_far in
      record {
        requests = stops.requests;
        unread = stops.unread;
        so_far = record {
          exchanges = it.exchanges;
          taken = it.taken;
          input_is = it.input_is;
          opened = it.opened;
          answers = answers_as it.exchanges it.taken written it.answers;
          count = it.count;
        };
        waits = stops.waits;
      }

  writing_as : (input written : List ℕ) → StopsWriting one input written two → StopsWriting old input written new
  writing_as input written stops = record {
    exchanges = stops.exchanges;
    taken = stops.taken;
    unread = stops.unread;
    replies = stops.replies;
    pending = stops.pending;
    front = stops.front;
    left = stops.left;
    input_is = stops.input_is;
    opened = stops.opened;
    taken_is = stops.taken_is;
    replies_are = stops.replies_are;
    stops = cut_as stops.exchanges stops.unread stops.pending stops.stops;
    cut = stops.cut;
    written_is = stops.written_is;
  }

  stop_as : (input written : List ℕ) (fault : StreamFault) → ConnectionStops one input written fault two → ConnectionStops old input written fault new
  stop_as input written Memory stops = (stops.0, stops.1, stays_as stops.2)
  stop_as input written Read stops = reading_as input written stops
  stop_as input written Write stops = writing_as input written stops
  stop_as input written Log stops = (writing_as input written stops.0, sym log_as ∙ stops.1)

  pub comes_as : (before after held holds : Option (List ℕ)) (outcome : Result Served StreamFault) → ComesTo one before after held holds outcome two
      → ComesTo old before after held holds outcome new
  comes_as before after held holds (Ok served) it = (it.0, it.1, it.2, it.3, stream_as it.0 it.1 served it.4)
  comes_as before after held holds (Err fault) it = (it.0, it.1, it.2, it.3, stop_as it.0 it.1 fault it.4)

  pipes_as : (reads held holds : Option (List ℕ)) (status : ℕ) → Pipes one reads held holds status two → Pipes old reads held holds status new
  pipes_as reads held holds status it = (it.0, it.1, it.2, it.3, it.4, it.5, stream_as it.2 it.3 it.0 it.6)

  pub pipe_as : (Told : Failure → Type 0) (before after held holds : Option (List ℕ)) (status : ℕ) → EndsPipe Told one before after held holds status two
      → EndsPipe Told old before after held holds status new
  pipe_as Told before after held holds status ends = (
    λ differs. let it = ends.0 differs in (pipes_as before held holds status it.0, sym log_as ∙ it.1),
    λ same. elim (ends.1 same) [
      | inl it ↦
          let P : Bool → Type 0 = λ b. Told (Stream (record { fault = told_fault b it.0 })) in
          inl (it.0, it.1, it.2, it.3, it.4, stop_as it.1 it.2 it.0 it.5, subst P log_as it.6)
      | inr it ↦ inr (it.0, pipes_as before held holds it.0 it.1, sym log_as ∙ it.2, it.3)
    ],
  )
