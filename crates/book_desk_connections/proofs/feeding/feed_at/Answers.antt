use Rattle.book_desk_connections.proofs.Common.{◌≡◌, ◌<◌, ℕ, List, ◌++◌, map, Option, Some, None, refl, sym, ap, subst, ◌∙◌, arith, length, Accepted, AreServed, Holds, entries, receives}
use Rattle.std.proofs.Common.{◌⊎◌, [], inl, inr, true, false, Result, Err, slice_set}
use Rattle.book_wire.specs.Connection.{View}
use Rattle.book_wire.specs.Stream.{Exchange, IsPartial, answered_of}
use Rattle.std.proofs.lemmas.List.{get_or-set_same, length-set}
use Rattle.book_wire_serving.specs.Serving.{Answered, Runs, Serving, Stays}
use Rattle.book_wire_serving.specs.declared.faults.StreamFault.{StreamFault}
use Rattle.book_wire_serving.specs.declared.faults.StreamFault.TheVariants.{Memory, Read, Write, Log}
use Rattle.book_wire.specs.Turn.{StopsBy}
use Rattle.book_desk_connections.proofs.Histories.{feeds, loses, starves, set_again, holds_read, holds_one, same_closing}
use Rattle.book_wire_serving.proofs.Servings.{runs_none, runs_then}
use Rattle.book_desk_connections.proofs.feeding.feed_at.Goals as goal

turned : (old mid new : Serving) (answered : List Answered) → Stays old mid → Runs mid new answered → Runs old new answered
turned old mid new answered stays runs = runs_then old mid new [] answered (runs_none old mid stays) runs

memory_or_not : (fault : StreamFault) → (fault ≡ Memory) ⊎ (fault ≡ Memory → ⊥)
memory_or_not Memory = inl refl
memory_or_not Read = inr (λ e. cc)
memory_or_not Write = inr (λ e. cc)
memory_or_not Log = inr (λ e. cc)

fault_of : (fault : StreamFault) → (◌≡◌) {A = Result ℕ StreamFault} (Err fault) (Err Log) → fault ≡ Log
fault_of fault e = cc

log_differs : Log ≡ Memory → ⊥
log_differs e = cc

pub returns-in-Ok-clause-served : goal.returns-in-Ok-clause-served
returns-in-Ok-clause-served g c l at histories log opened s =
    let places = c.args.places.now.items in
    let i = c.args.place in
    let bytes = c.args.bytes.now in
    let was = c.in-Some.accepted in
    let now : Accepted = record { number = was.number; connection = c.feed.new.self } in
    let r = c.requires in
    let holds : Holds places i was = holds_read places i _ _ was r.1.0 c.index_mut.ensures.value c.replace.ensures.value c.in-Some.is in
    let fed = c.in-Ok.ensures.ok in
    let x = feeds _ _ histories log opened places i was now bytes fed.0 fed.1 s holds (same_closing places i r.0 was r.1 holds r.2) refl fed.3 fed.4 in
    let P : List (Option Accepted) → Type 0 = λ t. AreServed (receives histories was.number bytes) (log ++ entries was.number x.0) opened t in
    let again = sym (set_again places i c.replace.new.dest (Some now)) in
    let Q : Accepted → Type 0 = λ t. (later : List Exchange) × AreServed (receives histories t.number bytes) (log ++ entries t.number later) opened (slice_set (slice_set places i c.replace.new.dest) i (Some now))
    × Runs (g.M.Service.serving c.args.service.now) (g.M.Service.serving c.feed.new.service) (map answered_of later) in
    subst Q (holds_one places i was l holds at) (x.0, subst P again x.1, turned _ _ _ (map answered_of x.0) c.turn_to.ensures x.2)

pub returns-in-Err-clause-served : goal.returns-in-Err-clause-served
returns-in-Err-clause-served g c l at histories log opened s =
    let places = c.args.places.now.items in
    let i = c.args.place in
    let bytes = c.args.bytes.now in
    let was = c.in-Some.accepted in
    let r = c.requires in
    let holds : Holds places i was = holds_read places i _ _ was r.1.0 c.index_mut.ensures.value c.replace.ensures.value c.in-Some.is in
    let stayed = same_closing places i r.0 was r.1 holds r.2 in
    let P : Option Accepted → Type 0 = λ t. (later : List Exchange) × AreServed (receives histories was.number bytes) (log ++ entries was.number later) opened (slice_set places i t)
    × Runs (g.M.Service.serving c.args.service.now) (g.M.Service.serving c.feed.new.service) (map answered_of later) in
    let Q : Accepted → Type 0 = λ t. (later : List Exchange) × AreServed (receives histories t.number bytes) (log ++ entries t.number later) opened (slice_set places i c.replace.new.dest)
    × Runs (g.M.Service.serving c.args.service.now) (g.M.Service.serving c.feed.new.service) (map answered_of later) in
    let e = c.in-Err.ensures in
    let x : (later : List Exchange) × AreServed (receives histories was.number bytes) (log ++ entries was.number later) opened (slice_set places i None)
    × Runs (g.M.Service.serving c.turn_to.new.self) (g.M.Service.serving c.feed.new.service) (map answered_of later) = elim (memory_or_not c.in-Err.fault) [
      | inl is ↦ starves _ _ histories log opened places i was bytes s holds stayed (e.memory (ap Err is)).1
      | inr not ↦ (let stops = e.stops not in loses _ _ histories log opened places i was bytes stops.1 s holds stayed stops.3)
    ] in
    subst Q (holds_one places i was l holds at)
    (subst P (sym c.replace.ensures.after) (x.0, x.1, turned _ _ _ (map answered_of x.0) c.turn_to.ensures x.2))

pub returns-in-Err-clause-log : goal.returns-in-Err-clause-log
returns-in-Err-clause-log g c log =
    let is : c.in-Err.fault ≡ Log = fault_of c.in-Err.fault log in
    let P : StreamFault → Type 0 = λ t. StopsBy t (g.M.Service.serving c.feed.new.service) in
    subst P is (c.in-Err.ensures.stops (λ e. log_differs (sym is ∙ e))).0

pub returns-in-Ok-clause-there : goal.returns-in-Ok-clause-there
returns-in-Ok-clause-there g c l at =
    let places = c.args.places.now.items in
    let i = c.args.place in
    let v : View = c.feed.new.self in
    let now : Accepted = record { number = c.in-Some.accepted.number; connection = v } in
    let within = c.requires.1.0 in
    let was = c.in-Some.accepted in
    let holds : Holds places i was = holds_read places i _ _ was within c.index_mut.ensures.value c.replace.ensures.value c.in-Some.is in
    let Q : List (Option Accepted) → Type 0 = λ t. Holds t i now in
    let put : Holds (slice_set places i (Some now)) i now =
    (omega (arith, within, length-set places i (Some now)), get_or-set_same places i (Some now) None within) in
    let fed = c.in-Ok.ensures.ok.4 in
    let some = c.most_of_one-most.ensures.some in
    let many = c.in-Ok.ensures.stalled in (
      now,
      subst Q (sym (set_again places i c.replace.new.dest (Some now))) put,
      ap (λ (a : Accepted). a.number) (holds_one places i was l holds at),
      λ open_still. (elim v.stalled as (λ b. v.stalled ≡ b → IsPartial v.unread ⊎ (0 < length v.unsent)) [
        | true ↦ λ e. inr (omega (arith, many e, some))
        | false ↦ λ e. inl (fed.waits open_still e)
      ]) refl,
    )

pub returns-in-Err-clause-gone : goal.returns-in-Err-clause-gone
returns-in-Err-clause-gone g c =
    let places = c.args.places.now.items in
    let i = c.args.place in
    get_or-set_same places i c.replace.new.dest None c.requires.1.0 ∙ c.replace.ensures.after
