-- What connections did to the Office, however they ended, is what a run of requests does.
use Rattle.book_desk_serving.proofs.Common.{◌≡◌, ◌∷◌, [], ◌++◌, ℕ, List, true, Ok, Err, Option, refl, sym, subst, ◌∙◌, inl, inr, Consumes, Served, StreamFault}
use Rattle.std.proofs.Common.{◌≢◌, Bool, false, cond, length, Result, ap, ap₂, map}
use Rattle.std.proofs.lemmas.Bool.{false≢true}
use Rattle.std.proofs.lemmas.List.{length-map}
use Rattle.std.proofs.Common.{append_assoc, append-nil}
use Rattle.std.proofs.KnownBytes.{Appends-kept, Appends-nil, Appends-trans, Consumes-kept, Consumes-nil}
use Rattle.std.specs.Io.KnownBytes.{Appends, Keeps}
use Rattle.book_wire_serving.specs.Serving.{Answered, Runs, Serving, Stays}
use Rattle.book_wire.specs.Stream.{answered_of}
use Rattle.book_wire.specs.Turn.{StopsReading, StopsWriting}
use Rattle.book_wire_serving.specs.declared.faults.StreamFault.TheVariants.{Memory, Read, Write, Log}
use Rattle.book_wire_serving.proofs.Servings.{runs_none, runs_then, stays, still_then}
use Rattle.book_desk_serving.specs.Connections.{AreConnections, ComesTo, AreAllServed, AreLogged, EndUnlogged, ServedConnection, ConnectionStops, IsConnection, had_no_fault, line_of_connection, lines_of_connections, none_had_a_fault, outcomes_of}
use Rattle.book_desk_app.specs.Telling.{Tells}
use Rattle.book_desk_serving.proofs.Alike.{comes_as}

abbrev Outcome : Type 0
Outcome = Result Served StreamFault

-- ---- one connection

pub stopped : (old new : Serving) (before after out sent : Option (List ℕ)) (fault : StreamFault)
    → (fault ≡ Memory → Stays old new × Keeps before after × Keeps out sent)
    → (fault ≡ Read → (input : List ℕ) × (written : List ℕ) × Consumes before after input × Appends out sent written × StopsReading old input written new)
    → (fault ≡ Write → (input : List ℕ) × (written : List ℕ) × Consumes before after input × Appends out sent written × StopsWriting old input written new)
    → (fault ≡ Log → (input : List ℕ) × (written : List ℕ) × Consumes before after input × Appends out sent written × StopsWriting old input written new
    × (new.log.failed ≡ true))
    → (input : List ℕ) × (written : List ℕ) × Consumes before after input × Appends out sent written × ConnectionStops old input written fault new
stopped old new before after out sent Memory memory read write log =
    let m = memory refl in
    ([], [], Consumes-kept before before after [] (Consumes-nil before) m.1, Appends-kept out out sent [] (Appends-nil out) m.2, (refl, refl, m.0))
stopped old new before after out sent Read memory read write log = read refl
stopped old new before after out sent Write memory read write log = write refl
stopped old new before after out sent Log memory read write log = (let x = log refl in (x.0, x.1, x.2, x.3, (x.4, x.5)))

writing_runs : (old new : Serving) (input written : List ℕ) → StopsWriting old input written new → (answered : List Answered) × Runs old new answered
writing_runs old new input written c = elim c.stops [
  | inl x ↦ (map answered_of (c.exchanges ++ x.0 ∷ []), x.5)
  | inr y ↦ (map answered_of c.exchanges, y.4)
]

one_runs : (old new : Serving) (before after held holds : Option (List ℕ)) (outcome : Outcome)
    → ComesTo old before after held holds outcome new → (answered : List Answered) × Runs old new answered
one_runs old new before after held holds (Ok served) c = (map answered_of c.4.2.exchanges, c.4.2.runs)
one_runs old new before after held holds (Err Memory) c = ([], runs_none old new c.4.2)
one_runs old new before after held holds (Err Read) c = (map answered_of c.4.so_far.exchanges, c.4.so_far.answers.runs)
one_runs old new before after held holds (Err Write) c = writing_runs old new c.0 c.1 c.4
one_runs old new before after held holds (Err Log) c = writing_runs old new c.0 c.1 c.4.0

pub stays_then : (a b c : Serving) → Stays a b → Stays b c → Stays a c
stays_then a b c x y = record { still = still_then a.standing b.standing c.standing x.still y.still; log = y.log ∙ x.log }

-- the service was turned to it first
pub turned : (old mid new : Serving) (before after held holds : Option (List ℕ)) (outcome : Outcome) → Stays old mid
    → ComesTo mid before after held holds outcome new → ComesTo old before after held holds outcome new
turned old mid new before after held holds outcome stays_so comes =
    comes_as mid new old new (λ answered runs. runs_then old mid new [] answered (runs_none old mid stays_so) runs)
    (λ more. stays_then old mid new stays_so more) refl before after held holds outcome comes

-- ---- connections in turn

module _ {S : Type 0} (remaining contents : S → Option (List ℕ)) {M : Type 0} (serving : M → Serving) where
  pub connections_run : (old new : M) (connections : List (ServedConnection S))
      → AreConnections remaining contents serving old connections new → (answered : List Answered) × Runs (serving old) (serving new) answered
  connections_run old new [] same =
      ([], runs_none (serving old) (serving new) (subst (λ k. Stays (serving old) (serving k)) (sym same) (stays (serving old))))
  connections_run old new (one ∷ more) c =
      let first =
      one_runs (serving old) (serving c.0) (remaining one.reader) (remaining one.reader_left) (contents one.writer) (contents one.writer_left) one.outcome c.1 in
      let rest = connections_run c.0 new more c.2 in
      (first.0 ++ rest.0, runs_then (serving old) (serving c.0) (serving new) first.0 rest.0 first.1 rest.1)

  pub one_more : (old between new : M) (connections : List (ServedConnection S)) (last : ServedConnection S)
      → AreConnections remaining contents serving old connections between → IsConnection remaining contents (serving between) last (serving new)
      → AreConnections remaining contents serving old (connections ++ last ∷ []) new
  one_more old between new [] last same is = (new, subst (λ k. IsConnection remaining contents (serving k) last (serving new)) same is, refl)
  one_more old between new (first ∷ more) last c is = (c.0, c.1, one_more c.0 between new more last c.2 is)

pub outcomes_more : {S : Type 0} (connections : List (ServedConnection S)) (last : ServedConnection S)
    → outcomes_of (connections ++ last ∷ []) ≡ outcomes_of connections ++ last.outcome ∷ []
outcomes_more [] last = refl
outcomes_more (c ∷ more) last = ap (λ rest. c.outcome ∷ rest) (outcomes_more more last)

none_more : (outcomes : List Outcome) (outcome : Outcome)
    → none_had_a_fault (outcomes ++ outcome ∷ []) ≡ cond (none_had_a_fault outcomes) (had_no_fault outcome) false
none_more [] outcome = elim (had_no_fault outcome) as (λ b. cond b true false ≡ b) [ true ↦ refl | false ↦ refl ]
none_more (first ∷ more) outcome =
    elim (had_no_fault first) as (λ b. cond b (none_had_a_fault (more ++ outcome ∷ [])) false ≡ cond (cond b (none_had_a_fault more) false) (had_no_fault outcome) false) [
      | true ↦ none_more more outcome
      | false ↦ refl
    ]

both : (x y : Bool) → cond y x false ≡ cond x y false
both true true = refl
both true false = refl
both false true = refl
both false false = refl

-- none had a fault so far, and the last one had none
pub sound_after : (outcomes : List Outcome) (outcome : Outcome) (before sound : Bool)
    → before ≡ none_had_a_fault outcomes → sound ≡ had_no_fault outcome → cond sound before false ≡ none_had_a_fault (outcomes ++ outcome ∷ [])
sound_after outcomes outcome before sound b s =
    both before sound ∙ ap₂ (λ x y. cond x y false) b s ∙ sym (none_more outcomes outcome)

-- a line of the log that could not be written is a fault
pub length_of : {S : Type 0} (connections : List (ServedConnection S)) → length (outcomes_of connections) ≡ length connections
length_of {S} connections = length-map connections (λ (c : ServedConnection S). c.outcome)

logged_more : (outcomes : List Outcome) (outcome : Outcome) → AreLogged outcomes → outcome ≢ Err Log → AreLogged (outcomes ++ outcome ∷ [])
logged_more [] outcome all is = (is, tt)
logged_more (first ∷ more) outcome all is = (all.0, logged_more more outcome all.1 is)

pub logged_after : (outcomes : List Outcome) (outcome : Outcome) (all : List Outcome) → all ≡ outcomes ++ outcome ∷ [] → AreLogged outcomes → outcome ≢ Err Log → AreLogged all
logged_after outcomes outcome all is so_far logged = (let P : List Outcome → Type 0 = λ t. AreLogged t in subst P (sym is) (logged_more outcomes outcome so_far logged))

unlogged_is_fault : (outcomes : List Outcome) → EndUnlogged outcomes → none_had_a_fault outcomes ≡ true → ⊥
unlogged_is_fault outcomes ended none =
    let P : List Outcome → Type 0 = λ os. none_had_a_fault os ≡ true in
    false≢true (sym (none_more ended.0 (Err Log) ∙ never (none_had_a_fault ended.0)) ∙ subst P ended.1 none)
  where
    never : (b : Bool) → cond b false false ≡ false
    never true = refl
    never false = refl

-- where none had a fault all came
pub all_came : {S : Type 0} (count : ℕ) (connections : List (ServedConnection S)) → AreAllServed count (outcomes_of connections)
    → none_had_a_fault (outcomes_of connections) ≡ true → length connections ≡ count
all_came count connections (inl came) none = sym (length_of connections) ∙ came.0
all_came count connections (inr ended) none = absurd (unlogged_is_fault (outcomes_of connections) ended none)

-- ---- what is told of them

lines_more : (outcomes : List Outcome) (outcome : Outcome) → lines_of_connections (outcomes ++ outcome ∷ []) ≡ lines_of_connections outcomes ++ line_of_connection outcome
lines_more [] outcome = append-nil (line_of_connection outcome)
lines_more (first ∷ more) outcome =
    ap (λ lines. line_of_connection first ++ lines) (lines_more more outcome) ∙ sym (append_assoc (line_of_connection first) (lines_of_connections more) (line_of_connection outcome))

-- two texts that are told one after the other
pub tells_then : (a b c : Bool) (x y z : Option (List ℕ)) (first second : List ℕ) → Tells a b x y first → Tells b c y z second → Tells a c x z (first ++ second)
tells_then a b c x y z first second one two = record {
  before = λ whole. one.before (two.before whole);
  told = λ whole. Appends-trans x y z first second (one.told (two.before whole)) (two.told whole);
}

pub told_after : (outcomes : List Outcome) (outcome : Outcome) (all : List Outcome) (a b c : Bool) (x y z : Option (List ℕ)) → all ≡ outcomes ++ outcome ∷ []
    → Tells a b x y (lines_of_connections outcomes) → Tells b c y z (line_of_connection outcome) → Tells a c x z (lines_of_connections all)
told_after outcomes outcome all a b c x y z is one two =
    subst (λ lines. Tells a c x z lines) (sym (ap lines_of_connections is ∙ lines_more outcomes outcome)) (tells_then a b c x y z _ _ one two)
