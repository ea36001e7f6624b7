-- The loop, a change at a time.
use Rattle.std.proofs.Common.{zero, suc, slice_set, ◌≡◌, ◌≢◌, ◌⊎◌, ℕ, ◌+◌, ◌<◌, ◌≤◌, inl, inr, Bool, true, false, is_some, List, [], ◌∷◌, ◌++◌, length, get_or, map, Option, Some, None, Result, Ok, Err, refl, sym, ap, subst, ◌∙◌, arith, append_assoc, append-nil}
use Rattle.std.proofs.lemmas.Bool.{cases_eq, false≢true}
use Rattle.std.proofs.lemmas.List.{get_or_default, get_or_past, get_or-set_same, get_or-set_other}
use Rattle.std.specs.Prelude.{IfOk, IfSome, OnOk}
use Rattle.book_wire_serving.specs.Serving.{Runs, Serving}
use Rattle.book_wire.specs.Connection.{View}
use Rattle.book_wire.specs.Stream.{Exchange, IsPartial, Waits, answered_of}
use Rattle.book_wire_serving.specs.declared.faults.StreamFault.{StreamFault}
use Rattle.book_wire_steps.specs.Steps.{OnlyAdopts}
use Rattle.book_wire_steps.proofs.Takes.{only_sound}
use Rattle.book_desk_loop.specs.Closing.{DropsSome}
use Rattle.book_desk_connections.specs.ManyConnections.{History, nothing, Entry, AreServed, IsThere, Holds, OthersStay, entries, grows, own, number_at}
use Rattle.book_desk_connections.specs.Rounds.{AreOfThose, GoesOnAt, IsBackAt, KeepsRound, LeavesAt, StaysOpenAt, TriesRound}
use Rattle.book_desk_connections.specs.Streams.{HasNoWhole, IsMoved, WasAtEnd, IsDoneAt, IsIdleAt, IsAnsweredAt, IsStillAt, IsWithinAt}
use Rattle.book_desk_connections.specs.Streams.IsMoved.{rests, moves_on}
use Rattle.book_desk_loop.specs.Serving.{Line, line_at, line_of, LinesStay, OtherLinesStay, ToldFault, told_of, count_unopened, AreCounted, HaveCome, HaveAllCome, IsCutShort, IsOneFewer, count_held, IsCarriedBy, MayGiveWayAt, MayGo, MayGoAt, WasLetGo, AreInSteps, AreKept, IsKept, KeepsOn, GoesOn, RestStays, LetsGo, TurnsAt, Begins, BeginsAt, BeginsNone, EndsSo, HasFailedLog, HasSoundLog, StoreHasFailed, AreServedAtOnce}
use Rattle.book_desk_connections.specs.declared.connections.Accepted.{Accepted}
use Rattle.book_desk_connections.specs.declared.connections.Connections.{Connections}
use Rattle.book_desk_connections.specs.declared.feeding.Lost.{Lost}
use Rattle.book_desk_connections.specs.declared.moves.Turn.{Turn}
use Rattle.book_desk_connections.specs.declared.moves.Turn.TheVariants.{Waits as Waiting, Again as Going, Done, Ended, Failed}
use Rattle.book_desk_loop.specs.declared.limits.Limits.{Limits}
use Rattle.book_desk_loop.specs.declared.limits.Ended.{Ended as Rounds}
use Rattle.book_desk_loop.specs.declared.limits.Ended.TheVariants as rounds
use Rattle.book_desk_loop.specs.declared.limits.Stop.{Stop}
use Rattle.book_desk_loop.specs.declared.limits.Stop.TheVariants.{Log as StopsForLog, Store as StopsForStore}
use Rattle.book_desk_loop.specs.declared.looping.Server.{Server}
use Rattle.book_desk_loop.specs.declared.sockets.Socket.{Socket}
use Rattle.book_desk_connections.proofs.Histories.{history_here, history_there, own_append, own_there, holds_one, number_held, nobody}
use Rattle.book_desk_connections.proofs.Fed.{back_served, holds_of, nobody_there}
use Rattle.book_desk_loop.proofs.Drops.{drops_none, drops_then}
use Rattle.book_desk_loop.proofs.Steps.{steps_adopted, steps_none, steps_read, steps_round, steps_tried, steps_turn}
use Rattle.book_desk_loop.proofs.Told.{told_twice, one_told, told_here, told_there, told_elsewhere, unopened_one}

pub some_any : {A : Type 0} (P : Type 0) (o : Option A) → P → IfSome o (λ x. P)
some_any {A} P None p = tt
some_any {A} P (Some x) p = p

-- ---- places and lines

pub held_or_not : (places : List (Option Accepted)) (i : ℕ) → (get_or places i None ≡ None) ⊎ ((l : Accepted) × Holds places i l)
held_or_not places i = (elim (get_or places i None) as (λ x. get_or places i None ≡ x → (get_or places i None ≡ None) ⊎ ((l : Accepted) × Holds places i l)) [
  | None ↦ λ e. inl e
  | Some l ↦ λ e. inr (l, holds_of places i l e)
]) refl

pub no_line : {S : Type 0} (m : Line S) → (◌≡◌) {A = Option (Line S)} None (Some m) → ⊥
no_line {S} m e = cc

pub same_line : {S : Type 0} (a b : Line S) (x : Option (Line S)) → x ≡ Some a → x ≡ Some b → a ≡ b
same_line {S} a b x e f = some_same (sym e ∙ f)
  where
    some_same : (◌≡◌) {A = Option (Line S)} (Some a) (Some b) → a ≡ b
    some_same e = cc

still_holds : (i j : ℕ) (old new : List (Option Accepted)) (l : Accepted) → OthersStay i old new → (j ≡ i → ⊥) → Holds new j l → Holds old j l
still_holds i j old new l stays far h = holds_of old j l (sym (stays.stay j far) ∙ h.1)

then_holds : (i j : ℕ) (old new : List (Option Accepted)) (l : Accepted) → OthersStay i old new → (j ≡ i → ⊥) → Holds old j l → Holds new j l
then_holds i j old new l stays far h = holds_of new j l (stays.stay j far ∙ h.1)

-- held at a place where nobody is
not_at : (i j : ℕ) (places : List (Option Accepted)) (l : Accepted) → get_or places i None ≡ None → Holds places j l → j ≡ i → ⊥
not_at i j places l none h at =
    let P : ℕ → Type 0 = λ n. get_or places n None ≡ Some l in
    nobody_there l (sym none ∙ subst P at h.1)

-- a connection of that number is there, or none
abbrev pub HasNumber : ℕ → List (Option Accepted) → Type 0
HasNumber k places = (i : ℕ) × (l : Accepted) × Holds places i l × (l.number ≡ k)

pub number_or_not : (k : ℕ) (places : List (Option Accepted)) → HasNumber k places ⊎ ((i : ℕ) (l : Accepted) → Holds places i l → l.number ≢ k)
number_or_not k [] = inr (λ i l h. absurd (omega (arith, h.0)))
number_or_not k (x ∷ places) = elim (first x) [
  | inl here ↦ inl (zero, here.0, holds_of (x ∷ places) zero here.0 here.1, here.2)
  | inr not ↦ elim (number_or_not k places) [
    | inl there ↦ inl (suc there.0, there.1, holds_of (x ∷ places) (suc there.0) there.1 there.2.1, there.3)
    | inr none ↦ inr (nowhere not none)
  ]
]
  where
    first : (y : Option Accepted) → ((l : Accepted) × (y ≡ Some l) × (l.number ≡ k)) ⊎ ((l : Accepted) → y ≡ Some l → l.number ≢ k)
    first None = inr (λ l e. absurd (nobody_there l e))
    first (Some m) = elim (cases_eq m.number k) [
      | inl is ↦ inl (m, refl, is)
      | inr differs ↦ inr (λ l e same. differs (ap (λ (t : Accepted). t.number) (some_one m l e) ∙ same))
    ]
      where
        some_one : (a b : Accepted) → (◌≡◌) {A = Option Accepted} (Some a) (Some b) → a ≡ b
        some_one a b e = cc

    nowhere : ((l : Accepted) → x ≡ Some l → l.number ≢ k) → ((i : ℕ) (l : Accepted) → Holds places i l → l.number ≢ k)
        → (i : ℕ) (l : Accepted) → Holds (x ∷ places) i l → l.number ≢ k
    nowhere not none zero l h same = not l h.1 same
    nowhere not none (suc i) l h same = none i l (holds_of places i l h.1) same

cases_true : (b : Bool) → (b ≡ true) ⊎ (b ≡ false)
cases_true true = inl refl
cases_true false = inr refl

-- ---- one connection's share of what was done

-- the number of one that could not be served
abbrev pub number_unbegun : (old new : ℕ) → (new ≡ old) ⊎ (new ≡ old + 1) → Option ℕ
number_unbegun old new (inl same) = None
number_unbegun old new (inr more) = Some old

share_there : (j k : ℕ) (log : List Entry) (more : List Exchange) (histories : ℕ → History) (came went : List ℕ) → (j ≡ k → ⊥)
    → (own j (log ++ entries k more) ≡ own j log) × (grows histories k came went j ≡ histories j)
share_there j k log more histories came went far = (
  own_there j k log more far,
  history_there histories j k (record { received = (histories k).received ++ came; sent = (histories k).sent ++ went }) far,
)

share_here : (k : ℕ) (histories : ℕ → History) (came went : List ℕ)
    → grows histories k came went k ≡ record { received = (histories k).received ++ came; sent = (histories k).sent ++ went }
share_here k histories came went = history_here histories k (record { received = (histories k).received ++ came; sent = (histories k).sent ++ went })

module _ {S : Type 0} (remaining contents : S → Option (List ℕ)) where
  -- one that may give its place may go
  pub way_goes : (limits : Limits) (places : List (Option Accepted)) (sockets : List (Option (Socket S))) (place : ℕ)
      → MayGiveWayAt places sockets place → MayGoAt remaining contents limits places sockets place
  way_goes limits places sockets place x = (x.0, x.1, reason x.2)
    where
      reason : (x.0.lingers ≡ true) ⊎ ((x.0.lingers ≡ false) × IsIdleAt places place) ⊎ ((x.0.lingers ≡ false) × IsWithinAt places place)
          → (x.0.lingers ≡ true)
          ⊎ ((x.0.lingers ≡ false) × IsIdleAt places place)
          ⊎ ((x.0.lingers ≡ false) × (x.0.at_end ≡ true) × IsAnsweredAt places place)
          ⊎ ((x.0.lingers ≡ false) × (limits.idle ≢ None))
          ⊎ ((x.0.lingers ≡ false) × IsWithinAt places place)
      reason (inl lingers) = inl lingers
      reason (inr (inl idle)) = inr (inl idle)
      reason (inr (inr within)) = inr (inr (inr (inr within)))

  was_let_go_as : (limits : Limits) (faults : List StreamFault) (es fs : List Exchange) (p q : History) → fs ≡ es → q ≡ p
      → WasLetGo remaining contents limits faults es p → WasLetGo remaining contents limits faults fs q
  was_let_go_as limits faults es fs p q e f x =
      let P : List Exchange → Type 0 = λ t. WasLetGo remaining contents limits faults t q in
      let Q : History → Type 0 = λ t. WasLetGo remaining contents limits faults es t in
      subst P (sym e) (subst Q (sym f) x)

  told_as : (limits : Limits) (faults others : List StreamFault) (es : List Exchange) (history : History) → others ≡ faults
      → WasLetGo remaining contents limits faults es history → WasLetGo remaining contents limits others es history
  told_as limits faults others es history e x =
      let P : List StreamFault → Type 0 = λ t. WasLetGo remaining contents limits t es history in
      subst P (sym e) x

  -- it might go, and went as it was
  went_as_it_was : (limits : Limits) (faults : List StreamFault) (es : List Exchange) (history : History) (l : Accepted) (line : Line S)
      (places : List (Option Accepted)) (sockets : List (Option (Socket S))) (place : ℕ)
      → faults ≡ [] → Holds places place l → IsThere es history l.connection → line_at sockets place ≡ Some line → IsCarriedBy remaining contents history l.connection line
      → MayGoAt remaining contents limits places sockets place → WasLetGo remaining contents limits faults es history
  went_as_it_was limits faults es history l line places sockets place none holds there at carried may = record {
    accepted = carried.accepted;
    replied = carried.replied;
    left = line.stream;
    moved = carried.moved;
    why = inl (none, l.connection, there, reason);
  }
    where
      is : may.0 ≡ line
      is = same_line may.0 line (line_at sockets place) may.1 at

      serves : may.0.lingers ≡ false → line.lingers ≡ false
      serves e = ap (λ (t : Line S). t.lingers) (sym is) ∙ e

      no_whole : (m : Accepted) → HasNoWhole m.connection → m.connection.closing ≡ false → IsThere es history m.connection → Waits m.connection.unread
      no_whole m (inl free) stayed is_there = is_there.waits stayed free
      no_whole m (inr empty) stayed is_there = inl empty

      partial_of : (unread : List ℕ) → Waits unread → unread ≢ [] → IsPartial unread
      partial_of unread (inl empty) begun = absurd (begun empty)
      partial_of unread (inr part) begun = part

      reason : MayGo remaining contents limits l.connection carried.replied line.stream
      reason = elim may.2 [
        | inl lingers ↦ inl (carried.lingers (ap (λ (t : Line S). t.lingers) (sym is) ∙ lingers))
        | inr (inl idle) ↦
            let same : idle.1.0 ≡ l = holds_one places place idle.1.0 l idle.1.1 holds in
            inr (inl (
              ap (λ (t : Accepted). t.connection.unread) (sym same) ∙ idle.1.2,
              ap (λ (t : Accepted). t.connection.unsent) (sym same) ∙ idle.1.3,
              carried.served (serves idle.0),
            ))
        | inr (inr (inl ended)) ↦
            let same : ended.2.0 ≡ l = holds_one places place ended.2.0 l ended.2.1 holds in
            let N : Accepted → Type 0 = λ t. HasNoWhole t.connection in
            let stayed : l.connection.closing ≡ false = ap (λ (t : Accepted). t.connection.closing) (sym same) ∙ ended.2.2 in
            inr (inr (inl (
              stayed,
              no_whole l (subst N same ended.2.3) stayed there,
              ap (λ (t : Accepted). t.connection.unsent) (sym same) ∙ ended.2.4,
              carried.at_end (serves ended.0) (ap (λ (t : Line S). t.at_end) (sym is) ∙ ended.1),
              carried.served (serves ended.0),
            )))
        | inr (inr (inr (inl late))) ↦ inr (inr (inr (inl (late.1, carried.served (serves late.0)))))
        | inr (inr (inr (inr within))) ↦
            let same : within.1.0 ≡ l = holds_one places place within.1.0 l within.1.1 holds in
            let stayed : l.connection.closing ≡ false = ap (λ (t : Accepted). t.connection.closing) (sym same) ∙ within.1.2 in
            let begun : l.connection.unread ≢ [] = λ e. within.1.4 (ap (λ (t : Accepted). t.connection.unread) same ∙ e) in
            inr (inr (inr (inr (
              stayed,
              partial_of l.connection.unread (there.waits stayed (ap (λ (t : Accepted). t.connection.stalled) (sym same) ∙ within.1.3)) begun,
              carried.served (serves within.0),
            ))))
      ]

  module _ {M : Type 0} (serving : M → Serving) (limits : Limits) (first : M) where
    -- the streams stay where they are
    pub kept_lines : (faults : List ToldFault) (connections : Connections M) (sockets others : List (Option (Socket S))) (left : Option ℕ) (held : Option S)
        → AreKept remaining contents serving limits first faults connections sockets left held → LinesStay sockets others
        → AreKept remaining contents serving limits first faults connections others left held
    kept_lines faults connections sockets others left held x s = record {
      histories = x.histories;
      log = x.log;
      served = x.served;
      in_steps = x.in_steps;
      here = λ i l h. (let y = x.here i l h in (y.0, s.stay i ∙ y.1, y.2));
      sound = x.sound;
      later = x.later;
      nobody = λ i e. s.stay i ∙ x.nobody i e;
      gone = x.gone;
      came = x.came;
    }

    -- one stream went on
    pub kept_at : (faults : List ToldFault) (connections : Connections M) (sockets others : List (Option (Socket S))) (left : Option ℕ) (held : Option S)
        (place : ℕ) (line line_then : Line S)
        → AreKept remaining contents serving limits first faults connections sockets left held
        → line_at sockets place ≡ Some line → line_at others place ≡ Some line_then → OtherLinesStay place sockets others
        → ((history : History) (l : Accepted) → Holds connections.places.items place l → IsCarriedBy remaining contents history l.connection line
        → IsCarriedBy remaining contents history l.connection line_then)
        → AreKept remaining contents serving limits first faults connections others left held
    kept_at faults connections sockets others left held place line line_then x was is stay carry = record {
      histories = x.histories;
      log = x.log;
      served = x.served;
      in_steps = x.in_steps;
      here = here;
      sound = x.sound;
      later = x.later;
      nobody = nobody_at;
      gone = x.gone;
      came = x.came;
    }
      where
        here : (i : ℕ) (l : Accepted) → Holds connections.places.items i l
            → (m : Line S) × (line_at others i ≡ Some m) × IsCarriedBy remaining contents (x.histories l.number) l.connection m
        here i l h = elim (cases_eq i place) [
          | inl at ↦
              let P : ℕ → Type 0 = λ n. line_at others n ≡ Some line_then in
              let Q : ℕ → Type 0 = λ n. Holds connections.places.items n l in
              let R : ℕ → Type 0 = λ n. line_at sockets n ≡ Some line in
              let y = x.here i l h in
              let same : y.0 ≡ line = same_line y.0 line (line_at sockets i) y.1 (subst R (sym at) was) in
              let C : Line S → Type 0 = λ t. IsCarriedBy remaining contents (x.histories l.number) l.connection t in
              (line_then, subst P (sym at) is, carry (x.histories l.number) l (subst Q at h) (subst C same y.2))
          | inr far ↦ (let y = x.here i l h in (y.0, stay.stay i far ∙ y.1, y.2))
        ]

        nobody_at : (i : ℕ) → get_or connections.places.items i None ≡ None → line_at others i ≡ None
        nobody_at i e = elim (cases_eq i place) [
          | inl at ↦
              let R : ℕ → Type 0 = λ n. line_at sockets n ≡ Some line in
              absurd (no_line line (sym (x.nobody i e) ∙ subst R (sym at) was))
          | inr far ↦ stay.stay i far ∙ x.nobody i e
        ]

    -- a connection that may go is let go
    pub kept_let_go : (faults : List ToldFault) (place : ℕ) (old new : Server M S)
        → AreKept remaining contents serving limits first faults old.connections old.sockets.items old.left old.held
        → LetsGo remaining contents serving place old new
        → MayGoAt remaining contents limits old.connections.places.items old.sockets.items place
        → AreKept remaining contents serving limits first faults new.connections new.sockets.items old.left old.held
    kept_let_go faults place old new x goes may = record {
      histories = x.histories;
      log = x.log;
      served = goes.served x.histories x.log x.served;
      in_steps = rw goes.service x.in_steps;
      here = λ i l h.
          let far : i ≡ place → ⊥ = not_at place i new.connections.places.items l goes.gone h in
          let y = x.here i l (still_holds place i old.connections.places.items new.connections.places.items l goes.others far h) in
          (y.0, goes.lines.stay i far ∙ y.1, y.2);
      sound = λ i l h.
          let far : i ≡ place → ⊥ = not_at place i new.connections.places.items l goes.gone h in
          x.sound i l (still_holds place i old.connections.places.items new.connections.places.items l goes.others far h);
      later = λ k above. (let P : ℕ → Type 0 = λ n. n ≤ k in x.later k (subst P goes.opened above));
      nobody = nobody_at;
      gone = gone;
      came = rw goes.opened x.came;
    }
      where
        nobody_at : (i : ℕ) → get_or new.connections.places.items i None ≡ None → line_at new.sockets.items i ≡ None
        nobody_at i e = elim (cases_eq i place) [
          | inl at ↦ (let P : ℕ → Type 0 = λ n. line_at new.sockets.items n ≡ None in subst P (sym at) goes.line)
          | inr far ↦ goes.lines.stay i far ∙ x.nobody i (sym (goes.others.stay i far) ∙ e)
        ]

        gone : HasSoundLog remaining contents serving new.connections.service → (k : ℕ) → k < new.connections.opened
            → ((i : ℕ) (l : Accepted) → Holds new.connections.places.items i l → l.number ≢ k)
            → WasLetGo remaining contents limits (told_of k faults) (own k x.log) (x.histories k)
        gone sound_log k within none =
            let was_sound : HasSoundLog remaining contents serving old.connections.service =
            (let Sound : M → Type 0 = λ t. HasSoundLog remaining contents serving t in subst Sound goes.service sound_log) in
            let below : k < old.connections.opened = (let P : ℕ → Type 0 = λ n. k < n in subst P goes.opened within) in
            elim (held_or_not old.connections.places.items place) [
              | inl e ↦ absurd (no_line may.0 (sym (x.nobody place e) ∙ may.1))
              | inr held ↦
                  let l = held.0 in
                  elim (cases_eq l.number k) [
                    | inl is ↦
                        let y = x.here place l held.1 in
                        let P : ℕ → Type 0 = λ n. WasLetGo remaining contents limits (told_of n faults) (own n x.log) (x.histories n) in
                        subst P is (went_as_it_was limits (told_of l.number faults) (own l.number x.log) (x.histories l.number) l y.0
                        old.connections.places.items old.sockets.items place (x.sound place l held.1) held.1 (x.served.here place l held.1).1 y.1 y.2 may)
                    | inr differs ↦ x.gone was_sound k below (λ i m h e.
                        elim (cases_eq i place) [
                          | inl at ↦
                              let P : ℕ → Type 0 = λ n. Holds old.connections.places.items n m in
                              let same : l ≡ m = holds_one old.connections.places.items place l m held.1 (subst P at h) in
                              differs (ap (λ (t : Accepted). t.number) same ∙ e)
                          | inr far ↦ none i m (then_holds place i old.connections.places.items new.connections.places.items m goes.others far h) e
                        ])
                  ]
            ]

    -- a turn of a connection that is served: it is there afterwards
    pub kept_turn : (faults : List ToldFault) (place k : ℕ) (old new : Connections M) (sockets others : List (Option (Socket S))) (left : Option ℕ) (held : Option S)
        (l : Accepted) (line line_then : Line S) (came went : List ℕ) (more : List Exchange)
        (x : AreKept remaining contents serving limits first faults old sockets left held)
        → Holds old.places.items place l → l.number ≡ k
        → line_at sockets place ≡ Some line → line.lingers ≡ false
        → line_at others place ≡ Some line_then → line_then.lingers ≡ false → OtherLinesStay place sockets others
        → OthersStay place old.places.items new.places.items → new.opened ≡ old.opened
        → IsMoved remaining contents line.stream came went line_then.stream
        → (line_then.at_end ≡ true → (line.at_end ≡ true → WasAtEnd remaining contents line.stream) → WasAtEnd remaining contents line_then.stream)
        → AreServed (grows x.histories k came went) (x.log ++ entries k more) new.opened new.places.items
        → Runs (serving old.service) (serving new.service) (map answered_of more)
        → IsStillAt place old.places.items new.places.items
        → AreKept remaining contents serving limits first faults new others left held
    kept_turn faults place k old new sockets others left held l line line_then came went more x holds is_k was serves is serves_then stay elsewhere opened moved ended served runs still = record {
      histories = grows x.histories k came went;
      log = x.log ++ entries k more;
      served = served;
      in_steps = steps_turn remaining contents serving limits.is_administered first old.service new.service x.histories x.log k came went more x.in_steps runs;
      here = here;
      sound = sound;
      later = λ j above. (let P : ℕ → Type 0 = λ n. n ≤ j in x.later j (subst P opened above));
      nobody = nobody_at;
      gone = gone;
      came = (let P : ℕ → Type 0 = λ n. HaveCome limits left (n + (count_unopened faults + count_held held)) in subst P (sym opened) x.came);
    }
      where
        number_is : (m : Accepted) → Holds new.places.items place m → m.number ≡ k
        number_is m h = sym (number_held new.places.items place m h) ∙ still.number ∙ number_held old.places.items place l holds ∙ is_k

        sound : (i : ℕ) (m : Accepted) → Holds new.places.items i m → told_of m.number faults ≡ []
        sound i m h = elim (cases_eq i place) [
          | inl at ↦
              let Q : ℕ → Type 0 = λ n. Holds new.places.items n m in
              let R : ℕ → Type 0 = λ n. told_of n faults ≡ [] in
              subst R (is_k ∙ sym (number_is m (subst Q at h))) (x.sound place l holds)
          | inr far ↦ x.sound i m (still_holds place i old.places.items new.places.items m elsewhere far h)
        ]

        carried_before : IsCarriedBy remaining contents (x.histories k) l.connection line
        carried_before =
            let y = x.here place l holds in
            let C : Line S → Type 0 = λ t. IsCarriedBy remaining contents (x.histories l.number) l.connection t in
            let D : ℕ → Type 0 = λ n. IsCarriedBy remaining contents (x.histories n) l.connection line in
            subst D is_k (subst C (same_line y.0 line (line_at sockets place) y.1 was) y.2)

        carried_now : (m : Accepted) → IsCarriedBy remaining contents (grows x.histories k came went k) m.connection line_then
        carried_now m =
            let before = carried_before in
            let had = x.histories k in
            let Moves : S → Type 0 = λ t. IsMoved remaining contents before.accepted had.received had.sent t in
            let grown : History = record { received = had.received ++ came; sent = had.sent ++ went } in
            let C : History → Type 0 = λ t. IsCarriedBy remaining contents t m.connection line_then in
            let now : IsCarriedBy remaining contents grown m.connection line_then = record {
              accepted = before.accepted;
              replied = line_then.stream;
              moved = moves_on before.accepted line.stream line_then.stream had.received had.sent came went (subst Moves (sym (before.served serves)) before.moved) moved;
              served = λ e. refl;
              lingers = λ e. absurd (false≢true (sym serves_then ∙ e));
              at_end = λ e f. ended f (λ h. before.at_end serves h);
            } in
            subst C (sym (share_here k x.histories came went)) now

        here : (i : ℕ) (m : Accepted) → Holds new.places.items i m
            → (n : Line S) × (line_at others i ≡ Some n) × IsCarriedBy remaining contents (grows x.histories k came went m.number) m.connection n
        here i m h = elim (cases_eq i place) [
          | inl at ↦
              let Q : ℕ → Type 0 = λ n. Holds new.places.items n m in
              let R : ℕ → Type 0 = λ n. line_at others n ≡ Some line_then in
              let C : ℕ → Type 0 = λ n. IsCarriedBy remaining contents (grows x.histories k came went n) m.connection line_then in
              (line_then, subst R (sym at) is, subst C (sym (number_is m (subst Q at h))) (carried_now m))
          | inr far ↦
              let before = still_holds place i old.places.items new.places.items m elsewhere far h in
              let other : m.number ≡ k → ⊥ = λ e. far (x.served.apart i place m l before holds (e ∙ sym is_k)) in
              let y = x.here i m before in
              let C : History → Type 0 = λ t. IsCarriedBy remaining contents t m.connection y.0 in
              (y.0, stay.stay i far ∙ y.1, subst C (sym (share_there m.number k x.log more x.histories came went other).1) y.2)
        ]

        nobody_at : (i : ℕ) → get_or new.places.items i None ≡ None → line_at others i ≡ None
        nobody_at i e = elim (cases_eq i place) [
          | inl at ↦
              let P : ℕ → Type 0 = λ n. get_or new.places.items n None ≡ None in
              let m = still.there l holds in
              absurd (nobody_there m.0 (sym (subst P at e) ∙ m.1.1))
          | inr far ↦ stay.stay i far ∙ x.nobody i (sym (elsewhere.stay i far) ∙ e)
        ]

        gone : HasSoundLog remaining contents serving new.service → (j : ℕ) → j < new.opened
            → ((i : ℕ) (m : Accepted) → Holds new.places.items i m → m.number ≢ j)
            → WasLetGo remaining contents limits (told_of j faults) (own j (x.log ++ entries k more)) (grows x.histories k came went j)
        gone sound_log j within none =
            let below : j < old.opened = (let P : ℕ → Type 0 = λ n. j < n in subst P opened within) in
            let m = still.there l holds in
            let other : j ≡ k → ⊥ = λ e. none place m.0 m.1 (number_is m.0 m.1 ∙ sym e) in
            let share = share_there j k x.log more x.histories came went other in
            was_let_go_as limits (told_of j faults) (own j x.log) (own j (x.log ++ entries k more)) (x.histories j) (grows x.histories k came went j) share.0 share.1
            (x.gone (runs.noted.was_sound sound_log) j below (λ i n h e.
            elim (cases_eq i place) [
              | inl at ↦
                  let P : ℕ → Type 0 = λ t. Holds old.places.items t n in
                  let same : l ≡ n = holds_one old.places.items place l n holds (subst P at h) in
                  other (sym e ∙ sym (ap (λ (t : Accepted). t.number) same) ∙ is_k)
              | inr far ↦ none i n (then_holds place i old.places.items new.places.items n elsewhere far h) e
            ]))

    -- after a turn a connection is let go, and of no other more is told
    kept_without : (faults told : List ToldFault) (place k : ℕ) (old new : Connections M) (sockets others : List (Option (Socket S))) (left : Option ℕ) (held : Option S)
        (l : Accepted) (came went : List ℕ) (more : List Exchange)
        (x : AreKept remaining contents serving limits first faults old sockets left held)
        → Holds old.places.items place l → l.number ≡ k
        → line_at others place ≡ None → OtherLinesStay place sockets others
        → get_or new.places.items place None ≡ None → OthersStay place old.places.items new.places.items → new.opened ≡ old.opened
        → AreServed (grows x.histories k came went) (x.log ++ entries k more) new.opened new.places.items
        → Runs (serving old.service) (serving new.service) (map answered_of more)
        → ((j : ℕ) → (j ≡ k → ⊥) → told_of j told ≡ told_of j faults) → count_unopened told ≡ count_unopened faults
        → (HasSoundLog remaining contents serving new.service
        → WasLetGo remaining contents limits (told_of k told) (own k (x.log ++ entries k more)) (grows x.histories k came went k))
        → AreKept remaining contents serving limits first told new others left held
    kept_without faults told place k old new sockets others left held l came went more x holds is_k is stay empty elsewhere opened served runs alike count lost = record {
      histories = grows x.histories k came went;
      log = x.log ++ entries k more;
      served = served;
      in_steps = steps_turn remaining contents serving limits.is_administered first old.service new.service x.histories x.log k came went more x.in_steps runs;
      here = here;
      sound = λ i m h. alike m.number (apart i m h) ∙ x.sound i m (before i m h);
      later = λ j above.
          let P : ℕ → Type 0 = λ n. n ≤ j in
          let past : old.opened ≤ j = subst P opened above in
          let number : l.number < old.opened = (x.served.here place l holds).0 in
          let other : j ≡ k → ⊥ = λ e. absurd (omega (arith, past, number, is_k, e)) in
          alike j other ∙ x.later j past;
      nobody = nobody_at;
      gone = gone;
      came =
          let P : ℕ → ℕ → Type 0 = λ n m. HaveCome limits left (n + (m + count_held held)) in
          subst (λ m. P new.opened m) (sym count) (subst (λ n. P n (count_unopened faults)) (sym opened) x.came);
    }
      where
        elsewhere_is : (i : ℕ) (m : Accepted) → Holds new.places.items i m → i ≡ place → ⊥
        elsewhere_is i m h = not_at place i new.places.items m empty h

        before : (i : ℕ) (m : Accepted) → Holds new.places.items i m → Holds old.places.items i m
        before i m h = still_holds place i old.places.items new.places.items m elsewhere (elsewhere_is i m h) h

        apart : (i : ℕ) (m : Accepted) → Holds new.places.items i m → m.number ≡ k → ⊥
        apart i m h e = elsewhere_is i m h (x.served.apart i place m l (before i m h) holds (e ∙ sym is_k))

        here : (i : ℕ) (m : Accepted) → Holds new.places.items i m
            → (n : Line S) × (line_at others i ≡ Some n) × IsCarriedBy remaining contents (grows x.histories k came went m.number) m.connection n
        here i m h =
            let y = x.here i m (before i m h) in
            let C : History → Type 0 = λ t. IsCarriedBy remaining contents t m.connection y.0 in
            (y.0, stay.stay i (elsewhere_is i m h) ∙ y.1, subst C (sym (share_there m.number k x.log more x.histories came went (apart i m h)).1) y.2)

        nobody_at : (i : ℕ) → get_or new.places.items i None ≡ None → line_at others i ≡ None
        nobody_at i e = elim (cases_eq i place) [
          | inl at ↦ (let P : ℕ → Type 0 = λ n. line_at others n ≡ None in subst P (sym at) is)
          | inr far ↦ stay.stay i far ∙ x.nobody i (sym (elsewhere.stay i far) ∙ e)
        ]

        gone : HasSoundLog remaining contents serving new.service → (j : ℕ) → j < new.opened
            → ((i : ℕ) (m : Accepted) → Holds new.places.items i m → m.number ≢ j)
            → WasLetGo remaining contents limits (told_of j told) (own j (x.log ++ entries k more)) (grows x.histories k came went j)
        gone sound_log j within none = elim (cases_eq j k) [
          | inl at ↦
              let W : ℕ → Type 0 = λ n. WasLetGo remaining contents limits (told_of n told) (own n (x.log ++ entries k more)) (grows x.histories k came went n) in
              subst W (sym at) (lost sound_log)
          | inr other ↦
              let below : j < old.opened = (let P : ℕ → Type 0 = λ n. j < n in subst P opened within) in
              let share = share_there j k x.log more x.histories came went other in
              told_as limits (told_of j faults) (told_of j told) (own j (x.log ++ entries k more)) (grows x.histories k came went j)
              (alike j other)
              (was_let_go_as limits (told_of j faults) (own j x.log) (own j (x.log ++ entries k more)) (x.histories j) (grows x.histories k came went j) share.0 share.1
              (x.gone (runs.noted.was_sound sound_log) j below (λ i n h e.
              elim (cases_eq i place) [
                | inl at ↦
                    let P : ℕ → Type 0 = λ t. Holds old.places.items t n in
                    let same : l ≡ n = holds_one old.places.items place l n holds (subst P at h) in
                    other (sym e ∙ sym (ap (λ (t : Accepted). t.number) same) ∙ is_k)
                | inr far ↦ none i n (then_holds place i old.places.items new.places.items n elsewhere far h) e
              ])))
        ]

    -- a turn of a connection that has a fault: it is let go, and the fault is told
    pub kept_fault : (faults : List ToldFault) (fault : StreamFault) (place k : ℕ) (old new : Connections M) (sockets others : List (Option (Socket S))) (left : Option ℕ) (held : Option S)
        (l : Accepted) (line line_then : Line S) (came went : List ℕ) (more : List Exchange)
        (x : AreKept remaining contents serving limits first faults old sockets left held)
        → Holds old.places.items place l → l.number ≡ k
        → line_at sockets place ≡ Some line → line.lingers ≡ false
        → line_at others place ≡ None → OtherLinesStay place sockets others
        → get_or new.places.items place None ≡ None → OthersStay place old.places.items new.places.items → new.opened ≡ old.opened
        → IsMoved remaining contents line.stream came went line_then.stream
        → AreServed (grows x.histories k came went) (x.log ++ entries k more) new.opened new.places.items
        → Runs (serving old.service) (serving new.service) (map answered_of more)
        → AreKept remaining contents serving limits first (faults ++ one_told (Some k) fault) new others left held
    kept_fault faults fault place k old new sockets others left held l line line_then came went more x holds is_k was serves is stay empty elsewhere opened moved served runs =
        kept_without faults told place k old new sockets others left held l came went more x holds is_k is stay empty elsewhere opened served runs
        (λ j other. told_there j k faults fault other) unopened (λ sound_log. lost)
      where
        told : List ToldFault
        told = faults ++ one_told (Some k) fault

        unopened : count_unopened told ≡ count_unopened faults
        unopened = (let one : count_unopened told ≡ count_unopened faults + 0 = unopened_one faults (Some k) fault in omega (arith, one))

        lost : WasLetGo remaining contents limits (told_of k told) (own k (x.log ++ entries k more)) (grows x.histories k came went k)
        lost =
            let y = x.here place l holds in
            let C : Line S → Type 0 = λ t. IsCarriedBy remaining contents (x.histories l.number) l.connection t in
            let D : ℕ → Type 0 = λ n. IsCarriedBy remaining contents (x.histories n) l.connection line in
            let was_carried = subst D is_k (subst C (same_line y.0 line (line_at sockets place) y.1 was) y.2) in
            let had = x.histories k in
            let Moves : S → Type 0 = λ t. IsMoved remaining contents was_carried.accepted had.received had.sent t in
            let grown : History = record { received = had.received ++ came; sent = had.sent ++ went } in
            let R : ℕ → Type 0 = λ n. told_of n faults ≡ [] in
            let W : History → Type 0 = λ t. WasLetGo remaining contents limits (told_of k told) (own k (x.log ++ entries k more)) t in
            let now : WasLetGo remaining contents limits (told_of k told) (own k (x.log ++ entries k more)) grown = record {
              accepted = was_carried.accepted;
              replied = line_then.stream;
              left = line_then.stream;
              moved = moves_on was_carried.accepted line.stream line_then.stream had.received had.sent came went (subst Moves (sym (was_carried.served serves)) was_carried.moved) moved;
              why = inr (fault, told_here k faults fault (subst R is_k (x.sound place l holds)), refl);
            } in
            subst W (sym (share_here k x.histories came went)) now

    -- the log has failed in a turn: its connection is let go, and nothing is told
    pub kept_stopped : (faults : List ToldFault) (place k : ℕ) (old new : Connections M) (sockets others : List (Option (Socket S))) (left : Option ℕ) (held : Option S)
        (l : Accepted) (came went : List ℕ) (more : List Exchange)
        (x : AreKept remaining contents serving limits first faults old sockets left held)
        → Holds old.places.items place l → l.number ≡ k
        → line_at others place ≡ None → OtherLinesStay place sockets others
        → get_or new.places.items place None ≡ None → OthersStay place old.places.items new.places.items → new.opened ≡ old.opened
        → AreServed (grows x.histories k came went) (x.log ++ entries k more) new.opened new.places.items
        → Runs (serving old.service) (serving new.service) (map answered_of more)
        → HasFailedLog remaining contents serving new.service
        → AreKept remaining contents serving limits first faults new others left held
    kept_stopped faults place k old new sockets others left held l came went more x holds is_k is stay empty elsewhere opened served runs failed =
        kept_without faults faults place k old new sockets others left held l came went more x holds is_k is stay empty elsewhere opened served runs
        (λ j other. refl) refl (λ sound_log. absurd (false≢true (sym sound_log ∙ failed)))

    -- what became of the place of a connection in a round: it goes on beside the same stream, or it is let go, and it is known why
    abbrev pub RoundAt : (told : List ToldFault) (histories : ℕ → History) (log : List Entry) (old new : Connections M) (sockets others : List (Option (Socket S))) (j : ℕ) → Type 0
    RoundAt told histories log old new sockets others j =
        ((line_at others j ≡ line_at sockets j)
        × ((get_or new.places.items j None ≡ get_or old.places.items j None) ⊎ StaysOpenAt j old.places.items new.places.items))
        ⊎ ((line_at others j ≡ None) × (gone : LeavesAt j old.places.items new.places.items)
        × (HasSoundLog remaining contents serving new.service
        → WasLetGo remaining contents limits (told_of gone.was.number told) (own gone.was.number log) (histories gone.was.number)))

    -- a round of connections, of which no byte came or went
    kept_round : (faults told : List ToldFault) (old new : Connections M) (sockets others : List (Option (Socket S))) (left : Option ℕ) (held : Option S) (more : List Entry)
        (x : AreKept remaining contents serving limits first faults old sockets left held)
        → new.opened ≡ old.opened
        → AreServed x.histories (x.log ++ more) new.opened new.places.items → AreOfThose old.places.items more
        → AreInSteps remaining contents serving limits.is_administered first new.service x.histories (x.log ++ more)
        → (HasSoundLog remaining contents serving new.service → HasSoundLog remaining contents serving old.service)
        → ((j : ℕ) → RoundAt told x.histories (x.log ++ more) old new sockets others j)
        → ((i : ℕ) (m : Accepted) → Holds new.places.items i m → told_of m.number told ≡ [])
        → ((k : ℕ) → ((i : ℕ) (l : Accepted) → Holds old.places.items i l → l.number ≢ k) → told_of k told ≡ told_of k faults)
        → count_unopened told ≡ count_unopened faults
        → AreKept remaining contents serving limits first told new others left held
    kept_round faults told old new sockets others left held more x opened served those in_steps was_sound at sound alike count = record {
      histories = x.histories;
      log = x.log ++ more;
      served = served;
      in_steps = in_steps;
      here = λ i m h. here_at i m h (at i);
      sound = sound;
      later = λ k above.
          let P : ℕ → Type 0 = λ n. n ≤ k in
          let past : old.opened ≤ k = subst P opened above in
          let nobody_has : (i : ℕ) (l : Accepted) → Holds old.places.items i l → l.number ≢ k =
          λ i l h e. (let below = (x.served.here i l h).0 in absurd (omega (arith, below, past, e))) in
          alike k nobody_has ∙ x.later k past;
      nobody = λ i e. nobody_at i e (at i);
      gone = gone;
      came =
          let P : ℕ → ℕ → Type 0 = λ n m. HaveCome limits left (n + (m + count_held held)) in
          subst (λ m. P new.opened m) (sym count) (subst (λ n. P n (count_unopened faults)) (sym opened) x.came);
    }
      where
        carried_on : (history : History) (l m : Accepted) (line : Line S) → l.connection.closing ≡ false → IsCarriedBy remaining contents history l.connection line
            → IsCarriedBy remaining contents history m.connection line
        carried_on history l m line open_was c = record {
          accepted = c.accepted;
          replied = c.replied;
          moved = c.moved;
          served = c.served;
          lingers = λ e. absurd (false≢true (sym open_was ∙ (c.lingers e).0));
          at_end = c.at_end;
        }

        here_at : (i : ℕ) (m : Accepted) → Holds new.places.items i m → RoundAt told x.histories (x.log ++ more) old new sockets others i
            → (n : Line S) × (line_at others i ≡ Some n) × IsCarriedBy remaining contents (x.histories m.number) m.connection n
        here_at i m h (inl (line, inl same)) =
            let y = x.here i m (holds_of old.places.items i m (sym same ∙ h.1)) in
            (y.0, line ∙ y.1, y.2)
        here_at i m h (inl (line, inr stays)) =
            let y = x.here i stays.was stays.there_was in
            let is_one : m ≡ stays.is = holds_one new.places.items i m stays.is h stays.there_is in
            let number : stays.was.number ≡ m.number = sym (ap (λ (t : Accepted). t.number) is_one ∙ stays.number) in
            let C : ℕ → Type 0 = λ n. IsCarriedBy remaining contents (x.histories n) m.connection y.0 in
            (y.0, line ∙ y.1, subst C number (carried_on (x.histories stays.was.number) stays.was m y.0 stays.open_was y.2))
        here_at i m h (inr lost) = absurd (nobody_there m (sym lost.1.empty ∙ h.1))

        nobody_at : (i : ℕ) → get_or new.places.items i None ≡ None → RoundAt told x.histories (x.log ++ more) old new sockets others i → line_at others i ≡ None
        nobody_at i e (inl (line, inl same)) = line ∙ x.nobody i (sym same ∙ e)
        nobody_at i e (inl (line, inr stays)) = absurd (nobody_there stays.is (sym e ∙ stays.there_is.1))
        nobody_at i e (inr lost) = lost.0

        gone_at : (k i : ℕ) (l : Accepted) → Holds old.places.items i l → l.number ≡ k
            → ((j : ℕ) (m : Accepted) → Holds new.places.items j m → m.number ≢ k) → HasSoundLog remaining contents serving new.service
            → RoundAt told x.histories (x.log ++ more) old new sockets others i
            → WasLetGo remaining contents limits (told_of k told) (own k (x.log ++ more)) (x.histories k)
        gone_at k i l h is_k none sound_log (inl (line, inl same)) = absurd (none i l (holds_of new.places.items i l (same ∙ h.1)) is_k)
        gone_at k i l h is_k none sound_log (inl (line, inr stays)) =
            let is_one : l ≡ stays.was = holds_one old.places.items i l stays.was h stays.there_was in
            absurd (none i stays.is stays.there_is (stays.number ∙ sym (ap (λ (t : Accepted). t.number) is_one) ∙ is_k))
        gone_at k i l h is_k none sound_log (inr lost) =
            let is_one : l ≡ lost.1.was = holds_one old.places.items i l lost.1.was h lost.1.there_was in
            let number : lost.1.was.number ≡ k = sym (ap (λ (t : Accepted). t.number) is_one) ∙ is_k in
            let W : ℕ → Type 0 = λ n. WasLetGo remaining contents limits (told_of n told) (own n (x.log ++ more)) (x.histories n) in
            subst W number (lost.2 sound_log)

        gone : HasSoundLog remaining contents serving new.service → (k : ℕ) → k < new.opened
            → ((i : ℕ) (m : Accepted) → Holds new.places.items i m → m.number ≢ k)
            → WasLetGo remaining contents limits (told_of k told) (own k (x.log ++ more)) (x.histories k)
        gone sound_log k within none = elim (number_or_not k old.places.items) [
          | inl held_there ↦ gone_at k held_there.0 held_there.1 held_there.2 held_there.3 none sound_log (at held_there.0)
          | inr nobody_has ↦
              let below : k < old.opened = (let P : ℕ → Type 0 = λ n. k < n in subst P opened within) in
              let same : own k (x.log ++ more) ≡ own k x.log =
              own_append k x.log more ∙ ap (λ (t : List Exchange). own k x.log ++ t) (those k nobody_has) ∙ append-nil (own k x.log) in
              told_as limits (told_of k faults) (told_of k told) (own k (x.log ++ more)) (x.histories k) (alike k nobody_has)
              (was_let_go_as limits (told_of k faults) (own k x.log) (own k (x.log ++ more)) (x.histories k) (x.histories k) same refl
              (x.gone (was_sound sound_log) k below nobody_has))
        ]

    -- one that was kept, in which no connection had a fault
    pub kept_whole_round : (faults : List ToldFault) (old new : Connections M) (sockets : List (Option (Socket S))) (left : Option ℕ) (held : Option S)
        → AreKept remaining contents serving limits first faults old sockets left held → KeepsRound serving old new None
        → AreKept remaining contents serving limits first faults new sockets left held
    kept_whole_round faults old new sockets left held x r =
        let y = r.fed.served x.histories x.log old.opened x.served in
        let P : ℕ → Type 0 = λ n. AreServed x.histories (x.log ++ y.0) n new.places.items in
        kept_round faults faults old new sockets sockets left held y.0 x r.opened (subst P (sym r.opened) y.1) y.2
        (steps_round remaining contents serving limits.is_administered first old.service new.service x.histories x.log y.0 x.in_steps y.3)
        y.3.noted.was_sound (λ j. at j (r.fed.places j)) (λ i m h. sound i m h (r.fed.places i)) (λ k none. refl) refl
      where
        at : (j : ℕ) → GoesOnAt None j old.places.items new.places.items
            → RoundAt faults x.histories (x.log ++ (r.fed.served x.histories x.log old.opened x.served).0) old new sockets sockets j
        at j (inl same) = inl (refl, inl same)
        at j (inr (inl stays)) = inl (refl, inr stays)
        at j (inr (inr lost)) = absurd lost.0

        sound : (i : ℕ) (m : Accepted) → Holds new.places.items i m → GoesOnAt None i old.places.items new.places.items → told_of m.number faults ≡ []
        sound i m h (inl same) = x.sound i m (holds_of old.places.items i m (sym same ∙ h.1))
        sound i m h (inr (inl stays)) =
            let is_one : m ≡ stays.is = holds_one new.places.items i m stays.is h stays.there_is in
            let P : ℕ → Type 0 = λ n. told_of n faults ≡ [] in
            subst P (sym (ap (λ (t : Accepted). t.number) is_one ∙ stays.number)) (x.sound i stays.was stays.there_was)
        sound i m h (inr (inr lost)) = absurd lost.0

    -- one that was not kept
    pub kept_tried_round : (faults : List ToldFault) (old new : Connections M) (sockets : List (Option (Socket S))) (left : Option ℕ) (held : Option S)
        → AreKept remaining contents serving limits first faults old sockets left held → TriesRound serving old new
        → AreKept remaining contents serving limits first faults new sockets left held
    kept_tried_round faults old new sockets left held x r =
        let y = r.tried x.histories x.log x.served in
        let P : ℕ → Type 0 = λ n. AreServed x.histories x.log n new.places.items in
        let Q : List Entry → Type 0 = λ t. AreServed x.histories t new.opened new.places.items in
        let R : List Entry → Type 0 = λ t. AreInSteps remaining contents serving limits.is_administered first new.service x.histories t in
        let served : AreServed x.histories x.log new.opened new.places.items =
        subst P (sym r.opened) (back_served x.histories x.log old.opened old.places.items new.places.items x.served r.back) in
        let in_steps = steps_tried remaining contents serving limits.is_administered first old.service new.service x.histories x.log y.0 x.in_steps y.1 y.2 in
        kept_round faults faults old new sockets sockets left held [] x r.opened (subst Q (sym (append-nil x.log)) served) (λ k none. refl)
        (subst R (sym (append-nil x.log)) in_steps) (λ sound_log. was_sound y.2.same_log sound_log)
        (λ j. at j (r.back.at j)) (λ i m h. sound i m h (r.back.at i)) (λ k none. refl) refl
      where
        was_sound : (serving new.service).log ≡ (serving old.service).log → HasSoundLog remaining contents serving new.service → HasSoundLog remaining contents serving old.service
        was_sound same sound_log = sym (ap (λ t. t.failed) same) ∙ sound_log

        opens_back : (j : ℕ) → IsBackAt j old.places.items new.places.items → StaysOpenAt j old.places.items new.places.items
        opens_back j b = record { was = b.was; is = b.is; there_was = b.there_was; there_is = b.there_is; number = b.number; open_was = b.open_was }

        at : (j : ℕ) → (get_or new.places.items j None ≡ get_or old.places.items j None) ⊎ IsBackAt j old.places.items new.places.items
            → RoundAt faults x.histories (x.log ++ []) old new sockets sockets j
        at j (inl same) = inl (refl, inl same)
        at j (inr b) = inl (refl, inr (opens_back j b))

        sound : (i : ℕ) (m : Accepted) → Holds new.places.items i m
            → (get_or new.places.items i None ≡ get_or old.places.items i None) ⊎ IsBackAt i old.places.items new.places.items → told_of m.number faults ≡ []
        sound i m h (inl same) = x.sound i m (holds_of old.places.items i m (sym same ∙ h.1))
        sound i m h (inr b) =
            let is_one : m ≡ b.is = holds_one new.places.items i m b.is h b.there_is in
            let P : ℕ → Type 0 = λ n. told_of n faults ≡ [] in
            subst P (sym (ap (λ (t : Accepted). t.number) is_one ∙ b.number)) (x.sound i b.was b.there_was)

    -- one that was kept, in which one connection had a fault: it was let go, and what was told is of it alone
    kept_lost_round : (faults told : List ToldFault) (old mid new : Connections M) (lost : Lost) (sockets others : List (Option (Socket S))) (left : Option ℕ) (held : Option S)
        (x : AreKept remaining contents serving limits first faults old sockets left held) (r : KeepsRound serving old mid (Some lost))
        → new.service ≡ mid.service → new.opened ≡ mid.opened → get_or new.places.items lost.place None ≡ None
        → OthersStay lost.place mid.places.items new.places.items
        → ((histories : ℕ → History) (log : List Entry) → AreServed histories log mid.opened mid.places.items → AreServed histories log new.opened new.places.items)
        → line_at others lost.place ≡ None → OtherLinesStay lost.place sockets others
        → ((j : ℕ) → (j ≡ (r.fed.gone lost.place refl).was.number → ⊥) → told_of j told ≡ told_of j faults)
        → count_unopened told ≡ count_unopened faults
        → (HasSoundLog remaining contents serving new.service → (log : List Entry)
        → WasLetGo remaining contents limits (told_of (r.fed.gone lost.place refl).was.number told) (own (r.fed.gone lost.place refl).was.number log)
        (x.histories (r.fed.gone lost.place refl).was.number))
        → AreKept remaining contents serving limits first told new others left held
    kept_lost_round faults told old mid new lost sockets others left held x r service opened empty elsewhere served line lines alike count was_let_go =
        let y = r.fed.served x.histories x.log old.opened x.served in
        let P : ℕ → Type 0 = λ n. AreServed x.histories (x.log ++ y.0) n mid.places.items in
        let Sound : M → Type 0 = λ t. HasSoundLog remaining contents serving t in
        let InSteps : M → Type 0 = λ t. AreInSteps remaining contents serving limits.is_administered first t x.histories (x.log ++ y.0) in
        kept_round faults told old new sockets others left held y.0 x (opened ∙ r.opened) (served x.histories (x.log ++ y.0) (subst P (sym r.opened) y.1)) y.2
        (subst InSteps (sym service) (steps_round remaining contents serving limits.is_administered first old.service mid.service x.histories x.log y.0 x.in_steps y.3))
        (λ sound_log. y.3.noted.was_sound (subst Sound service sound_log)) (λ j. at y.0 j) sound
        (λ k none. alike k (λ e. none lost.place gone.was gone.there_was (sym e))) count
      where
        gone : LeavesAt lost.place old.places.items mid.places.items
        gone = r.fed.gone lost.place refl

        at_other : (more : List Entry) (j : ℕ) → (j ≡ lost.place → ⊥) → GoesOnAt (Some lost) j old.places.items mid.places.items
            → RoundAt told x.histories (x.log ++ more) old new sockets others j
        at_other more j far (inl same) = inl (lines.stay j far, inl (elsewhere.stay j far ∙ same))
        at_other more j far (inr (inl stays)) =
            inl (
              lines.stay j far,
              inr (record {
                was = stays.was;
                is = stays.is;
                there_was = stays.there_was;
                there_is = holds_of new.places.items j stays.is (elsewhere.stay j far ∙ stays.there_is.1);
                number = stays.number;
                open_was = stays.open_was;
              }),
            )
        at_other more j far (inr (inr is)) = absurd (far (sym is.0))

        at : (more : List Entry) (j : ℕ) → RoundAt told x.histories (x.log ++ more) old new sockets others j
        at more j = elim (cases_eq j lost.place) [
          | inl here ↦
              let P : ℕ → Type 0 = λ n. RoundAt told x.histories (x.log ++ more) old new sockets others n in
              subst P (sym here) (inr (
                line,
                record { was = gone.was; there_was = gone.there_was; open_was = gone.open_was; empty = empty },
                (λ sound_log. was_let_go sound_log (x.log ++ more)),
              ))
          | inr far ↦ at_other more j far (r.fed.places j)
        ]

        -- each that is there was there, and is another
        before : (i : ℕ) (m : Accepted) → Holds new.places.items i m → (i ≡ lost.place → ⊥) → GoesOnAt (Some lost) i old.places.items mid.places.items
            → (l : Accepted) × Holds old.places.items i l × (m.number ≡ l.number)
        before i m h far (inl same) = (m, holds_of old.places.items i m (sym same ∙ sym (elsewhere.stay i far) ∙ h.1), refl)
        before i m h far (inr (inl stays)) =
            let is_one : m ≡ stays.is = holds_one mid.places.items i m stays.is (holds_of mid.places.items i m (sym (elsewhere.stay i far) ∙ h.1)) stays.there_is in
            (stays.was, stays.there_was, ap (λ (t : Accepted). t.number) is_one ∙ stays.number)
        before i m h far (inr (inr is)) = absurd (far (sym is.0))

        sound : (i : ℕ) (m : Accepted) → Holds new.places.items i m → told_of m.number told ≡ []
        sound i m h =
            let far : i ≡ lost.place → ⊥ = not_at lost.place i new.places.items m empty h in
            let l = before i m h far (r.fed.places i) in
            let other : m.number ≡ gone.was.number → ⊥ = λ e. far (x.served.apart i lost.place l.0 gone.was l.1 gone.there_was (sym l.2 ∙ e)) in
            let P : ℕ → Type 0 = λ n. told_of n faults ≡ [] in
            alike m.number other ∙ subst P (sym l.2) (x.sound i l.0 l.1)

    -- a connection begins with the stream that was held
    pub kept_begin : (faults : List ToldFault) (place : ℕ) (stream : S) (old new : Server M S)
        → AreKept remaining contents serving limits first faults old.connections old.sockets.items old.left (Some stream)
        → Begins remaining contents serving old new → BeginsAt remaining contents serving place stream old new
        → AreKept remaining contents serving limits first faults new.connections new.sockets.items old.left None
    kept_begin faults place stream old new x begins at_place = record {
      histories = x.histories;
      log = x.log;
      served = begins.served x.histories x.log x.served;
      in_steps = rw begins.service x.in_steps;
      here = here;
      sound = sound;
      later = λ k above. (let opened = at_place.opened in x.later k (omega (arith, above, opened)));
      nobody = nobody_at;
      gone = gone;
      came =
          let P : ℕ → Type 0 = λ n. HaveCome limits old.left n in
          let opened = at_place.opened in
          let same : old.connections.opened + (count_unopened faults + 1) ≡ new.connections.opened + (count_unopened faults + 0) = omega (arith, opened) in
          subst P same x.came;
    }
      where
        there : Accepted
        there = at_place.there.0

        sound : (i : ℕ) (m : Accepted) → Holds new.connections.places.items i m → told_of m.number faults ≡ []
        sound i m h = elim (cases_eq i place) [
          | inl at ↦
              let Q : ℕ → Type 0 = λ n. Holds new.connections.places.items n m in
              let R : ℕ → Type 0 = λ n. told_of n faults ≡ [] in
              let same : at_place.there.0 ≡ m = holds_one new.connections.places.items place at_place.there.0 m at_place.there.1 (subst Q at h) in
              subst R (sym at_place.there.2 ∙ ap (λ (t : Accepted). t.number) same) (x.later old.connections.opened (omega arith))
          | inr far ↦ x.sound i m (still_holds place i old.connections.places.items new.connections.places.items m at_place.others far h)
        ]

        here : (i : ℕ) (m : Accepted) → Holds new.connections.places.items i m
            → (n : Line S) × (line_at new.sockets.items i ≡ Some n) × IsCarriedBy remaining contents (x.histories m.number) m.connection n
        here i m h = elim (cases_eq i place) [
          | inl at ↦
              let Q : ℕ → Type 0 = λ n. Holds new.connections.places.items n m in
              let line : Line S = record { stream = stream; at_end = false; lingers = false } in
              let R : ℕ → Type 0 = λ n. line_at new.sockets.items n ≡ Some line in
              let same : at_place.there.0 ≡ m = holds_one new.connections.places.items place at_place.there.0 m at_place.there.1 (subst Q at h) in
              let number : old.connections.opened ≡ m.number = sym at_place.there.2 ∙ ap (λ (t : Accepted). t.number) same in
              let none : nothing ≡ x.histories m.number =
              (let P : ℕ → Type 0 = λ n. nothing ≡ x.histories n in
              subst P number (sym (x.served.later old.connections.opened (omega arith)).1)) in
              let C : History → Type 0 = λ t. IsCarriedBy remaining contents t m.connection line in
              let fresh_one : IsCarriedBy remaining contents nothing m.connection line = record {
                accepted = stream;
                replied = stream;
                moved = rests stream;
                served = λ e. refl;
                lingers = λ e. absurd (false≢true e);
                at_end = λ e f. absurd (false≢true f);
              } in
              (line, subst R (sym at) at_place.line, subst C none fresh_one)
          | inr far ↦
              let y = x.here i m (still_holds place i old.connections.places.items new.connections.places.items m at_place.others far h) in
              (y.0, at_place.lines.stay i far ∙ y.1, y.2)
        ]

        nobody_at : (i : ℕ) → get_or new.connections.places.items i None ≡ None → line_at new.sockets.items i ≡ None
        nobody_at i e = elim (cases_eq i place) [
          | inl at ↦
              let P : ℕ → Type 0 = λ n. get_or new.connections.places.items n None ≡ None in
              absurd (nobody_there at_place.there.0 (sym (subst P at e) ∙ at_place.there.1.1))
          | inr far ↦ at_place.lines.stay i far ∙ x.nobody i (sym (at_place.others.stay i far) ∙ e)
        ]

        gone : HasSoundLog remaining contents serving new.connections.service → (k : ℕ) → k < new.connections.opened
            → ((i : ℕ) (m : Accepted) → Holds new.connections.places.items i m → m.number ≢ k)
            → WasLetGo remaining contents limits (told_of k faults) (own k x.log) (x.histories k)
        gone sound_log k within none =
            let Sound : M → Type 0 = λ t. HasSoundLog remaining contents serving t in
            let last : old.connections.opened ≡ k → ⊥ = λ e. none place at_place.there.0 at_place.there.1 (at_place.there.2 ∙ e) in
            let opened = at_place.opened in
            x.gone (subst Sound begins.service sound_log) k (omega (arith, within, opened, last)) (λ i m h e.
            none i m (then_holds place i old.connections.places.items new.connections.places.items m at_place.others
            (not_at place i old.connections.places.items m at_place.free h) h) e)

    -- none begins with the stream that was held, and a fault is told: it has no number
    kept_unopened : (faults : List ToldFault) (fault : StreamFault) (stream : S) (old new : Server M S)
        → AreKept remaining contents serving limits first faults old.connections old.sockets.items old.left (Some stream)
        → Begins remaining contents serving old new → BeginsNone remaining contents serving old new
        → new.connections.opened ≡ old.connections.opened
        → AreKept remaining contents serving limits first (faults ++ one_told None fault) new.connections new.sockets.items old.left None
    kept_unopened faults fault stream old new x begins none opened = record {
      histories = x.histories;
      log = x.log;
      served = begins.served x.histories x.log x.served;
      in_steps = rw begins.service x.in_steps;
      here = λ i m h. (let y = x.here i m (before i m h) in (y.0, none.lines.stay i ∙ y.1, y.2));
      sound = λ i m h. told_elsewhere m.number faults fault ∙ x.sound i m (before i m h);
      later = λ k above. told_elsewhere k faults fault ∙ x.later k (omega (arith, above, opened));
      nobody = λ i e. none.lines.stay i ∙ x.nobody i (sym (none.places.stay i) ∙ e);
      gone = λ sound_log k within nobody_is.
          let Sound : M → Type 0 = λ t. HasSoundLog remaining contents serving t in
          told_as limits (told_of k faults) (told_of k (faults ++ one_told None fault)) (own k x.log) (x.histories k) (told_elsewhere k faults fault)
          (x.gone (subst Sound begins.service sound_log) k (omega (arith, within, opened)) (λ i m h e.
          nobody_is i m (holds_of new.connections.places.items i m (none.places.stay i ∙ h.1)) e));
      came =
          let P : ℕ → Type 0 = λ n. HaveCome limits old.left n in
          let one : count_unopened (faults ++ one_told None fault) ≡ count_unopened faults + 1 = unopened_one faults None fault in
          let e : old.connections.opened + (count_unopened faults + 1) ≡ new.connections.opened + (count_unopened (faults ++ one_told None fault) + 0) = omega (arith, opened, one) in
          subst P e x.came;
    }
      where
        before : (i : ℕ) (m : Accepted) → Holds new.connections.places.items i m → Holds old.connections.places.items i m
        before i m h = holds_of old.connections.places.items i m (sym (none.places.stay i) ∙ h.1)

    -- it has a number
    kept_unserved : (faults : List ToldFault) (fault : StreamFault) (stream : S) (old new : Server M S)
        → AreKept remaining contents serving limits first faults old.connections old.sockets.items old.left (Some stream)
        → Begins remaining contents serving old new → BeginsNone remaining contents serving old new
        → new.connections.opened ≡ old.connections.opened + 1
        → AreKept remaining contents serving limits first (faults ++ one_told (Some old.connections.opened) fault) new.connections new.sockets.items old.left None
    kept_unserved faults fault stream old new x begins none opened = record {
      histories = x.histories;
      log = x.log;
      served = begins.served x.histories x.log x.served;
      in_steps = rw begins.service x.in_steps;
      here = λ i m h. (let y = x.here i m (before i m h) in (y.0, none.lines.stay i ∙ y.1, y.2));
      sound = λ i m h.
          let within : m.number < k = (x.served.here i m (before i m h)).0 in
          let other : m.number ≡ k → ⊥ = λ e. absurd (omega (arith, within, e)) in
          told_there m.number k faults fault other ∙ x.sound i m (before i m h);
      later = λ j above.
          let other : j ≡ k → ⊥ = λ e. absurd (omega (arith, above, opened, e)) in
          told_there j k faults fault other ∙ x.later j (omega (arith, above, opened));
      nobody = λ i e. none.lines.stay i ∙ x.nobody i (sym (none.places.stay i) ∙ e);
      gone = gone;
      came =
          let P : ℕ → Type 0 = λ n. HaveCome limits old.left n in
          let one : count_unopened (faults ++ one_told (Some k) fault) ≡ count_unopened faults + 0 = unopened_one faults (Some k) fault in
          let e : old.connections.opened + (count_unopened faults + 1) ≡ new.connections.opened + (count_unopened (faults ++ one_told (Some k) fault) + 0) = omega (arith, opened, one) in
          subst P e x.came;
    }
      where
        k : ℕ
        k = old.connections.opened

        before : (i : ℕ) (m : Accepted) → Holds new.connections.places.items i m → Holds old.connections.places.items i m
        before i m h = holds_of old.connections.places.items i m (sym (none.places.stay i) ∙ h.1)

        unserved : WasLetGo remaining contents limits (told_of k (faults ++ one_told (Some k) fault)) (own k x.log) (x.histories k)
        unserved =
            let after = x.served.later k (omega arith) in
            let W : History → Type 0 = λ t. WasLetGo remaining contents limits (told_of k (faults ++ one_told (Some k) fault)) (own k x.log) t in
            let now : WasLetGo remaining contents limits (told_of k (faults ++ one_told (Some k) fault)) (own k x.log) nothing = record {
              accepted = stream;
              replied = stream;
              left = stream;
              moved = rests stream;
              why = inr (fault, told_here k faults fault (x.later k (omega arith)), refl);
            } in
            subst W (sym after.1) now

        was_sound : HasSoundLog remaining contents serving new.connections.service → HasSoundLog remaining contents serving old.connections.service
        was_sound sound_log = (let Sound : M → Type 0 = λ t. HasSoundLog remaining contents serving t in subst Sound begins.service sound_log)

        gone : HasSoundLog remaining contents serving new.connections.service → (j : ℕ) → j < new.connections.opened
            → ((i : ℕ) (m : Accepted) → Holds new.connections.places.items i m → m.number ≢ j)
            → WasLetGo remaining contents limits (told_of j (faults ++ one_told (Some k) fault)) (own j x.log) (x.histories j)
        gone sound_log j within nobody_is = elim (cases_eq j k) [
          | inl is ↦
              let W : ℕ → Type 0 = λ n. WasLetGo remaining contents limits (told_of n (faults ++ one_told (Some k) fault)) (own n x.log) (x.histories n) in
              subst W (sym is) unserved
          | inr other ↦
              told_as limits (told_of j faults) (told_of j (faults ++ one_told (Some k) fault)) (own j x.log) (x.histories j) (told_there j k faults fault other)
              (x.gone (was_sound sound_log) j (omega (arith, within, opened, other)) (λ i m h e.
              nobody_is i m (holds_of new.connections.places.items i m (none.places.stay i ∙ h.1)) e))
        ]

    pub kept_unbegun : (faults : List ToldFault) (fault : StreamFault) (stream : S) (old new : Server M S)
        → AreKept remaining contents serving limits first faults old.connections old.sockets.items old.left (Some stream)
        → Begins remaining contents serving old new → BeginsNone remaining contents serving old new
        → (opened : (new.connections.opened ≡ old.connections.opened) ⊎ (new.connections.opened ≡ old.connections.opened + 1))
        → AreKept remaining contents serving limits first (faults ++ one_told (number_unbegun old.connections.opened new.connections.opened opened) fault)
        new.connections new.sockets.items old.left None
    kept_unbegun faults fault stream old new x begins none (inl same) = kept_unopened faults fault stream old new x begins none same
    kept_unbegun faults fault stream old new x begins none (inr more) = kept_unserved faults fault stream old new x begins none more

    -- a stream is taken from the listener, and held
    pub kept_take : (faults : List ToldFault) (connections : Connections M) (sockets : List (Option (Socket S))) (left left_then : Option ℕ) (held : Option S) (stream : S)
        → AreKept remaining contents serving limits first faults connections sockets left held → held ≡ None → IsOneFewer left left_then
        → AreKept remaining contents serving limits first faults connections sockets left_then (Some stream)
    kept_take faults connections sockets left left_then held stream x none fewer = record {
      histories = x.histories;
      log = x.log;
      served = x.served;
      in_steps = x.in_steps;
      here = x.here;
      sound = x.sound;
      later = x.later;
      nobody = x.nobody;
      gone = x.gone;
      came =
          let P : Option S → Type 0 = λ t. HaveCome limits left (connections.opened + (count_unopened faults + count_held t)) in
          elim (subst P none x.came) [
            | inl counted ↦ inl (one_more limits.total left left_then connections.opened (count_unopened faults) counted fewer)
            | inr cut ↦ absurd (not_fewer left left_then cut.0 fewer)
          ];
    }
      where
        not_fewer : (a b : Option ℕ) → a ≡ Some 0 → IsOneFewer a b → ⊥
        not_fewer None b e f = cc (e)
        not_fewer (Some a) None e f = f
        not_fewer (Some a) (Some b) e f = (let z : a ≡ 0 = ap (λ (t : Option ℕ). or_zero t) e in omega (arith, z, f))
          where
            or_zero : Option ℕ → ℕ
            or_zero None = 0
            or_zero (Some n) = n

        one_more : (total a b : Option ℕ) (n m : ℕ) → AreCounted total a (n + (m + 0)) → IsOneFewer a b → AreCounted total b (n + (m + 1))
        one_more None None b n m h f = f
        one_more None (Some a) b n m h f = absurd (some_none a h)
          where
            some_none : (a : ℕ) → (◌≡◌) {A = Option ℕ} (Some a) None → ⊥
            some_none a e = cc
        one_more (Some total) None b n m h f = absurd h
        one_more (Some total) (Some a) None n m h f = absurd f
        one_more (Some total) (Some a) (Some b) n m h f = omega (arith, h, f)

-- ---- lines

pub set_line : {S : Type 0} (sockets : List (Option (Socket S))) (i : ℕ) (x : Option (Socket S)) → i < length sockets
    → line_at (slice_set sockets i x) i ≡ line_of x
set_line {S} sockets i x within = ap (λ (t : Option (Socket S)). line_of t) (get_or-set_same sockets i x None within)

pub set_lines : {S : Type 0} (sockets : List (Option (Socket S))) (i : ℕ) (x : Option (Socket S)) → OtherLinesStay i sockets (slice_set sockets i x)
set_lines {S} sockets i x = record { stay = λ j far. ap (λ (t : Option (Socket S)). line_of t) (get_or-set_other sockets i j x None far) }

-- what is written is the same stream
pub set_same : {S : Type 0} (sockets : List (Option (Socket S))) (i : ℕ) (x : Option (Socket S)) → i < length sockets → line_of x ≡ line_at sockets i
    → LinesStay sockets (slice_set sockets i x)
set_same {S} sockets i x within same = record {
  stay = λ j. elim (cases_eq j i) [
    | inl at ↦ (let P : ℕ → Type 0 = λ n. line_at (slice_set sockets i x) n ≡ line_at sockets n in subst P (sym at) (set_line sockets i x within ∙ same))
    | inr far ↦ (set_lines sockets i x).stay j far
  ];
}

-- what was read of a place
pub line_got : {S : Type 0} (sockets : List (Option (Socket S))) (i : ℕ) (x : Option (Socket S)) → i < length sockets → x ≡ get_or sockets i x
    → line_at sockets i ≡ line_of x
line_got {S} sockets i x within e = ap (λ (t : Option (Socket S)). line_of t) (get_or_default sockets i None x within ∙ sym e)

pub lines_same : {S : Type 0} (sockets : List (Option (Socket S))) → LinesStay sockets sockets
lines_same {S} sockets = record { stay = λ j. refl }

pub lines_then : {S : Type 0} (a b c : List (Option (Socket S))) → LinesStay a b → LinesStay b c → LinesStay a c
lines_then {S} a b c x y = record { stay = λ j. y.stay j ∙ x.stay j }

-- one more place, with nothing in it
pub lines_pushed : {S : Type 0} (a b : List (Option (Socket S))) → b ≡ a ++ None ∷ [] → LinesStay a b
lines_pushed {S} a b e = record {
  stay = λ j. ap (λ (t : List (Option (Socket S))). line_at t j) e ∙ ap (λ (t : Option (Socket S)). line_of t) (get_or_pushed a j);
}
  where
    get_or_pushed : (xs : List (Option (Socket S))) (j : ℕ) → get_or (xs ++ None ∷ []) j None ≡ get_or xs j None
    get_or_pushed [] zero = refl
    get_or_pushed [] (suc j) = refl
    get_or_pushed (x ∷ xs) zero = refl
    get_or_pushed (x ∷ xs) (suc j) = get_or_pushed xs j

-- that of a stream that came now
pub line_fresh : {S : Type 0} (s : Socket S) (stream : S) → s.stream ≡ stream → s.at_end ≡ false → s.dropped ≡ None
    → line_of (Some s) ≡ Some (record { stream = stream; at_end = false; lingers = false })
line_fresh {S} s stream a b d =
    let G : S → Bool → Option ℕ → Option (Line S) = λ x y z. Some (record { stream = x; at_end = y; lingers = is_some z }) in
    ap (λ (x : S). G x s.at_end s.dropped) a ∙ ap (λ (y : Bool). G stream y s.dropped) b ∙ ap (λ (z : Option ℕ). G stream false z) d

pub line_or_not : {S : Type 0} (x : Option (Line S)) → (x ≡ None) ⊎ ((line : Line S) × (x ≡ Some line))
line_or_not None = inl refl
line_or_not (Some line) = inr (line, refl)

-- one stays where the others do
lines_all : {S : Type 0} (i : ℕ) (a b : List (Option (Socket S))) → line_at b i ≡ line_at a i → OtherLinesStay i a b → LinesStay a b
lines_all {S} i a b same others = record {
  stay = λ j. elim (cases_eq j i) [
    | inl at ↦ (let P : ℕ → Type 0 = λ n. line_at b n ≡ line_at a n in subst P (sym at) same)
    | inr far ↦ others.stay j far
  ];
}

ended_waits : Ended ≡ Waiting → ⊥
ended_waits e = cc

failed_waits : (fault : StreamFault) → Failed fault ≡ Waiting → ⊥
failed_waits fault e = cc

pub waits_sound : (fault : StreamFault) (turn : Turn) → turn ≡ Waiting → turn ≡ Failed fault → ⊥
waits_sound fault turn e f = cc

pub again_sound : (fault : StreamFault) (turn : Turn) → turn ≡ Going → turn ≡ Failed fault → ⊥
again_sound fault turn e f = cc

pub done_sound : (fault : StreamFault) (turn : Turn) → turn ≡ Done → turn ≡ Failed fault → ⊥
done_sound fault turn e f = cc

pub ended_sound : (fault : StreamFault) (turn : Turn) → turn ≡ Ended → turn ≡ Failed fault → ⊥
ended_sound fault turn e f = cc

-- ---- the server

module _ {S M : Type 0} (remaining contents : S → Option (List ℕ)) (serving : M → Serving) where
  rest_kept : (limits : Limits) (first : M) (faults : List ToldFault) (old new : Server M S) (connections : Connections M) (sockets : List (Option (Socket S)))
      → RestStays remaining contents serving old new
      → AreKept remaining contents serving limits first faults connections sockets old.left old.held
      → AreKept remaining contents serving limits first faults connections sockets new.left new.held
  rest_kept limits first faults old new connections sockets rest x =
      let P : Option ℕ → Type 0 = λ t. AreKept remaining contents serving limits first faults connections sockets t old.held in
      let Q : Option S → Type 0 = λ t. AreKept remaining contents serving limits first faults connections sockets new.left t in
      subst Q (sym rest.held) (subst P (sym rest.left) x)

  -- its streams stay where they are
  pub keeps_lines : (old new : Server M S) → RestStays remaining contents serving old new → new.connections ≡ old.connections
      → LinesStay old.sockets.items new.sockets.items → KeepsOn remaining contents serving old new
  keeps_lines old new rest connections lines limits first faults y =
      let P : Connections M → Type 0 = λ t. AreKept remaining contents serving limits first faults t new.sockets.items old.left old.held in (
        rest.limits ∙ y.0,
        rest_kept limits first faults old new new.connections new.sockets.items rest
            (subst P (sym connections)
            (kept_lines remaining contents serving limits first faults old.connections old.sockets.items new.sockets.items old.left old.held y.1 lines)),
      )

  -- one stream goes on
  pub keeps_at : (place : ℕ) (old new : Server M S) (line line_then : Line S) → RestStays remaining contents serving old new → new.connections ≡ old.connections
      → line_at old.sockets.items place ≡ Some line → line_at new.sockets.items place ≡ Some line_then
      → OtherLinesStay place old.sockets.items new.sockets.items
      → ((history : History) (l : Accepted) → Holds old.connections.places.items place l → IsCarriedBy remaining contents history l.connection line
      → IsCarriedBy remaining contents history l.connection line_then)
      → KeepsOn remaining contents serving old new
  keeps_at place old new line line_then rest connections was is stay carry limits first faults y =
      let P : Connections M → Type 0 = λ t. AreKept remaining contents serving limits first faults t new.sockets.items old.left old.held in (
        rest.limits ∙ y.0,
        rest_kept limits first faults old new new.connections new.sockets.items rest
            (subst P (sym connections)
            (kept_at remaining contents serving limits first faults old.connections old.sockets.items new.sockets.items old.left old.held place line line_then y.1 was is stay carry)),
      )

  pub keeps_release : (place : ℕ) (old new : Server M S) → LetsGo remaining contents serving place old new
      → MayGoAt remaining contents old.limits old.connections.places.items old.sockets.items place → KeepsOn remaining contents serving old new
  keeps_release place old new goes may limits first faults y =
      let P : Limits → Type 0 = λ t. MayGoAt remaining contents t old.connections.places.items old.sockets.items place in (
        goes.rest.limits ∙ y.0,
        rest_kept limits first faults old new new.connections new.sockets.items goes.rest
            (kept_let_go remaining contents serving limits first faults place old new y.1 goes (subst P y.0 may)),
      )

  pub keeps_turn : (place : ℕ) (old new : Server M S) (line line_then : Line S) → TurnsAt remaining contents serving place old new line line_then
      → line.lingers ≡ false → IsStillAt place old.connections.places.items new.connections.places.items → KeepsOn remaining contents serving old new
  keeps_turn place old new line line_then turns serves still limits first faults y =
      elim (held_or_not old.connections.places.items place) [
        | inl e ↦ absurd (no_line line (sym (y.1.nobody place e) ∙ turns.was))
        | inr held ↦
            let x = y.1 in
            let t = turns.turn in
            let served = t.serves.served x.histories x.log x.served in (
              turns.rest.limits ∙ y.0,
              rest_kept limits first faults old new new.connections new.sockets.items turns.rest
                  (kept_turn remaining contents serving limits first faults place (number_at old.connections.places.items place) old.connections new.connections
                  old.sockets.items new.sockets.items old.left old.held held.0 line line_then t.came t.went served.0 x held.1
                  (sym (number_held old.connections.places.items place held.0 held.1)) turns.was serves turns.is (turns.lingers ∙ serves) turns.lines
                  t.serves.others t.serves.opened t.serves.moved turns.at_end served.1 served.2 still),
            )
      ]

  -- something was done beside the requests
  kept_beside : (limits : Limits) (first : M) (faults : List ToldFault) (old new : Server M S) → RestStays remaining contents serving old new
      → new.connections.places.items ≡ old.connections.places.items → new.connections.opened ≡ old.connections.opened
      → new.sockets.items ≡ old.sockets.items
      → (HasSoundLog remaining contents serving new.connections.service → HasSoundLog remaining contents serving old.connections.service)
      → (x : AreKept remaining contents serving limits first faults old.connections old.sockets.items old.left old.held)
      → AreInSteps remaining contents serving limits.is_administered first new.connections.service x.histories x.log
      → AreKept remaining contents serving limits first faults new.connections new.sockets.items new.left new.held
  kept_beside limits first faults old new rest places opened sockets was_sound x in_steps =
      let P : List (Option (Socket S)) → Type 0 = λ t. AreKept remaining contents serving limits first faults new.connections t old.left old.held in
      rest_kept limits first faults old new new.connections new.sockets.items rest (subst P (sym sockets) (record {
        histories = x.histories;
        log = x.log;
        served =
            let Q : ℕ → Type 0 = λ n. AreServed x.histories x.log n new.connections.places.items in
            let R : List (Option Accepted) → Type 0 = λ t. AreServed x.histories x.log old.connections.opened t in
            subst Q (sym opened) (subst R (sym places) x.served);
        in_steps = in_steps;
        here = λ i l h. (let Q : List (Option Accepted) → Type 0 = λ t. Holds t i l in x.here i l (subst Q places h));
        sound = λ i l h. (let Q : List (Option Accepted) → Type 0 = λ t. Holds t i l in x.sound i l (subst Q places h));
        later = λ k above. (let Q : ℕ → Type 0 = λ n. n ≤ k in x.later k (subst Q opened above));
        nobody = λ i e. (let Q : List (Option Accepted) → Type 0 = λ t. get_or t i None ≡ None in x.nobody i (subst Q places e));
        gone = λ sound_log k within none.
            let Q : ℕ → Type 0 = λ n. k < n in
            x.gone (was_sound sound_log) k (subst Q opened within) (λ i l h. (let R : List (Option Accepted) → Type 0 = λ t. Holds t i l in none i l (subst R (sym places) h)));
        came = rw opened x.came;
      }))

  -- the Office was looked at
  pub keeps_read : (old new : Server M S) → RestStays remaining contents serving old new
      → Runs (serving old.connections.service) (serving new.connections.service) []
      → new.connections.places.items ≡ old.connections.places.items → new.connections.opened ≡ old.connections.opened
      → new.sockets.items ≡ old.sockets.items → KeepsOn remaining contents serving old new
  keeps_read old new rest runs places opened sockets limits first faults y =
      let x = y.1 in (
        rest.limits ∙ y.0,
        kept_beside limits first faults old new rest places opened sockets runs.noted.was_sound x
            (steps_read remaining contents serving limits.is_administered first old.connections.service new.connections.service x.histories x.log x.in_steps runs),
      )

  -- the control had its turn, which may adopt
  pub keeps_adopted : (old new : Server M S) → old.limits.is_administered ≡ true → RestStays remaining contents serving old new
      → OnlyAdopts serving old.connections.service new.connections.service
      → new.connections.places.items ≡ old.connections.places.items → new.connections.opened ≡ old.connections.opened
      → new.sockets.items ≡ old.sockets.items → KeepsOn remaining contents serving old new
  keeps_adopted old new may rest only places opened sockets limits first faults y =
      let x = y.1 in
      let may_now : limits.is_administered ≡ true = subst (λ (t : Limits). t.is_administered ≡ true) y.0 may in (
        rest.limits ∙ y.0,
        kept_beside limits first faults old new rest places opened sockets
            (only_sound serving old.connections.service new.connections.service only) x
            (steps_adopted remaining contents serving limits.is_administered first old.connections.service new.connections.service x.histories x.log may_now x.in_steps only),
      )

  pub keeps_then : (a b c : Server M S) → KeepsOn remaining contents serving a b → KeepsOn remaining contents serving b c → KeepsOn remaining contents serving a c
  keeps_then a b c x y limits first faults s = y limits first faults (x limits first faults s)

  -- none is to come any more, as the control wishes, which may
  pub ends_now : (old new : Server M S) → old.limits.is_administered ≡ true → new.limits ≡ old.limits → new.left ≡ Some 0 → new.held ≡ old.held
      → new.connections ≡ old.connections → new.sockets.items ≡ old.sockets.items → KeepsOn remaining contents serving old new
  ends_now old new may limits_stay left held connections sockets limits first faults y = (
    limits_stay ∙ y.0,
    (let x = y.1 in
        let C : Connections M → Type 0 = λ t. AreKept remaining contents serving limits first faults t new.sockets.items new.left new.held in
        let T : List (Option (Socket S)) → Type 0 = λ t. AreKept remaining contents serving limits first faults old.connections t new.left new.held in
        let L : Option ℕ → Type 0 = λ t. AreKept remaining contents serving limits first faults old.connections old.sockets.items t new.held in
        let H : Option S → Type 0 = λ t. AreKept remaining contents serving limits first faults old.connections old.sockets.items (Some 0) t in
        subst C (sym connections) (subst T (sym sockets) (subst L (sym left) (subst H (sym held) (record {
          histories = x.histories;
          log = x.log;
          served = x.served;
          in_steps = x.in_steps;
          here = x.here;
          sound = x.sound;
          later = x.later;
          nobody = x.nobody;
          gone = x.gone;
          came =
              let may_now : limits.is_administered ≡ true = subst (λ (t : Limits). t.is_administered ≡ true) y.0 may in
              elim x.came [ inl counted ↦ inr (refl, (may_now, (old.left, counted))) | inr cut ↦ inr (refl, cut.1) ];
        }))))),
  )

  -- one whose last reply is sent begins to close
  pub closes_at : (place : ℕ) (old new : Server M S) → RestStays remaining contents serving old new → new.connections ≡ old.connections
      → IsDoneAt old.connections.places.items place
      → ((line : Line S) → line_at old.sockets.items place ≡ Some line → line.lingers ≡ false)
      → ((line : Line S) → line_at old.sockets.items place ≡ Some line
      → line_at new.sockets.items place ≡ Some (record { stream = line.stream; at_end = line.at_end; lingers = true }))
      → (line_at old.sockets.items place ≡ None → line_at new.sockets.items place ≡ None)
      → OtherLinesStay place old.sockets.items new.sockets.items → KeepsOn remaining contents serving old new
  closes_at place old new rest connections done serves there none lines =
      elim (line_or_not (line_at old.sockets.items place)) [
        | inl e ↦ keeps_lines old new rest connections (lines_all place old.sockets.items new.sockets.items (none e ∙ sym e) lines)
        | inr at ↦
            let line = at.0 in
            keeps_at place old new line (record { stream = line.stream; at_end = line.at_end; lingers = true }) rest connections at.1 (there line at.1) lines
            (λ history l h carried.
            let same : done.0 ≡ l = holds_one old.connections.places.items place done.0 l done.1 h in
            record {
              accepted = carried.accepted;
              replied = carried.replied;
              moved = carried.moved;
              served = λ e. absurd (false≢true (sym e));
              lingers = λ e. (
                ap (λ (t : Accepted). t.connection.closing) (sym same) ∙ done.2,
                ap (λ (t : Accepted). t.connection.unsent) (sym same) ∙ done.3,
                (let D : S → Type 0 = λ t. DropsSome (remaining carried.replied) (remaining t) in
                    subst D (sym (carried.served (serves line at.1))) (drops_none (remaining carried.replied))),
              );
              at_end = λ e f. absurd (false≢true (sym e));
            })
      ]

  -- what comes to one whose last reply is sent is dropped
  pub drops_at : (place : ℕ) (old new : Server M S) → RestStays remaining contents serving old new → new.connections ≡ old.connections
      → ((line : Line S) → line_at old.sockets.items place ≡ Some line → line.lingers ≡ true)
      → ((line : Line S) → line_at old.sockets.items place ≡ Some line → (line_then : Line S) × (line_at new.sockets.items place ≡ Some line_then)
      × DropsSome (remaining line.stream) (remaining line_then.stream) × (line_then.lingers ≡ true))
      → (line_at old.sockets.items place ≡ None → line_at new.sockets.items place ≡ None)
      → OtherLinesStay place old.sockets.items new.sockets.items → KeepsOn remaining contents serving old new
  drops_at place old new rest connections lingering there none lines =
      elim (line_or_not (line_at old.sockets.items place)) [
        | inl e ↦ keeps_lines old new rest connections (lines_all place old.sockets.items new.sockets.items (none e ∙ sym e) lines)
        | inr at ↦
            let line = at.0 in
            let x = there line at.1 in
            let lingers_then : x.0.lingers ≡ true = x.3 in
            keeps_at place old new line x.0 rest connections at.1 x.1 lines
            (λ history l h carried.
            let was = carried.lingers (lingering line at.1) in
            record {
              accepted = carried.accepted;
              replied = carried.replied;
              moved = carried.moved;
              served = λ e. absurd (false≢true (sym e ∙ lingers_then));
              lingers = λ e. (was.0, was.1, drops_then (remaining carried.replied) (remaining line.stream) (remaining x.0.stream) was.2 x.2);
              at_end = λ e f. absurd (false≢true (sym e ∙ lingers_then));
            })
      ]

  pub lingers_at : (place : ℕ) (old new : Server M S) (turn : Turn) → turn ≡ Ended
      → ((line : Line S) → line_at old.sockets.items place ≡ Some line → line.lingers ≡ true)
      → ((line : Line S) → line_at old.sockets.items place ≡ Some line → (line_then : Line S) × (line_at new.sockets.items place ≡ Some line_then)
      × DropsSome (remaining line.stream) (remaining line_then.stream) × (line_then.lingers ≡ true))
      → (line_at old.sockets.items place ≡ None → turn ≡ Waiting)
      → MayGoAt remaining contents new.limits new.connections.places.items new.sockets.items place
  lingers_at place old new turn ended lingering there none =
      elim (line_or_not (line_at old.sockets.items place)) [
        | inl e ↦ absurd (ended_waits (sym ended ∙ none e))
        | inr at ↦ (let x = there at.0 at.1 in (x.0, x.1, inl x.3))
      ]

  module _ {F : Type 0} (tells : F → StreamFault → F → Type 0) where
    pub goes_keeps : (old new : Server M S) (f : F) → KeepsOn remaining contents serving old new → GoesOn remaining contents serving tells old f new f
    goes_keeps old new f k = record {
      told = [];
      tells_them = refl;
      keeps = λ limits first before y.
          let P : List ToldFault → Type 0 = λ t. IsKept remaining contents serving limits first t new in
          subst P (sym (append-nil before)) (k limits first before y);
    }

    pub goes_none : (old : Server M S) (f : F) → GoesOn remaining contents serving tells old f old f
    goes_none old f = goes_keeps old old f (λ limits first faults y. y)

    pub goes_then : (a b c : Server M S) (f g h : F) → GoesOn remaining contents serving tells a f b g → GoesOn remaining contents serving tells b g c h
        → GoesOn remaining contents serving tells a f c h
    goes_then a b c f g h x y = record {
      told = x.told ++ y.told;
      tells_them = told_twice tells f g h x.told y.told x.tells_them y.tells_them;
      keeps = λ limits first before s.
          let P : List ToldFault → Type 0 = λ t. IsKept remaining contents serving limits first t c in
          subst P (append_assoc before x.told y.told) (y.keeps limits first (before ++ x.told) (x.keeps limits first before s));
    }

    pub then_keeps : (a b c : Server M S) (f g : F) → GoesOn remaining contents serving tells a f b g → KeepsOn remaining contents serving b c
        → GoesOn remaining contents serving tells a f c g
    then_keeps a b c f g x k = goes_then a b c f g g x (goes_keeps b c g k)

    pub keeps_goes : (a b c : Server M S) (f g : F) → KeepsOn remaining contents serving a b → GoesOn remaining contents serving tells b f c g
        → GoesOn remaining contents serving tells a f c g
    keeps_goes a b c f g k x = goes_then a b c f f g (goes_keeps a b f k) x

    -- a turn that has a fault
    pub goes_fault : (place : ℕ) (old mid new : Server M S) (line line_then : Line S) (fault : StreamFault) (f g : F)
        → TurnsAt remaining contents serving place old mid line line_then → line.lingers ≡ false
        → tells f fault g → LetsGo remaining contents serving place mid new → GoesOn remaining contents serving tells old f new g
    goes_fault place old mid new line line_then fault f g turns serves told goes = record {
      told = one_told (Some (number_at old.connections.places.items place)) fault;
      tells_them = (g, told, refl);
      keeps = λ limits first before y.
          elim (held_or_not old.connections.places.items place) [
            | inl e ↦ absurd (no_line line (sym (y.1.nobody place e) ∙ turns.was))
            | inr held ↦
                let x = y.1 in
                let t = turns.turn in
                let served = t.serves.served x.histories x.log x.served in
                let k = number_at old.connections.places.items place in (
                  goes.rest.limits ∙ turns.rest.limits ∙ y.0,
                  rest_kept limits first (before ++ one_told (Some k) fault) mid new new.connections new.sockets.items goes.rest
                      (rest_kept limits first (before ++ one_told (Some k) fault) old mid new.connections new.sockets.items turns.rest
                      (kept_fault remaining contents serving limits first before fault place k old.connections new.connections
                      old.sockets.items new.sockets.items old.left old.held held.0 line line_then t.came t.went served.0 x held.1
                      (sym (number_held old.connections.places.items place held.0 held.1)) turns.was serves goes.line
                      (record { stay = λ j far. goes.lines.stay j far ∙ turns.lines.stay j far })
                      goes.gone (record { stay = λ j far. goes.others.stay j far ∙ t.serves.others.stay j far })
                      (goes.opened ∙ t.serves.opened) t.serves.moved
                      (goes.served (grows x.histories k t.came t.went) (x.log ++ entries k served.0) served.1)
                      (rw goes.service served.2))),
                )
          ];
    }

    -- a turn in which the log has failed
    pub goes_stopped : (place : ℕ) (old mid new : Server M S) (line line_then : Line S) (f : F)
        → TurnsAt remaining contents serving place old mid line line_then
        → HasFailedLog remaining contents serving mid.connections.service
        → LetsGo remaining contents serving place mid new → GoesOn remaining contents serving tells old f new f
    goes_stopped place old mid new line line_then f turns failed goes = goes_keeps old new f (λ limits first before y.
        elim (held_or_not old.connections.places.items place) [
          | inl e ↦ absurd (no_line line (sym (y.1.nobody place e) ∙ turns.was))
          | inr held ↦
              let x = y.1 in
              let t = turns.turn in
              let served = t.serves.served x.histories x.log x.served in
              let k = number_at old.connections.places.items place in
              let Fails : M → Type 0 = λ t. HasFailedLog remaining contents serving t in (
                goes.rest.limits ∙ turns.rest.limits ∙ y.0,
                rest_kept limits first before mid new new.connections new.sockets.items goes.rest
                    (rest_kept limits first before old mid new.connections new.sockets.items turns.rest
                    (kept_stopped remaining contents serving limits first before place k old.connections new.connections
                    old.sockets.items new.sockets.items old.left old.held held.0 t.came t.went served.0 x held.1
                    (sym (number_held old.connections.places.items place held.0 held.1)) goes.line
                    (record { stay = λ j far. goes.lines.stay j far ∙ turns.lines.stay j far })
                    goes.gone (record { stay = λ j far. goes.others.stay j far ∙ t.serves.others.stay j far })
                    (goes.opened ∙ t.serves.opened)
                    (goes.served (grows x.histories k t.came t.went) (x.log ++ entries k served.0) served.1)
                    (rw goes.service served.2) (subst Fails (sym goes.service) failed))),
              )
        ])

    -- the stream that was held begins
    pub goes_begun : (place : ℕ) (stream : S) (old mid new : Server M S) (f : F)
        → ((limits : Limits) (first : M) (faults : List ToldFault) → IsKept remaining contents serving limits first faults old
        → (mid.limits ≡ limits) × AreKept remaining contents serving limits first faults mid.connections mid.sockets.items mid.left (Some stream))
        → mid.held ≡ None → RestStays remaining contents serving mid new
        → Begins remaining contents serving mid new → BeginsAt remaining contents serving place stream mid new
        → GoesOn remaining contents serving tells old f new f
    goes_begun place stream old mid new f held none rest begins at_place = goes_keeps old new f (λ limits first faults y.
        let x = held limits first faults y in
        let P : Option S → Type 0 = λ t. AreKept remaining contents serving limits first faults new.connections new.sockets.items mid.left t in (
          rest.limits ∙ x.0,
          rest_kept limits first faults mid new new.connections new.sockets.items rest
              (subst P (sym none) (kept_begin remaining contents serving limits first faults place stream mid new x.1 begins at_place)),
        ))

    -- it does not, and a fault is told
    pub goes_unbegun : (fault : StreamFault) (stream : S) (old mid new : Server M S) (f g : F)
        → ((limits : Limits) (first : M) (faults : List ToldFault) → IsKept remaining contents serving limits first faults old
        → (mid.limits ≡ limits) × AreKept remaining contents serving limits first faults mid.connections mid.sockets.items mid.left (Some stream))
        → mid.held ≡ None → RestStays remaining contents serving mid new
        → Begins remaining contents serving mid new → BeginsNone remaining contents serving mid new → tells f fault g
        → GoesOn remaining contents serving tells old f new g
    goes_unbegun fault stream old mid new f g held none rest begins at_none told = record {
      told = one_told (number_unbegun mid.connections.opened new.connections.opened at_none.opened) fault;
      tells_them = (g, told, refl);
      keeps = λ limits first before y.
          let x = held limits first before y in
          let number = number_unbegun mid.connections.opened new.connections.opened at_none.opened in
          let P : Option S → Type 0 = λ t. AreKept remaining contents serving limits first (before ++ one_told number fault) new.connections new.sockets.items mid.left t in (
            rest.limits ∙ x.0,
            rest_kept limits first (before ++ one_told number fault) mid new new.connections new.sockets.items rest
                (subst P (sym none) (kept_unbegun remaining contents serving limits first before fault stream mid new x.1 begins at_none at_none.opened)),
          );
    }

  -- ---- a round

  round_lost_line : (history : History) (v : View) (line : Line S) → v.closing ≡ false → IsCarriedBy remaining contents history v line → line.lingers ≡ false
  round_lost_line history v line open_was c = elim (cases_true line.lingers) [
    | inl lingers ↦ absurd (false≢true (sym open_was ∙ (c.lingers lingers).0))
    | inr serves ↦ serves
  ]

  pub keeps_round : (old new : Server M S) → RestStays remaining contents serving old new → new.sockets.items ≡ old.sockets.items
      → KeepsRound serving old.connections new.connections None → KeepsOn remaining contents serving old new
  keeps_round old new rest sockets r limits first faults y =
      let P : List (Option (Socket S)) → Type 0 = λ t. AreKept remaining contents serving limits first faults new.connections t old.left old.held in (
        rest.limits ∙ y.0,
        rest_kept limits first faults old new new.connections new.sockets.items rest
            (subst P (sym sockets) (kept_whole_round remaining contents serving limits first faults old.connections new.connections old.sockets.items old.left old.held y.1 r)),
      )

  pub keeps_tried : (old new : Server M S) → RestStays remaining contents serving old new → new.sockets.items ≡ old.sockets.items
      → TriesRound serving old.connections new.connections → KeepsOn remaining contents serving old new
  keeps_tried old new rest sockets r limits first faults y =
      let P : List (Option (Socket S)) → Type 0 = λ t. AreKept remaining contents serving limits first faults new.connections t old.left old.held in (
        rest.limits ∙ y.0,
        rest_kept limits first faults old new new.connections new.sockets.items rest
            (subst P (sym sockets) (kept_tried_round remaining contents serving limits first faults old.connections new.connections old.sockets.items old.left old.held y.1 r)),
      )

  -- one connection had a fault, and was let go: the fault is told, or the log has failed, and nothing is told
  pub goes_lost : {F : Type 0} (tells : F → StreamFault → F → Type 0) (old mid new : Server M S) (lost : Lost) (f g : F)
      → RestStays remaining contents serving old mid → mid.sockets.items ≡ old.sockets.items
      → KeepsRound serving old.connections mid.connections (Some lost) → LetsGo remaining contents serving lost.place mid new
      → ((serving mid.connections.service).log.failed ≡ false → tells f lost.fault g)
      → ((serving mid.connections.service).log.failed ≡ true → g ≡ f)
      → GoesOn remaining contents serving tells old f new g
  goes_lost {F} tells old mid new lost f g rest sockets r goes told silent = elim (cases_true (serving mid.connections.service).log.failed) [
    | inl failed ↦
        let P : F → Type 0 = λ t. GoesOn remaining contents serving tells old f new t in
        subst P (sym (silent failed)) (goes_keeps tells old new f (λ limits first before y. (
          goes.rest.limits ∙ rest.limits ∙ y.0,
          all_rest limits first before (lost_kept limits first before before y.1 (λ j far. refl) refl
              (λ sound_log log. absurd (false≢true (sym (sounds sound_log) ∙ failed)))),
        )))
    | inr sound ↦ record {
      told = one_told (Some gone.was.number) lost.fault;
      tells_them = (g, told sound, refl);
      keeps = λ limits first before y. (
        goes.rest.limits ∙ rest.limits ∙ y.0,
        all_rest limits first (before ++ one_told (Some gone.was.number) lost.fault)
            (lost_kept limits first before (before ++ one_told (Some gone.was.number) lost.fault) y.1
            (λ j far. told_there j gone.was.number before lost.fault far)
            (let one : count_unopened (before ++ one_told (Some gone.was.number) lost.fault) ≡ count_unopened before + 0 =
            unopened_one before (Some gone.was.number) lost.fault in omega (arith, one))
            (λ sound_log log. was_let_go limits first before y.1 log)),
      );
    }
  ]
    where
      gone : LeavesAt lost.place old.connections.places.items mid.connections.places.items
      gone = r.fed.gone lost.place refl

      sounds : HasSoundLog remaining contents serving new.connections.service → HasSoundLog remaining contents serving mid.connections.service
      sounds sound_log = (let Sound : M → Type 0 = λ t. HasSoundLog remaining contents serving t in subst Sound goes.service sound_log)

      lines : OtherLinesStay lost.place old.sockets.items new.sockets.items
      lines = (let P : List (Option (Socket S)) → Type 0 = λ t. OtherLinesStay lost.place t new.sockets.items in subst P sockets goes.lines)

      lost_kept : (limits : Limits) (first : M) (before told_then : List ToldFault)
          (x : AreKept remaining contents serving limits first before old.connections old.sockets.items old.left old.held)
          → ((j : ℕ) → (j ≡ gone.was.number → ⊥) → told_of j told_then ≡ told_of j before)
          → count_unopened told_then ≡ count_unopened before
          → (HasSoundLog remaining contents serving new.connections.service → (log : List Entry)
          → WasLetGo remaining contents limits (told_of gone.was.number told_then) (own gone.was.number log) (x.histories gone.was.number))
          → AreKept remaining contents serving limits first told_then new.connections new.sockets.items old.left old.held
      lost_kept limits first before told_then x alike count was =
          kept_lost_round remaining contents serving limits first before told_then old.connections mid.connections new.connections lost old.sockets.items new.sockets.items
          old.left old.held x r goes.service goes.opened goes.gone goes.others goes.served goes.line lines alike count was

      all_rest : (limits : Limits) (first : M) (told_then : List ToldFault)
          → AreKept remaining contents serving limits first told_then new.connections new.sockets.items old.left old.held
          → AreKept remaining contents serving limits first told_then new.connections new.sockets.items new.left new.held
      all_rest limits first told_then x =
          rest_kept limits first told_then mid new new.connections new.sockets.items goes.rest
          (rest_kept limits first told_then old mid new.connections new.sockets.items rest x)

      was_let_go : (limits : Limits) (first : M) (before : List ToldFault)
          (x : AreKept remaining contents serving limits first before old.connections old.sockets.items old.left old.held) (log : List Entry)
          → WasLetGo remaining contents limits (told_of gone.was.number (before ++ one_told (Some gone.was.number) lost.fault)) (own gone.was.number log) (x.histories gone.was.number)
      was_let_go limits first before x log =
          let y = x.here lost.place gone.was gone.there_was in
          let c = y.2 in
          let serves = round_lost_line (x.histories gone.was.number) gone.was.connection y.0 gone.open_was c in
          record {
            accepted = c.accepted;
            replied = c.replied;
            left = y.0.stream;
            moved = c.moved;
            why = inr (lost.fault, told_here gone.was.number before lost.fault (x.sound lost.place gone.was gone.there_was), c.served serves);
          }

  -- ---- a turn at a place

  -- what the turn of the connection at a place says
  abbrev pub TurnSays : (place : ℕ) (old new : Server M S) → Turn → Type 0
  TurnSays place old new turn = (line : Line S) → line_at old.sockets.items place ≡ Some line
      → (line_then : Line S) × TurnsAt remaining contents serving place old new line line_then
      × (((fault : StreamFault) → turn ≢ Failed fault) → IsStillAt place old.connections.places.items new.connections.places.items)
      × (turn ≡ Ended → line_then.at_end ≡ true)

  -- there is no connection at the place
  abbrev pub SaysNone : (place : ℕ) (old new : Server M S) → Turn → Type 0
  SaysNone place old new turn = line_at old.sockets.items place ≡ None → (turn ≡ Waiting)
      × RestStays remaining contents serving old new × (new.connections ≡ old.connections) × LinesStay old.sockets.items new.sockets.items

  pub serving_at : (place : ℕ) (old new : Server M S) (turn : Turn) → TurnSays place old new turn
      → SaysNone place old new turn
      → ((line : Line S) → line_at old.sockets.items place ≡ Some line → line.lingers ≡ false)
      → (line : Line S) → line_at new.sockets.items place ≡ Some line → line.lingers ≡ false
  serving_at place old new turn says none serves line at =
      elim (line_or_not (line_at old.sockets.items place)) [
        | inl e ↦
            absurd (no_line line (sym ((none e).3.stay place ∙ e) ∙ at))
        | inr was ↦
            let x = says was.0 was.1 in
            ap (λ (t : Line S). t.lingers) (sym (same_line x.0 line (line_at new.sockets.items place) x.1.is at)) ∙ x.1.lingers ∙ serves was.0 was.1
      ]

  pub ended_at : (place : ℕ) (old new : Server M S) (turn : Turn) → TurnSays place old new turn
      → SaysNone place old new turn
      → ((line : Line S) → line_at old.sockets.items place ≡ Some line → line.lingers ≡ false)
      → turn ≡ Ended → IsAnsweredAt new.connections.places.items place
      → MayGoAt remaining contents new.limits new.connections.places.items new.sockets.items place
  ended_at place old new turn says none serves ended answered =
      elim (line_or_not (line_at old.sockets.items place)) [
        | inl e ↦ absurd (ended_waits (sym ended ∙ (none e).0))
        | inr was ↦
            let x = says was.0 was.1 in
            (x.0, x.1.is, inr (inr (inl (x.1.lingers ∙ serves was.0 was.1, x.3 ended, answered))))
      ]

  pub turned_at : (place : ℕ) (old new : Server M S) (turn : Turn) → TurnSays place old new turn
      → SaysNone place old new turn
      → ((line : Line S) → line_at old.sockets.items place ≡ Some line → line.lingers ≡ false)
      → ((fault : StreamFault) → turn ≢ Failed fault) → KeepsOn remaining contents serving old new
  turned_at place old new turn says none serves sound =
      elim (line_or_not (line_at old.sockets.items place)) [
        | inl e ↦ keeps_lines old new (none e).1 (none e).2 (none e).3
        | inr was ↦ (let x = says was.0 was.1 in keeps_turn place old new was.0 x.0 x.1 (serves was.0 was.1) (x.2 sound))
      ]

  -- one that has a fault is let go, and the fault is told
  pub failed_at : {F : Type 0} (tells : F → StreamFault → F → Type 0) (place : ℕ) (old mid new : Server M S) (turn : Turn) (fault : StreamFault) (f g : F)
      → TurnSays place old mid turn → SaysNone place old mid turn
      → ((line : Line S) → line_at old.sockets.items place ≡ Some line → line.lingers ≡ false)
      → turn ≡ Failed fault → tells f fault g → LetsGo remaining contents serving place mid new
      → GoesOn remaining contents serving tells old f new g
  failed_at {F} tells place old mid new turn fault f g says none serves failed told goes =
      elim (line_or_not (line_at old.sockets.items place)) [
        | inl e ↦ absurd (failed_waits fault (sym failed ∙ (none e).0))
        | inr was ↦
            (let x = says was.0 was.1 in
            goes_fault tells place old mid new was.0 x.0 fault f g x.1 (serves was.0 was.1) told goes)
      ]

  -- the log has failed in it: it is let go, and nothing is told
  pub stopped_at : {F : Type 0} (tells : F → StreamFault → F → Type 0) (place : ℕ) (old mid new : Server M S) (turn : Turn) (fault : StreamFault) (f : F)
      → TurnSays place old mid turn → SaysNone place old mid turn → turn ≡ Failed fault
      → HasFailedLog remaining contents serving mid.connections.service → LetsGo remaining contents serving place mid new
      → GoesOn remaining contents serving tells old f new f
  stopped_at {F} tells place old mid new turn fault f says none failed failed_log goes =
      elim (line_or_not (line_at old.sockets.items place)) [
        | inl e ↦ absurd (failed_waits fault (sym failed ∙ (none e).0))
        | inr was ↦ (let x = says was.0 was.1 in goes_stopped tells place old mid new was.0 x.0 f x.1 failed_log goes)
      ]

  -- ---- the whole

  kept_none : (limits : Limits) (first : M) (connections : Connections M) → connections.service ≡ first → connections.opened ≡ 0
      → connections.places.items ≡ [] → AreKept remaining contents serving limits first [] connections [] limits.total None
  kept_none limits first connections same opened places = record {
    histories = λ k. nothing;
    log = [];
    served =
        let P : ℕ → Type 0 = λ n. AreServed (λ k. nothing) [] n connections.places.items in
        let Q : List (Option Accepted) → Type 0 = λ t. AreServed (λ k. nothing) [] 0 t in
        subst P (sym opened) (subst Q (sym places) nobody);
    in_steps = steps_none remaining contents serving limits.is_administered first connections.service same (λ k. nothing);
    here = λ i l h. (let P : List (Option Accepted) → Type 0 = λ t. i < length t in let below : i < 0 = subst P places h.0 in absurd (omega (arith, below)));
    sound = λ i l h. (let P : List (Option Accepted) → Type 0 = λ t. i < length t in let below : i < 0 = subst P places h.0 in absurd (omega (arith, below)));
    later = λ k above. refl;
    nobody = λ i e. ap (λ (t : Option (Socket S)). line_of t) (get_or_past [] i None (omega arith));
    gone = λ sound_log k within none. absurd (omega (arith, within, opened));
    came = inl (all_to_come limits.total);
  }
    where
      all_to_come : (total : Option ℕ) → AreCounted total total (connections.opened + (0 + 0))
      all_to_come None = refl
      all_to_come (Some n) = omega (arith, opened)

  pub kept_none_in : (limits : Limits) (first : M) (connections : Connections M) (sockets : List (Option (Socket S)))
      → connections.service ≡ first → connections.opened ≡ 0 → connections.places.items ≡ [] → sockets ≡ []
      → AreKept remaining contents serving limits first [] connections sockets limits.total None
  kept_none_in limits first connections sockets same opened places none =
      let P : List (Option (Socket S)) → Type 0 = λ t. AreKept remaining contents serving limits first [] connections t limits.total None in
      subst P (sym none) (kept_none limits first connections same opened places)

  pub served_at_once : {E : Type 0} (limits : Limits) (first : M) (faults : List ToldFault) (server : Server M S) (ended : Result Rounds E)
      (result : Result (Unit {0}) Stop) (last : M) (failures : ℕ)
      → IsKept remaining contents serving limits first faults server → last ≡ server.connections.service → failures ≡ (serving first).standing.failures
      → IfOk ended (λ e. EndsSo remaining contents serving e server failures)
      → OnOk result (ended ≡ Ok rounds.Done) → (result ≡ Err StopsForStore → ended ≡ Ok rounds.StoreFailed)
      → (result ≡ Err StopsForLog → ((serving last).log.failed ≡ true) ⊎ (ended ≡ Ok rounds.LogFailed))
      → ((serving last).log.failed ≡ true → result ≡ Err StopsForLog)
      → AreServedAtOnce remaining contents serving limits first faults result last
  served_at_once {E} limits first faults server ended result last failures y same count ends done store for_log failed_log = record {
    histories = y.1.histories;
    log = y.1.log;
    opened = server.connections.opened;
    all = y.1.served.all;
    in_steps = rw same y.1.in_steps;
    done = by result done;
    store = λ e.
        let x = subst Ends (store e) ends in
        let P : ℕ → Type 0 = λ n. StoreHasFailed remaining contents serving limits n last in
        let Q : M → Type 0 = λ t. StoreHasFailed remaining contents serving limits failures t in
        let R : Limits → Type 0 = λ t. StoreHasFailed remaining contents serving t failures server.connections.service in
        subst P count (subst Q (sym same) (subst R y.0 x));
    for_log = λ e. elim (for_log e) [
      | inl failed ↦ failed
      | inr is ↦ (let Fails : M → Type 0 = λ t. HasFailedLog remaining contents serving t in subst Fails (sym same) (subst Ends is ends))
    ];
    failed_log = failed_log;
  }
    where
      Ends : Result Rounds E → Type 0
      Ends r = IfOk r (λ e. EndsSo remaining contents serving e server failures)

      by : (r : Result (Unit {0}) Stop) → OnOk r (ended ≡ Ok rounds.Done)
          → OnOk r (((k : ℕ) → k < server.connections.opened → WasLetGo remaining contents limits (told_of k faults) (own k y.1.log) (y.1.histories k))
          × HaveAllCome limits (server.connections.opened + count_unopened faults))
      by (Err e) is = tt
      by (Ok u) is =
          let x = y.1 in
          let d = subst Ends is ends in
          let P : Option ℕ → Type 0 = λ t. HaveCome limits t (server.connections.opened + (count_unopened faults + count_held server.held)) in
          let Q : Option S → Type 0 = λ t. HaveCome limits (Some 0) (server.connections.opened + (count_unopened faults + count_held t)) in (
            λ k within. x.gone d.3 k within (λ i l h e. absurd (let z = x.here i l h in no_line z.0 (sym (d.2 i) ∙ z.1))),
            elim (subst Q d.1 (subst P d.0 x.came)) [
              | inl counted ↦ inl (all_came limits.total server.connections.opened (count_unopened faults) counted)
              | inr cut ↦ inr (cut_short server.connections.opened (count_unopened faults) cut.1)
            ],
          )
        where
          none_some : (n : ℕ) → (◌≡◌) {A = Option ℕ} (Some n) None → ⊥
          none_some n e = cc

          cut_short : (n m : ℕ) → IsCutShort limits (n + (m + 0)) → IsCutShort limits (n + m)
          cut_short n m x = (let e : n + (m + 0) ≡ n + m = omega arith in let P : ℕ → Type 0 = λ k. IsCutShort limits k in subst P e x)

          all_came : (total : Option ℕ) (n m : ℕ) → AreCounted total (Some 0) (n + (m + 0)) → total ≡ Some (n + m)
          all_came None n m h = absurd (none_some 0 h)
          all_came (Some t) n m h = (let e : t ≡ n + m = omega (arith, h) in ap (λ (k : ℕ). Some k) e)

  pub served_none : {E : Type 0} (limits : Limits) (first : M) (error : E) (result : Result (Unit {0}) Stop)
      → OnOk result ((◌≡◌) {A = Result Rounds E} (Err error) (Ok rounds.Done))
      → (result ≡ Err StopsForStore → (◌≡◌) {A = Result Rounds E} (Err error) (Ok rounds.StoreFailed))
      → (result ≡ Err StopsForLog → ((serving first).log.failed ≡ true) ⊎ ((◌≡◌) {A = Result Rounds E} (Err error) (Ok rounds.LogFailed)))
      → ((serving first).log.failed ≡ true → result ≡ Err StopsForLog)
      → AreServedAtOnce remaining contents serving limits first [] result first
  served_none {E} limits first error result done store for_log failed_log = record {
    histories = λ k. nothing;
    log = [];
    opened = 0;
    all = nobody.all;
    in_steps = steps_none remaining contents serving limits.is_administered first first refl (λ k. nothing);
    done = by result _ done;
    store = λ e. absurd (differ rounds.StoreFailed (store e));
    for_log = λ e. elim (for_log e) [ inl failed ↦ failed | inr is ↦ absurd (differ rounds.LogFailed is) ];
    failed_log = failed_log;
  }
    where
      differ : (r : Rounds) → (◌≡◌) {A = Result Rounds E} (Err error) (Ok r) → ⊥
      differ r e = cc

      by : (r : Result (Unit {0}) Stop) (P : Type 0) → OnOk r ((◌≡◌) {A = Result Rounds E} (Err error) (Ok rounds.Done)) → OnOk r P
      by (Err e) P is = tt
      by (Ok u) P is = absurd (differ rounds.Done is)
