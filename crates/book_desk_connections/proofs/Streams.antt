-- A connection and its stream, a move at a time.
use Rattle.std.proofs.Common.{◌≡◌, ℕ, ◌⊎◌, inl, inr, Bool, true, List, [], ◌++◌, map, Option, refl, sym, ap, subst, ◌∙◌, append_assoc, append-nil}
use Rattle.std.proofs.lemmas.List.{map-append}
use Rattle.std.proofs.lemmas.Bool.{cases_eq}
use Rattle.std.specs.Io.KnownBytes.{Appends, Consumes, IsAtEnd}
use Rattle.book_wire_serving.specs.Serving.{Answered, Runs, Serving}
use Rattle.book_wire.specs.Stream.{Exchange, answered_of}
use Rattle.book_wire_serving.proofs.Servings.{runs_none, runs_then, stays}
use Rattle.book_desk_connections.specs.declared.connections.Accepted.{Accepted}
use Rattle.book_desk_connections.specs.declared.connections.Connections.{Connections}
use Rattle.book_desk_connections.specs.ManyConnections.{History, Entry, AreServed, Holds, OthersStay, entries, grows, receives, is_sent, number_at, with_history}
use Rattle.book_desk_connections.specs.Streams.{IsMoved, WasAtEnd, IsStillAt, Serves, TakesATurn}
use Rattle.book_desk_connections.specs.Streams.IsMoved.{rests, reads, writes, moves_on}
use Rattle.book_desk_connections.proofs.Histories.{entries_append, history_here, history_there, like, number_held}
use Rattle.book_desk_connections.proofs.Places.{others_then}

-- ---- what it received and was sent

grown : (histories : ℕ → History) (k : ℕ) (p q : History) → p ≡ q → with_history histories k p ≡ with_history histories k q
grown histories k p q e = ap (λ (t : History). with_history histories k t) e

pub received_grows : (histories : ℕ → History) (k : ℕ) (bytes : List ℕ) → receives histories k bytes ≡ grows histories k bytes []
received_grows histories k bytes =
    let had = histories k in
    let P : List ℕ → History = λ t. record { received = had.received ++ bytes; sent = t } in
    grown histories k (P had.sent) (P (had.sent ++ [])) (ap P (sym (append-nil had.sent)))

pub sent_grows : (histories : ℕ → History) (k : ℕ) (bytes : List ℕ) → is_sent histories k bytes ≡ grows histories k [] bytes
sent_grows histories k bytes =
    let had = histories k in
    let P : List ℕ → History = λ t. record { received = t; sent = had.sent ++ bytes } in
    grown histories k (P had.received) (P (had.received ++ [])) (ap P (sym (append-nil had.received)))

grows_twice : (histories : ℕ → History) (k : ℕ) (a b c d : List ℕ) (j : ℕ)
    → grows histories k (a ++ c) (b ++ d) j ≡ grows (grows histories k a b) k c d j
grows_twice histories k a b c d j = elim (cases_eq j k) [
  | inl at ↦
      let had = histories k in
      let first : History = record { received = had.received ++ a; sent = had.sent ++ b } in
      let whole : History = record { received = had.received ++ (a ++ c); sent = had.sent ++ (b ++ d) } in
      let Grows : History → History = λ t. record { received = t.received ++ c; sent = t.sent ++ d } in
      let P : ℕ → Type 0 = λ n. grows histories k (a ++ c) (b ++ d) n ≡ grows (grows histories k a b) k c d n in
      let G : List ℕ → List ℕ → History = λ x y. record { received = x; sent = y } in
      let joined : whole ≡ Grows first =
      ap (λ (t : List ℕ). G t (had.sent ++ (b ++ d))) (sym (append_assoc had.received a c))
      ∙ ap (λ (t : List ℕ). G ((had.received ++ a) ++ c) t) (sym (append_assoc had.sent b d)) in
      subst P (sym at)
      (history_here histories k whole ∙ joined ∙ sym (ap Grows (history_here histories k first))
      ∙ sym (history_here (grows histories k a b) k (Grows (grows histories k a b k))))
  | inr far ↦
      let had = histories k in
      let first : History = record { received = had.received ++ a; sent = had.sent ++ b } in
      let whole : History = record { received = had.received ++ (a ++ c); sent = had.sent ++ (b ++ d) } in
      let Grows : History → History = λ t. record { received = t.received ++ c; sent = t.sent ++ d } in
      history_there histories j k whole far ∙ sym (history_there histories j k first far)
      ∙ sym (history_there (grows histories k a b) j k (Grows (grows histories k a b k)) far)
]

-- ---- one move

pub serves_read : {M S : Type 0} (serving : M → Serving) (remaining contents : S → Option (List ℕ)) (place : ℕ) (old new : Connections M) (s t : S) (bytes : List ℕ)
    → Consumes (remaining s) (remaining t) bytes → new.opened ≡ old.opened → OthersStay place old.places.items new.places.items
    → ((histories : ℕ → History) (log : List Entry) → AreServed histories log old.opened old.places.items
    → (more : List Exchange) × AreServed (receives histories (number_at old.places.items place) bytes) (log ++ entries (number_at old.places.items place) more) new.opened new.places.items
    × Runs (serving old.service) (serving new.service) (map answered_of more))
    → Serves serving remaining contents place old new s t bytes []
serves_read {M} {S} serving remaining contents place old new s t bytes read opened others served = record {
  moved = reads s t bytes read;
  opened = opened;
  others = others;
  served = λ histories log x.
      let k = number_at old.places.items place in
      let y = served histories log x in
      let P : (ℕ → History) → Type 0 = λ h. AreServed h (log ++ entries k y.0) new.opened new.places.items in
      (y.0, subst P (received_grows histories k bytes) y.1, y.2);
}

pub serves_more : {M S : Type 0} (serving : M → Serving) (remaining contents : S → Option (List ℕ)) (place : ℕ) (old new : Connections M) (s : S)
    → new.opened ≡ old.opened → OthersStay place old.places.items new.places.items
    → ((histories : ℕ → History) (log : List Entry) → AreServed histories log old.opened old.places.items
    → (more : List Exchange) × AreServed (receives histories (number_at old.places.items place) []) (log ++ entries (number_at old.places.items place) more) new.opened new.places.items
    × Runs (serving old.service) (serving new.service) (map answered_of more))
    → Serves serving remaining contents place old new s s [] []
serves_more {M} {S} serving remaining contents place old new s opened others served = record {
  moved = rests s;
  opened = opened;
  others = others;
  served = λ histories log x.
      let k = number_at old.places.items place in
      let y = served histories log x in
      let P : (ℕ → History) → Type 0 = λ h. AreServed h (log ++ entries k y.0) new.opened new.places.items in
      (y.0, subst P (received_grows histories k []) y.1, y.2);
}

pub serves_held : {M S : Type 0} (serving : M → Serving) (remaining contents : S → Option (List ℕ)) (place : ℕ) (old new : Connections M) (s t : S) (bytes : List ℕ)
    → Consumes (remaining s) (remaining t) bytes → new.opened ≡ old.opened → OthersStay place old.places.items new.places.items
    → new.service ≡ old.service
    → ((histories : ℕ → History) (log : List Entry) → AreServed histories log old.opened old.places.items
    → AreServed (receives histories (number_at old.places.items place) bytes) log new.opened new.places.items)
    → Serves serving remaining contents place old new s t bytes []
serves_held {M} {S} serving remaining contents place old new s t bytes read opened others service served = record {
  moved = reads s t bytes read;
  opened = opened;
  others = others;
  served = λ histories log x.
      let k = number_at old.places.items place in
      let P : (ℕ → History) → Type 0 = λ h. AreServed h log new.opened new.places.items in
      let Q : List Entry → Type 0 = λ l. AreServed (grows histories k bytes []) l new.opened new.places.items in (
        [],
        subst Q (sym (append-nil log)) (subst P (received_grows histories k bytes) (served histories log x)),
        rw service (runs_none _ _ (stays _)),
      );
}

pub serves_sent : {M S : Type 0} (serving : M → Serving) (remaining contents : S → Option (List ℕ)) (place : ℕ) (old new : Connections M) (s t : S) (bytes : List ℕ)
    → Appends (contents s) (contents t) bytes → new.opened ≡ old.opened → OthersStay place old.places.items new.places.items
    → new.service ≡ old.service
    → ((histories : ℕ → History) (log : List Entry) → AreServed histories log old.opened old.places.items
    → AreServed (is_sent histories (number_at old.places.items place) bytes) log new.opened new.places.items)
    → Serves serving remaining contents place old new s t [] bytes
serves_sent {M} {S} serving remaining contents place old new s t bytes wrote opened others service served = record {
  moved = writes s t bytes wrote;
  opened = opened;
  others = others;
  served = λ histories log x.
      let k = number_at old.places.items place in
      let P : (ℕ → History) → Type 0 = λ h. AreServed h log new.opened new.places.items in
      let Q : List Entry → Type 0 = λ l. AreServed (grows histories k [] bytes) l new.opened new.places.items in (
        [],
        subst Q (sym (append-nil log)) (subst P (sent_grows histories k bytes) (served histories log x)),
        rw service (runs_none _ _ (stays _)),
      );
}

-- nothing is moved
pub serves_none : {M S : Type 0} (serving : M → Serving) (remaining contents : S → Option (List ℕ)) (place : ℕ) (old : Connections M) (s : S)
    → Serves serving remaining contents place old old s s [] []
serves_none {M} {S} serving remaining contents place old s = record {
  moved = rests s;
  opened = refl;
  others = record { stay = λ j far. refl };
  served = λ histories log x.
      let k = number_at old.places.items place in
      let nothing_more : (j : ℕ) → grows histories k [] [] j ≡ histories j = λ j. elim (cases_eq j k) [
        | inl at ↦
            let had = histories k in
            let P : ℕ → Type 0 = λ n. grows histories k [] [] n ≡ histories n in
            let G : List ℕ → List ℕ → History = λ a b. record { received = a; sent = b } in
            subst P (sym at)
            (history_here histories k (G (had.received ++ []) (had.sent ++ []))
            ∙ ap (λ (t : List ℕ). G t (had.sent ++ [])) (append-nil had.received) ∙ ap (λ (t : List ℕ). G had.received t) (append-nil had.sent))
        | inr far ↦
            (let had = histories k in
            let G : List ℕ → List ℕ → History = λ a b. record { received = a; sent = b } in
            history_there histories j k (G (had.received ++ []) (had.sent ++ [])) far)
      ] in
      let Q : List Entry → Type 0 = λ l. AreServed (grows histories k [] []) l old.opened old.places.items in
      ([], subst Q (sym (append-nil log)) (like histories (grows histories k [] []) log old.opened old.places.items nothing_more x), runs_none _ _ (stays _));
}

-- ---- one after the other

pub serves_then : {M S : Type 0} (serving : M → Serving) (remaining contents : S → Option (List ℕ)) (place : ℕ) (old mid new : Connections M) (s t u : S) (a b c d : List ℕ)
    → Serves serving remaining contents place old mid s t a b → Serves serving remaining contents place mid new t u c d
    → number_at mid.places.items place ≡ number_at old.places.items place
    → Serves serving remaining contents place old new s u (a ++ c) (b ++ d)
serves_then {M} {S} serving remaining contents place old mid new s t u a b c d x y same_number = record {
  moved = moves_on s t u a b c d x.moved y.moved;
  opened = y.opened ∙ x.opened;
  others = others_then place old.places.items mid.places.items new.places.items x.others y.others;
  served = λ histories log z.
      let k = number_at old.places.items place in
      let first = x.served histories log z in
      let S1 = log ++ entries k first.0 in
      let P : ℕ → Type 0 = λ n. (more : List Exchange)
      × AreServed (grows (grows histories k a b) n c d) (S1 ++ entries n more) new.opened new.places.items
      × Runs (serving mid.service) (serving new.service) (map answered_of more) in
      let second = subst P same_number (y.served (grows histories k a b) S1 first.1) in
      let Q : List Entry → Type 0 = λ l. AreServed (grows histories k (a ++ c) (b ++ d)) l new.opened new.places.items in
      let R : List Answered → Type 0 = λ l. Runs (serving old.service) (serving new.service) l in (
        first.0 ++ second.0,
        subst Q (append_assoc log (entries k first.0) (entries k second.0) ∙ ap (λ (l : List Entry). log ++ l) (sym (entries_append k first.0 second.0)))
            (like (grows (grows histories k a b) k c d) (grows histories k (a ++ c) (b ++ d)) (S1 ++ entries k second.0) new.opened new.places.items
            (grows_twice histories k a b c d) second.1),
        subst R (sym (map-append answered_of first.0 second.0)) (runs_then _ _ _ (map answered_of first.0) (map answered_of second.0) first.2 second.2),
      );
}

pub still : (place : ℕ) (places : List (Option Accepted)) → IsStillAt place places places
still place places = record { number = refl; there = λ l h. (l, h) }

-- one that was there is there, with its number
pub still_held : (place : ℕ) (old new : List (Option Accepted)) (l : Accepted) → Holds old place l
    → (m : Accepted) × Holds new place m × (m.number ≡ l.number) → IsStillAt place old new
still_held place old new l held x = record {
  number = number_held new place x.0 x.1 ∙ x.2 ∙ sym (number_held old place l held);
  there = λ k h. (x.0, x.1);
}

pub still_then : (place : ℕ) (a b c : List (Option Accepted)) → IsStillAt place a b → IsStillAt place b c → IsStillAt place a c
still_then place a b c x y = record {
  number = y.number ∙ x.number;
  there = λ l h. (let m = x.there l h in y.there m.0 m.1);
}

pub turn_then : {M S : Type 0} (serving : M → Serving) (remaining contents : S → Option (List ℕ)) (place : ℕ) (old mid new : Connections M) (s t u : S) (e f : Bool)
    → TakesATurn serving remaining contents place old mid s t e → TakesATurn serving remaining contents place mid new t u f
    → (e ≡ true → f ≡ true) → number_at mid.places.items place ≡ number_at old.places.items place
    → TakesATurn serving remaining contents place old new s u e
turn_then {M} {S} serving remaining contents place old mid new s t u e f x y ended same_number = record {
  came = x.came ++ y.came;
  went = x.went ++ y.went;
  serves = serves_then serving remaining contents place old mid new s t u x.came x.went y.came y.went x.serves y.serves same_number;
  unread = λ h.
      let P : List ℕ → Type 0 = λ l. l ++ y.came ≡ [] in
      subst P (sym (x.unread h)) (y.unread (ended h));
}

-- its input was at its end, and it was not read since
pub at_end_then : {M S : Type 0} (serving : M → Serving) (remaining contents : S → Option (List ℕ)) (place : ℕ) (old new : Connections M) (s t : S) (e : Bool)
    → TakesATurn serving remaining contents place old new s t e → e ≡ true → WasAtEnd remaining contents s → WasAtEnd remaining contents t
at_end_then {M} {S} serving remaining contents place old new s t e x h was =
    let P : List ℕ → Type 0 = λ l. IsMoved remaining contents was.0 l (was.2 ++ x.went) t in (
      was.0,
      was.1,
      was.2 ++ x.went,
      subst P (x.unread h) (moves_on was.0 s t [] was.2 x.came x.went was.3 x.serves.moved),
    )

pub at_end_now : {S : Type 0} (remaining contents : S → Option (List ℕ)) (s : S) → IsAtEnd (remaining s) → WasAtEnd remaining contents s
at_end_now {S} remaining contents s h = (s, h, [], rests s)

-- a turn in which nothing is moved
pub turn_none : {M S : Type 0} (serving : M → Serving) (remaining contents : S → Option (List ℕ)) (place : ℕ) (old : Connections M) (s : S) (e : Bool)
    → TakesATurn serving remaining contents place old old s s e
turn_none {M} {S} serving remaining contents place old s e = record {
  came = [];
  went = [];
  serves = serves_none serving remaining contents place old s;
  unread = λ h. refl;
}

-- it was sent something
pub turn_sent : {M S : Type 0} (serving : M → Serving) (remaining contents : S → Option (List ℕ)) (place : ℕ) (old new : Connections M) (s t : S) (e : Bool)
    → ((went : List ℕ) × Serves serving remaining contents place old new s t [] went)
    → TakesATurn serving remaining contents place old new s t e
turn_sent {M} {S} serving remaining contents place old new s t e x = record { came = []; went = x.0; serves = x.1; unread = λ h. refl }

-- it brought something
pub turn_brought : {M S : Type 0} (serving : M → Serving) (remaining contents : S → Option (List ℕ)) (place : ℕ) (old new : Connections M) (s t : S) (e : Bool)
    → ((came : List ℕ) × Serves serving remaining contents place old new s t came [] × (e ≡ true → came ≡ []))
    → TakesATurn serving remaining contents place old new s t e
turn_brought {M} {S} serving remaining contents place old new s t e x = record { came = x.0; went = []; serves = x.1; unread = x.2 }

-- its input is at its end now, or was before
pub at_end_after : {M S : Type 0} (serving : M → Serving) (remaining contents : S → Option (List ℕ)) (place : ℕ) (old new : Connections M) (s t : S) (e : Bool)
    → TakesATurn serving remaining contents place old new s t e → (e ≡ true) ⊎ IsAtEnd (remaining t) → (e ≡ true → WasAtEnd remaining contents s)
    → WasAtEnd remaining contents t
at_end_after {M} {S} serving remaining contents place old new s t e x (inl h) was = at_end_then serving remaining contents place old new s t e x h (was h)
at_end_after {M} {S} serving remaining contents place old new s t e x (inr h) was = at_end_now remaining contents t h
