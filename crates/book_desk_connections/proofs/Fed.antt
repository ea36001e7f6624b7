-- A round of connections, a connection at a time.
use Rattle.std.proofs.Common.{◌≡◌, ◌≢◌, ◌⊎◌, inl, inr, ℕ, ◌<◌, false, List, [], ◌∷◌, ◌++◌, map, length, get_or, Option, Some, None, refl, sym, ap, subst, ◌∙◌, append_assoc, append-nil, Ok, Err, arith}
use Rattle.std.proofs.lemmas.Bool.{cases_eq, cases_lt, false≢true}
use Rattle.std.proofs.lemmas.List.{get_or_past, map-append}
use Rattle.std.proofs.lemmas.List.Elements.{All-cons, All-get_or, All-head, All-nil, All-tail}
use Rattle.std.specs.List.{flat_map, All}
use Rattle.book_office.specs.Keeping.{Standing}
use Rattle.book_office.specs.declared.keepers.StoreFault.{StoreFault}
use Rattle.book_wire.specs.Connection.{View, resumed}
use Rattle.book_wire.specs.Stream.{Exchange, answered_of, text_of}
use Rattle.book_wire_serving.specs.Rounds.{IsServedRound, IsTried}
use Rattle.book_wire_serving.specs.Serving.{Answered, Runs, Serving}
use Rattle.book_wire_serving.specs.declared.faults.StreamFault.{StreamFault}
use Rattle.book_wire_serving.proofs.KeptRuns.{kept_done, not_begun, runs_kept, tried}
use Rattle.book_wire_serving.proofs.Servings.{runs_none, runs_then, stays}
use Rattle.book_desk_connections.specs.ManyConnections.{History, Entry, AreServed, EndsSomehow, IsThere, Holds, OthersStay, answered_in, entries, own, receives}
use Rattle.book_desk_connections.specs.Rounds.{AreBack, AreExchanges, AreFed, AreOfThose, AreSentNext, GoesOnAt, IsBackAt, IsFeeding, IsHeldIn, LeavesAt, OthersAreSame, StaysOpenAt, TriesRound}
use Rattle.book_desk_connections.specs.declared.connections.Accepted.{Accepted}
use Rattle.book_desk_connections.specs.declared.connections.Connections.{Connections}
use Rattle.book_desk_connections.specs.declared.feeding.Feeds.{Feeds}
use Rattle.book_desk_connections.specs.declared.feeding.Lost.{Lost}
use Rattle.book_desk_connections.specs.declared.rounds.Held.{Held}
use Rattle.book_desk_connections.proofs.Histories.{entries_run, holds_one, like, own_append, own_others, unchanged}

-- ---- what is at a place

pub nobody_there : (l : Accepted) → (◌≡◌) {A = Option Accepted} None (Some l) → ⊥
nobody_there l e = cc

pub holds_of : (places : List (Option Accepted)) (i : ℕ) (l : Accepted) → get_or places i None ≡ Some l → Holds places i l
holds_of places i l e = elim (cases_lt i (length places)) [
  | inl within ↦ (within, e)
  | inr past ↦ absurd (nobody_there l (sym (get_or_past places i None past) ∙ e))
]

-- a place that is as it was
holds_as : (places others : List (Option Accepted)) (i : ℕ) (l : Accepted) → get_or others i None ≡ get_or places i None → Holds others i l → Holds places i l
holds_as places others i l same h = holds_of places i l (sym same ∙ h.1)

-- ---- one connection

-- nothing is done
pub fed_none : (s : Serving) (places : List (Option Accepted)) → AreFed s s places places None
fed_none s places = record {
  count = refl;
  places = λ j. inl refl;
  gone = λ j at. absurd at;
  served = λ histories log opened x.
      let P : List Entry → Type 0 = λ t. AreServed histories t opened places in
      ([], subst P (sym (append-nil log)) x, (λ k none. refl), runs_none s s (stays s));
}

-- what its requests are, where no byte came
fed_more : (before after : Serving) (old new : List (Option Accepted)) (place : ℕ) (l : Accepted) → Holds old place l
    → (histories : ℕ → History) (log : List Entry) (opened : ℕ)
    → ((more : List Exchange) × AreServed (receives histories l.number []) (log ++ entries l.number more) opened new × Runs before after (map answered_of more))
    → (more : List Entry) × AreServed histories (log ++ more) opened new × AreOfThose old more × Runs before after (map answered_in more)
fed_more before after old new place l holds histories log opened x =
    let k = l.number in
    let p : History = record { received = (histories k).received ++ []; sent = (histories k).sent } in
    let e : p ≡ histories k = ap (λ (t : List ℕ). (let q : History = record { received = t; sent = (histories k).sent } in q)) (append-nil (histories k).received) in (
      entries k x.0,
      like (receives histories k []) histories (log ++ entries k x.0) opened new (λ j. sym (unchanged histories k p e j)) x.1,
      (λ j none. own_others j k x.0 (λ same. none place l holds (sym same))),
      entries_run before after k x.0 x.2,
    )

pub fed_one : (before after : Serving) (old new : List (Option Accepted)) (place : ℕ) (l m : Accepted)
    → Holds old place l → l.connection.closing ≡ false → Holds new place m → m.number ≡ l.number → length new ≡ length old → OthersStay place old new
    → ((histories : ℕ → History) (log : List Entry) (opened : ℕ) → AreServed histories log opened old
    → (more : List Exchange) × AreServed (receives histories l.number []) (log ++ entries l.number more) opened new × Runs before after (map answered_of more))
    → AreFed before after old new None
fed_one before after old new place l m holds open_was holds_then number count others served = record {
  count = count;
  places = λ j. elim (cases_eq j place) [
    | inl at ↦
        let P : ℕ → Type 0 = λ n. GoesOnAt None n old new in
        subst P (sym at) (inr (inl (record { was = l; is = m; there_was = holds; there_is = holds_then; number = number; open_was = open_was })))
    | inr far ↦ inl (others.stay j far)
  ];
  gone = λ j at. absurd at;
  served = λ histories log opened x. fed_more before after old new place l holds histories log opened (served histories log opened x);
}

pub fed_lost : (before after : Serving) (old new : List (Option Accepted)) (place : ℕ) (fault : StreamFault) (l : Accepted)
    → Holds old place l → l.connection.closing ≡ false → get_or new place None ≡ None → length new ≡ length old → OthersStay place old new
    → ((histories : ℕ → History) (log : List Entry) (opened : ℕ) → AreServed histories log opened old
    → (more : List Exchange) × AreServed (receives histories l.number []) (log ++ entries l.number more) opened new × Runs before after (map answered_of more))
    → AreFed before after old new (Some (record { place = place; fault = fault }))
fed_lost before after old new place fault l holds open_was empty count others served = record {
  count = count;
  places = λ j. elim (cases_eq j place) [
    | inl at ↦
        let P : ℕ → Type 0 = λ n. GoesOnAt lost n old new in
        subst P (sym at) (inr (inr (refl, leaves)))
    | inr far ↦ inl (others.stay j far)
  ];
  gone = λ j at. (let P : ℕ → Type 0 = λ n. LeavesAt n old new in subst P at leaves);
  served = λ histories log opened x. fed_more before after old new place l holds histories log opened (served histories log opened x);
}
  where
    lost : Option Lost
    lost = Some (record { place = place; fault = fault })

    leaves : LeavesAt place old new
    leaves = record { was = l; there_was = holds; open_was = open_was; empty = empty }

-- ---- one after the other

leaves_then : (j : ℕ) (a b c : List (Option Accepted)) → GoesOnAt None j a b → LeavesAt j b c → LeavesAt j a c
leaves_then j a b c (inl same) y =
    record { was = y.was; there_was = holds_as a b j y.was same y.there_was; open_was = y.open_was; empty = y.empty }
leaves_then j a b c (inr (inl x)) y = record { was = x.was; there_was = x.there_was; open_was = x.open_was; empty = y.empty }
leaves_then j a b c (inr (inr lost)) y = absurd lost.0

stays_then : (j : ℕ) (a b c : List (Option Accepted)) → GoesOnAt None j a b → StaysOpenAt j b c → StaysOpenAt j a c
stays_then j a b c (inl same) y =
    record { was = y.was; is = y.is; there_was = holds_as a b j y.was same y.there_was; there_is = y.there_is; number = y.number; open_was = y.open_was }
stays_then j a b c (inr (inl x)) y =
    let is_one : y.was ≡ x.is = holds_one b j y.was x.is y.there_was x.there_is in
    record { was = x.was; is = y.is; there_was = x.there_was; there_is = y.there_is; number = y.number ∙ ap (λ (t : Accepted). t.number) is_one ∙ x.number; open_was = x.open_was }
stays_then j a b c (inr (inr lost)) y = absurd lost.0

goes_on_then : (lost : Option Lost) (j : ℕ) (a b c : List (Option Accepted)) → GoesOnAt None j a b → GoesOnAt lost j b c → GoesOnAt lost j a c
goes_on_then lost j a b c x (inr (inl y)) = inr (inl (stays_then j a b c x y))
goes_on_then lost j a b c x (inr (inr y)) = inr (inr (y.0, leaves_then j a b c x y.1))
goes_on_then lost j a b c (inl same) (inl y) = inl (y ∙ same)
goes_on_then lost j a b c (inr (inl x)) (inl y) =
    inr (inl (record { was = x.was; is = x.is; there_was = x.there_was; there_is = holds_of c j x.is (y ∙ x.there_is.1); number = x.number; open_was = x.open_was }))
goes_on_then lost j a b c (inr (inr gone)) (inl y) = absurd gone.0

-- one that is there afterwards was there before, with its number
was_there : (i : ℕ) (m : Accepted) (a b : List (Option Accepted)) → GoesOnAt None i a b → Holds b i m → (l : Accepted) × Holds a i l × (m.number ≡ l.number)
was_there i m a b (inl same) h = (m, holds_as a b i m same h, refl)
was_there i m a b (inr (inl x)) h = (x.was, x.there_was, ap (λ (t : Accepted). t.number) (holds_one b i m x.is h x.there_is) ∙ x.number)
was_there i m a b (inr (inr lost)) h = absurd lost.0

pub fed_then : (s t u : Serving) (a b c : List (Option Accepted)) (lost : Option Lost) → AreFed s t a b None → AreFed t u b c lost → AreFed s u a c lost
fed_then s t u a b c lost x y = record {
  count = y.count ∙ x.count;
  places = λ j. goes_on_then lost j a b c (x.places j) (y.places j);
  gone = λ j at. leaves_then j a b c (x.places j) (y.gone j at);
  served = λ histories log opened z.
      let first = x.served histories log opened z in
      let second = y.served histories (log ++ first.0) opened first.1 in
      let P : List Entry → Type 0 = λ l. AreServed histories l opened c in
      let R : List Answered → Type 0 = λ l. Runs s u l in (
        first.0 ++ second.0,
        subst P (append_assoc log first.0 second.0) second.1,
        (λ k none.
            own_append k first.0 second.0 ∙ ap (λ (l : List Exchange). l ++ own k second.0) (first.2 k none)
            ∙ second.2 k (λ i m h same. (let w = was_there i m a b (x.places i) h in none i w.0 w.1 (sym w.2 ∙ same)))),
        subst R (sym (map-append answered_in first.0 second.0))
            (runs_then s t u (map answered_in first.0) (map answered_in second.0) first.3 second.3),
      );
}

-- the places of those that are not among these are as they were, also after one of these
pub others_fed : (held : List Held) (i : ℕ) (copy : Held) (a b c : List (Option Accepted)) → i < length held → copy ≡ get_or held i copy
    → OthersAreSame held a b → OthersStay copy.place b c → OthersAreSame held a c
others_fed held i copy a b c within is x y j all =
    let P : Held → Type 0 = λ h. h.place ≢ j in
    let far : copy.place ≢ j = subst P (sym is) (All-get_or P held i copy within all) in
    y.stay j (λ e. far (sym e)) ∙ x j all

-- ---- what was sent

exchanges_of : (es : List Exchange) (rest refusal : List ℕ) → EndsSomehow es rest refusal → AreExchanges es
exchanges_of es rest refusal (inl y) = inl y.0
exchanges_of es rest refusal (inr y) = inr (y.0, y.1, y.2, y.3, y.4)

-- what was answered behind others was sent behind them
pub sent_next : (histories : ℕ → History) (log more : List Entry) (opened : ℕ) (places : List (Option Accepted)) → AreServed histories (log ++ more) opened places
    → AreSentNext histories log more
sent_next histories log more opened places x k =
    let b = x.all k in
    let P : List Exchange → Type 0 = λ t. (histories k).received ≡ flat_map text_of t ++ b.rest in
    let Q : List Exchange → Type 0 = λ t. AreExchanges t in
    let split : own k (log ++ more) ≡ own k log ++ own k more = own_append k log more in
    (b.rest, subst P split b.received_is, subst Q split (exchanges_of (own k (log ++ more)) b.rest b.refusal b.ends))

sent_none : (histories : ℕ → History) (log : List Entry) (opened : ℕ) (places : List (Option Accepted)) → AreServed histories log opened places
    → AreSentNext histories log []
sent_none histories log opened places x =
    let P : List Entry → Type 0 = λ t. AreServed histories t opened places in
    sent_next histories log [] opened places (subst P (sym (append-nil log)) x)

-- ---- they are back

pub back_same : (places : List (Option Accepted)) → AreBack places places
back_same places = record { at = λ j. inl refl }

back_there : (es : List Exchange) (history : History) (v : View) → IsThere es history v → v.unsent ≡ [] → v.closing ≡ false → IsThere es history (resumed v.unread)
back_there es history v x unsent open_was = record {
  stays = λ e.
      let was = x.stays open_was in
      (was.0, was.1, ap (λ (t : List ℕ). history.sent ++ t) (sym unsent) ∙ was.2);
  closes = λ e. absurd (false≢true e);
  waits = λ e f. absurd (false≢true (sym f));
}

-- one that is there was there, with its number, and is there as it was
abbrev WasThere : (ℕ → History) → List Entry → ℕ → Accepted → List (Option Accepted) → Type 0
WasThere histories log j l old = (m : Accepted) × Holds old j m × (l.number ≡ m.number)
    × (IsThere (own m.number log) (histories m.number) m.connection → IsThere (own m.number log) (histories m.number) l.connection)

back_at : (histories : ℕ → History) (log : List Entry) (j : ℕ) (l : Accepted) (old new : List (Option Accepted)) → Holds new j l
    → (get_or new j None ≡ get_or old j None) ⊎ IsBackAt j old new → WasThere histories log j l old
back_at histories log j l old new h (inl same) = (l, holds_as old new j l same h, refl, λ x. x)
back_at histories log j l old new h (inr b) =
    let is_one : l ≡ b.is = holds_one new j l b.is h b.there_is in
    let P : View → Type 0 = λ t. IsThere (own b.was.number log) (histories b.was.number) t in (
      b.was,
      b.there_was,
      ap (λ (t : Accepted). t.number) is_one ∙ b.number,
      (λ x. subst P (sym (ap (λ (t : Accepted). t.connection) is_one ∙ b.back)) (back_there (own b.was.number log) (histories b.was.number) b.was.connection x b.unsent b.open_was)),
    )

pub back_served : (histories : ℕ → History) (log : List Entry) (opened : ℕ) (old new : List (Option Accepted)) → AreServed histories log opened old → AreBack old new
    → AreServed histories log opened new
back_served histories log opened old new x back = record {
  all = x.all;
  here = λ j l h.
      let w = back_at histories log j l old new h (back.at j) in
      let was = x.here j w.0 w.1 in
      let P : ℕ → Type 0 = λ n. (n < opened) × IsThere (own n log) (histories n) l.connection in
      subst P (sym w.2) (was.0, w.3 was.1);
  apart = λ i j l m h k same.
      let v = back_at histories log i l old new h (back.at i) in
      let w = back_at histories log j m old new k (back.at j) in
      x.apart i j v.0 w.0 v.1 w.1 (sym v.2 ∙ same ∙ w.2);
  later = x.later;
}

-- a place is as it was before, or its connection is back, or a copy of it is still to come
abbrev pub PutAt : (before now : List (Option Accepted)) (rest : List Held) (j : ℕ) → Type 0
PutAt before now rest j =
    (get_or now j None ≡ get_or before j None) ⊎ IsBackAt j before now ⊎ (All (λ (h : Held). h.place ≢ j) rest → ⊥)

away_or_not : (j : ℕ) (held : List Held) → All (λ (h : Held). h.place ≢ j) held ⊎ (All (λ (h : Held). h.place ≢ j) held → ⊥)
away_or_not j [] = inl (All-nil (λ (h : Held). h.place ≢ j))
away_or_not j (h ∷ held) = elim (cases_eq h.place j) [
  | inl at ↦ inr (λ all. All-head (λ (k : Held). k.place ≢ j) h held all at)
  | inr far ↦ elim (away_or_not j held) [
    | inl all ↦ inl (All-cons (λ (k : Held). k.place ≢ j) h held far all)
    | inr not ↦ inr (λ all. not (All-tail (λ (k : Held). k.place ≢ j) h held all))
  ]
]

pub put_first : (before now : List (Option Accepted)) (held : List Held) → OthersAreSame held before now → (j : ℕ) → PutAt before now held j
put_first before now held others j = elim (away_or_not j held) [ inl all ↦ inl (others j all) | inr not ↦ inr (inr not) ]

pub put_more : (before now new : List (Option Accepted)) (copy : Held) (rest : List Held) → IsHeldIn before copy → length before ≡ length now
    → OthersStay copy.place now new
    → (copy.place < length now
    → (is : Accepted) × (get_or new copy.place None ≡ Some is) × (is.number ≡ copy.number) × (is.connection ≡ resumed copy.unread.items))
    → ((j : ℕ) → PutAt before now (copy ∷ rest) j) → (j : ℕ) → PutAt before new rest j
put_more before now new copy rest held count others back put j = elim (cases_eq j copy.place) [
  | inl at ↦
      let within : copy.place < length now = (let w = held.1.0 in omega (arith, w, count)) in
      let b = back within in
      let P : ℕ → Type 0 = λ n. PutAt before new rest n in
      subst P (sym at) (inr (inl (record {
        was = held.0;
        is = b.0;
        there_was = held.1;
        there_is = holds_of new copy.place b.0 b.1;
        number = b.2 ∙ sym held.2;
        back = b.3 ∙ ap resumed (sym held.3);
        unsent = held.4;
        open_was = held.5;
      })))
  | inr far ↦ far_off far (put j)
]
  where
    far_off : (j ≡ copy.place → ⊥) → PutAt before now (copy ∷ rest) j → PutAt before new rest j
    far_off far (inl same) = inl (others.stay j far ∙ same)
    far_off far (inr (inl b)) =
        inr (inl (record {
          was = b.was;
          is = b.is;
          there_was = b.there_was;
          there_is = holds_of new j b.is (others.stay j far ∙ b.there_is.1);
          number = b.number;
          back = b.back;
          unsent = b.unsent;
          open_was = b.open_was;
        }))
    far_off far (inr (inr not)) = inr (inr (λ all. not (All-cons (λ (h : Held). h.place ≢ j) copy rest (λ e. far (sym e)) all)))

pub put_all : (before now : List (Option Accepted)) (rest : List Held) → rest ≡ [] → ((j : ℕ) → PutAt before now rest j) → AreBack before now
put_all before now rest none put = record { at = λ j. (let P : List Held → Type 0 = λ t. PutAt before now t j in last j (subst P none (put j))) }
  where
    last : (j : ℕ) → PutAt before now [] j → (get_or now j None ≡ get_or before j None) ⊎ IsBackAt j before now
    last j (inl same) = inl same
    last j (inr (inl b)) = inr b
    last j (inr (inr not)) = absurd (not (All-nil (λ (h : Held). h.place ≢ j)))

-- ---- the round of a service

-- nothing was tried
pub tried_none : (s : Serving) → IsTried s s []
tried_none s = record {
  well_formed = tt;
  was_honest = λ h. h;
  falls = record { names = refl; stands = λ o h. h; left = λ x h. h };
  kept = λ h o stands. stands;
  left = λ h o stands x left. inl left;
  same_log = refl;
}

pub tries_none : {M : Type 0} (serving : M → Serving) (connections : Connections M) → TriesRound serving connections connections
tries_none {M} serving connections = record {
  opened = refl;
  back = back_same connections.places.items;
  tried = λ histories log x. ([], sent_none histories log connections.opened connections.places.items x, tried_none (serving connections.service));
}

module _ {I : Type 0} (inside : I → Standing) (old new : Serving) (before after : Feeds) where
  abbrev pub Feeding : Serving → Serving → Feeds → Feeds → Type 0
  Feeding s t b a = IsFeeding s t b a

  -- one that was kept
  pub fed_kept : IsServedRound inside Feeding old new before after (Ok tt)
      → AreFed old new before.places.now.items after.places.now.items after.lost.now
  fed_kept r =
      let d = kept_done inside Feeding old new before after r in
      let fed = d.done.fed in
      record {
        count = fed.count;
        places = fed.places;
        gone = fed.gone;
        served = λ histories log opened x.
            let y = fed.served histories log opened x in
            (y.0, y.1, y.2, runs_kept inside Feeding old new before after r d (map answered_in y.0) y.3);
      }

  -- one that was not kept
  pub fed_tried : (fault : StoreFault) → IsServedRound inside Feeding old new before after (Err fault)
      → (histories : ℕ → History) (log : List Entry) (opened : ℕ) → AreServed histories log opened before.places.now.items
      → (more : List Entry) × AreSentNext histories log more × IsTried old new (map answered_in more)
  fed_tried fault r histories log opened x = elim r.round.done [
    | inl d ↦
        let y = d.done.fed.served histories log opened x in
        (y.0, sent_next histories log y.0 opened after.places.now.items y.1, tried inside Feeding old new before after fault r d (map answered_in y.0) y.3)
    | inr n ↦ ([], sent_none histories log opened before.places.now.items x, not_begun inside Feeding old new before after fault r n)
  ]

  -- the places of others are as they were, and there are as many
  pub fed_others : (fault : StoreFault) → IsServedRound inside Feeding old new before after (Err fault)
      → (length after.places.now.items ≡ length before.places.now.items) × OthersAreSame before.held.now before.places.now.items after.places.now.items
  fed_others fault r = elim r.round.done [
    | inl d ↦ (d.done.fed.count, d.done.others)
    | inr n ↦
        let P : Feeds → Type 0 = λ t. (length t.places.now.items ≡ length before.places.now.items) × OthersAreSame before.held.now before.places.now.items t.places.now.items in
        subst P (sym n.same) (refl, λ j others. refl)
  ]
