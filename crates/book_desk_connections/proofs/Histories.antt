-- Many connections, a step at a time.
use Rattle.std.proofs.Common.{zero, suc, ◌≡◌, ℕ, ◌+◌, ◌<◌, ◌≤◌, ◌⊎◌, ◌==◌, Bool, true, false, if◌then◌else◌, List, [], ◌∷◌, ◌++◌, map, length, get_or, take, drop, Option, Some, None, refl, sym, ap, subst, ◌∙◌, inl, inr, append_assoc, append-nil, length-append, arith, eq-eqb}
use Rattle.std.proofs.lemmas.List.{take-append-drop, take-append-le, length-set, get_or-set_same, get_or-set_other, get_or_append_left, get_or_default}
use Rattle.std.proofs.lemmas.List.Concat.{flat_map-append}
use Rattle.std.proofs.lemmas.Bool.{cases_eq, false≢true}
use Rattle.std.proofs.lemmas.Bool.Decides.{nat_tests}
use Rattle.std.proofs.Math.Seq.{get_or-append_seam}
use Rattle.std.specs.Prelude.{slice_set}
use Rattle.std.specs.List.{flat_map, AllByRecursion}
use Rattle.book_wire.specs.Connection.{View, fresh, IsFed}
use Rattle.book_wire_serving.specs.Serving.{Answered, Runs, Serving, Stays}
use Rattle.book_wire.specs.Stream.{Exchange, IsOpen, IsPartial, IsServed, Waits, Ends, SoFar, text_of, reply_text, answered_of}
use Rattle.book_wire.specs.Turn.{StopsWriting, StopsAt}
use Rattle.book_wire.specs.declared.stream.Ended.TheVariants.{Closed}
use Rattle.book_wire_serving.proofs.Servings.{runs_none, stays}
use Rattle.book_wire.proofs.Streams.{all_append, ends_then, joined}
use Rattle.book_desk_connections.specs.declared.connections.Accepted.{Accepted}
use Rattle.book_desk_connections.specs.ManyConnections.{History, nothing, Entry, answered_in, entries, own, with_history, receives, is_sent, IsThere, IsBehind, EndsSomehow, Holds, AreServed, number_in, number_at}

pub same : (k : ℕ) → (k == k) ≡ true
same k = eq-eqb k k refl

pub differs : (j k : ℕ) → (j ≡ k → ⊥) → (j == k) ≡ false
differs j k h = grind (arith, nat_tests)

entries_answered : (k : ℕ) (es : List Exchange) → map answered_in (entries k es) ≡ map answered_of es
entries_answered k [] = refl
entries_answered k (e ∷ es) = ap (λ (t : List Answered). answered_of e ∷ t) (entries_answered k es)

pub entries_append : (k : ℕ) (es fs : List Exchange) → entries k (es ++ fs) ≡ entries k es ++ entries k fs
entries_append k [] fs = refl
entries_append k (e ∷ es) fs = ap (λ (t : List Entry). record { number = k; exchange = e } ∷ t) (entries_append k es fs)

pub entries_run : (m a : Serving) (k : ℕ) (es : List Exchange) → Runs m a (map answered_of es) → Runs m a (map answered_in (entries k es))
entries_run m a k es runs = let P : List Answered → Type 0 = λ t. Runs m a t in subst P (sym (entries_answered k es)) runs

own_entries : (k : ℕ) (es : List Exchange) → own k (entries k es) ≡ es
own_entries k [] = refl
own_entries k (e ∷ es) = rw (same k) (ap (λ (t : List Exchange). e ∷ t) (own_entries k es))

pub own_others : (j k : ℕ) (es : List Exchange) → (j ≡ k → ⊥) → own j (entries k es) ≡ []
own_others j k [] h = refl
own_others j k (e ∷ es) h = rw (differs j k h) (own_others j k es h)

pub own_append : (k : ℕ) (xs ys : List Entry) → own k (xs ++ ys) ≡ own k xs ++ own k ys
own_append k [] ys = refl
own_append k (x ∷ xs) ys =
    elim (k == x.number) as (λ t. (if t then x.exchange ∷ own k (xs ++ ys) else own k (xs ++ ys)) ≡ (if t then x.exchange ∷ own k xs else own k xs) ++ own k ys) [
      | true ↦ ap (λ (t : List Exchange). x.exchange ∷ t) (own_append k xs ys)
      | false ↦ own_append k xs ys
    ]

own_here : (k : ℕ) (log : List Entry) (es : List Exchange) → own k (log ++ entries k es) ≡ own k log ++ es
own_here k log es = own_append k log (entries k es) ∙ ap (λ (t : List Exchange). own k log ++ t) (own_entries k es)

pub own_there : (j k : ℕ) (log : List Entry) (es : List Exchange) → (j ≡ k → ⊥) → own j (log ++ entries k es) ≡ own j log
own_there j k log es h =
    own_append j log (entries k es) ∙ ap (λ (t : List Exchange). own j log ++ t) (own_others j k es h) ∙ append-nil (own j log)

pub history_here : (histories : ℕ → History) (k : ℕ) (p : History) → with_history histories k p k ≡ p
history_here histories k p = rw (same k) refl

pub history_there : (histories : ℕ → History) (j k : ℕ) (p : History) → (j ≡ k → ⊥) → with_history histories k p j ≡ histories j
history_there histories j k p h = rw (differs j k h) refl

-- ---- places

pub some_is : (x : Option Accepted) (l m : Accepted) → x ≡ Some l → x ≡ Some m → l ≡ m
some_is x l m e f = some_same (sym e ∙ f)
  where
    some_same : (◌≡◌) {A = Option Accepted} (Some l) (Some m) → l ≡ m
    some_same e = cc

pub holds_one : (places : List (Option Accepted)) (i : ℕ) (l m : Accepted) → Holds places i l → Holds places i m → l ≡ m
holds_one places i l m x y = some_is (get_or places i None) l m x.1 y.1

-- what is held where one place was written: what was written, or what was there
set_holds : (places : List (Option Accepted)) (i j : ℕ) (x : Option Accepted) (l : Accepted) → i < length places → Holds (slice_set places i x) j l
    → ((j ≡ i) × (x ≡ Some l)) ⊎ ((j ≡ i → ⊥) × Holds places j l)
set_holds places i j x l within h = elim (cases_eq j i) [
  | inl at ↦
      let P : ℕ → Type 0 = λ t. get_or (slice_set places i x) t None ≡ Some l in
      inl (at, sym (get_or-set_same places i x None within) ∙ subst P at h.1)
  | inr far ↦ inr (far, (omega (arith, h.0, length-set places i x), sym (get_or-set_other places i j x None far) ∙ h.1))
]

-- ---- one connection went on, and the others stayed as they were

-- what is written in its place is the same connection
abbrev IsNow : Option Accepted → ℕ → List Exchange → History → Type 0
IsNow x k es p = (l : Accepted) → x ≡ Some l → (l.number ≡ k) × IsThere es p l.connection

went_on : (histories : ℕ → History) (log : List Entry) (opened : ℕ) (places : List (Option Accepted)) (i : ℕ) (was : Accepted)
    (es : List Exchange) (p : History) (x : Option Accepted)
    → AreServed histories log opened places → Holds places i was
    → IsBehind (own was.number log ++ es) p → IsNow x was.number (own was.number log ++ es) p
    → AreServed (with_history histories was.number p) (log ++ entries was.number es) opened (slice_set places i x)
went_on histories log opened places i was es p x s holds behind now = record {
  all = all;
  here = λ j l h. here_at j l (set_holds places i j x l holds.0 h);
  apart = λ j1 j2 l1 l2 h1 h2 same_number. apart_at j1 j2 l1 l2 same_number (set_holds places i j1 x l1 holds.0 h1) (set_holds places i j2 x l2 holds.0 h2);
  later = λ j beyond.
      let far : j ≡ was.number → ⊥ = λ e. absurd (omega (arith, e, beyond, (s.here i was holds).0)) in
      let before = s.later j beyond in
      (own_there j was.number log es far ∙ before.0, history_there histories j was.number p far ∙ before.1);
}
  where
    all : (j : ℕ) → IsBehind (own j (log ++ entries was.number es)) (with_history histories was.number p j)
    all j = elim (cases_eq j was.number) [
      | inl at ↦
          let A : List Exchange → Type 0 = λ t. IsBehind t p in
          let B : History → Type 0 = λ t. IsBehind (own was.number (log ++ entries was.number es)) t in
          let D : ℕ → Type 0 = λ n. IsBehind (own n (log ++ entries was.number es)) (with_history histories was.number p n) in
          subst D (sym at) (subst B (sym (history_here histories was.number p)) (subst A (sym (own_here was.number log es)) behind))
      | inr far ↦
          let A : List Exchange → Type 0 = λ t. IsBehind t (histories j) in
          let B : History → Type 0 = λ t. IsBehind (own j (log ++ entries was.number es)) t in
          subst B (sym (history_there histories j was.number p far)) (subst A (sym (own_there j was.number log es far)) (s.all j))
    ]

    here_at : (j : ℕ) (l : Accepted) → ((j ≡ i) × (x ≡ Some l)) ⊎ ((j ≡ i → ⊥) × Holds places j l) → (l.number < opened) × IsThere (own l.number (log ++ entries was.number es)) (with_history histories was.number p l.number) l.connection
    here_at j l (inl y) =
        let is = now l y.1 in
        let A : List Exchange → Type 0 = λ t. IsThere t p l.connection in
        let B : History → Type 0 = λ t. IsThere (own was.number (log ++ entries was.number es)) t l.connection in
        let D : ℕ → Type 0 = λ n. (n < opened) × IsThere (own n (log ++ entries was.number es)) (with_history histories was.number p n) l.connection in
        subst D (sym is.0)
        ((s.here i was holds).0, subst B (sym (history_here histories was.number p)) (subst A (sym (own_here was.number log es)) is.1))
    here_at j l (inr y) =
        let before = s.here j l y.1 in
        let far : l.number ≡ was.number → ⊥ = λ e. y.0 (s.apart j i l was y.1 holds e) in
        let A : List Exchange → Type 0 = λ t. IsThere t (histories l.number) l.connection in
        let B : History → Type 0 = λ t. IsThere (own l.number (log ++ entries was.number es)) t l.connection in
        (before.0, subst B (sym (history_there histories l.number was.number p far)) (subst A (sym (own_there l.number was.number log es far)) before.1))

    apart_at : (j1 j2 : ℕ) (l1 l2 : Accepted) → l1.number ≡ l2.number
        → ((j1 ≡ i) × (x ≡ Some l1)) ⊎ ((j1 ≡ i → ⊥) × Holds places j1 l1)
        → ((j2 ≡ i) × (x ≡ Some l2)) ⊎ ((j2 ≡ i → ⊥) × Holds places j2 l2) → j1 ≡ j2
    apart_at j1 j2 l1 l2 e (inl y) (inl z) = y.0 ∙ sym z.0
    apart_at j1 j2 l1 l2 e (inl y) (inr z) = absurd (z.0 (s.apart j2 i l2 was z.1 holds (sym e ∙ (now l1 y.1).0)))
    apart_at j1 j2 l1 l2 e (inr y) (inl z) = absurd (y.0 (s.apart j1 i l1 was y.1 holds (e ∙ (now l2 z.1).0)))
    apart_at j1 j2 l1 l2 e (inr y) (inr z) = s.apart j1 j2 l1 l2 y.1 z.1 e

nobody_now : (k : ℕ) (es : List Exchange) (p : History) → IsNow None k es p
nobody_now k es p l e = absurd (none_some e)
  where
    none_some : (◌≡◌) {A = Option Accepted} None (Some l) → ⊥
    none_some e = cc

one_now : (k : ℕ) (es : List Exchange) (p : History) (w : Accepted) → w.number ≡ k → IsThere es p w.connection → IsNow (Some w) k es p
one_now k es p w number there l e =
    let P : Accepted → Type 0 = λ t. (t.number ≡ k) × IsThere es p t.connection in
    subst P (some_is (Some w) w l refl e) (number, there)

-- ---- one connection

pub behind : (es : List Exchange) (history : History) (v : View) → IsThere es history v → IsBehind es history
behind es history v x = by v.closing refl
  where
    ends : (rest refusal : List ℕ) → Ends es rest refusal Closed → EndsSomehow es rest refusal
    ends rest refusal (inl y) = inl (y.0, inr y.1)
    ends rest refusal (inr y) = inr (y.0, y.1, y.2, y.3, y.4.0, y.5)

    by : (closing : Bool) → v.closing ≡ closing → IsBehind es history
    by false e =
        let was = x.stays e in
        record {
          rest = v.unread;
          refusal = [];
          unsent = v.unsent;
          received_is = was.1;
          sent_is = was.2 ∙ sym (append-nil (flat_map reply_text es));
          ends = inl (was.0, inl refl);
        }
    by true e =
        let was = x.closes e in
        record {
          rest = was.rest;
          refusal = was.refusal;
          unsent = v.unsent;
          received_is = was.input_is;
          sent_is = was.written_is;
          ends = ends was.rest was.refusal was.ends;
        }

-- its exchanges, and that it is as they left it
abbrev FedOne : Serving → Serving → List Exchange → History → View → List ℕ → Type 0
FedOne m a es history w bytes =
    (fs : List Exchange) × Runs m a (map answered_of fs) × IsThere (es ++ fs) (record { received = history.received ++ bytes; sent = history.sent }) w

-- what was received, and then more of it
received_more : (all old bytes : List ℕ) (es : List Exchange) → all ≡ flat_map text_of es ++ old → all ++ bytes ≡ flat_map text_of es ++ (old ++ bytes)
received_more all old bytes es x = ap (λ (t : List ℕ). t ++ bytes) x ∙ append_assoc (flat_map text_of es) old bytes

-- what waits to be sent grew
made_more : (sent unsent new more replies : List ℕ) → sent ++ unsent ≡ replies → new ≡ unsent ++ more → sent ++ new ≡ replies ++ more
made_more sent unsent new more replies x y =
    ap (λ (t : List ℕ). sent ++ t) y ∙ sym (append_assoc sent unsent more) ∙ ap (λ (t : List ℕ). t ++ more) x

fed_open : (m a : Serving) (es : List Exchange) (history : History) (v w : View) (bytes more : List ℕ) (n : ℕ)
    → IsThere es history v → v.closing ≡ false → w.unsent ≡ v.unsent ++ more → w.closing ≡ false
    → (w.closing ≡ false → w.stalled ≡ false → IsPartial w.unread)
    → SoFar m (v.unread ++ bytes) more n a w.unread → FedOne m a es history w bytes
fed_open m a es history v w bytes more n x stayed made open_still waits s =
    let was = x.stays stayed in (
      s.exchanges,
      s.answers.runs,
      record {
        stays = λ _. (
          all_append IsOpen es s.exchanges was.0 s.opened,
          joined text_of es s.exchanges (history.received ++ bytes) (flat_map text_of es) (v.unread ++ bytes) w.unread
              (received_more history.received v.unread bytes es was.1) refl (s.input_is ∙ ap (λ (t : List ℕ). t ++ w.unread) s.answers.input_is),
          made_more history.sent v.unsent w.unsent more (flat_map reply_text es) was.2 made
              ∙ ap (λ (t : List ℕ). flat_map reply_text es ++ t) s.answers.written_is ∙ sym (flat_map-append reply_text es s.exchanges),
        );
        closes = λ e. absurd (false≢true (sym open_still ∙ e));
        waits = λ e f. inr (waits e f);
      },
    )

fed_closing : (m a : Serving) (es : List Exchange) (history : History) (v w : View) (bytes more : List ℕ) (n : ℕ)
    → IsThere es history v → v.closing ≡ false → w.unsent ≡ v.unsent ++ more → w.closing ≡ true
    → IsServed m (v.unread ++ bytes) more n Closed a → FedOne m a es history w bytes
fed_closing m a es history v w bytes more n x stayed made closed s =
    let was = x.stays stayed in (
      s.exchanges,
      s.runs,
      record {
        stays = λ e. absurd (false≢true (sym e ∙ closed));
        closes = λ _. record {
          rest = s.told.rest;
          refusal = s.told.refusal;
          input_is =
              joined text_of es s.exchanges (history.received ++ bytes) (flat_map text_of es) (v.unread ++ bytes) s.told.rest
              (received_more history.received v.unread bytes es was.1) refl s.told.input_is;
          written_is =
              joined reply_text es s.exchanges (history.sent ++ w.unsent) (flat_map reply_text es) more s.told.refusal
              (made_more history.sent v.unsent w.unsent more (flat_map reply_text es) was.2 made) refl s.told.written_is;
          ends = ends_then es s.exchanges s.told.rest s.told.refusal Closed was.0 s.told.ends;
        };
        waits = λ e f. absurd (false≢true (sym e ∙ closed));
      },
    )

fed_one : (m a : Serving) (es : List Exchange) (history : History) (v w : View) (bytes more : List ℕ) (n : ℕ)
    → IsThere es history v → v.closing ≡ false → w.unsent ≡ v.unsent ++ more
    → IsFed m (v.unread ++ bytes) more n a w → FedOne m a es history w bytes
fed_one m a es history v w bytes more n x stayed made fed = by w.closing refl
  where
    by : (closing : Bool) → w.closing ≡ closing → FedOne m a es history w bytes
    by false e = fed_open m a es history v w bytes more n x stayed made e fed.waits (fed.stays e)
    by true e = fed_closing m a es history v w bytes more n x stayed made e (fed.closes e)

-- ---- bytes came

pub feeds : (m a : Serving) (histories : ℕ → History) (log : List Entry) (opened : ℕ) (places : List (Option Accepted)) (i : ℕ) (l w : Accepted) (bytes more : List ℕ) (n : ℕ)
    → AreServed histories log opened places → Holds places i l → l.connection.closing ≡ false → w.number ≡ l.number
    → w.connection.unsent ≡ l.connection.unsent ++ more
    → IsFed m (l.connection.unread ++ bytes) more n a w.connection
    → (later : List Exchange) × AreServed (receives histories l.number bytes) (log ++ entries l.number later) opened (slice_set places i (Some w)) × Runs m a (map answered_of later)
feeds m a histories log opened places i l w bytes more n s holds stayed number made fed =
    let k = l.number in
    let p : History = record { received = (histories k).received ++ bytes; sent = (histories k).sent } in
    let x = fed_one m a (own k log) (histories k) l.connection w.connection bytes more n (s.here i l holds).1 stayed made fed in (
      x.0,
      went_on histories log opened places i l x.0 p (Some w) s holds (behind (own k log ++ x.0) p w.connection x.2)
          (one_now k (own k log ++ x.0) p w number x.2),
      x.1,
    )

-- ---- one that is let go

-- what becomes of one that is let go after these requests, of which the last may have no reply
abbrev LostOne : Serving → Serving → List Exchange → History → List ℕ → Type 0
LostOne m a es history bytes =
    (fs : List Exchange) × Runs m a (map answered_of fs) × IsBehind (es ++ fs) (record { received = history.received ++ bytes; sent = history.sent })

lost_after : (es fs : List Exchange) (history : History) (v : View) (bytes front rest : List ℕ)
    → IsThere es history v → v.closing ≡ false → v.unread ++ bytes ≡ front ++ rest → front ≡ flat_map text_of fs → EndsSomehow (es ++ fs) rest []
    → IsBehind (es ++ fs) (record { received = history.received ++ bytes; sent = history.sent })
lost_after es fs history v bytes front rest x stayed split front_is ends =
    let was = x.stays stayed in
    record {
      rest = rest;
      refusal = [];
      unsent = v.unsent ++ flat_map reply_text fs;
      received_is =
          joined text_of es fs (history.received ++ bytes) (flat_map text_of es) (v.unread ++ bytes) rest
          (received_more history.received v.unread bytes es was.1) refl (split ∙ ap (λ (t : List ℕ). t ++ rest) front_is);
      sent_is =
          made_more history.sent v.unsent (v.unsent ++ flat_map reply_text fs) (flat_map reply_text fs) (flat_map reply_text es) was.2 refl
          ∙ sym (flat_map-append reply_text es fs) ∙ sym (append-nil (flat_map reply_text (es ++ fs)));
      ends = ends;
    }

lost_one : (m a : Serving) (es : List Exchange) (history : History) (v : View) (bytes more : List ℕ)
    → IsThere es history v → v.closing ≡ false → StopsWriting m (v.unread ++ bytes) more a → LostOne m a es history bytes
lost_one m a es history v bytes more x stayed s = by s.stops
  where
    opened_all : AllByRecursion IsOpen (es ++ s.exchanges)
    opened_all = all_append IsOpen es s.exchanges (x.stays stayed).0 s.opened

    by : StopsAt m s.exchanges s.unread s.pending a → LostOne m a es history bytes
    by (inl y) =
        let fs : List Exchange = s.exchanges ++ y.0 ∷ [] in
        let front_is : s.taken ++ y.0.text ≡ flat_map text_of fs =
        ap (λ (t : List ℕ). t ++ y.0.text) s.taken_is ∙ ap (λ (t : List ℕ). flat_map text_of s.exchanges ++ t) (sym (append-nil y.0.text))
        ∙ sym (flat_map-append text_of s.exchanges (y.0 ∷ [])) in
        let split : v.unread ++ bytes ≡ (s.taken ++ y.0.text) ++ y.1 =
        s.input_is ∙ ap (λ (t : List ℕ). s.taken ++ t) y.3 ∙ sym (append_assoc s.taken y.0.text y.1) in (
          fs,
          y.5,
          lost_after es fs history v bytes (s.taken ++ y.0.text) y.1 x stayed split front_is
              (inr (es ++ s.exchanges, y.0, sym (append_assoc es s.exchanges (y.0 ∷ [])), opened_all, y.2, refl)),
        )
    by (inr y) =
        (s.exchanges, y.4, lost_after es s.exchanges history v bytes s.taken s.unread x stayed s.input_is s.taken_is (inl (opened_all, inl refl)))

pub loses : (m a : Serving) (histories : ℕ → History) (log : List Entry) (opened : ℕ) (places : List (Option Accepted)) (i : ℕ) (l : Accepted) (bytes more : List ℕ)
    → AreServed histories log opened places → Holds places i l → l.connection.closing ≡ false
    → StopsWriting m (l.connection.unread ++ bytes) more a
    → (later : List Exchange) × AreServed (receives histories l.number bytes) (log ++ entries l.number later) opened (slice_set places i None) × Runs m a (map answered_of later)
loses m a histories log opened places i l bytes more s holds stayed stops =
    let k = l.number in
    let p : History = record { received = (histories k).received ++ bytes; sent = (histories k).sent } in
    let x = lost_one m a (own k log) (histories k) l.connection bytes more (s.here i l holds).1 stayed stops in
    (x.0, went_on histories log opened places i l x.0 p None s holds x.2 (nobody_now k (own k log ++ x.0) p), x.1)

-- no memory for what came
pub starves : (m a : Serving) (histories : ℕ → History) (log : List Entry) (opened : ℕ) (places : List (Option Accepted)) (i : ℕ) (l : Accepted) (bytes : List ℕ)
    → AreServed histories log opened places → Holds places i l → l.connection.closing ≡ false → Stays m a
    → (later : List Exchange) × AreServed (receives histories l.number bytes) (log ++ entries l.number later) opened (slice_set places i None) × Runs m a (map answered_of later)
starves m a histories log opened places i l bytes s holds stayed idle =
    let k = l.number in
    let p : History = record { received = (histories k).received ++ bytes; sent = (histories k).sent } in
    let there = (s.here i l holds).1 in
    let all_open : AllByRecursion IsOpen (own k log ++ []) =
    (let P : List Exchange → Type 0 = λ t. AllByRecursion IsOpen t in subst P (sym (append-nil (own k log))) (there.stays stayed).0) in
    let left = lost_after (own k log) [] (histories k) l.connection bytes [] (l.connection.unread ++ bytes) there stayed refl refl (inl (all_open, inl refl)) in
    ([], went_on histories log opened places i l [] p None s holds left (nobody_now k (own k log ++ []) p), runs_none m a idle)

-- what came is held, and nothing is answered yet
pub holds_more : (histories : ℕ → History) (log : List Entry) (opened : ℕ) (places : List (Option Accepted)) (i : ℕ) (l w : Accepted) (bytes : List ℕ)
    → AreServed histories log opened places → Holds places i l → l.connection.closing ≡ false → w.number ≡ l.number
    → w.connection.unread ≡ l.connection.unread ++ bytes → w.connection.unsent ≡ l.connection.unsent → w.connection.closing ≡ l.connection.closing
    → w.connection.stalled ≡ true → AreServed (receives histories l.number bytes) log opened (slice_set places i (Some w))
holds_more histories log opened places i l w bytes s holds stayed number unread unsent same_state stalled =
    let k = l.number in
    let x = (s.here i l holds).1 in
    let was = x.stays stayed in
    let p : History = record { received = (histories k).received ++ bytes; sent = (histories k).sent } in
    let there : IsThere (own k log) p w.connection = record {
      stays = λ e. (
        was.0,
        received_more (histories k).received l.connection.unread bytes (own k log) was.1 ∙ ap (λ (t : List ℕ). flat_map text_of (own k log) ++ t) (sym unread),
        ap (λ (t : List ℕ). (histories k).sent ++ t) unsent ∙ was.2,
      );
      closes = λ e. absurd (false≢true (sym stayed ∙ sym same_state ∙ e));
      waits = λ e f. absurd (false≢true (sym f ∙ stalled));
    } in
    let P : List Exchange → Type 0 = λ t. IsThere t p w.connection in
    let now : IsThere (own k log ++ []) p w.connection = subst P (sym (append-nil (own k log))) there in
    let T : List Entry → Type 0 = λ t. AreServed (receives histories k bytes) t opened (slice_set places i (Some w)) in
    subst T (append-nil log)
    (went_on histories log opened places i l [] p (Some w) s holds (behind (own k log ++ []) p w.connection now)
    (one_now k (own k log ++ []) p w number now))

-- there was no memory for what came
pub holds_none : (m : Serving) (histories : ℕ → History) (log : List Entry) (opened : ℕ) (places : List (Option Accepted)) (i : ℕ) (l : Accepted) (bytes : List ℕ)
    → AreServed histories log opened places → Holds places i l → l.connection.closing ≡ false
    → AreServed (receives histories l.number bytes) log opened (slice_set places i None)
unfolding starves
holds_none m histories log opened places i l bytes s holds stayed =
    let x = starves m m histories log opened places i l bytes s holds stayed (stays m) in
    let T : List Entry → Type 0 = λ t. AreServed (receives histories l.number bytes) t opened (slice_set places i None) in
    subst T (append-nil log) x.1

-- ---- the service does nothing

-- what a place has is left, or let go
pub kept : (histories : ℕ → History) (log : List Entry) (opened : ℕ) (places others : List (Option Accepted))
    → AreServed histories log opened places → ((j : ℕ) (l : Accepted) → Holds others j l → Holds places j l)
    → AreServed histories log opened others
kept histories log opened places others s held = record {
  all = s.all;
  here = λ j l h. s.here j l (held j l h);
  apart = λ i j l m h k same_number. s.apart i j l m (held i l h) (held j m k) same_number;
  later = s.later;
}

pub lets_go : (histories : ℕ → History) (log : List Entry) (opened : ℕ) (places : List (Option Accepted)) (i : ℕ)
    → AreServed histories log opened places → i < length places → AreServed histories log opened (slice_set places i None)
lets_go histories log opened places i s within = kept histories log opened places (slice_set places i None) s held
  where
    none_some : (l : Accepted) → (◌≡◌) {A = Option Accepted} None (Some l) → ⊥
    none_some l e = cc

    which : (j : ℕ) (l : Accepted) → ((j ≡ i) × ((◌≡◌) {A = Option Accepted} None (Some l))) ⊎ ((j ≡ i → ⊥) × Holds places j l) → Holds places j l
    which j l (inl y) = absurd (none_some l y.1)
    which j l (inr y) = y.1

    held : (j : ℕ) (l : Accepted) → Holds (slice_set places i None) j l → Holds places j l
    held j l h = which j l (set_holds places i j None l within h)

-- one more place, with nothing in it
pub makes_room : (histories : ℕ → History) (log : List Entry) (opened : ℕ) (places : List (Option Accepted))
    → AreServed histories log opened places → AreServed histories log opened (places ++ None ∷ [])
makes_room histories log opened places s = kept histories log opened places (places ++ None ∷ []) s held
  where
    none_some : (l : Accepted) → (◌≡◌) {A = Option Accepted} None (Some l) → ⊥
    none_some l e = cc

    held : (j : ℕ) (l : Accepted) → Holds (places ++ None ∷ []) j l → Holds places j l
    held j l h = elim (cases_eq j (length places)) [
      | inl at ↦
          let seam : get_or (places ++ None ∷ []) j None ≡ None =
          ap (λ (n : ℕ). get_or (places ++ None ∷ []) n None) at ∙ get_or-append_seam places None [] None in
          absurd (none_some l (sym seam ∙ h.1))
      | inr far ↦
          let below : j < length places = omega (arith, h.0, far, length-append places (None ∷ [])) in
          (below, sym (get_or_append_left places (None ∷ []) None j below) ∙ h.1)
    ]

pub sends : (histories : ℕ → History) (log : List Entry) (opened : ℕ) (places : List (Option Accepted)) (i n : ℕ) (l w : Accepted)
    → AreServed histories log opened places → Holds places i l → w.number ≡ l.number
    → w.connection.unsent ≡ drop n l.connection.unsent → w.connection.unread ≡ l.connection.unread → w.connection.closing ≡ l.connection.closing
    → w.connection.stalled ≡ l.connection.stalled
    → AreServed (is_sent histories l.number (take n l.connection.unsent)) log opened (slice_set places i (Some w))
sends histories log opened places i n l w s holds number left same_rest same_state same_stalled =
    let k = l.number in
    let x = (s.here i l holds).1 in
    let part : List ℕ = take n l.connection.unsent in
    let p : History = record { received = (histories k).received; sent = (histories k).sent ++ part } in
    let told : p.sent ++ w.connection.unsent ≡ (histories k).sent ++ l.connection.unsent =
    append_assoc (histories k).sent part w.connection.unsent
    ∙ ap (λ (t : List ℕ). (histories k).sent ++ (part ++ t)) left
    ∙ ap (λ (t : List ℕ). (histories k).sent ++ t) (take-append-drop n l.connection.unsent) in
    let there : IsThere (own k log) p w.connection = record {
      stays = λ e.
          let y = x.stays (sym same_state ∙ e) in
          (y.0, y.1 ∙ ap (λ (t : List ℕ). flat_map text_of (own k log) ++ t) (sym same_rest), told ∙ y.2);
      closes = λ e.
          let y = x.closes (sym same_state ∙ e) in
          record { rest = y.rest; refusal = y.refusal; input_is = y.input_is; written_is = told ∙ y.written_is; ends = y.ends };
      waits = λ e f. (let P : List ℕ → Type 0 = λ t. Waits t in subst P (sym same_rest) (x.waits (sym same_state ∙ e) (sym same_stalled ∙ f)));
    } in
    let P : List Exchange → Type 0 = λ t. IsThere t p w.connection in
    let now : IsThere (own k log ++ []) p w.connection = subst P (sym (append-nil (own k log))) there in
    let T : List Entry → Type 0 = λ t. AreServed (is_sent histories k part) t opened (slice_set places i (Some w)) in
    subst T (append-nil log)
    (went_on histories log opened places i l [] p (Some w) s holds (behind (own k log ++ []) p w.connection now)
    (one_now k (own k log ++ []) p w number now))

nothing_yet : (es : List Exchange) (p : History) → (es ≡ []) × (p ≡ nothing) → IsThere es p fresh
nothing_yet es p none =
    let P : List Exchange → Type 0 = λ t. IsThere t p fresh in
    let Q : History → Type 0 = λ t. IsThere [] t fresh in
    subst P (sym none.0) (subst Q (sym none.1) (record {
      stays = λ _. (tt, refl, refl);
      closes = λ e. absurd (false≢true e);
      waits = λ e f. inl refl;
    }))

-- what is held where one place was written
abbrev IsAt : List (Option Accepted) → ℕ → Accepted → ℕ → Accepted → Type 0
IsAt places i w j l = ((j ≡ i) × ((◌≡◌) {A = Option Accepted} (Some w) (Some l))) ⊎ ((j ≡ i → ⊥) × Holds places j l)

abbrev IsHere : (ℕ → History) → List Entry → ℕ → Accepted → Type 0
IsHere histories log opened l = (l.number < opened + 1) × IsThere (own l.number log) (histories l.number) l.connection

-- one more connection, in a place with nothing in it
pub opens : (histories : ℕ → History) (log : List Entry) (opened : ℕ) (places : List (Option Accepted)) (i : ℕ) (w : Accepted)
    → AreServed histories log opened places → i < length places → w.number ≡ opened → w.connection ≡ fresh
    → AreServed histories log (opened + 1) (slice_set places i (Some w))
opens histories log opened places i w s within number first = record {
  all = s.all;
  here = λ j l h. here_at j l (set_holds places i j (Some w) l within h);
  apart = λ j1 j2 l1 l2 h1 h2 e. apart_at j1 j2 l1 l2 e (set_holds places i j1 (Some w) l1 within h1) (set_holds places i j2 (Some w) l2 within h2);
  later = λ k beyond. s.later k (omega (arith, beyond));
}
  where
    new_here : IsHere histories log opened w
    new_here =
        let A : View → Type 0 = λ t. IsThere (own w.number log) (histories w.number) t in
        (omega (arith, number), subst A (sym first) (nothing_yet (own w.number log) (histories w.number) (s.later w.number (omega (arith, number)))))

    here_at : (j : ℕ) (l : Accepted) → IsAt places i w j l → IsHere histories log opened l
    here_at j l (inl y) = subst (λ (t : Accepted). IsHere histories log opened t) (some_is (Some w) w l refl y.1) new_here
    here_at j l (inr y) = (let before = s.here j l y.1 in (omega (arith, before.0), before.1))

    -- an earlier one has an earlier number
    earlier : (j : ℕ) (l m : Accepted) → Holds places j l → (◌≡◌) {A = Option Accepted} (Some w) (Some m) → l.number ≡ m.number → ⊥
    earlier j l m h e same_number =
        let w_is : w.number ≡ m.number = ap (λ (t : Accepted). t.number) (some_is (Some w) w m refl e) in
        absurd (omega (arith, (s.here j l h).0, same_number, w_is, number))

    apart_at : (j1 j2 : ℕ) (l1 l2 : Accepted) → l1.number ≡ l2.number → IsAt places i w j1 l1 → IsAt places i w j2 l2 → j1 ≡ j2
    apart_at j1 j2 l1 l2 e (inl y) (inl z) = y.0 ∙ sym z.0
    apart_at j1 j2 l1 l2 e (inl y) (inr z) = absurd (earlier j2 l2 l1 z.1 y.1 (sym e))
    apart_at j1 j2 l1 l2 e (inr y) (inl z) = absurd (earlier j1 l1 l2 y.1 z.1 e)
    apart_at j1 j2 l1 l2 e (inr y) (inr z) = s.apart j1 j2 l1 l2 y.1 z.1 e

pub nobody : AreServed (λ k. nothing) [] 0 []
nobody = record {
  all = λ k. behind [] nothing fresh (nothing_yet [] nothing (refl, refl));
  here = λ i l h. absurd (omega (arith, h.0));
  apart = λ i j l m h. absurd (omega (arith, h.0));
  later = λ k h. (refl, refl);
}

-- ---- what the calls show

pub set_again : {X : Type 0} (xs : List X) (k : ℕ) (a b : X) → slice_set (slice_set xs k a) k b ≡ slice_set xs k b
set_again [] k a b = refl
set_again (x ∷ xs) zero a b = refl
set_again (x ∷ xs) (suc k) a b = ap (λ t. x ∷ t) (set_again xs k a b)

-- it was sent a part of what waited, and was let go
pub sends_last : (histories : ℕ → History) (log : List Entry) (opened : ℕ) (places : List (Option Accepted)) (i n : ℕ) (l : Accepted)
    (left : Option Accepted) → AreServed histories log opened places → Holds places i l → left ≡ None
    → AreServed (is_sent histories l.number (take n l.connection.unsent)) log opened (slice_set places i left)
sends_last histories log opened places i n l left s holds gone =
    let v = l.connection in
    let rest : View = record { unread = v.unread; unsent = drop n v.unsent; closing = v.closing; stalled = v.stalled } in
    let w : Accepted = record { number = l.number; connection = rest } in
    let x = sends histories log opened places i n l w s holds refl refl refl refl refl in
    let within : i < length (slice_set places i (Some w)) = omega (arith, holds.0, length-set places i (Some w)) in
    let P : List (Option Accepted) → Type 0 = λ t. AreServed (is_sent histories l.number (take n v.unsent)) log opened t in
    let Q : Option Accepted → Type 0 = λ t. AreServed (is_sent histories l.number (take n v.unsent)) log opened (slice_set places i t) in
    subst Q (sym gone)
    (subst P (set_again places i (Some w) None) (lets_go (is_sent histories l.number (take n v.unsent)) log opened (slice_set places i (Some w)) i x within))

-- a place that was read
pub holds_read : (places : List (Option Accepted)) (i : ℕ) (read taken : Option Accepted) (l : Accepted) → i < length places
    → read ≡ get_or places i read → taken ≡ read → taken ≡ Some l → Holds places i l
holds_read places i read taken l within at is some =
    (within, get_or_default places i None read within ∙ sym at ∙ sym is ∙ some)

pub same_closing : (places : List (Option Accepted)) (i : ℕ) (l m : Accepted) → Holds places i l → Holds places i m → l.connection.closing ≡ false → m.connection.closing ≡ false
same_closing places i l m x y stayed = ap (λ (t : Accepted). t.connection.closing) (sym (holds_one places i l m x y)) ∙ stayed

-- ---- nothing was moved

pub like : (histories others : ℕ → History) (log : List Entry) (opened : ℕ) (places : List (Option Accepted)) → ((j : ℕ) → others j ≡ histories j)
    → AreServed histories log opened places → AreServed others log opened places
like histories others log opened places e s = record {
  all = λ k. (let P : History → Type 0 = λ t. IsBehind (own k log) t in subst P (sym (e k)) (s.all k));
  here = λ i l h.
      let was = s.here i l h in
      let P : History → Type 0 = λ t. IsThere (own l.number log) t l.connection in
      (was.0, subst P (sym (e l.number)) was.1);
  apart = s.apart;
  later = λ k h. (let was = s.later k h in (was.0, e k ∙ was.1));
}

pub unchanged : (histories : ℕ → History) (k : ℕ) (p : History) → p ≡ histories k → (j : ℕ) → with_history histories k p j ≡ histories j
unchanged histories k p e j = elim (cases_eq j k) [
  | inl at ↦ (let P : ℕ → Type 0 = λ i. with_history histories k p i ≡ histories i in subst P (sym at) (history_here histories k p ∙ e))
  | inr far ↦ history_there histories j k p far
]

pub receives_none : (m : Serving) (histories : ℕ → History) (log : List Entry) (opened : ℕ) (places : List (Option Accepted)) (k : ℕ)
    → AreServed histories log opened places
    → (more : List Exchange) × AreServed (receives histories k []) (log ++ entries k more) opened places × Runs m m (map answered_of more)
receives_none m histories log opened places k s =
    let p : History = record { received = (histories k).received ++ []; sent = (histories k).sent } in
    let e : p ≡ histories k = ap (λ (t : List ℕ). (let q : History = record { received = t; sent = (histories k).sent } in q)) (append-nil (histories k).received) in
    let T : List Entry → Type 0 = λ t. AreServed (receives histories k []) t opened places in
    ([], subst T (sym (append-nil log)) (like histories (receives histories k []) log opened places (unchanged histories k p e) s), runs_none m m (stays m))

pub reads_none : (histories : ℕ → History) (log : List Entry) (opened : ℕ) (places : List (Option Accepted)) (k : ℕ)
    → AreServed histories log opened places → AreServed (receives histories k []) log opened places
reads_none histories log opened places k s =
    let p : History = record { received = (histories k).received ++ []; sent = (histories k).sent } in
    let e : p ≡ histories k = ap (λ (t : List ℕ). (let q : History = record { received = t; sent = (histories k).sent } in q)) (append-nil (histories k).received) in
    like histories (receives histories k []) log opened places (unchanged histories k p e) s

pub sends_none : (histories : ℕ → History) (log : List Entry) (opened : ℕ) (places : List (Option Accepted)) (k : ℕ)
    → AreServed histories log opened places → AreServed (is_sent histories k []) log opened places
sends_none histories log opened places k s =
    let p : History = record { received = (histories k).received; sent = (histories k).sent ++ [] } in
    let e : p ≡ histories k = ap (λ (t : List ℕ). (let q : History = record { received = (histories k).received; sent = t } in q)) (append-nil (histories k).sent) in
    like histories (is_sent histories k []) log opened places (unchanged histories k p e) s

-- ---- a beginning of what waits

pub taken_of : (n : ℕ) (front more all : List ℕ) → all ≡ front ++ more → n ≤ length front → take n front ≡ take n all
taken_of n front more all e within = sym (ap (λ (t : List ℕ). take n t) e ∙ take-append-le n front more within)

pub within_all : (n : ℕ) (front more all : List ℕ) → all ≡ front ++ more → n ≤ length front → n ≤ length all
within_all n front more all e within = omega (arith, within, ap (λ (t : List ℕ). length t) e, length-append front more)

-- ---- the number at a place

pub number_held : (places : List (Option Accepted)) (i : ℕ) (l : Accepted) → Holds places i l → number_at places i ≡ l.number
number_held places i l h = ap number_in h.1
