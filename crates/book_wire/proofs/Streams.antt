-- Streams, an exchange at a time.
use Rattle.book_wire.proofs.Common.{◌≡◌, ◌≢◌, ℕ, ◌+◌, ◌<◌, ◌≤◌, Bool, true, false, List, [], ◌∷◌, ◌++◌, map, length, Option, Some, None, refl, sym, ap, subst, ◌∙◌, inl, inr, append_assoc, append-nil, arith, Consumes, print_request, Serving, WireRefusal, Exchange, SoFar, Refuses, reply_text, Takes, Asked}
use Rattle.std.proofs.Common.{◌⊎◌, length-append}
use Rattle.std.proofs.lemmas.List.{map-append, nil_from_length}
use Rattle.std.proofs.lemmas.List.Concat.{flat_map-append}
use Rattle.std.specs.List.{flat_map, AllByRecursion}
use Rattle.std.specs.Io.KnownBytes.{IsAtEnd}
use Rattle.std.specs.Prelude.{codes, Result, Ok, Err}
use Rattle.std.proofs.lemmas.Bool.{false≢true}
use Rattle.std.proofs.lemmas.Bool.Decides.{nat_tests}
use Rattle.book_wire_targets.specs.Targets.{method_named}
use Rattle.book_wire.specs.declared.head.WireRefusal.TheVariants.{BadHead, HeadTooLarge, BodyTooLarge, NotImplemented}
use Rattle.book_wire.specs.declared.stream.Ended.{Ended}
use Rattle.book_wire.specs.declared.stream.Ended.TheVariants.{Clean, Cut, Closed}
use Rattle.book_wire.specs.Requests.{caller_name}
use Rattle.book_wire_serving.specs.Serving.{Answered, NotesRefusal, Runs, Stays}
use Rattle.book_wire.specs.Spelling.{refusal_text, wire_name, wire_status}
use Rattle.book_wire.specs.Stream.{IsOpen, IsLast, Answers, IsServed, Ends, EndsOpen, IsPartial, IsPartOfBodyOf, IsInput, Waits, WaitsFor, FrontRefuses, text_of, answered_of}
use Rattle.book_wire.specs.declared.turns.Turn.{Turn}
use Rattle.book_wire.specs.declared.turns.Turn.TheVariants as turn
use Rattle.book_wire_serving.specs.declared.faults.StreamFault.{StreamFault}
use Rattle.book_wire_serving.specs.declared.faults.StreamFault.TheVariants as fault
use Rattle.book_wire.specs.Turn.{IsPending, IsTurn, StopsAt, StopsBy, StopsWriting}
use Rattle.book_wire.specs.Connection.{View, MayWait, IsFed, wanted_after}
use Rattle.book_wire.specs.Head.{Fields, ◌>>=◌, lone, values_of, length_of, implemented, within, asked_by_head}
use Rattle.book_wire.proofs.NothingUnread.{nothing_is_part}
use Rattle.book_wire_serving.proofs.Servings.{stays, runs_none, runs_one, runs_then, runs_stay, runs_refusal}

pub all_append : {X : Type 0} (P : X → Type 0) (xs ys : List X) → AllByRecursion P xs → AllByRecursion P ys → AllByRecursion P (xs ++ ys)
all_append P [] ys all p = p
all_append P (x ∷ xs) ys all p = (all.0, all_append P xs ys all.1 p)

-- ---- whole requests, each answered

pub answers_none : (b a : Serving) → Stays b a → Answers b [] [] [] a
answers_none b a s = record { input_is = refl; written_is = refl; runs = runs_none b a s }

pub answers_one : (b a : Serving) (unread written left : List ℕ) (e : Exchange) → Takes b unread written e a left → Answers b (e ∷ []) e.text written a
answers_one b a unread written left e t = record {
  input_is = sym (append-nil e.text);
  written_is = t.written_is ∙ sym (append-nil (reply_text e));
  runs = runs_one b a (caller_name e.asked.caller) e.request e.reply t.serves;
}

pub answers_then : (b m a : Serving) (es fs : List Exchange) (input more written text : List ℕ)
    → Answers b es input written m → Answers m fs more text a → Answers b (es ++ fs) (input ++ more) (written ++ text) a
answers_then b m a es fs input more written text x y = record {
  input_is =
      ap (λ (z : List ℕ). z ++ more) x.input_is ∙ ap (λ (z : List ℕ). flat_map text_of es ++ z) y.input_is ∙ sym (flat_map-append text_of es fs);
  written_is =
      ap (λ (z : List ℕ). z ++ text) x.written_is ∙ ap (λ (z : List ℕ). flat_map reply_text es ++ z) y.written_is
      ∙ sym (flat_map-append reply_text es fs);
  runs =
      let P : List Answered → Type 0 = λ calls. Runs b a calls in
      subst P (sym (map-append answered_of es fs)) (runs_then b m a (map answered_of es) (map answered_of fs) x.runs y.runs);
}

-- ---- so far

pub SoFar-none : (b : Serving) (unread : List ℕ) → SoFar b unread [] 0 b unread
SoFar-none b unread = record {
  exchanges = [];
  taken = [];
  input_is = refl;
  opened = tt;
  answers = answers_none b b (stays b);
  count = refl;
}

split_then : (input taken unread more left : List ℕ) → input ≡ taken ++ unread → unread ≡ more ++ left → input ≡ (taken ++ more) ++ left
split_then input taken unread more left x y = x ∙ ap (λ (z : List ℕ). taken ++ z) y ∙ sym (append_assoc taken more left)

pub SoFar-then : (b m a : Serving) (input written unread more left : List ℕ) (n k : ℕ)
    → SoFar b input written n m unread → SoFar m unread more k a left → SoFar b input (written ++ more) (n + k) a left
SoFar-then b m a input written unread more left n k x y = record {
  exchanges = x.exchanges ++ y.exchanges;
  taken = x.taken ++ y.taken;
  input_is = split_then input x.taken unread y.taken left x.input_is y.input_is;
  opened = all_append IsOpen x.exchanges y.exchanges x.opened y.opened;
  answers = answers_then b m a x.exchanges y.exchanges x.taken y.taken written more x.answers y.answers;
  count = (let was = x.count in let now = y.count in omega (arith, was, now, length-append x.exchanges y.exchanges));
}

pub SoFar-one : (b a : Serving) (unread more left : List ℕ) (e : Exchange) → IsOpen e → Takes b unread more e a left → SoFar b unread more 1 a left
SoFar-one b a unread more left e is t = record {
  exchanges = e ∷ [];
  taken = e.text;
  input_is = t.unread_is;
  opened = (is, tt);
  answers = answers_one b a unread more left e t;
  count = refl;
}

pub so_far_answered : (b m a : Serving) (input written more unread left : List ℕ) (n : ℕ) (e : Exchange)
    → SoFar b input written n m unread → IsOpen e → Takes m unread more e a left → SoFar b input (written ++ more) (n + 1) a left
so_far_answered b m a input written more unread left n e x is t =
    SoFar-then b m a input written unread more left n 1 x (SoFar-one m a unread more left e is t)

-- more bytes came, into a buffer that holds what was unread
pub so_far_read : (b a : Serving) (input written unread came now : List ℕ) (n : ℕ)
    → SoFar b input written n a unread → now ≡ unread ++ came → SoFar b (input ++ came) written n a now
so_far_read b a input written unread came now n x now_is = record {
  exchanges = x.exchanges;
  taken = x.taken;
  input_is = ap (λ (z : List ℕ). z ++ came) x.input_is ∙ append_assoc x.taken unread came ∙ ap (λ (z : List ℕ). x.taken ++ z) (sym now_is);
  opened = x.opened;
  answers = x.answers;
  count = x.count;
}

-- nothing more was done
pub SoFar-same : (b m a : Serving) (input written more unread left : List ℕ) (n : ℕ)
    → SoFar b input written n m unread → Stays m a → left ≡ unread → more ≡ written → SoFar b input more n a left
SoFar-same b m a input written more unread left n x s same_rest same_text = record {
  exchanges = x.exchanges;
  taken = x.taken;
  input_is = x.input_is ∙ ap (λ (z : List ℕ). x.taken ++ z) (sym same_rest);
  opened = x.opened;
  answers = record {
    input_is = x.answers.input_is;
    written_is = same_text ∙ x.answers.written_is;
    runs = runs_stay b m a (map answered_of x.exchanges) x.answers.runs s;
  };
  count = x.count;
}

-- a refusal was noted, where no request could be read
so_far_refused : (b m a : Serving) (input written unread : List ℕ) (n : ℕ) (r : WireRefusal)
    → SoFar b input written n m unread → NotesRefusal m a (wire_status r) (wire_name r) → SoFar b input written n a unread
so_far_refused b m a input written unread n r x noted = record {
  exchanges = x.exchanges;
  taken = x.taken;
  input_is = x.input_is;
  opened = x.opened;
  answers = record {
    input_is = x.answers.input_is;
    written_is = x.answers.written_is;
    runs = runs_refusal b m a (map answered_of x.exchanges) (wire_status r) (wire_name r) x.answers.runs noted;
  };
  count = x.count;
}

-- ---- the end

-- texts of exchanges, and then those of others and a rest
pub joined : (f : Exchange → List ℕ) (es fs : List Exchange) (all front more rest : List ℕ)
    → all ≡ front ++ more → front ≡ flat_map f es → more ≡ flat_map f fs ++ rest → all ≡ flat_map f (es ++ fs) ++ rest
joined f es fs all front more rest x y z =
    x ∙ ap (λ (t : List ℕ). t ++ more) y ∙ ap (λ (t : List ℕ). flat_map f es ++ t) z ∙ sym (append_assoc (flat_map f es) (flat_map f fs) rest)
    ∙ ap (λ (t : List ℕ). t ++ rest) (sym (flat_map-append f es fs))

runs_after : (b m a : Serving) (es fs : List Exchange) → Runs b m (map answered_of es) → Runs m a (map answered_of fs) → Runs b a (map answered_of (es ++ fs))
runs_after b m a es fs x y =
    let P : List Answered → Type 0 = λ calls. Runs b a calls in
    subst P (sym (map-append answered_of es fs)) (runs_then b m a (map answered_of es) (map answered_of fs) x y)

pub served_last : (b m a : Serving) (input written more unread left : List ℕ) (n : ℕ) (e : Exchange)
    → SoFar b input written n m unread → IsLast e → Takes m unread more e a left → IsServed b input (written ++ more) (n + 1) Closed a
served_last b m a input written more unread left n e x is t =
    let one = answers_one m a unread more left e t in
    record {
      exchanges = x.exchanges ++ e ∷ [];
      told = record {
        rest = left;
        refusal = [];
        input_is =
            joined text_of x.exchanges (e ∷ []) input x.taken unread left x.input_is x.answers.input_is
            (t.unread_is ∙ ap (λ (z : List ℕ). z ++ left) one.input_is);
        written_is =
            joined reply_text x.exchanges (e ∷ []) (written ++ more) written more [] refl x.answers.written_is
            (one.written_is ∙ sym (append-nil (flat_map reply_text (e ∷ []))));
        ends = inr (x.exchanges, e, refl, x.opened, is, refl, refl);
      };
      runs = runs_after b m a x.exchanges (e ∷ []) x.answers.runs one.runs;
      count = (let was = x.count in omega (arith, was, length-append x.exchanges (e ∷ [])));
    }

-- the connection was left open
pub served_open : (b a : Serving) (input written unread refusal : List ℕ) (n : ℕ) (ended : Ended)
    → SoFar b input written n a unread → EndsOpen unread refusal ended → IsServed b input (written ++ refusal) n ended a
served_open b a input written unread refusal n ended x ends = record {
  exchanges = x.exchanges;
  told = record {
    rest = unread;
    refusal = refusal;
    input_is = x.input_is ∙ ap (λ (z : List ℕ). z ++ unread) x.answers.input_is;
    written_is = ap (λ (z : List ℕ). z ++ refusal) x.answers.written_is;
    ends = inl (x.opened, ends);
  };
  runs = x.answers.runs;
  count = x.count;
}

-- a stream that goes on from what is unread
pub ends_then : (es fs : List Exchange) (rest refusal : List ℕ) (ended : Ended) → AllByRecursion IsOpen es → Ends fs rest refusal ended → Ends (es ++ fs) rest refusal ended
ends_then es fs rest refusal ended opened (inl x) = inl (all_append IsOpen es fs opened x.0, x.1)
ends_then es fs rest refusal ended opened (inr x) =
    inr (
      es ++ x.0,
      x.1,
      ap (λ (z : List Exchange). es ++ z) x.2 ∙ sym (append_assoc es x.0 (x.1 ∷ [])),
      all_append IsOpen es x.0 opened x.3,
      x.4,
      x.5,
      x.6,
    )

pub served_then : (b m a : Serving) (input written unread more : List ℕ) (n k : ℕ) (ended : Ended)
    → SoFar b input written n m unread → IsServed m unread more k ended a → IsServed b input (written ++ more) (n + k) ended a
served_then b m a input written unread more n k ended x y = record {
  exchanges = x.exchanges ++ y.exchanges;
  told = record {
    rest = y.told.rest;
    refusal = y.told.refusal;
    input_is = joined text_of x.exchanges y.exchanges input x.taken unread y.told.rest x.input_is x.answers.input_is y.told.input_is;
    written_is =
        joined reply_text x.exchanges y.exchanges (written ++ more) written more y.told.refusal refl x.answers.written_is y.told.written_is;
    ends = ends_then x.exchanges y.exchanges y.told.rest y.told.refusal ended x.opened y.told.ends;
  };
  runs = runs_after b m a x.exchanges y.exchanges x.answers.runs y.runs;
  count = (let was = x.count in let now = y.count in omega (arith, was, now, length-append x.exchanges y.exchanges));
}

-- what follows a refused front or head changes nothing
Refuses-append : (rest more : List ℕ) (r : WireRefusal) (bare : Bool) → Refuses rest r bare → Refuses (rest ++ more) r bare
Refuses-append rest more r bare (inl x) = inl (front r x.0, x.1)
  where
    front : (r : WireRefusal) → FrontRefuses rest r → FrontRefuses (rest ++ more) r
    front BadHead y = (y.0, y.1 ++ more, ap (λ (z : List ℕ). z ++ more) y.2 ∙ append_assoc y.0 y.1 more, y.3, y.4)
    front HeadTooLarge y = (y.0, y.1 ++ more, ap (λ (z : List ℕ). z ++ more) y.2 ∙ append_assoc y.0 y.1 more, y.3, y.4)
    front BodyTooLarge y = absurd y
    front NotImplemented y = absurd y
Refuses-append rest more r bare (inr x) =
    inr (x.0, x.1 ++ more, x.2, ap (λ (z : List ℕ). z ++ more) x.3 ∙ append_assoc _ x.1 more, x.4, x.5)

-- a stream that closed takes no more
pub IsServed-append : (b a : Serving) (input more written : List ℕ) (n : ℕ)
    → IsServed b input written n Closed a → IsServed b (input ++ more) written n Closed a
IsServed-append b a input more written n x = record {
  exchanges = x.exchanges;
  told = record {
    rest = x.told.rest ++ more;
    refusal = x.told.refusal;
    input_is =
        ap (λ (z : List ℕ). z ++ more) x.told.input_is ∙ append_assoc (flat_map text_of x.exchanges) x.told.rest more;
    written_is = x.told.written_is;
    ends = elim x.told.ends [
      | inl y ↦ inl (y.0, (y.1.0, y.1.1, Refuses-append x.told.rest more y.1.0 y.1.1 y.1.2, y.1.3))
      | inr y ↦ inr y
    ];
  };
  runs = x.runs;
  count = x.count;
}

-- what is left of the input
pub input_left : (u v : Option (List ℕ)) (got : List ℕ) → Consumes u v got → (left : List ℕ) × IsInput u (got ++ left)
input_left None v got x = ([], tt)
input_left (Some xs) None got x = absurd x
input_left (Some xs) (Some ys) got x = (ys, sym x)

pub input_whole : (u v : Option (List ℕ)) (got : List ℕ) → Consumes u v got → IsAtEnd v → IsInput u got
input_whole None v got x y = tt
input_whole (Some xs) None got x y = absurd x
input_whole (Some xs) (Some ys) got x y = sym (x ∙ ap (λ (z : List ℕ). got ++ z) y ∙ append-nil got)

-- ---- what the loop over the whole requests says

pub fed_waits : (b m a : Serving) (input more none unread : List ℕ) (n : ℕ) (now : View)
    → SoFar b input more n m unread → IsPartial unread → none ≡ [] → Stays m a → now.unread ≡ unread → now.closing ≡ false
    → IsFed b input (more ++ none) n a now
fed_waits b m a input more none unread n now x partial no_text same_office same_rest open_still = record {
  stays = λ _.
      SoFar-same b m a input more (more ++ none) unread now.unread n x same_office same_rest
      (ap (λ (z : List ℕ). more ++ z) no_text ∙ append-nil more);
  closes = λ e. absurd (false≢true (sym open_still ∙ e));
  waits = λ _ _. (let P : List ℕ → Type 0 = λ u. IsPartial u in subst P (sym same_rest) partial);
}

-- too much waits to be sent
pub fed_stalls : (b a : Serving) (input more : List ℕ) (n : ℕ) (now : View)
    → SoFar b input more n a now.unread → now.closing ≡ false → now.stalled ≡ true → IsFed b input more n a now
fed_stalls b a input more n now x open_still stalled = record {
  stays = λ _. x;
  closes = λ e. absurd (false≢true (sym open_still ∙ e));
  waits = λ _ e. absurd (false≢true (sym e ∙ stalled));
}

pub fed_last : (b m a : Serving) (input more text unread left : List ℕ) (n : ℕ) (e : Exchange) (now : View)
    → SoFar b input more n m unread → IsLast e → Takes m unread text e a left → now.closing ≡ true
    → IsFed b input (more ++ text) (n + 1) a now
fed_last b m a input more text unread left n e now x is t closed = record {
  stays = λ f. absurd (false≢true (sym f ∙ closed));
  closes = λ _. served_last b m a input more text unread left n e x is t;
  waits = λ f _. absurd (false≢true (sym f ∙ closed));
}

pub fed_refused : (b m a : Serving) (input more text unread : List ℕ) (n : ℕ) (r : WireRefusal) (bare : Bool) (now : View)
    → SoFar b input more n m unread → Refuses unread r bare → text ≡ refusal_text r bare → NotesRefusal m a (wire_status r) (wire_name r) → now.closing ≡ true
    → IsFed b input (more ++ text) n a now
fed_refused b m a input more text unread n r bare now x is text_is noted closed = record {
  stays = λ f. absurd (false≢true (sym f ∙ closed));
  closes = λ _. served_open b a input more unread text n Closed (so_far_refused b m a input more unread n r x noted) (r, bare, is, text_is);
  waits = λ f _. absurd (false≢true (sym f ∙ closed));
}

-- a write that failed after more exchanges
stops_then : (b m a : Serving) (es fs : List Exchange) (unread pending : List ℕ)
    → Runs b m (map answered_of es) → StopsAt m fs unread pending a → StopsAt b (es ++ fs) unread pending a
stops_then b m a es fs unread pending r (inl p) =
    inl (
      p.0,
      p.1,
      p.2,
      p.3,
      p.4,
      let P : List Answered → Type 0 = λ calls. Runs b a calls in
          subst P
          (sym (map-append answered_of es (fs ++ p.0 ∷ [])) ∙ ap (λ (z : List Exchange). map answered_of z) (sym (append_assoc es fs (p.0 ∷ []))))
          (runs_then b m a (map answered_of es) (map answered_of (fs ++ p.0 ∷ [])) r p.5),
    )
stops_then b m a es fs unread pending r (inr p) =
    inr (
      p.0,
      p.1,
      p.2,
      p.3,
      let P : List Answered → Type 0 = λ calls. Runs b a calls in
          subst P (sym (map-append answered_of es fs)) (runs_then b m a (map answered_of es) (map answered_of fs) r p.4),
    )

pub writing_then : (b m a : Serving) (input written unread more : List ℕ) (n : ℕ)
    → SoFar b input written n m unread → StopsWriting m unread more a → StopsWriting b input (written ++ more) a
writing_then b m a input written unread more n x y = record {
  exchanges = x.exchanges ++ y.exchanges;
  taken = x.taken ++ y.taken;
  unread = y.unread;
  replies = written ++ y.replies;
  pending = y.pending;
  front = y.front;
  left = y.left;
  input_is = split_then input x.taken unread y.taken y.unread x.input_is y.input_is;
  opened = all_append IsOpen x.exchanges y.exchanges x.opened y.opened;
  taken_is =
      ap (λ (z : List ℕ). z ++ y.taken) x.answers.input_is ∙ ap (λ (z : List ℕ). flat_map text_of x.exchanges ++ z) y.taken_is
      ∙ sym (flat_map-append text_of x.exchanges y.exchanges);
  replies_are =
      ap (λ (z : List ℕ). z ++ y.replies) x.answers.written_is ∙ ap (λ (z : List ℕ). flat_map reply_text x.exchanges ++ z) y.replies_are
      ∙ sym (flat_map-append reply_text x.exchanges y.exchanges);
  stops = stops_then b m a x.exchanges y.exchanges y.unread y.pending x.answers.runs y.stops;
  cut = y.cut;
  written_is = ap (λ (z : List ℕ). written ++ z) y.written_is ∙ sym (append_assoc written y.replies y.front);
}

stops_here : (m a : Serving) (unread pending front left : List ℕ) → IsPending m unread pending a → pending ≡ front ++ left → StopsWriting m unread front a
stops_here m a unread pending front left is cut = record {
  exchanges = [];
  taken = [];
  unread = unread;
  replies = [];
  pending = pending;
  front = front;
  left = left;
  input_is = refl;
  opened = tt;
  taken_is = refl;
  replies_are = refl;
  stops = elim is [
    | inl p ↦ inl (p.0, p.1, p.2, p.3.unread_is, p.3.written_is, runs_one m a (caller_name p.0.asked.caller) p.0.request p.0.reply p.3.serves)
    | inr r ↦ inr (r.0, r.1, r.2, r.3, runs_refusal m m a [] (wire_status r.0) (wire_name r.0) (runs_none m m (stays m)) r.4)
  ];
  cut = cut;
  written_is = refl;
}

pub stops_writing : (b m a : Serving) (input more unread pending front left : List ℕ) (n : ℕ)
    → SoFar b input more n m unread → IsPending m unread pending a → pending ≡ front ++ left → StopsWriting b input (more ++ front) a
stops_writing b m a input more unread pending front left n x is cut =
    writing_then b m a input more unread front n x (stops_here m a unread pending front left is cut)

-- ---- what the loop over the reads says

pub stream_ends : (b a : Serving) (input written unread : List ℕ) (n : ℕ) (ended : Ended)
    → SoFar b input written n a unread → Waits unread
    → ((unread ≡ []) × (ended ≡ Clean)) ⊎ ((unread ≢ []) × (ended ≡ Cut))
    → IsServed b input written n ended a
stream_ends b a input written unread n ended x waits how =
    let P : List ℕ → Type 0 = λ w. IsServed b input w n ended a in
    subst P (append-nil written) (served_open b a input written unread [] n ended x (ends waits how))
  where
    ends : Waits unread → ((unread ≡ []) × (ended ≡ Clean)) ⊎ ((unread ≢ []) × (ended ≡ Cut)) → EndsOpen unread [] ended
    ends waits (inl y) = let E : Ended → Type 0 = λ e. EndsOpen unread [] e in subst E (sym y.1) (y.0, refl)
    ends (inl none) (inr y) = absurd (y.0 none)
    ends (inr partial) (inr y) = let E : Ended → Type 0 = λ e. EndsOpen unread [] e in subst E (sym y.1) (y.0, partial, refl)

-- ---- how much waits

bind_ok : {A B : Type 0} (r : Result A WireRefusal) (f : A → Result B WireRefusal) (y : B) → (r >>= f) ≡ Ok y → (x : A) × (r ≡ Ok x) × (f x ≡ Ok y)
bind_ok (Ok x) f y e = (x, refl, e)
bind_ok (Err d) f y e = cc

within_is : (n m : ℕ) → within n ≡ Ok m → m ≤ 262144
within_is n m e = grind (arith, nat_tests)

length_in : Result Asked WireRefusal → ℕ
length_in (Ok asked) = asked.length
length_in (Err e) = 0

pub asked_length : (method target : List ℕ) (minor : ℕ) (fields : Fields) (asked : Asked)
    → asked_by_head method target minor fields ≡ Ok asked → asked.length ≤ 262144
unfolding asked_by_head length_in
asked_length method target minor fields asked e =
    let a = bind_ok (lone (values_of (codes "x-office-caller") fields)) _ asked e in
    let d = bind_ok (lone (values_of (codes "destination") fields)) _ asked a.2 in
    let w = bind_ok (lone (values_of (codes "overwrite") fields)) _ asked d.2 in
    let p = bind_ok (lone (values_of (codes "depth") fields)) _ asked w.2 in
    let b = bind_ok (lone (values_of (codes "transfer-encoding") fields)) _ asked p.2 in
    let c = bind_ok (lone (values_of (codes "content-length") fields)) _ asked b.2 in
    let l = bind_ok (length_of c.0) _ asked c.2 in
    let f = bind_ok (implemented b.0 (method_named method)) _ asked l.2 in
    let h = bind_ok (within l.0) _ asked f.2 in
    let n : h.0 ≡ asked.length = ap length_in h.2 in
    let small : h.0 ≤ 262144 = within_is l.0 h.0 h.1 in
    omega arith

-- with fewer bytes than are wanted it waits still
waits_on : (front more : List ℕ) (wanted : ℕ) → WaitsFor front wanted → length (front ++ more) < wanted
    → IsPartial (front ++ more) × WaitsFor (front ++ more) wanted
waits_on front more wanted (inl x) few =
    let most = x.1 in
    let none : more ≡ [] = nil_from_length more (omega (arith, length-append front more, most, few)) in
    let same : front ++ more ≡ front = ap (λ (t : List ℕ). front ++ t) none ∙ append-nil front in
    let P : List ℕ → Type 0 = λ u. IsPartial u × WaitsFor u wanted in
    subst P (sym same) (partial x.0, inl x)
  where
    partial : Waits front → IsPartial front
    partial (inl none) = let P : List ℕ → Type 0 = λ u. IsPartial u in subst P (sym none) (inl nothing_is_part)
    partial (inr is) = is
waits_on front more wanted (inr x) few =
    let whole : front ++ more ≡ print_request x.0 ++ (x.1 ++ more) = ap (λ (z : List ℕ). z ++ more) x.4 ∙ append_assoc (print_request x.0) x.1 more in
    let wanted_is = x.7 in
    let part : IsPartOfBodyOf (front ++ more) wanted = (
      x.0,
      x.1 ++ more,
      x.2,
      x.3,
      whole,
      x.5,
      omega (arith, ap length whole, length-append (print_request x.0) (x.1 ++ more), few, wanted_is),
      x.7,
    ) in
    (inr (wanted, part), inr part)

pub waits_still : (unread : List ℕ) (wanted : ℕ) → MayWait unread wanted → length unread < wanted → IsPartial unread × WaitsFor unread wanted
waits_still unread wanted (inl none) few = absurd (omega (arith, none, few))
waits_still unread wanted (inr x) few =
    let P : List ℕ → Type 0 = λ u. IsPartial u × WaitsFor u wanted in
    subst P (sym x.2) (waits_on x.0 x.1 wanted x.3 (omega (arith, few, ap length x.2)))

pub may_wait_more : (unread came now : List ℕ) (wanted : ℕ) → MayWait unread wanted → now ≡ unread ++ came → MayWait now wanted
may_wait_more unread came now wanted (inl none) is = inl none
may_wait_more unread came now wanted (inr x) is =
    inr (x.0, x.1 ++ came, is ∙ ap (λ (t : List ℕ). t ++ came) x.2 ∙ append_assoc x.0 x.1 came, x.3)

pub may_wait_same : (unread now : List ℕ) (wanted : ℕ) → MayWait unread wanted → now ≡ unread → MayWait now wanted
may_wait_same unread now wanted may same = let P : List ℕ → Type 0 = λ u. MayWait u wanted in subst P (sym same) may

pub may_wait_after : (b a : Serving) (unread written left : List ℕ) (done : Turn) → IsTurn b unread written done a left → MayWait left (wanted_after done)
may_wait_after b a unread written left (turn.Wait wanted) t = inr (unread, [], t.4 ∙ sym (append-nil unread), t.1)
may_wait_after b a unread written left turn.Answered t = inl refl
may_wait_after b a unread written left turn.Last t = inl refl
may_wait_after b a unread written left turn.Refused t = inl refl

-- no memory was left for a reply, and nothing of it was written
pub stops_unsent : (b m a : Serving) (input more unread pending : List ℕ) (n : ℕ)
    → SoFar b input more n m unread → IsPending m unread pending a → StopsWriting b input more a
stops_unsent b m a input more unread pending n x is =
    let P : List ℕ → Type 0 = λ t. StopsWriting b input t a in
    subst P (append-nil more) (stops_writing b m a input more unread pending [] pending n x is refl)

-- ---- why it stops

pub stops_log : (e : StreamFault) (a : Serving) → e ≡ fault.Log → StopsBy e a → a.log.failed ≡ true
stops_log e a is by = let P : StreamFault → Type 0 = λ f. StopsBy f a in subst P is by

pub stops_memory : (e : StreamFault) (a : Serving) → e ≡ fault.Memory → StopsBy e a → ⊥
stops_memory e a is by = let P : StreamFault → Type 0 = λ f. StopsBy f a in subst P is by
