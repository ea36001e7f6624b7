-- Runs, a request at a time.
use Rattle.std.proofs.Common.{◌≡◌, ◌≢◌, ℕ, List, [], ◌∷◌, ◌++◌, Option, Some, None, Bool, true, false, refl, sym, ap, ◌∙◌, subst, inl, inr, append-nil, append_assoc}
use Rattle.std.proofs.lemmas.List.Concat.{flat_map-append}
use Rattle.book_log_lines.specs.Lines.{line_text}
use Rattle.book_log_lines.specs.declared.lines.Line.{Line}
use Rattle.book_machine.proofs.CopiesOfRuns.{synced}
use Rattle.book_machine.proofs.OfficesOfRuns.{finds_its_offices}
use Rattle.book_machine.specs.Laws.{TellingRepliesChangeNothing}
use Rattle.book_machine.specs.LeadingRuns.{AreWellFormed}
use Rattle.book_machine.specs.Promises.{ServePromise}
use Rattle.book_machine.specs.Refusals.{refused}
use Rattle.book_machine.specs.Runs.{Call, Run, last_office, MayLeave, MayLeaveAfter}
use Rattle.book_machine.specs.declared.messages.Content.TheVariants as content
use Rattle.book_machine.specs.declared.messages.Reply.{Reply}
use Rattle.book_machine.specs.declared.messages.Request.{Request}
use Rattle.book_machine.specs.declared.refusals.Refusal.TheVariants.{Unavailable}
use Rattle.book_office.specs.Keeping.{FallsBack, Leftover, Standing}
use Rattle.book_office_values.specs.declared.offices.Office.{Office}
use Rattle.book_wire_serving.specs.Logs.{Log, Appended, Gains, IsBare, IsLineOf, lines_text}
use Rattle.book_wire_serving.proofs.Unavailable.{unspelled}
use Rattle.book_wire_serving.specs.Serving.{Serving, StandsStill, Stays, NotesRefusal, NotesOwed, Owes, ServesAny, Answered, Runs, AreLinesOf, IsLineOfAny, StreamsAreSynced, calls_in, calls_answered, replies_in, replies_of}
use Rattle.book_office.proofs.Fallbacks.{still_falls, then_falls}

-- ---- what stands still
pub still : (s : Standing) → StandsStill s s
still s = record { was_honest = λ h. h; falls = still_falls; kept = λ h o stands. stands; left = λ h x left. left; counted = refl }

pub still_then : (old mid new : Standing) → StandsStill old mid → StandsStill mid new → StandsStill old new
still_then old mid new a b = record {
  was_honest = λ h. a.was_honest (b.was_honest h);
  falls = then_falls a.falls b.falls;
  kept = λ h o stands. b.kept h o (a.kept (b.was_honest h) o stands);
  left = λ h x left. a.left (b.was_honest h) x (b.left h x left);
  counted = b.counted ∙ a.counted;
}

pub stays : (s : Serving) → Stays s s
stays s = record { still = still s.standing; log = refl }

-- a promise stands where nothing was done after it
pub promise_still : (old mid new : Standing) (name : Option (List ℕ)) (request : Request) (reply : Reply)
    → ServePromise old mid name request reply → StandsStill mid new → ServePromise old new name request reply
promise_still old mid new name request reply p s = record {
  was_honest = λ h. p.was_honest (s.was_honest h);
  falls = then_falls p.falls s.falls;
  served = λ h o stands. let a = p.served (s.was_honest h) o stands in (a.0, s.kept h a.0 a.1, a.2);
  left = λ h o stands x left. p.left (s.was_honest h) o stands x (s.left h x left);
  counted = elim p.counted [ inl same ↦ inl (s.counted ∙ same) | inr more ↦ inr (more.0, s.counted ∙ more.1) ];
}

-- ---- what a log gains
pub gains_none : (old new : Log) (AreSo : List Line → Type 0) → new ≡ old → AreSo [] → Gains old new AreSo
gains_none old new AreSo same so =
    let P : Log → Type 0 = λ l. Gains old l AreSo in
    subst P (sym same) (record { was_sound = λ sound. sound; lines = λ sound bytes held. ([], held ∙ ap Some (sym (append-nil bytes)), so) })

pub gains_then : (old mid new : Log) (P Q R : List Line → Type 0)
    → ((a b : List Line) → P a → Q b → R (a ++ b)) → Gains old mid P → Gains mid new Q → Gains old new R
gains_then old mid new P Q R both a b = record {
  was_sound = λ sound. a.was_sound (b.was_sound sound);
  lines = λ sound bytes held.
      let first = a.lines (b.was_sound sound) bytes held in
      let next = b.lines sound (bytes ++ lines_text first.0) first.1 in (
        first.0 ++ next.0,
        next.1 ∙ ap Some (append_assoc bytes (lines_text first.0) (lines_text next.0) ∙ ap (λ (t : List ℕ). bytes ++ t) (sym (flat_map-append line_text first.0 next.0))),
        both first.0 next.0 first.2 next.2,
      );
}

-- one line is added
pub gains_one : (old new : Log) (text : List ℕ) (IsSo : Line → Type 0)
    → Appended old new text → ((bytes : List ℕ) → old.held ≡ Some bytes → (l : Line) × (text ≡ line_text l) × IsSo l)
    → Gains old new (λ lines. (l : Line) × (lines ≡ l ∷ []) × IsSo l)
gains_one old new text IsSo a is = record {
  was_sound = a.was_sound;
  lines = λ sound bytes held.
      let l = is bytes held in (
        l.0 ∷ [],
        a.held sound bytes held ∙ ap (λ (t : List ℕ). Some (bytes ++ t)) (l.1 ∙ sym (append-nil (line_text l.0))),
        (l.0, refl, l.2),
      );
}

pub lines_then : (answered more : List Answered) (a b : List Line) → AreLinesOf answered a → AreLinesOf more b → AreLinesOf (answered ++ more) (a ++ b)
lines_then answered more [] b none others =
    let P : List Answered → Type 0 = λ answered. AreLinesOf (answered ++ more) b in
    subst P (sym none) others
lines_then answered more (l ∷ a) b (inl bare) others = inl (bare.0, lines_then answered more a b bare.1 others)
lines_then answered more (l ∷ a) b (inr next) others =
    inr (next.0, next.1 ++ more, ap (λ (list : List Answered). list ++ more) next.2, next.3, lines_then next.1 more a b next.4 others)

-- ---- runs
pub runs_none : (old new : Serving) → Stays old new → Runs old new []
runs_none old new s = record {
  well_formed = tt;
  was_honest = s.still.was_honest;
  falls = s.still.falls;
  run = λ h o stands. ([], s.still.kept h o stands, tt, λ x left. s.still.left h x left);
  noted = gains_none old.log new.log (AreLinesOf []) s.log refl;
}

run_still : (old mid new : Serving) (answered : List Answered) → Runs old mid answered → StandsStill mid.standing new.standing
    → Gains old.log new.log (AreLinesOf answered) → Runs old new answered
run_still old mid new answered r s noted = record {
  well_formed = r.well_formed;
  was_honest = λ h. r.was_honest (s.was_honest h);
  falls = then_falls r.falls s.falls;
  run = λ h o stands.
      let so = r.run (s.was_honest h) o stands in
      (so.0, s.kept h (last_office o so.0) so.1, so.2, λ x left. so.3 x (s.left h x left));
  noted = noted;
}

pub runs_stay : (old mid new : Serving) (answered : List Answered) → Runs old mid answered → Stays mid new → Runs old new answered
runs_stay old mid new answered r s =
    let P : Log → Type 0 = λ l. Gains old.log l (AreLinesOf answered) in
    run_still old mid new answered r s.still (subst P (sym s.log) r.noted)

-- a refusal is noted
pub runs_refusal : (old mid new : Serving) (answered : List Answered) (status : ℕ) (error : List ℕ)
    → Runs old mid answered → NotesRefusal mid new status error → Runs old new answered
runs_refusal old mid new answered status error r s =
    let IsOne : List Line → Type 0 = λ lines. (l : Line) × (lines ≡ l ∷ []) × IsBare status error l in
    let last : (a b : List Line) → AreLinesOf answered a → IsOne b → AreLinesOf answered (a ++ b) = λ a b lines one.
    let P : List Answered → Type 0 = λ list. AreLinesOf list (a ++ b) in
    let Q : List Line → Type 0 = λ ls. AreLinesOf [] ls in
    subst P (append-nil answered) (lines_then answered [] a b lines (subst Q (sym one.1) (inl ((status, error, one.2), refl)))) in
    run_still old mid new answered r s.still (gains_then old.log mid.log new.log (AreLinesOf answered) IsOne (AreLinesOf answered) last r.noted s.noted)

-- what may be left grows with what could be left before
may_weaker : (P Q : Leftover → Type 0) (o : Office) (call : Call) (reply : Reply) (x : Leftover)
    → ((y : Leftover) → P y → Q y) → MayLeave P o call reply x → MayLeave Q o call reply x
may_weaker P Q o call reply x f m = (elim m.0 [ inl before ↦ inl (f x before) | inr made ↦ inr made ], m.1)

pub after_weaker : (P Q : Leftover → Type 0) (o : Office) (calls : List Call) (replies : List Reply) (offices : List Office) (x : Leftover)
    → ((y : Leftover) → P y → Q y) → MayLeaveAfter P o calls replies offices x → MayLeaveAfter Q o calls replies offices x
after_weaker P Q o [] replies offices x f m = f x m
after_weaker P Q o (c ∷ calls) [] offices x f m = f x m
after_weaker P Q o (c ∷ calls) (r ∷ replies) [] x f m = f x m
after_weaker P Q o (c ∷ calls) (r ∷ replies) (a ∷ offices) x f m =
    after_weaker (MayLeave P o c r) (MayLeave Q o c r) a calls replies offices x (λ y p. may_weaker P Q o c r y f p) m

pub last_then : (o : Office) (offices others : List Office) → last_office o (offices ++ others) ≡ last_office (last_office o offices) others
last_then o [] others = refl
last_then o (a ∷ offices) others = last_then a offices others

pub run_then : (o : Office) (calls more : List Call) (replies others : List Reply) (offices later : List Office)
    → Run o calls replies offices → Run (last_office o offices) more others later → Run o (calls ++ more) (replies ++ others) (offices ++ later)
run_then o [] more [] others [] later run next = next
run_then o [] more [] others (a ∷ offices) later run next = absurd run
run_then o [] more (r ∷ replies) others offices later run next = absurd run
run_then o (c ∷ calls) more [] others offices later run next = absurd run
run_then o (c ∷ calls) more (r ∷ replies) others [] later run next = absurd run
run_then o (c ∷ calls) more (r ∷ replies) others (a ∷ offices) later run next =
    (run.0, run_then a calls more replies others offices later run.1 next)

leave_then : (before mid : Leftover → Type 0) (o : Office) (calls more : List Call) (replies others : List Reply) (offices later : List Office) (x : Leftover)
    → Run o calls replies offices → ((y : Leftover) → mid y → MayLeaveAfter before o calls replies offices y)
    → MayLeaveAfter mid (last_office o offices) more others later x
    → MayLeaveAfter before o (calls ++ more) (replies ++ others) (offices ++ later) x
leave_then before mid o [] more [] others [] later x run may left = after_weaker mid before o more others later x may left
leave_then before mid o [] more [] others (a ∷ offices) later x run may left = absurd run
leave_then before mid o [] more (r ∷ replies) others offices later x run may left = absurd run
leave_then before mid o (c ∷ calls) more [] others offices later x run may left = absurd run
leave_then before mid o (c ∷ calls) more (r ∷ replies) others [] later x run may left = absurd run
leave_then before mid o (c ∷ calls) more (r ∷ replies) others (a ∷ offices) later x run may left =
    leave_then (MayLeave before o c r) mid a calls more replies others offices later x run.1 may left

pub both_have : (calls more : List Call) → AreWellFormed calls → AreWellFormed more → AreWellFormed (calls ++ more)
both_have [] more have others = others
both_have (c ∷ calls) more have others = (have.0, both_have calls more have.1 others)

-- the parts of a run, of calls and replies that are given
IsRun : Standing → Standing → List Call → List Reply → Type 0
IsRun old new calls replies =
    (o : Office) → old.stands o
    → (offices : List Office) × new.stands (last_office o offices) × Run o calls replies offices
    × ((x : Leftover) → new.left x → MayLeaveAfter old.left o calls replies offices x)

pub runs_then : (old mid new : Serving) (answered more : List Answered) → Runs old mid answered → Runs mid new more → Runs old new (answered ++ more)
unfolding IsRun
runs_then old mid new answered more r s = record {
  well_formed = subst AreWellFormed (sym (flat_map-append calls_in answered more)) (both_have (calls_answered answered) (calls_answered more) r.well_formed s.well_formed);
  was_honest = λ h. r.was_honest (s.was_honest h);
  falls = then_falls r.falls s.falls;
  run = λ h.
      let P : List Call → Type 0 = λ calls. IsRun old.standing new.standing calls (replies_of (answered ++ more)) in
      let Q : List Reply → Type 0 = λ replies. IsRun old.standing new.standing (calls_answered answered ++ calls_answered more) replies in
      subst P (sym (flat_map-append calls_in answered more))
      (subst Q (sym (flat_map-append replies_in answered more))
      (λ o stands.
      let so = r.run (s.was_honest h) o stands in
      let next = s.run h (last_office o so.0) so.1 in (
        so.0 ++ next.0,
        rw (last_then o so.0 next.0) next.1,
        run_then o (calls_answered answered) (calls_answered more) (replies_of answered) (replies_of more) so.0 next.0 so.2 next.2,
        λ x left.
            leave_then old.standing.left mid.standing.left o (calls_answered answered) (calls_answered more) (replies_of answered) (replies_of more) so.0 next.0 x so.2 so.3
            (next.3 x left),
      )));
  noted = gains_then old.log mid.log new.log (AreLinesOf answered) (AreLinesOf more) (AreLinesOf (answered ++ more)) (λ a b. lines_then answered more a b) r.noted s.noted;
}

-- the line of one request is that of a list of one
one_line : (old new : Log) (name : Option (List ℕ)) (request : Option Request) (reply : Reply) (IsSo : Line → Type 0)
    → ((l : Line) → IsSo l → IsLineOfAny name request reply l) → Gains old new (λ lines. (l : Line) × (lines ≡ l ∷ []) × IsSo l)
    → Gains old new (AreLinesOf (record { name = name; request = request; reply = reply } ∷ []))
one_line old new name request reply IsSo is gains = record {
  was_sound = gains.was_sound;
  lines = λ sound bytes held.
      let a : Answered = record { name = name; request = request; reply = reply } in
      let g = gains.lines sound bytes held in
      let P : List Line → Type 0 = λ ls. AreLinesOf (a ∷ []) ls in
      (g.0, g.1, subst P (sym g.2.1) (inr (a, [], refl, is g.2.0 g.2.2, refl)));
}

pub runs_one : (old new : Serving) (name : Option (List ℕ)) (request : Option Request) (reply : Reply)
    → ServesAny old new name request reply → Runs old new (record { name = name; request = request; reply = reply } ∷ [])
runs_one old new name None reply s = record {
  well_formed = tt;
  was_honest = s.still.was_honest;
  falls = s.still.falls;
  run = λ h o stands. ([], s.still.kept h o stands, tt, λ x left. s.still.left h x left);
  noted = one_line old.log new.log name None reply _ (λ l is. is) s.noted;
}
runs_one old new name (Some request) reply s = record {
  well_formed = (s.1, tt);
  was_honest = s.0.was_honest;
  falls = s.0.falls;
  run = λ h o stands.
      let next = s.0.served h o stands in
      (next.0 ∷ [], next.1, (next.2, tt), λ x left. s.0.left h o stands x left);
  noted = one_line old.log new.log name (Some request) reply _ (λ l is. is) s.2;
}

-- ---- what is owed
-- a text that is a line is noted
owed_line : (old mid new : Log) (text : List ℕ) (l : Line) (IsSo : Line → Type 0)
    → mid.held ≡ old.held → Appended mid new text → text ≡ line_text l → IsSo l
    → new.failed ≡ false → (bytes : List ℕ) → old.held ≡ Some bytes
    → (lines : List Line) × (new.held ≡ Some (bytes ++ lines_text lines)) × ((m : Line) × (lines ≡ m ∷ []) × IsSo m)
owed_line old mid new text l IsSo same a text_is so sound bytes held = (
  l ∷ [],
  a.held sound bytes (same ∙ held) ∙ ap (λ (t : List ℕ). Some (bytes ++ t)) (text_is ∙ sym (append-nil (line_text l))),
  (l, refl, so),
)

-- the reply is sent as it was made
pub owed_noted : (old mid new : Serving) (owed : Bool → List ℕ) (name : Option (List ℕ)) (request : Request) (reply : Reply)
    → Owes old mid owed name request reply → NotesOwed mid new (owed true) → ServesAny old new name (Some request) reply
owed_noted old mid new owed name request reply o n = (
  promise_still old.standing mid.standing new.standing name request reply o.served n.still,
  o.well_formed,
  record {
    was_sound = λ sound. o.was_sound (n.noted.was_sound sound);
    lines = λ sound bytes held.
        let t = o.text (n.noted.was_sound sound) bytes (o.held ∙ held) in
        owed_line old.log mid.log new.log (owed true) t.l (IsLineOf name request reply) o.held n.noted t.text_is t.is_line sound bytes held;
  },
)

-- `unavailable` is sent in its place
pub owed_unavailable : TellingRepliesChangeNothing → (old mid new : Serving) (owed : Bool → List ℕ) (name : Option (List ℕ)) (request : Request) (reply : Reply)
    → Owes old mid owed name request reply → reply.content ≢ content.Empty → NotesOwed mid new (owed false) → ServesAny old new name (Some request) (refused Unavailable)
owed_unavailable law old mid new owed name request reply o telling n = (
  promise_still old.standing mid.standing new.standing name request (refused Unavailable) (unspelled law old.standing mid.standing name request reply o.served telling) n.still,
  o.well_formed,
  record {
    was_sound = λ sound. o.was_sound (n.noted.was_sound sound);
    lines = λ sound bytes held.
        let t = o.other (n.noted.was_sound sound) bytes (o.held ∙ held) in
        owed_line old.log mid.log new.log (owed false) t.0 (IsLineOf name request (refused Unavailable)) o.held n.noted t.1 (inr (refl, t.2)) sound bytes held;
  },
)

-- a reading that tells nothing
pub runs_unread : (old new : Serving) → (new.standing.honest → old.standing.honest) → FallsBack old.standing.fallback new.standing.fallback
    → (new.standing.honest → (o : Office) → old.standing.stands o → new.standing.stands o)
    → (new.standing.honest → (x : Leftover) → new.standing.left x → old.standing.left x) → new.log ≡ old.log → Runs old new []
runs_unread old new was_honest falls kept left log = record {
  well_formed = tt;
  was_honest = was_honest;
  falls = falls;
  run = λ h o stands. ([], kept h o stands, tt, λ x may. left h x may);
  noted = gains_none old.log new.log (AreLinesOf []) log refl;
}

pub streams_are_synced : {M : Type 0} (serving : M → Serving) → StreamsAreSynced serving
streams_are_synced serving old new answered runs honest o stands =
    let so = runs.run honest o stands in (
      so.0,
      so.1,
      finds_its_offices o (calls_answered answered) (replies_of answered) so.0 so.2,
      synced (serving old).standing (calls_answered answered) (replies_of answered) runs.well_formed,
    )
