-- What was answered is one run, whatever a stop may leave.
use Rattle.std.proofs.Common.{List, [], ◌∷◌, ◌++◌, refl, sym, subst, append-nil}
use Rattle.std.proofs.lemmas.List.Concat.{flat_map-append}
use Rattle.std.specs.List.{AllByRecursion}
use Rattle.book_machine.specs.LeadingRuns.{AreWellFormed}
use Rattle.book_machine.specs.Runs.{Call, Run, last_office}
use Rattle.book_machine.specs.declared.messages.Reply.{Reply}
use Rattle.book_office.specs.Keeping.{Standing}
use Rattle.book_office.proofs.Fallbacks.{then_falls}
use Rattle.book_office_values.specs.declared.offices.Office.{Office}
use Rattle.book_wire_serving.specs.Rounds.{IsTried}
use Rattle.book_wire_serving.specs.Serving.{Answered, AreLinesOf, Runs, Serving, calls_in, calls_answered, replies_in, replies_of}
use Rattle.book_wire_serving.proofs.Servings.{both_have, gains_none, gains_then, last_then, lines_then, run_then}
use Rattle.book_wire_steps.specs.Steps.{IsOneRun}

pub all_by_then : {A : Type 0} (P : A → Type 0) (xs ys : List A) → AllByRecursion P xs → AllByRecursion P ys → AllByRecursion P (xs ++ ys)
all_by_then P [] ys x y = y
all_by_then P (a ∷ xs) ys x y = (x.0, all_by_then P xs ys x.1 y)

pub one_run : (old new : Serving) (answered : List Answered) → Runs old new answered → IsOneRun old new answered
one_run old new answered r = record {
  well_formed = r.well_formed;
  was_honest = r.was_honest;
  falls = r.falls;
  run = λ h o stands. let so = r.run h o stands in (so.0, so.1, so.2);
  noted = r.noted;
}

-- a round that was not kept answers nothing
pub one_tried : (old new : Serving) (answered : List Answered) → IsTried old new answered → IsOneRun old new []
one_tried old new answered t = record {
  well_formed = tt;
  was_honest = t.was_honest;
  falls = t.falls;
  run = λ h o stands. ([], t.kept h o stands, tt);
  noted = gains_none old.log new.log (AreLinesOf []) t.same_log refl;
}

-- the parts of a run, of calls and replies that are given
IsRunOf : Standing → Standing → List Call → List Reply → Type 0
IsRunOf old new calls replies =
    (o : Office) → old.stands o → (offices : List Office) × new.stands (last_office o offices) × Run o calls replies offices

pub one_then : (old mid new : Serving) (answered more : List Answered) → IsOneRun old mid answered → IsOneRun mid new more → IsOneRun old new (answered ++ more)
unfolding IsRunOf
one_then old mid new answered more r s = record {
  well_formed = subst AreWellFormed (sym (flat_map-append calls_in answered more)) (both_have (calls_answered answered) (calls_answered more) r.well_formed s.well_formed);
  was_honest = λ h. r.was_honest (s.was_honest h);
  falls = then_falls r.falls s.falls;
  run = λ h.
      let P : List Call → Type 0 = λ calls. IsRunOf old.standing new.standing calls (replies_of (answered ++ more)) in
      let Q : List Reply → Type 0 = λ replies. IsRunOf old.standing new.standing (calls_answered answered ++ calls_answered more) replies in
      subst P (sym (flat_map-append calls_in answered more))
      (subst Q (sym (flat_map-append replies_in answered more))
      (λ o stands.
      let so = r.run (s.was_honest h) o stands in
      let next = s.run h (last_office o so.0) so.1 in (
        so.0 ++ next.0,
        rw (last_then o so.0 next.0) next.1,
        run_then o (calls_answered answered) (calls_answered more) (replies_of answered) (replies_of more) so.0 next.0 so.2 next.2,
      )));
  noted = gains_then old.log mid.log new.log (AreLinesOf answered) (AreLinesOf more) (AreLinesOf (answered ++ more)) (λ a b. lines_then answered more a b) r.noted s.noted;
}

-- after a round that was not kept what was answered is what was
pub one_then_tried : (old mid new : Serving) (answered tried : List Answered) → IsOneRun old mid answered → IsTried mid new tried → IsOneRun old new answered
one_then_tried old mid new answered tried r t =
    let P : List Answered → Type 0 = λ list. IsOneRun old new list in
    subst P (append-nil answered) (one_then old mid new answered [] r (one_tried mid new tried t))
