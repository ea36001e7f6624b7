-- Steps, one after the other.
use Rattle.std.proofs.Common.{◌≡◌, ◌⊎◌, ℕ, Bool, true, false, List, [], ◌∷◌, ◌++◌, Option, Some, None, Result, refl, sym, ap, subst, ◌∙◌, append-nil}
use Rattle.std.proofs.lemmas.Bool.{false≢true}
use Rattle.std.proofs.lemmas.List.Concat.{flat_map-append}
use Rattle.std.specs.List.{AllByRecursion}
use Rattle.book_policy_values.specs.declared.parts.PolicyTables.{PolicyTables}
use Rattle.book_office.specs.Keeping.{FallsBack}
use Rattle.book_machine.specs.Promises.{AdoptPromise}
use Rattle.book_machine.specs.Runs.{last_office, MayLeaveAfter}
use Rattle.book_machine.specs.declared.adoptions.AdoptFault.{AdoptFault}
use Rattle.book_machine.specs.declared.adoptions.Adopted.{Adopted}
use Rattle.book_log_lines.specs.declared.lines.Line.{Line}
use Rattle.book_log_lines.specs.declared.lines.Line.TheVariants as line
use Rattle.book_wire_serving.specs.Logs.{Log, Gains, no_log}
use Rattle.book_wire_serving.specs.Rounds.{IsTried, MayLeaveTried}
use Rattle.book_wire_serving.specs.Serving.{Answered, Runs, Serving, calls_answered, replies_of}
use Rattle.book_wire_serving.proofs.Servings.{gains_none, gains_then, runs_none, runs_then, stays}
use Rattle.book_wire_steps.proofs.Leaving.{leave_weaker, leaves_adopting}
use Rattle.book_wire_steps.proofs.OneRuns.{all_by_then, one_run, one_then, one_then_tried, one_tried}
use Rattle.book_wire_steps.specs.Steps.{Step, answered_by, all_answered, IsNoAdoption, IsNoTry, IsOneRun, MayLeaveAdopting, IsEpochTold, IsLineOfAdoption, KeepsOffice, told_as, AdoptsNow, Does, TakesSteps, OnlyAdopts, ServesInSteps, AreRunsBetweenAdoptions, AreLinesOfStep, AreLinesOfSteps, LogsTellSteps, StepsFallBack, StepsLeadOffices, StepsLeave}
use Rattle.book_wire_steps.specs.Steps.Step.{serves, tries, adopts}
use Rattle.book_office.proofs.Fallbacks.{still_falls, then_falls}

pub all_then : (xs ys : List Step) → all_answered (xs ++ ys) ≡ all_answered xs ++ all_answered ys
all_then xs ys = flat_map-append answered_by xs ys

module _ {M : Type 0} (serving : M → Serving) where
  pub takes_then : (a b c : M) (xs ys : List Step) → TakesSteps serving a xs b → TakesSteps serving b ys c → TakesSteps serving a (xs ++ ys) c
  takes_then a b c [] ys x y = (let P : M → Type 0 = λ t. TakesSteps serving t ys c in subst P x y)
  takes_then a b c (s ∷ xs) ys x y = (x.0, x.1, takes_then x.0 b c xs ys x.2 y)

  pub takes_one : (a b : M) (s : Step) → Does serving a s b → TakesSteps serving a (s ∷ []) b
  takes_one a b s x = (b, x, refl)

  -- ---- between adoptions
  parted : (a c : M) (xs ys : List Step) → TakesSteps serving a (xs ++ ys) c
      → (b : M) × TakesSteps serving a xs b × TakesSteps serving b ys c
  parted a c [] ys x = (a, refl, x)
  parted a c (s ∷ xs) ys x = (let p = parted x.0 c xs ys x.2 in (p.0, (x.0, x.1, p.1), p.2))

  one_run_of : (a b : M) (xs : List Step) → TakesSteps serving a xs b → AllByRecursion IsNoAdoption xs
      → IsOneRun (serving a) (serving b) (all_answered xs)
  one_run_of a b [] x none =
      let P : M → Type 0 = λ t. IsOneRun (serving a) (serving t) [] in
      subst P (sym x) (one_run _ _ [] (runs_none _ _ (stays (serving a))))
  one_run_of a b (serves answered ∷ xs) x none =
      one_then (serving a) (serving x.0) (serving b) answered (all_answered xs) (one_run _ _ answered x.1) (one_run_of x.0 b xs x.2 none.1)
  one_run_of a b (tries answered ∷ xs) x none =
      one_then (serving a) (serving x.0) (serving b) [] (all_answered xs) (one_tried _ _ answered x.1) (one_run_of x.0 b xs x.2 none.1)
  one_run_of a b (adopts tables outcome ∷ xs) x none = absurd none.0

  run_of : (a b : M) (xs : List Step) → TakesSteps serving a xs b → AllByRecursion IsNoAdoption xs → AllByRecursion IsNoTry xs
      → Runs (serving a) (serving b) (all_answered xs)
  run_of a b [] x none kept = (let P : M → Type 0 = λ t. Runs (serving a) (serving t) [] in subst P (sym x) (runs_none _ _ (stays (serving a))))
  run_of a b (serves answered ∷ xs) x none kept =
      runs_then (serving a) (serving x.0) (serving b) answered (all_answered xs) x.1 (run_of x.0 b xs x.2 none.1 kept.1)
  run_of a b (tries answered ∷ xs) x none kept = absurd kept.0
  run_of a b (adopts tables outcome ∷ xs) x none kept = absurd none.0

  pub runs_between : AreRunsBetweenAdoptions serving
  runs_between old new before among after x none =
      let p = parted old new before (among ++ after) x in
      let q = parted p.0 new among after p.2 in
      (p.0, q.0, p.1, one_run_of p.0 q.0 among q.1 none, run_of p.0 q.0 among q.1 none, q.2)

  -- ---- the Office
  honest_before : (a b : M) (xs : List Step) → TakesSteps serving a xs b → (serving b).standing.honest → (serving a).standing.honest
  honest_before a b [] x honest = (let P : M → Type 0 = λ t. (serving t).standing.honest in subst P x honest)
  honest_before a b (serves answered ∷ xs) x honest = x.1.was_honest (honest_before x.0 b xs x.2 honest)
  honest_before a b (tries answered ∷ xs) x honest = x.1.was_honest (honest_before x.0 b xs x.2 honest)
  honest_before a b (adopts tables outcome ∷ xs) x honest =
      x.1.promise.was_honest (x.1.keeps.was_honest (honest_before x.0 b xs x.2 honest))

  pub lead_offices : StepsLeadOffices serving
  lead_offices old new [] x honest o stands =
      let P : M → Type 0 = λ t. (serving t).standing.stands o in
      (o, subst P (sym x) stands, refl)
  lead_offices old new (serves answered ∷ steps) x honest o stands =
      let r = x.1.run (honest_before x.0 new steps x.2 honest) o stands in
      let next = lead_offices x.0 new steps x.2 honest (last_office o r.0) r.1 in
      (next.0, next.1, (r.0, r.2, next.2))
  lead_offices old new (tries answered ∷ steps) x honest o stands =
      lead_offices x.0 new steps x.2 honest o (x.1.kept (honest_before x.0 new steps x.2 honest) o stands)
  lead_offices old new (adopts tables outcome ∷ steps) x honest o stands =
      let then_honest = honest_before x.0 new steps x.2 honest in
      let a = x.1.promise.adopted (x.1.keeps.was_honest then_honest) o stands in
      let next = lead_offices x.0 new steps x.2 honest a.0 (x.1.keeps.kept then_honest a.0 a.1) in
      (next.0, next.1, (a.0, a.2, next.2))

  -- ---- what a stop may leave
  pub steps_leave : StepsLeave serving
  steps_leave old new [] x honest o stands y left =
      let P : M → Type 0 = λ t. (serving t).standing.left y in
      subst P x left
  steps_leave old new (serves answered ∷ steps) x honest o stands y left =
      let r = x.1.run (honest_before x.0 new steps x.2 honest) o stands in (
        r.0,
        r.2,
        leave_weaker (serving x.0).standing.left
            (λ z. MayLeaveAfter (serving old).standing.left o (calls_answered answered) (replies_of answered) r.0 z) (last_office o r.0) steps y
            r.3 (steps_leave x.0 new steps x.2 honest (last_office o r.0) r.1 y left),
      )
  steps_leave old new (tries answered ∷ steps) x honest o stands y left =
      let then_honest = honest_before x.0 new steps x.2 honest in
      leave_weaker (serving x.0).standing.left
      (λ z. (serving old).standing.left z ⊎ MayLeaveTried (serving old).standing.left o answered z) o steps y
      (x.1.left then_honest o stands) (steps_leave x.0 new steps x.2 honest o (x.1.kept then_honest o stands) y left)
  steps_leave old new (adopts tables outcome ∷ steps) x honest o stands y left =
      let then_honest = honest_before x.0 new steps x.2 honest in
      let h = x.1.keeps.was_honest then_honest in
      let a = x.1.promise.adopted h o stands in (
        a.0,
        a.2,
        leave_weaker (serving x.0).standing.left
            (λ z. MayLeaveAdopting (serving old).standing.left o tables outcome z) a.0 steps y
            (λ z l. leaves_adopting _ _ tables outcome x.1.promise h o stands z (x.1.keeps.left then_honest z l))
            (steps_leave x.0 new steps x.2 honest a.0 (x.1.keeps.kept then_honest a.0 a.1) y left),
      )

  -- ---- what is left where a transaction is not kept
  pub fall_back : StepsFallBack serving
  fall_back old new [] x =
      let P : M → Type 0 = λ t. FallsBack (serving old).standing.fallback (serving t).standing.fallback in
      subst P (sym x) still_falls
  fall_back old new (serves answered ∷ steps) x = then_falls x.1.falls (fall_back x.0 new steps x.2)
  fall_back old new (tries answered ∷ steps) x = then_falls x.1.falls (fall_back x.0 new steps x.2)
  fall_back old new (adopts tables outcome ∷ steps) x = then_falls x.1.promise.falls (then_falls x.1.keeps.falls (fall_back x.0 new steps x.2))

  -- ---- the log
  lines_of : (a b : M) (s : Step) → Does serving a s b → Gains (serving a).log (serving b).log (AreLinesOfStep serving s)
  lines_of a b (serves answered) x = x.noted
  lines_of a b (tries answered) x =
      gains_none (serving a).log (serving b).log (AreLinesOfStep serving (tries answered)) x.same_log refl
  lines_of a b (adopts tables outcome) x = record {
    was_sound = x.noted.was_sound;
    lines = λ sound bytes held.
        let g = x.noted.lines sound bytes held in
        let l = g.2.2 in
        (g.0, g.1, (g.2.0, g.2.1, (l.0, l.1, l.3)));
  }

  pub logs_tell : LogsTellSteps serving
  logs_tell old new [] x =
      gains_none (serving old).log (serving new).log (AreLinesOfSteps serving []) (ap (λ (t : M). (serving t).log) x) refl
  logs_tell old new (s ∷ steps) x =
      gains_then (serving old).log (serving x.0).log (serving new).log (AreLinesOfStep serving s) (AreLinesOfSteps serving steps)
      (AreLinesOfSteps serving (s ∷ steps)) (λ these later p q. (these, later, refl, p, q)) (lines_of old x.0 s x.1) (logs_tell x.0 new steps x.2)

  -- ---- a service that is only administered
  pub only_none : (a : M) → OnlyAdopts serving a a
  only_none a = ([], refl, refl, tt)

  pub only_read : (a b : M) → Runs (serving a) (serving b) [] → OnlyAdopts serving a b
  only_read a b x = (serves [] ∷ [], takes_one a b (serves []) x, refl, (tt, tt))

  pub only_adopts : (a b : M) (tables : PolicyTables) (outcome : Result Adopted AdoptFault) → AdoptsNow serving a b tables outcome
      → OnlyAdopts serving a b
  only_adopts a b tables outcome x = (adopts tables outcome ∷ [], takes_one a b (adopts tables outcome) x, refl, (tt, tt))

  -- a service that keeps no log
  pub adopts_unlogged : (a b : M) (tables : PolicyTables) (outcome : Result Adopted AdoptFault)
      → AdoptPromise (serving a).standing (serving b).standing tables outcome
      → (serving a).log ≡ no_log → (serving b).log ≡ no_log → AdoptsNow serving a b tables outcome
  adopts_unlogged a b tables outcome promise none none_then = record {
    between = b;
    promise = promise;
    keeps = record { was_honest = λ h. h; falls = still_falls; kept = λ h o stands. stands; left = λ h x left. left };
    noted =
        let Notes : Log → Log → Type 0 = λ old new.
        Gains old new (λ lines. (l : Line) × (lines ≡ l ∷ []) × IsLineOfAdoption (serving b).standing (serving b).standing outcome l) in
        subst (λ (t : Log). Notes (serving a).log t) (sym none_then) (subst (λ (t : Log). Notes t no_log) (sym none)
        (record { was_sound = λ sound. refl; lines = λ sound bytes held. absurd (none_some bytes held) }));
  }
    where
      none_some : (bytes : List ℕ) → (◌≡◌) {A = Option (List ℕ)} None (Some bytes) → ⊥
      none_some bytes e = cc

  pub only_unlogged : (a b : M) (tables : PolicyTables) (outcome : Result Adopted AdoptFault)
      → AdoptPromise (serving a).standing (serving b).standing tables outcome
      → (serving a).log ≡ no_log → (serving b).log ≡ no_log → OnlyAdopts serving a b
  only_unlogged a b tables outcome promise none none_then =
      only_adopts a b tables outcome (adopts_unlogged a b tables outcome promise none none_then)

  -- a service that notes the line after what was answered
  pub adopts_noted : (a between b : M) (tables : PolicyTables) (outcome : Result Adopted AdoptFault) (epoch : ℕ)
      → AdoptPromise (serving a).standing (serving between).standing tables outcome
      → KeepsOffice (serving between).standing (serving b).standing
      → IsEpochTold (serving between).standing (serving b).standing outcome epoch
      → Gains (serving a).log (serving b).log (λ lines. (l : Line) × (lines ≡ l ∷ [])
      × ((time : List ℕ) × (l ≡ line.Adoption (record { time = time; epoch = epoch; adopted = told_as outcome }))))
      → AdoptsNow serving a b tables outcome
  adopts_noted a between b tables outcome epoch promise keeps told noted = record {
    between = between;
    promise = promise;
    keeps = keeps;
    noted = record {
      was_sound = noted.was_sound;
      lines = λ sound bytes held.
          let g = noted.lines sound bytes held in
          let l = g.2.2 in
          (g.0, g.1, (g.2.0, g.2.1, (l.0, epoch, told, l.1)));
    };
  }

  pub only_then : (a b c : M) → OnlyAdopts serving a b → OnlyAdopts serving b c → OnlyAdopts serving a c
  only_then a b c x y = (
    x.0 ++ y.0,
    takes_then a b c x.0 y.0 x.1 y.1,
    all_then x.0 y.0 ∙ ap (λ (t : List Answered). t ++ all_answered y.0) x.2 ∙ y.2,
    all_by_then IsNoTry x.0 y.0 x.3 y.3,
  )

  -- a log that is sound was sound before
  pub only_sound : (a b : M) → OnlyAdopts serving a b → (serving b).log.failed ≡ false → (serving a).log.failed ≡ false
  only_sound a b x = (logs_tell a b x.0 x.1).was_sound

  -- ---- a service that is served in steps
  pub in_steps_none : (administered : Bool) (a b : M) → b ≡ a → ServesInSteps serving administered a b []
  in_steps_none administered a b same =
      let P : M → Type 0 = λ t. ServesInSteps serving administered a t [] in
      subst P (sym same) (record {
        steps = [];
        takes = refl;
        answers = refl;
        unadopted = λ e. tt;
        alone = λ e. one_run _ _ [] (runs_none _ _ (stays (serving a)));
      })

  pub in_steps_served : (administered : Bool) (a b c : M) (answered more : List Answered) → ServesInSteps serving administered a b answered
      → Runs (serving b) (serving c) more → ServesInSteps serving administered a c (answered ++ more)
  in_steps_served administered a b c answered more x r = record {
    steps = x.steps ++ serves more ∷ [];
    takes = takes_then a b c x.steps (serves more ∷ []) x.takes (takes_one b c (serves more) r);
    answers =
        all_then x.steps (serves more ∷ []) ∙ ap (λ (t : List Answered). t ++ (more ++ [])) x.answers
        ∙ ap (λ (t : List Answered). answered ++ t) (append-nil more);
    unadopted = λ e. all_by_then IsNoAdoption x.steps (serves more ∷ []) (x.unadopted e) (tt, tt);
    alone = λ e. one_then (serving a) (serving b) (serving c) answered more (x.alone e) (one_run _ _ more r);
  }

  -- a round was tried, and not kept
  pub in_steps_tried : (administered : Bool) (a b c : M) (answered tried : List Answered) → ServesInSteps serving administered a b answered
      → IsTried (serving b) (serving c) tried → ServesInSteps serving administered a c answered
  in_steps_tried administered a b c answered tried x r = record {
    steps = x.steps ++ tries tried ∷ [];
    takes = takes_then a b c x.steps (tries tried ∷ []) x.takes (takes_one b c (tries tried) r);
    answers = all_then x.steps (tries tried ∷ []) ∙ ap (λ (t : List Answered). t ++ []) x.answers ∙ append-nil answered;
    unadopted = λ e. all_by_then IsNoAdoption x.steps (tries tried ∷ []) (x.unadopted e) (tt, tt);
    alone = λ e. one_then_tried (serving a) (serving b) (serving c) answered tried (x.alone e) r;
  }

  pub in_steps_adopted : (administered : Bool) (a b c : M) (answered : List Answered) → administered ≡ true
      → ServesInSteps serving administered a b answered → OnlyAdopts serving b c → ServesInSteps serving administered a c answered
  in_steps_adopted administered a b c answered may x only = record {
    steps = x.steps ++ only.0;
    takes = takes_then a b c x.steps only.0 x.takes only.1;
    answers =
        all_then x.steps only.0 ∙ ap (λ (t : List Answered). t ++ all_answered only.0) x.answers
        ∙ ap (λ (t : List Answered). answered ++ t) only.2 ∙ append-nil answered;
    unadopted = λ e. absurd (false≢true (sym e ∙ may));
    alone = λ e. absurd (false≢true (sym e ∙ may));
  }

-- ---- a service over another, which stands for what that stands for
module _ {M N : Type 0} (serving : M → Serving) (inner : N → M) (put : M → N) (same : (m : M) → inner (put m) ≡ m) where
  does_within : (n : N) (m : M) (s : Step) → Does serving (inner n) s m → Does (λ (t : N). serving (inner t)) n s (put m)
  does_within n m (serves answered) x =
      let P : M → Type 0 = λ t. Runs (serving (inner n)) (serving t) answered in
      subst P (sym (same m)) x
  does_within n m (tries answered) x =
      let P : M → Type 0 = λ t. IsTried (serving (inner n)) (serving t) answered in
      subst P (sym (same m)) x
  does_within n m (adopts tables outcome) x =
      let Now : M → M → Type 0 = λ u v.
      Gains (serving (inner n)).log (serving v).log (λ lines. (l : Line) × (lines ≡ l ∷ []) × IsLineOfAdoption (serving u).standing (serving v).standing outcome l) in
      record {
        between = put x.between;
        promise = (let P : M → Type 0 = λ t. AdoptPromise (serving (inner n)).standing (serving t).standing tables outcome in subst P (sym (same x.between)) x.promise);
        keeps =
            let P : M → Type 0 = λ t. KeepsOffice (serving t).standing (serving m).standing in
            let Q : M → Type 0 = λ t. KeepsOffice (serving (inner (put x.between))).standing (serving t).standing in
            subst Q (sym (same m)) (subst P (sym (same x.between)) x.keeps);
        noted = subst (λ (t : M). Now (inner (put x.between)) t) (sym (same m)) (subst (λ (t : M). Now t m) (sym (same x.between)) x.noted);
      }

  takes_within : (n last : N) (steps : List Step) → TakesSteps serving (inner n) steps (inner last)
      → TakesSteps (λ (t : N). serving (inner t)) n (steps ++ serves [] ∷ []) last
  takes_within n last [] x =
      let P : M → Type 0 = λ t. Runs (serving (inner n)) (serving t) [] in
      takes_one (λ (t : N). serving (inner t)) n last (serves []) (subst P (sym x) (runs_none _ _ (stays (serving (inner n)))))
  takes_within n last (s ∷ steps) x =
      let P : M → Type 0 = λ t. TakesSteps serving t steps (inner last) in
      (put x.0, does_within n x.0 s x.1, takes_within (put x.0) last steps (subst P (sym (same x.0)) x.2))

  -- what is only adopted in the one is only adopted in the other
  pub only_within : (a b : N) → OnlyAdopts serving (inner a) (inner b) → OnlyAdopts (λ (t : N). serving (inner t)) a b
  only_within a b x = (
    x.0 ++ serves [] ∷ [],
    takes_within a b x.0 x.1,
    all_then x.0 (serves [] ∷ []) ∙ ap (λ (t : List Answered). t ++ []) x.2,
    all_by_then IsNoTry x.0 (serves [] ∷ []) x.3 (tt, tt),
  )

  -- a policy is adopted in the one as in the other; what else the one has may change
  pub adopts_within : (a b : N) (tables : PolicyTables) (outcome : Result Adopted AdoptFault)
      → AdoptsNow serving (inner a) (inner b) tables outcome → AdoptsNow (λ (t : N). serving (inner t)) a b tables outcome
  adopts_within a b tables outcome x =
      let P : M → Type 0 = λ t. AdoptPromise (serving (inner a)).standing (serving t).standing tables outcome in
      let Q : M → Type 0 = λ t. KeepsOffice (serving t).standing (serving (inner b)).standing in
      let R : M → Type 0 = λ t.
      Gains (serving (inner a)).log (serving (inner b)).log
      (λ lines. (l : Line) × (lines ≡ l ∷ []) × IsLineOfAdoption (serving t).standing (serving (inner b)).standing outcome l) in
      record {
        between = put x.between;
        promise = subst P (sym (same x.between)) x.promise;
        keeps = subst Q (sym (same x.between)) x.keeps;
        noted = subst R (sym (same x.between)) x.noted;
      }
