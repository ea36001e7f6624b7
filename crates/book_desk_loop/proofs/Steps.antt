-- The steps of the connections, one after the other.
use Rattle.std.proofs.Common.{◌≡◌, ℕ, Bool, true, List, [], ◌∷◌, ◌++◌, map, Option, inl, inr, refl, sym, ap, subst, ◌∙◌, append_assoc, append-nil}
use Rattle.std.proofs.lemmas.Bool.{cases_eq, false≢true}
use Rattle.std.proofs.lemmas.List.{map-append}
use Rattle.std.specs.List.{flat_map, AllByRecursion}
use Rattle.book_wire.specs.Stream.{Exchange, answered_of, text_of}
use Rattle.book_wire_serving.specs.Rounds.{IsTried}
use Rattle.book_wire_serving.specs.Serving.{Answered, Runs, Serving}
use Rattle.book_wire_serving.proofs.Servings.{runs_none, stays}
use Rattle.book_wire_steps.specs.Steps.{Step, IsOneRun, IsNoAdoption, IsNoTry, OnlyAdopts, all_answered}
use Rattle.book_wire_steps.specs.Steps.Step.{serves, tries, adopts}
use Rattle.book_wire_steps.proofs.OneRuns.{all_by_then, one_run, one_then, one_then_tried}
use Rattle.book_wire_steps.proofs.Takes.{all_then, takes_one, takes_then}
use Rattle.book_desk_connections.specs.ManyConnections.{History, Entry, answered_in, entries, grows, own}
use Rattle.book_desk_connections.specs.Rounds.{AreSentNext, WereSent}
use Rattle.book_desk_connections.proofs.Histories.{entries_run, history_here, history_there}
use Rattle.book_desk_loop.specs.Serving.{AreInSteps, IsOfConnections}

-- ---- what was sent stays sent

-- each connection received what it had received, and then more
abbrev Received : (ℕ → History) → (ℕ → History) → Type 0
Received histories others = (k : ℕ) → (more : List ℕ) × ((others k).received ≡ (histories k).received ++ more)

sent_more : (histories others : ℕ → History) (log more : List Entry) (answered : List Answered) → Received histories others
    → WereSent histories log answered → WereSent others (log ++ more) answered
sent_more histories others log more answered received x = record {
  before = x.before;
  after = x.after ++ more;
  tried = x.tried;
  log_is = ap (λ (t : List Entry). t ++ more) x.log_is ∙ append_assoc x.before x.after more;
  are = x.are;
  sent = λ k.
      let was = x.sent k in
      let r = received k in
      let texts = flat_map text_of (own k x.before ++ own k x.tried) in (
        was.0 ++ r.0,
        r.1 ∙ ap (λ (t : List ℕ). t ++ r.0) was.1 ∙ append_assoc texts was.0 r.0,
        was.2,
      );
}

of_connections : (histories others : ℕ → History) (log more : List Entry) → Received histories others → (steps : List Step)
    → AllByRecursion (IsOfConnections histories log) steps → AllByRecursion (IsOfConnections others (log ++ more)) steps
of_connections histories others log more received [] x = tt
of_connections histories others log more received (serves answered ∷ steps) x = (tt, of_connections histories others log more received steps x.1)
of_connections histories others log more received (tries answered ∷ steps) x =
    (sent_more histories others log more answered received x.0, of_connections histories others log more received steps x.1)
of_connections histories others log more received (adopts tables outcome ∷ steps) x = (tt, of_connections histories others log more received steps x.1)

received_same : (histories : ℕ → History) → Received histories histories
received_same histories k = ([], sym (append-nil (histories k).received))

received_grows : (histories : ℕ → History) (k : ℕ) (came went : List ℕ) → Received histories (grows histories k came went)
received_grows histories k came went j = elim (cases_eq j k) [
  | inl at ↦
      let had = histories k in
      let P : ℕ → Type 0 = λ n. (more : List ℕ) × ((grows histories k came went n).received ≡ (histories n).received ++ more) in
      subst P (sym at) (came, ap (λ (t : History). t.received) (history_here histories k (record { received = had.received ++ came; sent = had.sent ++ went })))
  | inr far ↦
      let had = histories k in (
        [],
        ap (λ (t : History). t.received) (history_there histories j k (record { received = had.received ++ came; sent = had.sent ++ went }) far)
            ∙ sym (append-nil (histories j).received),
      )
]

-- an adoption tries nothing
no_try : (histories : ℕ → History) (log : List Entry) (steps : List Step) → AllByRecursion IsNoTry steps → AllByRecursion (IsOfConnections histories log) steps
no_try histories log [] x = tt
no_try histories log (serves answered ∷ steps) x = (tt, no_try histories log steps x.1)
no_try histories log (tries answered ∷ steps) x = absurd x.0
no_try histories log (adopts tables outcome ∷ steps) x = (tt, no_try histories log steps x.1)

module _ {S M : Type 0} (remaining contents : S → Option (List ℕ)) (serving : M → Serving) (administered : Bool) (first : M) where
  abbrev pub InSteps : M → (ℕ → History) → List Entry → Type 0
  InSteps last histories log = AreInSteps remaining contents serving administered first last histories log

  -- the first
  pub steps_none : (last : M) → last ≡ first → (histories : ℕ → History) → InSteps last histories []
  steps_none last same histories =
      let P : M → Type 0 = λ t. InSteps t histories [] in
      subst P (sym same) (record {
        in_steps = record {
          steps = [];
          takes = refl;
          answers = refl;
          unadopted = λ e. tt;
          alone = λ e. one_run _ _ [] (runs_none _ _ (stays (serving first)));
        };
        sent = tt;
      })

  -- requests were answered, and the connections received what they had received, and more
  steps_served : (b c : M) (histories others : ℕ → History) (log more : List Entry) → Received histories others → InSteps b histories log
      → Runs (serving b) (serving c) (map answered_in more) → InSteps c others (log ++ more)
  steps_served b c histories others log more received x r =
      let y = x.in_steps in
      let answered = map answered_in log in
      let later = map answered_in more in
      let joined : map answered_in (log ++ more) ≡ answered ++ later = map-append answered_in log more in
      let steps : List Step = y.steps ++ serves later ∷ [] in
      record {
        in_steps = record {
          steps = steps;
          takes = takes_then serving first b c y.steps (serves later ∷ []) y.takes (takes_one serving b c (serves later) r);
          answers =
              all_then y.steps (serves later ∷ []) ∙ ap (λ (t : List Answered). t ++ (later ++ [])) y.answers
              ∙ ap (λ (t : List Answered). answered ++ t) (append-nil later) ∙ sym joined;
          unadopted = λ e. all_by_then IsNoAdoption y.steps (serves later ∷ []) (y.unadopted e) (tt, tt);
          alone = λ e.
              let P : List Answered → Type 0 = λ t. IsOneRun (serving first) (serving c) t in
              subst P (sym joined) (one_then (serving first) (serving b) (serving c) answered later (y.alone e) (one_run _ _ later r));
        };
        sent = all_by_then (IsOfConnections others (log ++ more)) y.steps (serves later ∷ []) (of_connections histories others log more received y.steps x.sent) (tt, tt);
      }

  -- those of one connection, which received bytes and was sent others
  pub steps_turn : (b c : M) (histories : ℕ → History) (log : List Entry) (k : ℕ) (came went : List ℕ) (more : List Exchange) → InSteps b histories log
      → Runs (serving b) (serving c) (map answered_of more) → InSteps c (grows histories k came went) (log ++ entries k more)
  steps_turn b c histories log k came went more x r =
      steps_served b c histories (grows histories k came went) log (entries k more) (received_grows histories k came went) x
      (entries_run (serving b) (serving c) k more r)

  -- those of many, and no byte came
  pub steps_round : (b c : M) (histories : ℕ → History) (log more : List Entry) → InSteps b histories log
      → Runs (serving b) (serving c) (map answered_in more) → InSteps c histories (log ++ more)
  steps_round b c histories log more x r = steps_served b c histories histories log more (received_same histories) x r

  -- none
  pub steps_read : (b c : M) (histories : ℕ → History) (log : List Entry) → InSteps b histories log → Runs (serving b) (serving c) [] → InSteps c histories log
  steps_read b c histories log x r =
      let P : List Entry → Type 0 = λ t. InSteps c histories t in
      subst P (append-nil log) (steps_round b c histories log [] x r)

  -- a round was tried, and not kept
  pub steps_tried : (b c : M) (histories : ℕ → History) (log more : List Entry) → InSteps b histories log
      → AreSentNext histories log more → IsTried (serving b) (serving c) (map answered_in more) → InSteps c histories log
  steps_tried b c histories log more x sent r =
      let y = x.in_steps in
      let tried = map answered_in more in
      let answered = map answered_in log in
      let were : WereSent histories log tried =
      record { before = log; after = []; tried = more; log_is = sym (append-nil log); are = refl; sent = sent } in
      record {
        in_steps = record {
          steps = y.steps ++ tries tried ∷ [];
          takes = takes_then serving first b c y.steps (tries tried ∷ []) y.takes (takes_one serving b c (tries tried) r);
          answers = all_then y.steps (tries tried ∷ []) ∙ ap (λ (t : List Answered). t ++ []) y.answers ∙ append-nil answered;
          unadopted = λ e. all_by_then IsNoAdoption y.steps (tries tried ∷ []) (y.unadopted e) (tt, tt);
          alone = λ e. one_then_tried (serving first) (serving b) (serving c) answered tried (y.alone e) r;
        };
        sent = all_by_then (IsOfConnections histories log) y.steps (tries tried ∷ []) x.sent (were, tt);
      }

  -- the control had its turn, which may adopt
  pub steps_adopted : (b c : M) (histories : ℕ → History) (log : List Entry) → administered ≡ true → InSteps b histories log → OnlyAdopts serving b c
      → InSteps c histories log
  steps_adopted b c histories log may x only =
      let y = x.in_steps in
      let answered = map answered_in log in
      record {
        in_steps = record {
          steps = y.steps ++ only.0;
          takes = takes_then serving first b c y.steps only.0 y.takes only.1;
          answers =
              all_then y.steps only.0 ∙ ap (λ (t : List Answered). t ++ all_answered only.0) y.answers
              ∙ ap (λ (t : List Answered). answered ++ t) only.2 ∙ append-nil answered;
          unadopted = λ e. absurd (false≢true (sym e ∙ may));
          alone = λ e. absurd (false≢true (sym e ∙ may));
        };
        sent = all_by_then (IsOfConnections histories log) y.steps only.0 x.sent (no_try histories log only.0 only.3);
      }
