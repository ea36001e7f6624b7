-- What sync reports tell in runs of the machine.
use Rattle.book_machine.proofs.Common.{◌≡◌, inl, inr, ℕ, List, [], ◌∷◌, false, Option, Some, None, option_map, Result, Ok, Err, refl, sym, ap, ◌∙◌, subst, arith, CircleOf, IsCircle, one_circle, Office, Path, Standing, node_at, unnumbered, IsSound, Node, Method, Report, named, asked_of, destination_in, report_asked, AreWellFormed, refused, Call, caller_of, at_node, at_unmapped, target_of, suits_target, destination_of, ready_of, report_plan, IsBodyAnswer, limits_of, IsSuccessOf, IsDone, IsPlan, IsPlannedFrom, settled, Serves, IsGranted, Reply, Request, Plan, Ready, Target, Refusal, NeedPrivileges, Unavailable, ValidSyncToken}
use Rattle.book_office_values.specs.declared.paths.Path.TheVariants as path
use Rattle.book_office_sync.proofs.SyncedRuns.{AreCalls, AreSteps, told as told_report, valid_epoch, copies_follow, copies_begin}
use Rattle.book_office_sync.specs.Copies.{sync}
use Rattle.book_office_sync.specs.declared.messages.Token.{Token}
use Rattle.book_machine.proofs.AlikePlans.{ready_named}
use Rattle.book_machine.proofs.FittingPlans.{answered, bind_ok, same_Ok}
use Rattle.book_machine.proofs.LeadingRuns.{steps_lead_on}
use Rattle.book_machine.proofs.Limits.{accepted_done, granted_as}
use Rattle.book_machine.proofs.StepLaws.{decided}
use Rattle.book_machine.specs.Steps.{Steps as IsStep}
use Rattle.book_machine.specs.SyncedCopies.{asking, AsksReport, sync_reply, GrantedReportsAreTold, machine_steps, IsToldAt, ReportsFollow, ReportsBegin, TokensAreEnded, Synced}
use Rattle.book_machine.specs.declared.asked.Asked.TheVariants as asked
use Rattle.book_machine.specs.declared.messages.ReportKind.TheVariants.{SyncCollection}

-- ---- what is found out about a request for a report
target_path : (o : Office) (m : Method) (p : Path) (node : Option Node) (t : Target) → at_node o m p node ≡ Ok t → t.path ≡ p
target_path o m p None t e = let found = bind_ok (at_unmapped o m p) _ t e in sym (ap (λ (t : Target). t.path) (same_Ok _ t found.2))
target_path o m p (Some node) t e = let found = bind_ok _ (λ _. Ok (record { path = p; node = Some node; replaces = false })) t e in sym (ap (λ (t : Target). t.path) (same_Ok _ t found.2))

module _ (o : Office) (name : Option (List ℕ)) (request : Request) (b : List ℕ) (token : Option Token) (limit : Option ℕ) (asks : AsksReport request b token limit) (ready : Ready) (is : ready_of o name request ≡ Ok ready) where
  -- it asks for the report on the book
  asks_for_report : (ready.asked ≡ asked.Report (SyncCollection (asking token limit))) × (ready.target.path ≡ path.Book b)
  asks_for_report =
      let a = bind_ok (caller_of o name) _ ready is in
      let c = bind_ok (asked_of request.method request) _ ready a.2 in
      let t = bind_ok (target_of o request.method request.path) _ ready c.2 in
      let s = bind_ok (suits_target c.0 t.0) _ ready t.2 in
      let d = bind_ok (destination_of o (destination_in c.0)) _ ready s.2 in
      let what : answered (asked.Report (SyncCollection (asking token limit))) ≡ answered c.0 = sym (ap (λ m. asked_of m request) asks.is_report ∙ ap report_asked asks.of_changes) ∙ c.1 in
      let where_at : at_node o request.method (path.Book b) (option_map unnumbered (node_at o (path.Book b))) ≡ answered t.0 = sym (ap (target_of o request.method) asks.of_book) ∙ t.1 in
      let made = same_Ok _ ready d.2 in (
        sym (ap (λ (r : Ready). r.asked) made) ∙ sym (same_Ok _ c.0 what),
        sym (ap (λ (r : Ready). r.target.path) made) ∙ target_path o request.method (path.Book b) (option_map unnumbered (node_at o (path.Book b))) t.0 where_at,
      )

  report_planned : (result : Result Plan Refusal) (granted : IsGranted o ready) → IsPlan o name request result → report_plan (sync o granted.circle b token limit) ≡ result
  report_planned result granted planned =
      let what = asks_for_report.0 in
      let circle = granted.circle in
      let body : IsBodyAnswer o ready.asked ready.target.path (Ok tt) = subst (λ w. IsBodyAnswer o w ready.target.path (Ok tt)) (sym what) refl in
      let room : limits_of o ready.asked ready.target ≡ Ok tt = ap (λ w. limits_of o w ready.target) what in
      let done = accepted_done o circle ready result body (granted_as o ready result granted (decided o name request ready result is planned)) in
      let succeeds : IsSuccessOf o circle ready.asked ready.caller ready.target result = subst (λ c. IsDone o circle ready c result) room done in
      let at_book = subst (λ p. IsSuccessOf o circle (asked.Report (SyncCollection (asking token limit))) ready.caller (record { path = p; node = ready.target.node; replaces = ready.target.replaces }) result) asks_for_report.1
      (subst (λ w. IsSuccessOf o circle w ready.caller ready.target result) what succeeds) in
      by_token circle result token at_book
    where
      by_token : (circle : CircleOf) (result : Result Plan Refusal) (t : Option Token)
          → IsSuccessOf o circle (asked.Report (SyncCollection (asking t limit))) ready.caller (record { path = path.Book b; node = ready.target.node; replaces = ready.target.replaces }) result
          → report_plan (sync o circle b t limit) ≡ result
      by_token circle result None h = h
      by_token circle result (Some t) h = h

settled_report : (o : Office) (found : Option Report) → settled o (report_plan found) ≡ (sync_reply found, o)
settled_report o None = refl
settled_report o (Some report) = refl

pub granted_reports_are_told : GrantedReportsAreTold
granted_reports_are_told o name request reply after b token limit ready asks is granted step =
    let planned = report_planned o name request b token limit asks ready is step.0 granted step.1 in
    let settles : (reply, after) ≡ (sync_reply (sync o granted.circle b token limit), o) =
    step.2 ∙ sym (ap (settled o) planned) ∙ settled_report o (sync o granted.circle b token limit) in
    (ap (λ (x : Reply × Office). x.0) settles, ap (λ (x : Reply × Office). x.1) settles)

-- ---- a report that is told is that of the Office which the call finds
not_told : {A : Type 0} (report : Report) (refusal : Refusal) → sync_reply (Some report) ≡ refused refusal → A
not_told report refusal e = let contents = ap (λ (r : Reply). r.content) e in absurd (cc (contents))

same_told : (found : Option Report) (report : Report) → sync_reply (Some report) ≡ sync_reply found → found ≡ Some report
same_told None report e = not_told report ValidSyncToken e
same_told (Some other) report e = let contents = ap (λ (r : Reply). r.content) e in let same : report ≡ other = cc (contents) in ap Some (sym same)

abbrev IsToldTo : Office → Option (List ℕ) → List ℕ → Option Token → Option ℕ → Report → Type 0
IsToldTo o name b token limit report = (circle : CircleOf) × IsCircle o.pairs (named name) circle × (sync o circle b token limit ≡ Some report)

module _ (o after : Office) (name : Option (List ℕ)) (request : Request) (reply : Reply) (b : List ℕ) (token : Option Token) (limit : Option ℕ) (report : Report)
    (asks : AsksReport request b token limit) (is_told : reply ≡ sync_reply (Some report)) where
  told_by_stages : (step : IsStep o name request reply after) (r : Result Ready Refusal) → ready_of o name request ≡ r → IsPlannedFrom o r step.0 → IsToldTo o name b token limit report
  told_by_stages step (Err e) is planned =
      not_told report e (sym is_told ∙ ap (λ (x : Reply × Office). x.0) (step.2 ∙ ap (settled o) planned))
  told_by_stages step (Ok ready) is (inr denied) =
      not_told report (NeedPrivileges denied.0) (sym is_told ∙ ap (λ (x : Reply × Office). x.0) (step.2 ∙ ap (settled o) denied.2))
  told_by_stages step (Ok ready) is (inl granted) =
      let replied = granted_reports_are_told o name request reply after b token limit ready asks is granted.0 step in (
        granted.0.circle,
        subst (λ c. IsCircle o.pairs c granted.0.circle) (ready_named o name request ready is) granted.0.is_circle,
        same_told (sync o granted.0.circle b token limit) report (sym is_told ∙ replied.0),
      )

  told_by_step : Serves o name request reply after → IsToldTo o name b token limit report
  told_by_step (inl step) = told_by_stages step (ready_of o name request) refl step.1
  told_by_step (inr unavailable) = not_told report Unavailable (sym is_told ∙ unavailable.0)

pub machine_are : AreSteps machine_steps
machine_are = record {
  leads_on = λ o p call reply sound fine serves. steps_lead_on o p call.0 call.1 reply sound fine serves;
  one_circle = λ pairs name c d x y. one_circle pairs (named name) c d x y;
  reported = λ o p call reply b token limit report serves h.
      told_by_step o p call.0 call.1 reply b token limit report h.asked h.is_told serves;
}

-- ---- tokens of earlier epochs
none_by : (o : Office) (circle : CircleOf) (b : List ℕ) (t : Token) (limit : Option ℕ) (found : Option Report) → sync o circle b (Some t) limit ≡ found → (t.epoch ≡ o.epoch → ⊥) → found ≡ None
none_by o circle b t limit None is other = refl
none_by o circle b t limit (Some r) is other = let h = told_report o circle b (Some t) limit r is in absurd (other (valid_epoch o b h.book t h.valid))

calls_fine : (calls : List Call) → AreWellFormed calls → AreCalls machine_steps calls
calls_fine [] have = tt
calls_fine (call ∷ calls) have = (have.0, calls_fine calls have.1)

module _ (o : Office) (calls : List Call) (replies : List Reply) (sound : IsSound o) (have : AreWellFormed calls) where
  reports_follow : ReportsFollow o calls replies
  reports_follow p q i k name b token limit most first second finds onwards a c =
      copies_follow machine_steps machine_are o p q calls replies i k name b token limit most first second sound (calls_fine calls have) finds onwards a c

  reports_begin : ReportsBegin o calls replies
  reports_begin p i name b limit report finds a = copies_begin machine_steps machine_are o p calls replies i name b limit report sound (calls_fine calls have) finds a

  told_in : (p : Office) (from : List Call) (answers : List Reply) (i : ℕ) (name : Option (List ℕ)) (b : List ℕ) (token : Option Token) (limit : Option ℕ) (report : Report) → IsToldAt p from answers i name b token limit report → IsToldTo p name b token limit report
  told_in p from answers i name b token limit report a =
      let at = told_by_step p a.after a.call.0 a.call.1 a.reply b token limit report a.reported.asked a.reported.is_told a.served in
      (at.0, subst (λ n. IsCircle p.pairs (named n) at.0) a.caller at.1, at.2)

  tokens_are_ended : TokensAreEnded o calls replies
  tokens_are_ended p q i k name b other token limit most first call reply ready finds onwards a risen at asks is granted =
      let was = told_in p calls replies i name b token limit first a in
      let first_is = told_report p was.0 b token limit first was.2 in
      let epoch : first.token.epoch ≡ p.epoch = ap (λ (r : Report). r.token.epoch) first_is.is in
      elim at.served [
        | inl step ↦
            let replied = granted_reports_are_told q call.0 call.1 reply at.after other (Some first.token) most ready asks is granted step in
            let none = none_by q granted.circle other first.token most (sync q granted.circle other (Some first.token) most) refl (λ same. absurd (omega (arith, risen, epoch, same))) in
            inl (replied.0 ∙ ap sync_reply none)
        | inr unavailable ↦ inr unavailable.0
      ]

pub synced : (standing : Standing) (calls : List Call) (replies : List Reply) → AreWellFormed calls → Synced standing calls replies
synced standing calls replies have = record {
  follow = λ o stands. reports_follow o calls replies (standing.sound o stands) have;
  begin = λ o stands. reports_begin o calls replies (standing.sound o stands) have;
  end = λ o stands. tokens_are_ended o calls replies (standing.sound o stands) have;
}
