-- What a step tells of the verdict.
use Rattle.book_machine.proofs.Common.{◌≡◌, ◌⊎◌, ℕ, ◌<◌, ◌≤◌, List, Bool, true, false, Option, Some, None, Result, Ok, Err, inl, inr, refl, sym, ap, ◌∙◌, subst, is_some, arith, CircleOf, Edit, Find, Node, Office, Path, is_late, refused, ◌>>=◌, check, ready_of, limits_of, replied, text_of, put_edit, copy_edit, move_edit, delete_edit, mkcol_edit, patch_edit, body_then_limits, IsListed, IsSuccess, IsSuccessOf, IsDone, IsGrantedPlan, IsDecided, IsPlannedFrom, IsPlan, apply_any, settled, IsDenied, Asked, Content, Reply, Request, Plan, Ready, Target, Denial, Refusal, BadRequest, UnknownCaller, NeedPrivileges, ValidSyncToken, NotAllowed, NoParent, Overwrite, BodyOnMkcol, Full, Unavailable}
use Rattle.book_machine.proofs.BodyAnswers.{body_answered}
use Rattle.book_machine.proofs.FittingPlans.{answered, bind_ok, passed, same_Ok}
use Rattle.book_machine.proofs.ServedPlans.{IsServed, Served, served, success_low}
use Rattle.book_machine.proofs.ReportPlans.{reported_told}
use Rattle.book_machine.proofs.OnePlan.{one_plan, one_denial, verdicts_exclude}
use Rattle.book_machine.specs.Laws.{RequestsHaveOneStep, IsPastVerdict, RequestsActWhereGranted, DenialsAreTold, RefusalsChangeNothing, TellingRepliesChangeNothing}
use Rattle.book_machine.specs.Refusals.{status_of}
use Rattle.book_machine.specs.Stages.{keeps_limits}
use Rattle.book_machine.specs.declared.asked.Asked.TheVariants as asked
use Rattle.book_machine.specs.declared.messages.Content.TheVariants as content
use Rattle.book_machine.specs.declared.refusals.Refusal.TheVariants.{BadCard, NoProtectedAceConflict, NoInheritedAceConflict, LimitedNumberOfAces, NotSupportedPrivilege, RecognizedPrincipal, NotFound}

-- ---- the stages after the verdict
check_answers : (b : Bool) → (check b Full ≡ Ok tt) ⊎ (check b Full ≡ Err Full)
check_answers true = inl refl
check_answers false = inr refl

pub limits_answers : (o : Office) (what : Asked) (target : Target) → (limits_of o what target ≡ Ok tt) ⊎ (limits_of o what target ≡ Err Full)
limits_answers o what target = check_answers (keeps_limits o what target.path (is_some target.node) target.replaces)

-- what follows a verdict that grants
pub data GrantedAnswer (o : Office) (circle : CircleOf) (ready : Ready) (result : Result Plan Refusal) : Type 0 where
  done : IsSuccess o circle ready result → GrantedAnswer o circle ready result
  late : (refusal : Refusal) → is_late refusal ≡ true → result ≡ Err refusal → GrantedAnswer o circle ready result

module _ (o : Office) (circle : CircleOf) (ready : Ready) where
  abbrev to_limits : Unit {0} → Result (Unit {0}) Refusal
  to_limits _ = limits_of o ready.asked ready.target

  -- what follows the answers of body and limits
  follows : (result : Result Plan Refusal) (c d : Result (Unit {0}) Refusal) → c ≡ d → IsDone o circle ready c result → IsDone o circle ready d result
  follows result c d same is = subst (λ x. IsDone o circle ready x result) same is

  pub granted_answer : (result : Result Plan Refusal) → IsGrantedPlan o circle ready result → GrantedAnswer o circle ready result
  granted_answer result is = elim (body_answered o ready.asked ready.target.path is.0 is.1) [
    | inl fine ↦ elim (limits_answers o ready.asked ready.target) [
      | inl room ↦ done (follows result (body_then_limits o ready is.0) (Ok tt) (ap (λ r. r >>= to_limits) fine ∙ room) is.2)
      | inr none ↦ late Full refl (sym (follows result (body_then_limits o ready is.0) (Err Full) (ap (λ r. r >>= to_limits) fine ∙ none) is.2))
    ]
    | inr bad ↦ late bad.0 bad.1 (sym (follows result (body_then_limits o ready is.0) (Err bad.0) (ap (λ r. r >>= to_limits) bad.2) is.2))
  ]

  past_served : (result : Result Plan Refusal) → IsServed result → IsPastVerdict (settled o result).0
  past_served result (inl told) = subst (λ (r : Result Plan Refusal). IsPastVerdict (settled o r).0) (sym told.1) (inl told.2)
  past_served result (inr by_body) = subst (λ (r : Result Plan Refusal). IsPastVerdict (settled o r).0) (sym by_body.2) (inr (by_body.0, by_body.1, refl))

  past_verdict : (result : Result Plan Refusal) → IsGrantedPlan o circle ready result → Served o circle ready → IsPastVerdict (settled o result).0
  past_verdict result planned serves = elim (granted_answer result planned) [
    | done is ↦ past_served result (serves.told result is)
    | late refusal told is ↦ subst (λ (r : Result Plan Refusal). IsPastVerdict (settled o r).0) (sym is) (inr (refusal, told, refl))
  ]

  -- a plan is that of a success
  pub plan_of_success : (plan : Plan) → IsGrantedPlan o circle ready (Ok plan) → IsSuccess o circle ready (Ok plan)
  plan_of_success plan is = elim (granted_answer (Ok plan) is) [
    | done answer ↦ answer
    | late refusal told answer ↦ absurd (cc (answer))
  ]

-- ---- refusals
refusal_fails : (refusal : Refusal) → 400 ≤ status_of refusal
refusal_fails BadRequest = omega arith
refusal_fails UnknownCaller = omega arith
refusal_fails (BadCard fault) = omega arith
refusal_fails (NeedPrivileges denial) = omega arith
refusal_fails NoProtectedAceConflict = omega arith
refusal_fails NoInheritedAceConflict = omega arith
refusal_fails LimitedNumberOfAces = omega arith
refusal_fails NotSupportedPrivilege = omega arith
refusal_fails RecognizedPrincipal = omega arith
refusal_fails ValidSyncToken = omega arith
refusal_fails NotFound = omega arith
refusal_fails (NotAllowed methods) = omega arith
refusal_fails NoParent = omega arith
refusal_fails Overwrite = omega arith
refusal_fails BodyOnMkcol = omega arith
refusal_fails Full = omega arith
refusal_fails Unavailable = omega arith

pub not_success : (reply : Reply) (refusal : Refusal) → reply ≡ refused refusal → reply.status < 300 → ⊥
not_success reply refusal is low =
    let status : reply.status ≡ status_of refusal = ap (λ (r : Reply). r.status) is in
    let high = refusal_fails refusal in
    omega (arith, status, high, low)

pub same_refusal : (a b : Refusal) → refused a ≡ refused b → a ≡ b
same_refusal a b is = let content = ap (λ (r : Reply). r.content) is in cc (content)

denial_not_past : (denial : Denial) → IsPastVerdict (refused (NeedPrivileges denial)) → ⊥
denial_not_past denial (inl low) = not_success (refused (NeedPrivileges denial)) (NeedPrivileges denial) refl low
denial_not_past denial (inr told) =
    let same = same_refusal (NeedPrivileges denial) told.0 told.2 in
    let not_late : is_late (NeedPrivileges denial) ≡ true = ap is_late same ∙ told.1 in
    absurd (cc (not_late))

-- ---- steps
pub one_step : RequestsHaveOneStep
one_step o name request reply other after later a b =
    let same = one_plan o request name a.0 b.0 a.1 b.1 in
    let settles : (reply, after) ≡ (other, later) = a.2 ∙ ap (settled o) same ∙ sym b.2 in
    (ap (λ (x : Reply × Office). x.0) settles, ap (λ (x : Reply × Office). x.1) settles)

-- how a request that has passed caller, shape and path is decided
pub decided : (o : Office) (name : Option (List ℕ)) (request : Request) (ready : Ready) (result : Result Plan Refusal)
    → ready_of o name request ≡ Ok ready → IsPlan o name request result → IsDecided o ready result
decided o name request ready result is plan = subst (λ r. IsPlannedFrom o r result) is plan

pub acts_where_granted : RequestsActWhereGranted
acts_where_granted o name request ready reply after is step =
    let told : reply ≡ (settled o step.0).0 = ap (λ (x : Reply × Office). x.0) step.2 in
    elim (decided o name request ready step.0 is step.1) [
      | inl granted ↦ (
        λ _. subst IsPastVerdict (sym told) (past_verdict o granted.0.circle ready step.0 granted.1 (served o granted.0.circle request ready (passed o request name ready is))),
        λ _. granted.0,
      )
      | inr denied ↦
          let denial_told : reply ≡ refused (NeedPrivileges denied.0) = told ∙ ap (λ r. (settled o r).0) denied.2 in (
            λ granted. absurd (verdicts_exclude o ready denied.0 granted denied.1),
            λ past. absurd (denial_not_past denied.0 (subst IsPastVerdict denial_told past)),
          )
    ]

pub denials_are_told : DenialsAreTold
denials_are_told o name request ready reply after denial is step =
    let told : reply ≡ (settled o step.0).0 = ap (λ (x : Reply × Office). x.0) step.2 in
    elim (decided o name request ready step.0 is step.1) [
      | inl granted ↦ (
        λ denied. absurd (verdicts_exclude o ready denial granted.0 denied),
        λ refusal. absurd (denial_not_past denial
            (subst IsPastVerdict (sym told ∙ refusal) (past_verdict o granted.0.circle ready step.0 granted.1 (served o granted.0.circle request ready (passed o request name ready is))))),
      )
      | inr denied ↦
          let denial_told : reply ≡ refused (NeedPrivileges denied.0) = told ∙ ap (λ r. (settled o r).0) denied.2 in (
            λ other. denial_told ∙ ap (λ d. refused (NeedPrivileges d)) (one_denial o ready denied.0 denial denied.1 other),
            λ refusal.
                let same = same_refusal (NeedPrivileges denied.0) (NeedPrivileges denial) (sym denial_told ∙ refusal) in
                let one : denied.0 ≡ denial = cc (same) in
                subst (IsDenied o ready) one denied.1,
          )
    ]

-- a plan is not a refusal
pub planned_succeeds : (o : Office) (ready : Result Ready Refusal) (plan : Plan) → IsPlannedFrom o ready (Ok plan) → plan.reply.status < 300
planned_succeeds o (Err refusal) plan is = absurd (cc (is))
planned_succeeds o (Ok ready) plan (inl granted) =
    success_low o granted.0.circle ready.asked ready plan (plan_of_success o granted.0.circle ready plan granted.1)
planned_succeeds o (Ok ready) plan (inr denied) = let h = denied.2 in absurd (cc (h))

pub refusals_change_nothing : RefusalsChangeNothing
refusals_change_nothing o name request refusal after step = go step.0 step.1 step.2
  where
    go : (result : Result Plan Refusal) → IsPlan o name request result → (refused refusal, after) ≡ settled o result → after ≡ o
    go (Ok plan) planned settles =
        absurd (not_success plan.reply refusal (sym (ap (λ (x : Reply × Office). x.0) settles)) (planned_succeeds o (ready_of o name request) plan planned))
    go (Err e) planned settles = ap (λ (x : Reply × Office). x.1) settles

-- a reply with a content changed nothing
no_edit : (o : Office) (what : Content) (plan : Plan) (status : ℕ) → answered (replied status what None) ≡ Ok plan → apply_any o plan.edit ≡ o
no_edit o what plan status is = ap (λ (p : Plan). apply_any o p.edit) (sym (same_Ok _ plan is))

empty_content : (edit : Option Edit) (plan : Plan) (status : ℕ) → answered (replied status content.Empty edit) ≡ Ok plan → plan.reply.content ≡ content.Empty
empty_content edit plan status is = ap (λ (p : Plan). p.reply.content) (sym (same_Ok _ plan is))

-- a listing changed nothing
listed_tells : (o : Office) (circle : CircleOf) (find : Find) (p : Path) (node : Option Node) (plan : Plan) → IsListed o circle find p node (Ok plan) → apply_any o plan.edit ≡ o
listed_tells o circle find p None plan is = absurd (cc (is))
listed_tells o circle find p (Some node) plan is = no_edit o _ plan _ is.2

success_tells : (o : Office) (circle : CircleOf) (what : Asked) (ready : Ready) (plan : Plan) → IsSuccessOf o circle what ready.caller ready.target (Ok plan)
    → (plan.reply.content ≡ content.Empty) ⊎ (apply_any o plan.edit ≡ o)
success_tells o circle asked.Get ready plan is = let told = bind_ok (text_of ready.target.node) _ plan is in inr (no_edit o _ plan _ told.2)
success_tells o circle asked.Head ready plan is = let told = bind_ok (text_of ready.target.node) _ plan is in inr (no_edit o _ plan _ told.2)
success_tells o circle asked.Options ready plan is = inr (no_edit o _ plan _ is)
success_tells o circle (asked.Put text) ready plan is = let told = bind_ok (put_edit ready.caller text ready.target.path) _ plan is in inl (empty_content _ plan _ told.2)
success_tells o circle (asked.Propfind find) ready plan is = inr (listed_tells o circle find ready.target.path ready.target.node plan is)
success_tells o circle (asked.Proppatch patched) ready plan is = let told = bind_ok (patch_edit ready.target.path patched) _ plan is in inl (empty_content _ plan _ told.2)
success_tells o circle (asked.Acl list) ready plan is = inl (empty_content _ plan _ is)
success_tells o circle (asked.Copy to) ready plan is = let told = bind_ok (copy_edit ready.caller ready.target.path to) _ plan is in inl (empty_content _ plan _ told.2)
success_tells o circle (asked.Move to) ready plan is = let told = bind_ok (move_edit ready.target.path to) _ plan is in inl (empty_content _ plan _ told.2)
success_tells o circle asked.Delete ready plan is = let told = bind_ok (delete_edit ready.target.path) _ plan is in inl (empty_content _ plan _ told.2)
success_tells o circle asked.Mkcol ready plan is = let told = bind_ok (mkcol_edit ready.caller ready.target.path) _ plan is in inl (empty_content _ plan _ told.2)
success_tells o circle (asked.Report which) ready plan is = let told = reported_told o circle which ready.target.path plan is in inr (no_edit o told.what plan told.status told.is)

planned_tells : (o : Office) (ready : Result Ready Refusal) (plan : Plan) → IsPlannedFrom o ready (Ok plan)
    → (plan.reply.content ≡ content.Empty) ⊎ (apply_any o plan.edit ≡ o)
planned_tells o (Err refusal) plan is = absurd (cc (is))
planned_tells o (Ok ready) plan (inl granted) =
    success_tells o granted.0.circle ready.asked ready plan (plan_of_success o granted.0.circle ready plan granted.1)
planned_tells o (Ok ready) plan (inr denied) = let h = denied.2 in absurd (cc (h))

pub telling_replies_change_nothing : TellingRepliesChangeNothing
telling_replies_change_nothing o name request reply after step tells = go step.0 step.1 step.2
  where
    go : (result : Result Plan Refusal) → IsPlan o name request result → (reply, after) ≡ settled o result → after ≡ o
    go (Ok plan) planned settles = elim (planned_tells o (ready_of o name request) plan planned) [
      | inl empty ↦ absurd (tells (ap (λ (x : Reply × Office). x.0.content) settles ∙ empty))
      | inr still ↦ ap (λ (x : Reply × Office). x.1) settles ∙ still
    ]
    go (Err e) planned settles = ap (λ (x : Reply × Office). x.1) settles
