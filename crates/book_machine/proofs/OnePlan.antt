-- A request has one plan at most.
use Rattle.book_machine.proofs.Common.{◌≡◌, ℕ, List, [], ◌∷◌, Bool, Option, Some, None, Result, Ok, Err, inl, inr, sym, ap, ◌∙◌, subst, Leaf, Need, CircleOf, one_circle, effective_at, Office, Path, Caller, Find, Node, Asked, Destination, Request, Plan, Ready, Target, Denial, Refusal, NeedPrivileges, destination_in, ready_of, body_then_limits, IsListed, IsSuccessOf, IsDone, IsGrantedPlan, IsDecided, IsPlannedFrom, IsPlan, bare_entries, here_of, IsGrantedAt, place_path, needs_at, AreGranted, IsGranted, IsDenied}
use Rattle.book_rights.specs.Privileges.{denied_name}
use Rattle.book_lists.specs.declared.decisions.Outcome.{Outcome}
use Rattle.book_lists.specs.declared.decisions.Outcome.TheVariants.{Allowed, Denied}
use Rattle.book_lists.proofs.OneOutcome.{one_outcome}
use Rattle.book_office_listings.proofs.OneListing.{one_listing, allowed_not_denied}
use Rattle.book_machine.specs.declared.asked.Asked.TheVariants as asked
use Rattle.book_machine.proofs.BodyAnswers.{one_body_answer}
use Rattle.book_machine.proofs.ReportPlans.{one_report}
use Rattle.book_machine.specs.Stages.{listed_plan}
use Rattle.book_office_listings.specs.Verdicts.{paths_of, deciding_entry, IsDeniedAt}
use Rattle.book_machine.specs.Verdicts.{IsFirstDenial}

abbrev leaf_or : Leaf → Outcome → Leaf
leaf_or other Allowed = other
leaf_or other (Denied leaf index) = leaf

abbrev index_or_none : Outcome → Option ℕ
index_or_none Allowed = None
index_or_none (Denied leaf index) = index

module _ (o : Office) (circle : CircleOf) where
  granted_not_denied : (p : Path) (set : Leaf → Bool) (denial : Denial) → IsGrantedAt o circle p set → IsDeniedAt o circle p set denial → ⊥
  granted_not_denied p set denial granted denied =
      allowed_not_denied (bare_entries (effective_at o p)) circle (here_of o p) set denied.leaf denied.index granted denied.decided

  one_denial_at : (p : Path) (set : Leaf → Bool) (a b : Denial) → IsDeniedAt o circle p set a → IsDeniedAt o circle p set b → a ≡ b
  one_denial_at p set a b x y =
      let same : Denied x.leaf x.index ≡ Denied y.leaf y.index =
      one_outcome (bare_entries (effective_at o p)) circle (here_of o p) set (Denied x.leaf x.index) (Denied y.leaf y.index)
      ((λ e. absurd cc), (λ allowed. absurd (granted_not_denied p set a allowed x))) x.decided
      ((λ e. absurd cc), (λ allowed. absurd (granted_not_denied p set b allowed y))) y.decided in
      let resource : a.resource ≡ b.resource = x.resource ∙ sym y.resource in
      let privilege : a.privilege ≡ b.privilege = x.privilege ∙ ap (λ outcome. denied_name (leaf_or x.leaf outcome) set) same ∙ sym y.privilege in
      let entry : a.entry ≡ b.entry = x.entry ∙ ap (λ outcome. deciding_entry (paths_of (effective_at o p)) (index_or_none outcome)) same ∙ sym y.entry in
      λ k. record { resource = resource k; privilege = privilege k; entry = entry k }

  module _ (to : Option Destination) (target : Path) where
    first_denial_not_granted : (needs : List Need) (denial : Denial) → AreGranted o circle to target needs → IsFirstDenial o circle to target needs denial → ⊥
    first_denial_not_granted [] denial granted denied = denied
    first_denial_not_granted (need ∷ rest) denial granted (inl here) = granted_not_denied (place_path to target need.place) need.set denial granted.0 here
    first_denial_not_granted (need ∷ rest) denial granted (inr later) = first_denial_not_granted rest denial granted.1 later.1

    one_first_denial : (needs : List Need) (a b : Denial) → IsFirstDenial o circle to target needs a → IsFirstDenial o circle to target needs b → a ≡ b
    one_first_denial [] a b x y = absurd x
    one_first_denial (need ∷ rest) a b (inl x) (inl y) = one_denial_at (place_path to target need.place) need.set a b x y
    one_first_denial (need ∷ rest) a b (inl x) (inr y) = absurd (granted_not_denied (place_path to target need.place) need.set a y.0 x)
    one_first_denial (need ∷ rest) a b (inr x) (inl y) = absurd (granted_not_denied (place_path to target need.place) need.set b x.0 y)
    one_first_denial (need ∷ rest) a b (inr x) (inr y) = one_first_denial rest a b x.1 y.1

-- ---- success
module _ (o : Office) (circle : CircleOf) where
  one_listed : (find : Find) (p : Path) (node : Option Node) (a b : Result Plan Refusal) → IsListed o circle find p node a → IsListed o circle find p node b → a ≡ b
  one_listed find p None a b x y = sym x ∙ y
  one_listed find p (Some node) a b x y = sym x.2 ∙ ap listed_plan (one_listing o circle find p x.0 y.0 x.1 y.1) ∙ y.2

  pub one_success : (what : Asked) (caller : Caller) (target : Target) (a b : Result Plan Refusal)
      → IsSuccessOf o circle what caller target a → IsSuccessOf o circle what caller target b → a ≡ b
  one_success asked.Get caller target a b x y = sym x ∙ y
  one_success asked.Head caller target a b x y = sym x ∙ y
  one_success asked.Options caller target a b x y = sym x ∙ y
  one_success (asked.Put text) caller target a b x y = sym x ∙ y
  one_success (asked.Propfind find) caller target a b x y = one_listed find target.path target.node a b x y
  one_success (asked.Proppatch patched) caller target a b x y = sym x ∙ y
  one_success (asked.Acl list) caller target a b x y = sym x ∙ y
  one_success (asked.Copy to) caller target a b x y = sym x ∙ y
  one_success (asked.Move to) caller target a b x y = sym x ∙ y
  one_success asked.Delete caller target a b x y = sym x ∙ y
  one_success asked.Mkcol caller target a b x y = sym x ∙ y
  one_success (asked.Report which) caller target a b x y = one_report o circle which target.path a b x y

  one_done : (ready : Ready) (c : Result (Unit {0}) Refusal) (a b : Result Plan Refusal) → IsDone o circle ready c a → IsDone o circle ready c b → a ≡ b
  one_done ready (Ok u) a b x y = one_success ready.asked ready.caller ready.target a b x y
  one_done ready (Err e) a b x y = sym x ∙ y

module _ (o : Office) where
  pub verdicts_exclude : (ready : Ready) (denial : Denial) → IsGranted o ready → IsDenied o ready denial → ⊥
  verdicts_exclude ready denial granted denied =
      let same = one_circle o.pairs ready.caller denied.circle granted.circle denied.is_circle granted.is_circle in
      first_denial_not_granted o granted.circle (destination_in ready.asked) ready.target.path (needs_at ready) denial granted.granted
      (subst (λ c. IsFirstDenial o c (destination_in ready.asked) ready.target.path (needs_at ready) denial) same denied.denied)

  pub one_denial : (ready : Ready) (a b : Denial) → IsDenied o ready a → IsDenied o ready b → a ≡ b
  one_denial ready a b x y =
      let same = one_circle o.pairs ready.caller x.circle y.circle x.is_circle y.is_circle in
      one_first_denial o y.circle (destination_in ready.asked) ready.target.path (needs_at ready) a b
      (subst (λ c. IsFirstDenial o c (destination_in ready.asked) ready.target.path (needs_at ready) a) same x.denied) y.denied

  one_granted_plan : (circle : CircleOf) (ready : Ready) (a b : Result Plan Refusal) → IsGrantedPlan o circle ready a → IsGrantedPlan o circle ready b → a ≡ b
  one_granted_plan circle ready a b x y =
      let same = one_body_answer o ready.asked ready.target.path x.0 y.0 x.1 y.1 in
      one_done o circle ready (body_then_limits o ready y.0) a b (subst (λ answer. IsDone o circle ready (body_then_limits o ready answer) a) same x.2) y.2

  one_decided : (ready : Ready) (a b : Result Plan Refusal) → IsDecided o ready a → IsDecided o ready b → a ≡ b
  one_decided ready a b (inl x) (inl y) =
      let same = one_circle o.pairs ready.caller x.0.circle y.0.circle x.0.is_circle y.0.is_circle in
      one_granted_plan y.0.circle ready a b (subst (λ c. IsGrantedPlan o c ready a) same x.1) y.1
  one_decided ready a b (inl x) (inr y) = absurd (verdicts_exclude ready y.0 x.0 y.1)
  one_decided ready a b (inr x) (inl y) = absurd (verdicts_exclude ready x.0 y.0 x.1)
  one_decided ready a b (inr x) (inr y) = x.2 ∙ ap (λ denial. Err (NeedPrivileges denial)) (one_denial ready x.0 y.0 x.1 y.1) ∙ sym y.2

  one_planned : (ready : Result Ready Refusal) (a b : Result Plan Refusal) → IsPlannedFrom o ready a → IsPlannedFrom o ready b → a ≡ b
  one_planned (Err refusal) a b x y = x ∙ sym y
  one_planned (Ok ready) a b x y = one_decided ready a b x y

  pub one_plan : (request : Request) (name : Option (List ℕ)) (a b : Result Plan Refusal) → IsPlan o name request a → IsPlan o name request b → a ≡ b
  one_plan request name a b x y = one_planned (ready_of o name request) a b x y
