-- A plan, from what its stages tell.
use Rattle.book_machine.proofs.Common.{◌≡◌, ℕ, List, Bool, Option, Some, None, Result, Ok, Err, inl, inr, refl, sym, subst, ap, ◌∙◌, option_map, get, IsCircle, CircleOf, IsName, Office, node_at, unnumbered, IsSound, Node, Path, Find, Caller, asked_of, destination_in, Asked, Meets, MeetsAny, MeetsPlan, ◌>>=◌, caller_of, target_of, suits_target, destination_of, ready_of, limits_of, IsBodyAnswer, IsListed, IsSuccess, IsDone, IsGrantedPlan, IsDecided, IsPlannedFrom, IsPlan, needs_at, JudgesNeeds, IsTarget, Request, Plan, Ready, Target, Refusal, UnknownCaller}
use Rattle.book_office_listings.specs.Listings.{AreResponses}
use Rattle.book_office_listings.specs.declared.messages.Response.{Response}
use Rattle.book_machine.proofs.FittingPlans.{ready_is_target}
use Rattle.book_machine.specs.Stages.{listed_plan}

-- a text that is no name is no person's
pub strangers_are_unknown : (o : Office) (text : List ℕ) → IsSound o → (IsName text → ⊥) → caller_of o (Some text) ≡ Err UnknownCaller
strangers_are_unknown o text sound unnamed = go (get o.persons text) refl
  where
    go : (found : Option _) → get o.persons text ≡ found → caller_of o (Some text) ≡ Err UnknownCaller
    go None is = rw is refl
    go (Some place) is = absurd (unnamed (sound.persons text place is).0)

-- what follows an accepted body, or a refused one
pub refused_by_body : (o : Office) (circle : CircleOf) (ready : Ready) (e : Refusal) → MeetsAny (IsBodyAnswer o ready.asked ready.target.path) (Err e) → MeetsAny (IsGrantedPlan o circle ready) (Err e)
refused_by_body o circle ready e (inl unavailable) = inl unavailable
refused_by_body o circle ready e (inr is) = inr (Err e, is, refl)

-- what follows limits that are not kept
pub refused_by_limits : (o : Office) (circle : CircleOf) (ready : Ready) (e : Refusal) → IsBodyAnswer o ready.asked ready.target.path (Ok tt)
    → Meets (Err e) (limits_of o ready.asked ready.target) → MeetsAny (IsGrantedPlan o circle ready) (Err e)
refused_by_limits o circle ready e accepted (inl unavailable) = inl unavailable
refused_by_limits o circle ready e accepted (inr is) = inr (Ok tt, accepted, subst (λ c. IsDone o circle ready c (Err e)) (sym is) refl)

-- what follows limits that are kept
pub granted_after_limits : (o : Office) (circle : CircleOf) (ready : Ready) (r : Result Plan Refusal) → IsBodyAnswer o ready.asked ready.target.path (Ok tt)
    → limits_of o ready.asked ready.target ≡ Ok tt → MeetsAny (IsSuccess o circle ready) r → MeetsAny (IsGrantedPlan o circle ready) r
granted_after_limits o circle ready (Ok plan) accepted room meets = (Ok tt, accepted, subst (λ c. IsDone o circle ready c (Ok plan)) (sym room) meets)
granted_after_limits o circle ready (Err e) accepted room (inl unavailable) = inl unavailable
granted_after_limits o circle ready (Err e) accepted room (inr is) = inr (Ok tt, accepted, subst (λ c. IsDone o circle ready c (Err e)) (sym room) is)

-- a success that is a stage's, and its result
pub meets_any : (stage r : Result Plan Refusal) → Meets r stage → MeetsAny (λ x. stage ≡ x) r
meets_any stage (Ok plan) meets = meets
meets_any stage (Err e) meets = meets

-- what a listing is does not rest on the number of what is mapped
listed_unnumbered : (o : Office) (circle : CircleOf) (find : Find) (p : Path) (found : Option Node) (r : Result Plan Refusal)
    → IsListed o circle find p found r → IsListed o circle find p (option_map unnumbered found) r
listed_unnumbered o circle find p None r is = is
listed_unnumbered o circle find p (Some node) r is = is

pub listed_at_target : (o : Office) (circle : CircleOf) (find : Find) (target : Target) (r : Result Plan Refusal) → IsTarget o target
    → MeetsAny (IsListed o circle find target.path (node_at o target.path)) r → MeetsAny (IsListed o circle find target.path target.node) r
listed_at_target o circle find target r there meets =
    subst (λ node. MeetsAny (IsListed o circle find target.path node) r) (sym there) (go r meets)
  where
    go : (r : Result Plan Refusal) → MeetsAny (IsListed o circle find target.path (node_at o target.path)) r
        → MeetsAny (IsListed o circle find target.path (option_map unnumbered (node_at o target.path))) r
    go (Ok plan) is = listed_unnumbered o circle find target.path (node_at o target.path) (Ok plan) is
    go (Err e) (inl unavailable) = inl unavailable
    go (Err e) (inr is) = inr (listed_unnumbered o circle find target.path (node_at o target.path) (Err e) is)

-- a listing that was told at its target
pub listed_at : (o : Office) (circle : CircleOf) (find : Find) (p : Path) (found : Option Node) (node : Node) (responses : List Response) (r : Result Plan Refusal)
    → found ≡ Some node → AreResponses find circle o p responses → r ≡ listed_plan responses → MeetsAny (IsListed o circle find p found) r
listed_at o circle find p None node responses r there are is = absurd (cc (there))
listed_at o circle find p (Some n) node responses r there are is =
    subst (λ x. MeetsAny (IsListed o circle find p (Some n)) x) (sym is) (responses, are, refl)

module _ (o : Office) (name : Option (List ℕ)) (request : Request) where
  -- a request that a stage before the verdict refuses
  pub refused_before : (e : Refusal) → Meets (Err e) (ready_of o name request) → MeetsPlan o name request (Err e)
  refused_before e (inl unavailable) = inl unavailable
  refused_before e (inr is) = inr (subst (λ r. IsPlannedFrom o r (Err e)) (sym is) refl)

  module _ (ready : Ready) (is : ready_of o name request ≡ Ok ready) (circle : CircleOf) (is_circle : IsCircle o.pairs ready.caller circle) where
    decided : (r : Result Plan Refusal) → IsDecided o ready r → IsPlan o name request r
    decided r how = subst (λ x. IsPlannedFrom o x r) (sym is) how

    -- a request that is denied
    pub refused_by_needs : (e : Refusal) → JudgesNeeds o circle (destination_in ready.asked) ready.target.path (needs_at ready) (Err e) → MeetsPlan o name request (Err e)
    refused_by_needs e (inl unavailable) = inl unavailable
    refused_by_needs e (inr denied) =
        inr (decided (Err e) (inr (denied.0, record { circle = circle; is_circle = is_circle; denied = denied.2 }, ap Err denied.1)))

    -- a request that is granted
    pub planned : (u : Unit {0}) (r : Result Plan Refusal) → JudgesNeeds o circle (destination_in ready.asked) ready.target.path (needs_at ready) (Ok u)
        → MeetsAny (IsGrantedPlan o circle ready) r → MeetsPlan o name request r
    planned u (Ok plan) granted meets =
        decided (Ok plan) (inl (record { circle = circle; is_circle = is_circle; granted = granted }, meets))
    planned u (Err e) granted (inl unavailable) = inl unavailable
    planned u (Err e) granted (inr is_refused) =
        inr (decided (Err e) (inl (record { circle = circle; is_circle = is_circle; granted = granted }, is_refused)))

  abbrev pub ready_with : Caller → Asked → Target → Bool → Result Ready Refusal
  ready_with caller what target found = Ok (record { caller = caller; asked = what; target = record target { replaces = found } })

  abbrev pub ready_to : Caller → Asked → Target → Result Ready Refusal
  ready_to caller what target = destination_of o (destination_in what) >>= ready_with caller what target

  abbrev pub ready_suited : Caller → Asked → Target → Result Ready Refusal
  ready_suited caller what target = suits_target what target >>= λ _. ready_to caller what target

  abbrev pub ready_at_target : Caller → Asked → Result Ready Refusal
  ready_at_target caller what = target_of o request.method request.path >>= ready_suited caller what

  abbrev pub ready_asked : Caller → Result Ready Refusal
  ready_asked caller = asked_of request.method request >>= ready_at_target caller

  -- a request that has passed the path stage but for its kind
  pub ready_from : (caller : Caller) (what : Asked) (target : Target) → caller_of o name ≡ Ok caller → asked_of request.method request ≡ Ok what
      → target_of o request.method request.path ≡ Ok target → ready_of o name request ≡ ready_suited caller what target
  ready_from caller what target first second third =
      ap (λ s. s >>= ready_asked) first ∙ ap (λ s. s >>= ready_at_target caller) second ∙ ap (λ s. s >>= ready_suited caller what) third

  -- a request whose target is not of the kind that it asks of
  pub refused_by_kind : (caller : Caller) (what : Asked) (target : Target) (e : Refusal) → caller_of o name ≡ Ok caller → asked_of request.method request ≡ Ok what
      → target_of o request.method request.path ≡ Ok target → suits_target what target ≡ Err e → ready_of o name request ≡ Err e
  refused_by_kind caller what target e first second third fourth =
      ready_from caller what target first second third ∙ ap (λ s. s >>= λ _. ready_to caller what target) fourth

  -- a request whose destination is refused, or told
  pub at_its_destination : (caller : Caller) (what : Asked) (target : Target) (u : Unit {0}) → caller_of o name ≡ Ok caller → asked_of request.method request ≡ Ok what
      → target_of o request.method request.path ≡ Ok target → suits_target what target ≡ Ok u → ready_of o name request ≡ ready_to caller what target
  at_its_destination caller what target u first second third fourth =
      ready_from caller what target first second third ∙ ap (λ s. s >>= λ _. ready_to caller what target) fourth

  pub target_of_ready : (ready : Ready) → ready_of o name request ≡ Ok ready → IsTarget o ready.target
  target_of_ready ready is = ready_is_target o request name ready is
