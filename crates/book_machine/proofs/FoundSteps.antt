-- Each request has a step in each Office.
use Rattle.book_machine.proofs.Common.{◌≡◌, ◌⊎◌, inl, inr, ℕ, List, [], ◌∷◌, true, is_some, option_map, Option, Some, None, Result, Ok, Err, refl, sym, ◌∙◌, subst, Leaf, Bool, Need, CircleOf, Caller, Known, Nobody, card_fault, Office, Path, node_at, unnumbered, Resource, node_of, resource_at, effective_at, Node, IsGrantedAt, here_of, Denial, Find, AreGranted, needs_at, place_path, destination_in, Destination, Asked, Plan, Ready, Target, Reply, Request, Refusal, NeedPrivileges, ReportKind, IsBodyAnswer, IsMembersAnswer, bad_card, AreMembersTold, IsReportOf, sync_plan, IsListed, IsSuccessOf, IsDone, IsGrantedPlan, body_then_limits, ready_of, IsDecided, IsPlannedFrom, settled}
use Rattle.book_machine.specs.Stages.{acl_plan, allow_plan, card_plan, copy_plan, delete_plan, listed_plan, members_plan, mkcol_plan, move_plan, names_plan, patch_plan, put_plan, rulings_plan, AreNamesTold, IsCallerAnswer, IsReportAnswer}
use Rattle.book_office_values.specs.declared.paths.Path.TheVariants as path
use Rattle.book_office_members.proofs.FoundMembers.{members_exist, names_exist}
use Rattle.book_office_listings.proofs.FoundListings.{granted_or_denied, listings_exist, rulings_exist}
use Rattle.book_office_listings.specs.Verdicts.{IsDeniedAt}
use Rattle.book_machine.proofs.FittingPlans.{passed}
use Rattle.book_lists.proofs.FoundCircles.{circle_exists}
use Rattle.book_machine.proofs.FoundLists.{Answer, acl_answer, all_mapped, mapped_or_not}
use Rattle.book_machine.specs.Laws.{StepsExist}
use Rattle.book_machine.specs.Steps.{Steps}
use Rattle.book_machine.specs.Verdicts.{IsFirstDenial}
use Rattle.book_machine.specs.declared.asked.Asked.TheVariants as asked
use Rattle.book_machine.specs.declared.messages.Patch.TheVariants as patch
use Rattle.book_machine.specs.declared.messages.ReportKind.TheVariants as report
use Rattle.book_machine.specs.declared.refusals.Refusal.TheVariants.{NotFound, RecognizedPrincipal}

at_place : (o : Office) (circle : CircleOf) (p : Path) (set : Leaf → Bool) → IsGrantedAt o circle p set ⊎ ((denial : Denial) × IsDeniedAt o circle p set denial)
at_place o circle p set = granted_or_denied (effective_at o p) circle (here_of o p) p set

-- what has a node is there
there_at : (found : Option Resource) (node : Node) → option_map unnumbered (option_map node_of found) ≡ Some node → is_some found ≡ true
there_at None node e = absurd cc
there_at (Some r) node e = refl

module _ (o : Office) where
  -- ---- the verdict
  verdict : (circle : CircleOf) (to : Option Destination) (target : Path) (needs : List Need)
      → AreGranted o circle to target needs ⊎ ((denial : Denial) × IsFirstDenial o circle to target needs denial)
  verdict circle to target [] = inl tt
  verdict circle to target (need ∷ rest) = elim (at_place o circle (place_path to target need.place) need.set) [
    | inl granted ↦ elim (verdict circle to target rest) [
      | inl others ↦ inl (granted, others)
      | inr denied ↦ inr (denied.0, inr (granted, denied.1))
    ]
    | inr denied ↦ inr (denied.0, inl denied.1)
  ]

  -- ---- the body
  caller_answer : (caller : Caller) → (answer : Answer) × IsCallerAnswer o caller answer
  caller_answer Nobody = (Ok tt, refl)
  caller_answer (Known person) = elim (mapped_or_not o person) [ inl is ↦ (Ok tt, is) | inr none ↦ (Err RecognizedPrincipal, (refl, none)) ]

  members_answer : (members : List (List ℕ)) → (answer : Answer) × IsMembersAnswer o members answer
  members_answer members = elim (all_mapped o members) [ inl is ↦ (Ok tt, is) | inr none ↦ (Err RecognizedPrincipal, (refl, none)) ]

  report_answer : (which : ReportKind) → (answer : Answer) × IsReportAnswer o which answer
  report_answer (report.SyncCollection asks) = (Ok tt, refl)
  report_answer report.GroupMembers = (Ok tt, refl)
  report_answer (report.Effective caller) = caller_answer caller
  report_answer report.Names = (Ok tt, refl)

  body_answer : (what : Asked) (p : Path) → (answer : Answer) × IsBodyAnswer o what p answer
  body_answer asked.Get p = (Ok tt, refl)
  body_answer asked.Head p = (Ok tt, refl)
  body_answer asked.Options p = (Ok tt, refl)
  body_answer (asked.Put text) p = (bad_card (card_fault text), refl)
  body_answer (asked.Propfind find) p = (Ok tt, refl)
  body_answer (asked.Proppatch (patch.DisplayName label)) p = (Ok tt, refl)
  body_answer (asked.Proppatch (patch.GroupMembers members)) p = members_answer members
  body_answer (asked.Acl list) p = acl_answer o p list
  body_answer (asked.Copy to) p = (Ok tt, refl)
  body_answer (asked.Move to) p = (Ok tt, refl)
  body_answer asked.Delete p = (Ok tt, refl)
  body_answer asked.Mkcol p = (Ok tt, refl)
  body_answer (asked.Report which) p = report_answer which

  -- ---- success
  module _ (circle : CircleOf) where
    members_told : (p : Path) → (result : Result Plan Refusal) × AreMembersTold o circle p result
    members_told path.Root = (Err NotFound, refl)
    members_told path.People = (Err NotFound, refl)
    members_told path.Groups = (Err NotFound, refl)
    members_told path.Books = (Err NotFound, refl)
    members_told (path.Person n) = (Err NotFound, refl)
    members_told (path.Group n) = (Err NotFound, refl)
    members_told (path.Book b) = (Err NotFound, refl)
    members_told (path.Card b c) = let m = members_exist o circle b c in (members_plan b m.0, (m.0, m.1, refl))

    names_told : (p : Path) → (result : Result Plan Refusal) × AreNamesTold o circle p result
    names_told path.Root = (Err NotFound, refl)
    names_told path.People = (Err NotFound, refl)
    names_told path.Groups = (Err NotFound, refl)
    names_told path.Books = (Err NotFound, refl)
    names_told (path.Person n) = (Err NotFound, refl)
    names_told (path.Group n) = (Err NotFound, refl)
    names_told (path.Book b) = let n = names_exist o circle b in (names_plan b n.0, (n.0, n.1, refl))
    names_told (path.Card b c) = (Err NotFound, refl)

    reported : (which : ReportKind) (p : Path) → (result : Result Plan Refusal) × IsReportOf o circle which p result
    reported (report.SyncCollection asks) p = (sync_plan o circle asks p, refl)
    reported report.GroupMembers p = members_told p
    reported (report.Effective caller) p =
        let other = circle_exists o.pairs caller in
        let r = rulings_exist o other.0 p in
        (rulings_plan r.0, record { circle = other.0; is_circle = other.1; rulings = record { rulings = r.0; are = r.1; is_told = refl } })
    reported report.Names p = names_told p

    listed : (find : Find) (p : Path) (node : Option Node) → ((n : Node) → node ≡ Some n → option_map unnumbered (node_at o p) ≡ Some n) → (result : Result Plan Refusal) × IsListed o circle find p node result
    listed find p None there = (Err NotFound, refl)
    listed find p (Some node) there = let r = listings_exist o circle find p (there_at (resource_at o p) node (there node refl)) in (listed_plan r.0, (r.0, r.1, refl))

    success : (what : Asked) (caller : Caller) (target : Target) → ((n : Node) → target.node ≡ Some n → option_map unnumbered (node_at o target.path) ≡ Some n)
        → (result : Result Plan Refusal) × IsSuccessOf o circle what caller target result
    success asked.Get caller target there = (card_plan target.node, refl)
    success asked.Head caller target there = (card_plan target.node, refl)
    success asked.Options caller target there = (allow_plan target.path, refl)
    success (asked.Put text) caller target there = (put_plan caller text target, refl)
    success (asked.Propfind find) caller target there = listed find target.path target.node there
    success (asked.Proppatch patched) caller target there = (patch_plan target.path patched, refl)
    success (asked.Acl list) caller target there = (acl_plan target.path list, refl)
    success (asked.Copy to) caller target there = (copy_plan caller to target, refl)
    success (asked.Move to) caller target there = (move_plan to target, refl)
    success asked.Delete caller target there = (delete_plan target.path, refl)
    success asked.Mkcol caller target there = (mkcol_plan caller target.path, refl)
    success (asked.Report which) caller target there = reported which target.path

    done_by : (ready : Ready) → ((n : Node) → ready.target.node ≡ Some n → option_map unnumbered (node_at o ready.target.path) ≡ Some n)
        → (c : Answer) → (result : Result Plan Refusal) × IsDone o circle ready c result
    done_by ready there (Ok u) = success ready.asked ready.caller ready.target there
    done_by ready there (Err e) = (Err e, refl)

    granted_plan : (ready : Ready) → ((n : Node) → ready.target.node ≡ Some n → option_map unnumbered (node_at o ready.target.path) ≡ Some n)
        → (result : Result Plan Refusal) × IsGrantedPlan o circle ready result
    granted_plan ready there =
        let answer = body_answer ready.asked ready.target.path in
        let done = done_by ready there (body_then_limits o ready answer.0) in
        (done.0, (answer.0, answer.1, done.1))

  -- ---- the stages
  decided : (ready : Ready) → ((n : Node) → ready.target.node ≡ Some n → option_map unnumbered (node_at o ready.target.path) ≡ Some n)
      → (result : Result Plan Refusal) × IsDecided o ready result
  decided ready there =
      let circle = circle_exists o.pairs ready.caller in
      elim (verdict circle.0 (destination_in ready.asked) ready.target.path (needs_at ready)) [
        | inl granted ↦
            let planned = granted_plan circle.0 ready there in
            (planned.0, inl (record { circle = circle.0; is_circle = circle.1; granted = granted }, planned.1))
        | inr denied ↦ (Err (NeedPrivileges denied.0), inr (denied.0, record { circle = circle.0; is_circle = circle.1; denied = denied.1 }, refl))
      ]

  planned : (r : Result Ready Refusal) → ((ready : Ready) → r ≡ Ok ready → (n : Node) → ready.target.node ≡ Some n → option_map unnumbered (node_at o ready.target.path) ≡ Some n)
      → (result : Result Plan Refusal) × IsPlannedFrom o r result
  planned (Err refusal) there = (Err refusal, refl)
  planned (Ok ready) there = decided ready (there ready refl)

  -- where the target's node is what is mapped there, a request has a step
  steps_found : (name : Option (List ℕ)) (request : Request)
      → ((ready : Ready) → ready_of o name request ≡ Ok ready → ready.target.node ≡ option_map unnumbered (node_at o ready.target.path))
      → (reply : Reply) × (after : Office) × Steps o name request reply after
  steps_found name request mapped =
      let plan = planned (ready_of o name request) (λ ready is n at. sym (mapped ready is) ∙ at) in
      ((settled o plan.0).0, (settled o plan.0).1, (plan.0, plan.1, refl))

pub steps_exist : StepsExist
steps_exist o name request = steps_found o name request at_target
  where
    at_target : (ready : Ready) → ready_of o name request ≡ Ok ready → ready.target.node ≡ option_map unnumbered (node_at o ready.target.path)
    at_target ready is =
        let past = passed o request name ready is in
        subst (λ (r : Ready). r.target.node ≡ option_map unnumbered (node_at o r.target.path)) (sym past.is) refl
