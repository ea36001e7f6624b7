-- Steps and runs from agreeing Offices.
use Rattle.book_machine.proofs.Common.{◌≡◌, ◌≢◌, inl, inr, ℕ, ◌+◌, ◌≤◌, List, [], ◌∷◌, Option, Some, None, Result, Ok, Err, cond, true, false, Bool, refl, sym, ap, ◌∙◌, subst, arith, CircleOf, Caller, Standing, Edit, Node, Find, only, Move, Office, Path, named, MayRead, Agree, ServePromise, Call, last_office, method_of, ready_of, replied, text_of, IsListed, IsSuccessOf, IsGrantedPlan, put_edit, copy_edit, delete_edit, mkcol_edit, patch_edit, IsPlannedFrom, apply_any, settled, Serves, Asked, Destination, Content, Patch, Reply, Request, Plan, Ready, Target, Refusal}
use Rattle.std.proofs.Common.{le_trans}
use Rattle.std.proofs.lemmas.List.Elements.{All-head, All-tail}
use Rattle.book_office.specs.Edits.{raises_epoch}
use Rattle.book_office.proofs.Epochs.{epoch_after}
use Rattle.book_rights.specs.Privileges.{is_read}
use Rattle.book_rights.specs.declared.privileges.Leaf.TheVariants.{ReadNames}
use Rattle.book_office_values.specs.declared.paths.Path.TheVariants as path
use Rattle.book_machine.proofs.AlikePlans.{plan_same, may_same, ready_named, reads_target, reads}
use Rattle.book_machine.proofs.FittingPlans.{answered, asked_by_request, bind_ok, same_Ok}
use Rattle.book_machine.proofs.StepLaws.{plan_of_success}
use Rattle.book_machine.proofs.ReportPlans.{reported_told}
use Rattle.book_machine.proofs.StillAgreeing.{put_agrees, removal_agrees, addition_agrees, label_agrees, copy_agrees}
use Rattle.book_machine.specs.Promises.{ServeHidesUnread}
use Rattle.book_machine.specs.Stages.{members_edit}
use Rattle.book_machine.specs.Unseen.{AgreementIsAnEquivalence, AgreeingOfficesStepAlike, EpochsNeverFall, RunsNeverLowerTheEpoch, AreByOne, AgreeingOfficesRunAlike}
use Rattle.book_machine.specs.declared.asked.Asked.TheVariants as asked
use Rattle.book_machine.specs.declared.messages.Patch.TheVariants as patch

-- ---- agreement is an equivalence
pub agreement : AgreementIsAnEquivalence
agreement caller = (
  λ o. record { outlines = refl; readable = λ b c may. refl; named = λ b c may. refl },
  λ o p agree. record {
    outlines = sym agree.outlines;
    readable = λ b c may. sym (agree.readable b c (may_same p o (sym agree.outlines) caller (path.Card b c) is_read may));
    named = λ b c may. sym (agree.named b c (may_same p o (sym agree.outlines) caller (path.Card b c) (only ReadNames) may));
  },
  λ o p q first second. record {
    outlines = first.outlines ∙ second.outlines;
    readable = λ b c may. first.readable b c may ∙ second.readable b c (may_same o p first.outlines caller (path.Card b c) is_read may);
    named = λ b c may. first.named b c may ∙ second.named b c (may_same o p first.outlines caller (path.Card b c) (only ReadNames) may);
  },
)

-- ---- the Office after a plan
module _ (o p : Office) (caller : Caller) (agree : Agree o p caller) where
  abbrev StillAgrees : Option Edit → Type 0
  StillAgrees edit = (apply_any o edit).epoch ≡ o.epoch → Agree (apply_any o edit) (apply_any p edit) caller

  -- an edit that is told at once
  told_still : (status : ℕ) (what : Content) (made : Option Edit) (plan : Plan) → answered (replied status what made) ≡ Ok plan → StillAgrees made → StillAgrees plan.edit
  told_still status what made plan is still = subst (λ (q : Plan). StillAgrees q.edit) (same_Ok _ plan is) still

  abbrev SucceedsStill : CircleOf → Asked → Target → Caller → Plan → Type 0
  SucceedsStill circle what target who plan = IsSuccessOf o circle what who target (Ok plan) → StillAgrees plan.edit

  put_still : (circle : CircleOf) (who : Caller) (text : List ℕ) (t : Target) (plan : Plan) → SucceedsStill circle (asked.Put text) t who plan
  put_still circle who text t plan is = let told = bind_ok (put_edit who text t.path) _ plan is in told_still _ _ _ plan told.2 (made t.path told.0 told.1)
    where
      made : (q : Path) (edit : Edit) → put_edit who text q ≡ Ok edit → StillAgrees (Some edit)
      made path.Root edit e = absurd (cc (e))
      made path.People edit e = absurd (cc (e))
      made path.Groups edit e = absurd (cc (e))
      made path.Books edit e = absurd (cc (e))
      made (path.Person n) edit e = absurd (cc (e))
      made (path.Group n) edit e = absurd (cc (e))
      made (path.Book b) edit e = absurd (cc (e))
      made (path.Card b c) edit e = subst (λ x. StillAgrees (Some x)) (same_Ok _ edit e) (λ _. put_agrees o p caller agree b c _ text)

  copy_still : (circle : CircleOf) (who : Caller) (to : Destination) (t : Target) (plan : Plan) → MayRead o caller t.path → SucceedsStill circle (asked.Copy to) t who plan
  copy_still circle who to t plan may is = let told = bind_ok (copy_edit who t.path to) _ plan is in told_still _ _ _ plan told.2 (made t.path told.0 may told.1)
    where
      made : (q : Path) (edit : Edit) → MayRead o caller q → copy_edit who q to ≡ Ok edit → StillAgrees (Some edit)
      made path.Root edit may e = absurd (cc (e))
      made path.People edit may e = absurd (cc (e))
      made path.Groups edit may e = absurd (cc (e))
      made path.Books edit may e = absurd (cc (e))
      made (path.Person n) edit may e = absurd (cc (e))
      made (path.Group n) edit may e = absurd (cc (e))
      made (path.Book b) edit may e = absurd (cc (e))
      made (path.Card b c) edit may e = subst (λ x. StillAgrees (Some x)) (same_Ok _ edit e) (λ _. copy_agrees o p caller agree b c to.book to.card _ may)

  delete_still : (circle : CircleOf) (who : Caller) (t : Target) (plan : Plan) → SucceedsStill circle asked.Delete t who plan
  delete_still circle who t plan is = let told = bind_ok (delete_edit t.path) _ plan is in told_still _ _ _ plan told.2 (made t.path told.0 told.1)
    where
      made : (q : Path) (edit : Edit) → delete_edit q ≡ Ok edit → StillAgrees (Some edit)
      made path.Root edit e = absurd (cc (e))
      made path.People edit e = absurd (cc (e))
      made path.Groups edit e = absurd (cc (e))
      made path.Books edit e = absurd (cc (e))
      made (path.Person n) edit e = absurd (cc (e))
      made (path.Group n) edit e = absurd (cc (e))
      made (path.Book b) edit e = subst (λ x. StillAgrees (Some x)) (same_Ok _ edit e) (λ risen. absurd (omega (arith, risen)))
      made (path.Card b c) edit e = subst (λ x. StillAgrees (Some x)) (same_Ok _ edit e) (λ _. removal_agrees o p caller agree b c)

  mkcol_still : (circle : CircleOf) (who : Caller) (t : Target) (plan : Plan) → SucceedsStill circle asked.Mkcol t who plan
  mkcol_still circle who t plan is = let told = bind_ok (mkcol_edit who t.path) _ plan is in told_still _ _ _ plan told.2 (made t.path told.0 told.1)
    where
      made : (q : Path) (edit : Edit) → mkcol_edit who q ≡ Ok edit → StillAgrees (Some edit)
      made path.Root edit e = absurd (cc (e))
      made path.People edit e = absurd (cc (e))
      made path.Groups edit e = absurd (cc (e))
      made path.Books edit e = absurd (cc (e))
      made (path.Person n) edit e = absurd (cc (e))
      made (path.Group n) edit e = absurd (cc (e))
      made (path.Book b) edit e = subst (λ x. StillAgrees (Some x)) (same_Ok _ edit e) (λ _. addition_agrees o p caller agree b _)
      made (path.Card b c) edit e = absurd (cc (e))

  patch_still : (circle : CircleOf) (who : Caller) (patched : Patch) (t : Target) (plan : Plan) → SucceedsStill circle (asked.Proppatch patched) t who plan
  patch_still circle who patched t plan is = let told = bind_ok (patch_edit t.path patched) _ plan is in told_still _ _ _ plan told.2 (made patched told.0 told.1)
    where
      members : (q : Path) (list : List (List ℕ)) (edit : Edit) → members_edit q list ≡ Ok edit → StillAgrees (Some edit)
      members path.Root list edit e = absurd (cc (e))
      members path.People list edit e = absurd (cc (e))
      members path.Groups list edit e = absurd (cc (e))
      members path.Books list edit e = absurd (cc (e))
      members (path.Person n) list edit e = absurd (cc (e))
      members (path.Group n) list edit e = subst (λ x. StillAgrees (Some x)) (same_Ok _ edit e) (λ risen. absurd (omega (arith, risen)))
      members (path.Book b) list edit e = absurd (cc (e))
      members (path.Card b c) list edit e = absurd (cc (e))

      made : (patched : Patch) (edit : Edit) → patch_edit t.path patched ≡ Ok edit → StillAgrees (Some edit)
      made (patch.DisplayName label) edit e = subst (λ x. StillAgrees (Some x)) (same_Ok _ edit e) (λ _. label_agrees o p caller agree t.path label)
      made (patch.GroupMembers list) edit e = members t.path list edit e

  listed_still : (circle : CircleOf) (find : Find) (q : Path) (node : Option Node) (plan : Plan) → IsListed o circle find q node (Ok plan) → StillAgrees plan.edit
  listed_still circle find q None plan is = absurd (cc (is))
  listed_still circle find q (Some node) plan is = told_still _ _ None plan is.2 (λ _. agree)

  -- a row for each method: what a MOVE does isn't asked, and a method that needs `read` at its target had it
  success_still : (circle : CircleOf) (what : Asked) (who : Caller) (t : Target) (plan : Plan) → method_of what ≢ Move → (reads_target (method_of what) ≡ true → MayRead o caller t.path)
      → SucceedsStill circle what t who plan
  success_still circle asked.Get who t plan moves may is = let told = bind_ok (text_of t.node) _ plan is in told_still _ _ None plan told.2 (λ _. agree)
  success_still circle asked.Head who t plan moves may is = let told = bind_ok (text_of t.node) _ plan is in told_still _ _ None plan told.2 (λ _. agree)
  success_still circle asked.Options who t plan moves may is = told_still _ _ None plan is (λ _. agree)
  success_still circle (asked.Put text) who t plan moves may is = put_still circle who text t plan is
  success_still circle (asked.Propfind find) who t plan moves may is = listed_still circle find t.path t.node plan is
  success_still circle (asked.Proppatch patched) who t plan moves may is = patch_still circle who patched t plan is
  success_still circle (asked.Acl list) who t plan moves may is = told_still _ _ _ plan is (λ risen. absurd (omega (arith, risen)))
  success_still circle (asked.Copy to) who t plan moves may is = copy_still circle who to t plan (may refl) is
  success_still circle (asked.Move to) who t plan moves may is = absurd (moves refl)
  success_still circle asked.Delete who t plan moves may is = delete_still circle who t plan is
  success_still circle asked.Mkcol who t plan moves may is = mkcol_still circle who t plan is
  success_still circle (asked.Report which) who t plan moves may is = let told = reported_told o circle which t.path plan is in told_still told.status told.what None plan told.is (λ _. agree)

  abbrev SettlesAlike : Result Plan Refusal → Type 0
  SettlesAlike result = (settled o result).1.epoch ≡ o.epoch → Agree (settled o result).1 (settled p result).1 caller

  granted_still : (circle : CircleOf) (ready : Ready) (result : Result Plan Refusal) → method_of ready.asked ≢ Move → (reads_target (method_of ready.asked) ≡ true → MayRead o caller ready.target.path)
      → IsGrantedPlan o circle ready result → SettlesAlike result
  granted_still circle ready (Err refusal) moves may is = λ _. agree
  granted_still circle ready (Ok plan) moves may is = success_still circle ready.asked ready.caller ready.target plan moves may (plan_of_success o circle ready plan is)

  planned_still : (request : Request) (ready : Result Ready Refusal) (result : Result Plan Refusal) → request.method ≢ Move
      → ((r : Ready) → ready ≡ Ok r → (r.caller ≡ caller) × (method_of r.asked ≡ request.method)) → IsPlannedFrom o ready result → SettlesAlike result
  planned_still request (Err refusal) result moves who is = subst SettlesAlike (sym is) (λ _. agree)
  planned_still request (Ok ready) result moves who (inl granted) =
      granted_still granted.0.circle ready result (λ is. moves (sym (who ready refl).1 ∙ is))
      (λ e. subst (λ c. MayRead o c ready.target.path) (who ready refl).0 (reads o ready e granted.0)) granted.1
  planned_still request (Ok ready) result moves who (inr denied) = subst SettlesAlike (sym denied.2) (λ _. agree)

-- ---- one step
one_reply : (o p : Office) (result : Result Plan Refusal) → (settled o result).0 ≡ (settled p result).0
one_reply o p (Ok plan) = refl
one_reply o p (Err refusal) = refl

pub steps_alike : AgreeingOfficesStepAlike
steps_alike o p name request reply after agree step =
    let result = step.0 in
    let reply_is : reply ≡ (settled o result).0 = ap (λ (x : Reply × Office). x.0) step.2 in
    let after_is : after ≡ (settled o result).1 = ap (λ (x : Reply × Office). x.1) step.2 in
    let told = reply_is ∙ one_reply o p result in (
      (settled p result).1,
      (result, plan_same o p name request agree result step.1, λ i. (told i, (settled p result).1)),
      λ moves epoch. subst (λ x. Agree x (settled p result).1 (named name)) (sym after_is)
          (planned_still o p (named name) agree request (ready_of o name request) result moves (λ r is. (ready_named o name request r is, asked_by_request o request name r is)) step.1
          (ap (λ (x : Office). x.epoch) (sym after_is) ∙ epoch)),
    )

-- ---- epochs
raised_at_most : (risen : Bool) (n : ℕ) → n ≤ cond risen (n + 1) n
raised_at_most true n = omega arith
raised_at_most false n = omega arith

edit_epoch : (o : Office) (edit : Option Edit) → o.epoch ≤ (apply_any o edit).epoch
edit_epoch o None = omega arith
edit_epoch o (Some edit) = subst (λ n. o.epoch ≤ n) (sym (epoch_after o edit)) (raised_at_most (raises_epoch o edit) o.epoch)

settled_epoch : (o : Office) (result : Result Plan Refusal) → o.epoch ≤ (settled o result).1.epoch
settled_epoch o (Ok plan) = edit_epoch o plan.edit
settled_epoch o (Err refusal) = omega arith

pub epochs_never_fall : EpochsNeverFall
epochs_never_fall o name request reply after step =
    subst (λ (x : Office). o.epoch ≤ x.epoch) (sym (ap (λ (x : Reply × Office). x.1) step.2)) (settled_epoch o step.0)

serves_epoch : (o : Office) (name : Option (List ℕ)) (request : Request) (reply : Reply) (after : Office) → Serves o name request reply after → o.epoch ≤ after.epoch
serves_epoch o name request reply after (inl step) = epochs_never_fall o name request reply after step
serves_epoch o name request reply after (inr unavailable) = subst (λ (x : Office). o.epoch ≤ x.epoch) (sym unavailable.1) (omega arith)

pub run_epoch : RunsNeverLowerTheEpoch
run_epoch o [] [] [] run = omega arith
run_epoch o [] [] (after ∷ offices) run = absurd run
run_epoch o [] (reply ∷ replies) offices run = absurd run
run_epoch o (call ∷ calls) [] offices run = absurd run
run_epoch o (call ∷ calls) (reply ∷ replies) [] run = absurd run
run_epoch o (call ∷ calls) (reply ∷ replies) (after ∷ offices) run =
    le_trans (serves_epoch o call.0 call.1 reply after run.0) (run_epoch after calls replies offices run.1)

-- ---- runs
serves_alike : (o p : Office) (name : Option (List ℕ)) (request : Request) (reply : Reply) (after : Office)
    → Agree o p (named name) → request.method ≢ Move → after.epoch ≡ o.epoch → Serves o name request reply after
    → (later : Office) × Serves p name request reply later × Agree after later (named name)
serves_alike o p name request reply after agree moves epoch (inl step) =
    let alike = steps_alike o p name request reply after agree step in
    (alike.0, inl alike.1, alike.2 moves epoch)
serves_alike o p name request reply after agree moves epoch (inr unavailable) =
    (p, inr (unavailable.0, refl), subst (λ x. Agree x p (named name)) (sym unavailable.1) agree)

tail_by_one : (name : Option (List ℕ)) (call : Call) (calls : List Call) → AreByOne name (call ∷ calls) → AreByOne name calls
tail_by_one name call calls one = record {
  callers = All-tail (λ (call : Call). call.0 ≡ name) call calls one.callers;
  methods = All-tail (λ (call : Call). call.1.method ≢ Move) call calls one.methods;
}

pub runs_alike : AgreeingOfficesRunAlike
runs_alike o [] [] [] run name one epoch p agree = ([], tt, agree)
runs_alike o [] [] (after ∷ offices) run name one epoch p agree = absurd run
runs_alike o [] (reply ∷ replies) offices run name one epoch p agree = absurd run
runs_alike o (call ∷ calls) [] offices run name one epoch p agree = absurd run
runs_alike o (call ∷ calls) (reply ∷ replies) [] run name one epoch p agree = absurd run
runs_alike o (call ∷ calls) (reply ∷ replies) (mid ∷ offices) run name one epoch p agree =
    let called : call.0 ≡ name = All-head (λ (call : Call). call.0 ≡ name) call calls one.callers in
    let moves : call.1.method ≢ Move = All-head (λ (call : Call). call.1.method ≢ Move) call calls one.methods in
    let up = serves_epoch o call.0 call.1 reply mid run.0 in
    let on = run_epoch mid calls replies offices run.1 in
    let mid_epoch : mid.epoch ≡ o.epoch = omega (arith, up, on, epoch) in
    let after_epoch : (last_office mid offices).epoch ≡ mid.epoch = omega (arith, up, on, epoch) in
    let first = serves_alike o p name call.1 reply mid agree moves mid_epoch (subst (λ n. Serves o n call.1 reply mid) called run.0) in
    let rest = runs_alike mid calls replies offices run.1 name (tail_by_one name call calls one) after_epoch first.0 first.2 in
    (first.0 ∷ rest.0, (subst (λ n. Serves p n call.1 reply first.0) (sym called) first.1, rest.1), rest.2)

-- ---- what the machine does with its keeper
pub hides_unread : (old new : Standing) (name : Option (List ℕ)) (request : Request) (reply : Reply) → ServePromise old new name request reply → ServeHidesUnread old new name request reply
hides_unread old new name request reply promise = record {
  unseen = λ h o stands available p agree.
      let served = promise.served h o stands in
      elim served.2 [
        | inl step ↦ let alike = steps_alike o p name request reply served.0 agree step in (alike.0, alike.1)
        | inr unavailable ↦ absurd (available unavailable.0)
      ];
}
