-- The edit of a plan, by what was asked: the cards that it touches, and whether it raises the epoch.
use Rattle.book_machine.proofs.Common.{◌≡◌, ℕ, List, [], ◌∷◌, length, Bool, true, false, Option, Some, None, is_some, Result, Ok, Err, inl, inr, refl, sym, ap, ◌∙◌, subst, nat_le, option_and_then, option_map, if◌then◌else◌, CircleOf, Find, Method, Node, Office, Path, Edit, Ready, Target, asked_of, at_node, at_unmapped, caller_of, check, copy_edit, delete_edit, destination_asked, destination_in, destination_of, each_once, goes_on, method_of, mkcol_edit, move_edit, node_at, patch_edit, put_edit, ready_of, replied, suits_target, target_of, text_of, unnumbered, IsListed, IsPlan, IsPlannedFrom, IsSuccess, IsSuccessOf, ◌>>=◌}
use Rattle.std.specs.Option.{option_map_or}
use Rattle.book_limits.specs.declared.TheConstants.{MAX_LABEL_BYTES, MAX_MEMBERS}
use Rattle.book_lists.specs.declared.circles.Caller.{Caller}
use Rattle.book_office.specs.Edits.{raises_epoch, touches, touches_label}
use Rattle.book_office_values.specs.declared.paths.Path.TheVariants as path
use Rattle.book_machine.proofs.DestinedCards.{answered, bind_ok, copied_to, moved_to, same_Ok}
use Rattle.book_machine.proofs.FittingPlans.{asked_by}
use Rattle.book_machine.proofs.ReportPlans.{reported_told}
use Rattle.book_machine.proofs.StepLaws.{plan_of_success}
use Rattle.book_machine.specs.Asked.{destination_by, is_card, patch_asked, proppatch_asked}
use Rattle.book_machine.specs.Named.{path_book, path_card, path_group}
use Rattle.book_machine.specs.declared.asked.Asked.{Asked}
use Rattle.book_machine.specs.declared.asked.Asked.TheVariants as asked
use Rattle.book_machine.specs.declared.asked.Destination.{Destination}
use Rattle.book_machine.specs.declared.messages.Body.{Body}
use Rattle.book_machine.specs.declared.messages.Body.TheVariants as body
use Rattle.book_machine.specs.declared.messages.Content.{Content}
use Rattle.book_machine.specs.declared.messages.Content.TheVariants as content
use Rattle.book_machine.specs.declared.messages.Flag.{Flag}
use Rattle.book_machine.specs.declared.messages.Flag.TheVariants as flag
use Rattle.book_machine.specs.declared.messages.Patch.{Patch}
use Rattle.book_machine.specs.declared.messages.Patch.TheVariants as patch
use Rattle.book_machine.specs.declared.messages.Request.{Request}
use Rattle.book_machine.specs.declared.plans.Plan.{Plan}
use Rattle.book_machine.specs.declared.refusals.Refusal.{Refusal}
use Rattle.book_machine.specs.declared.refusals.Refusal.TheVariants.{BadRequest}
use Rattle.book_log_replies.specs.Effects.{both, cards_asked, raises_asked, sets_members, sets_members_by}

-- ---- by what is asked of a path
abbrev pub names_at : Asked → Path → List (List ℕ × List ℕ)
names_at asked.Get p = []
names_at asked.Head p = []
names_at asked.Options p = []
names_at (asked.Put text) p = both (path_card p) None
names_at (asked.Propfind find) p = []
names_at (asked.Proppatch q) p = both (path_card p) None
names_at (asked.Acl list) p = []
names_at (asked.Copy to) p = both None (Some (to.book, to.card))
names_at (asked.Move to) p = both (path_card p) (Some (to.book, to.card))
names_at asked.Delete p = both (path_card p) None
names_at asked.Mkcol p = []
names_at (asked.Report which) p = []

abbrev pub raises_at : Asked → Path → Bool
raises_at asked.Get p = false
raises_at asked.Head p = false
raises_at asked.Options p = false
raises_at (asked.Put text) p = false
raises_at (asked.Propfind find) p = false
raises_at (asked.Proppatch q) p = sets_members_by q
raises_at (asked.Acl list) p = true
raises_at (asked.Copy to) p = false
raises_at (asked.Move to) p = false
raises_at asked.Delete p = is_some (path_book p)
raises_at asked.Mkcol p = false
raises_at (asked.Report which) p = false

-- what a plan does
pub data IsDoneBy (o : Office) (what : Asked) (p : Path) (plan : Plan) : Type 0 where
  nothing : plan.edit ≡ None → names_at what p ≡ [] → raises_at what p ≡ false → IsDoneBy o what p plan
  edits : (edit : Edit) → plan.edit ≡ Some edit → touches edit ≡ names_at what p → raises_epoch o edit ≡ raises_at what p → IsDoneBy o what p plan

-- ---- paths
book_is_no_card : (p : Path) (b : List ℕ) → path_book p ≡ Some b → path_card p ≡ None
book_is_no_card path.Root b e = refl
book_is_no_card path.People b e = refl
book_is_no_card path.Groups b e = refl
book_is_no_card path.Books b e = refl
book_is_no_card (path.Person n) b e = refl
book_is_no_card (path.Group n) b e = refl
book_is_no_card (path.Book n) b e = refl
book_is_no_card (path.Card n c) b e = absurd cc

group_is_no_card : (p : Path) (n : List ℕ) → path_group p ≡ Some n → path_card p ≡ None
group_is_no_card path.Root n e = refl
group_is_no_card path.People n e = refl
group_is_no_card path.Groups n e = refl
group_is_no_card path.Books n e = refl
group_is_no_card (path.Person m) n e = refl
group_is_no_card (path.Group m) n e = refl
group_is_no_card (path.Book b) n e = refl
group_is_no_card (path.Card b c) n e = absurd cc

label_of_card : (p : Path) → touches_label p ≡ both (path_card p) None
label_of_card path.Root = refl
label_of_card path.People = refl
label_of_card path.Groups = refl
label_of_card path.Books = refl
label_of_card (path.Person n) = refl
label_of_card (path.Group n) = refl
label_of_card (path.Book b) = refl
label_of_card (path.Card b c) = refl

-- ---- the edit of a success
told_or : {A B : Type 0} (r : Option A) (f : A → Result B Refusal) (refusal : Refusal) (y : B) → option_map_or f r (Err refusal) ≡ Ok y
    → (x : A) × (r ≡ Some x) × (f x ≡ Ok y)
told_or None f refusal y e = absurd cc
told_or (Some x) f refusal y e = (x, refl, e)

edit_of : (status : ℕ) (what : Content) (edit : Option Edit) (plan : Plan) → answered (replied status what edit) ≡ Ok plan → plan.edit ≡ edit
edit_of status what edit plan e = ap (λ (p : Plan). p.edit) (sym (same_Ok _ plan e))

module _ (o : Office) (circle : CircleOf) where
  module _ (what : Asked) (p : Path) (plan : Plan) where
    -- an edit that is told by what was asked
    edited : (edit told : Edit) (status : ℕ) → answered told ≡ Ok edit → answered (replied status content.Empty (Some edit)) ≡ Ok plan
        → touches told ≡ names_at what p → raises_epoch o told ≡ raises_at what p → IsDoneBy o what p plan
    edited edit told status is made names raises =
        edits told (edit_of status content.Empty (Some edit) plan made ∙ ap Some (sym (same_Ok told edit is))) names raises

  listed : (find : Find) (p : Path) (node : Option Node) (plan : Plan) → IsListed o circle find p node (Ok plan) → IsDoneBy o (asked.Propfind find) p plan
  listed find p None plan is = absurd cc
  listed find p (Some node) plan is = nothing (edit_of _ _ None plan is.2) refl refl

  patched : (q : Patch) (p : Path) (plan : Plan) (edit : Edit) → patch_edit p q ≡ Ok edit → answered (replied 200 content.Empty (Some edit)) ≡ Ok plan
      → IsDoneBy o (asked.Proppatch q) p plan
  patched (patch.DisplayName label) p plan edit is made = edited (asked.Proppatch (patch.DisplayName label)) p plan edit _ 200 is made (label_of_card p) refl
  patched (patch.GroupMembers members) p plan edit is made =
      let a = told_or (path_group p) _ _ edit is in
      edited (asked.Proppatch (patch.GroupMembers members)) p plan edit _ 200 a.2 made (ap (λ r. both r None) (sym (group_is_no_card p a.0 a.1))) refl

  deleted : (p : Path) (plan : Plan) (edit : Edit) → delete_edit p ≡ Ok edit → answered (replied 204 content.Empty (Some edit)) ≡ Ok plan → IsDoneBy o asked.Delete p plan
  deleted path.Root plan edit is made = absurd cc
  deleted path.People plan edit is made = absurd cc
  deleted path.Groups plan edit is made = absurd cc
  deleted path.Books plan edit is made = absurd cc
  deleted (path.Person n) plan edit is made = absurd cc
  deleted (path.Group n) plan edit is made = absurd cc
  deleted (path.Book b) plan edit is made = edited asked.Delete (path.Book b) plan edit _ 204 is made refl refl
  deleted (path.Card b c) plan edit is made = edited asked.Delete (path.Card b c) plan edit _ 204 is made refl refl

  done_by : (what : Asked) (caller : Caller) (target : Target) (plan : Plan) → IsSuccessOf o circle what caller target (Ok plan) → IsDoneBy o what target.path plan
  done_by asked.Get caller target plan is = let a = bind_ok (text_of target.node) _ plan is in nothing (edit_of _ _ None plan a.2) refl refl
  done_by asked.Head caller target plan is = let a = bind_ok (text_of target.node) _ plan is in nothing (edit_of _ _ None plan a.2) refl refl
  done_by asked.Options caller target plan is = nothing (edit_of _ _ None plan is) refl refl
  done_by (asked.Put text) caller target plan is =
      let a = bind_ok (put_edit caller text target.path) _ plan is in
      let b = told_or (path_card target.path) _ _ a.0 a.1 in
      edited (asked.Put text) target.path plan a.0 _ _ b.2 a.2 (ap (λ r. both r None) (sym b.1)) refl
  done_by (asked.Propfind find) caller target plan is = listed find target.path target.node plan is
  done_by (asked.Proppatch q) caller target plan is = let a = bind_ok (patch_edit target.path q) _ plan is in patched q target.path plan a.0 a.1 a.2
  done_by (asked.Acl list) caller target plan is = edits _ (edit_of _ _ _ plan is) refl refl
  done_by (asked.Copy to) caller target plan is =
      let a = bind_ok (copy_edit caller target.path to) _ plan is in
      let b = told_or (path_card target.path) _ _ a.0 a.1 in
      edited (asked.Copy to) target.path plan a.0 _ _ b.2 a.2 refl refl
  done_by (asked.Move to) caller target plan is =
      let a = bind_ok (move_edit target.path to) _ plan is in
      let b = told_or (path_card target.path) _ _ a.0 a.1 in
      edited (asked.Move to) target.path plan a.0 _ _ b.2 a.2 (ap (λ r. both r (Some (to.book, to.card))) (sym b.1)) refl
  done_by asked.Delete caller target plan is = let a = bind_ok (delete_edit target.path) _ plan is in deleted target.path plan a.0 a.1 a.2
  done_by asked.Mkcol caller target plan is =
      let a = bind_ok (mkcol_edit caller target.path) _ plan is in
      let b = told_or (path_book target.path) _ _ a.0 a.1 in
      edited asked.Mkcol target.path plan a.0 _ _ b.2 a.2 refl refl
  done_by (asked.Report which) caller target plan is = let told = reported_told o circle which target.path plan is in nothing (edit_of told.status told.what None plan told.is) refl refl

-- ---- from what is asked back to the request
-- what the destination of a COPY or MOVE is asked by
destination_named : (source : Option Path) (f : Flag) (at : Option Path) (to : Destination) → destination_asked source f at ≡ Ok to
    → option_and_then path_card at ≡ Some (to.book, to.card)
destination_named source f at to e =
    let a = told_or (option_and_then path_card at) _ BadRequest to e in
    a.1 ∙ ap Some (by_source a.0 (is_card a.0.0 a.0.1 source) a.2)
  where
    by_flag : (card : List ℕ × List ℕ) (g : Flag) → destination_by card.0 card.1 g ≡ Ok to → card ≡ (to.book, to.card)
    by_flag card flag.Yes e = ap (λ (x : Destination). (x.book, x.card)) (same_Ok _ to e)
    by_flag card flag.No e = ap (λ (x : Destination). (x.book, x.card)) (same_Ok _ to e)
    by_flag card flag.Unread e = absurd cc

    by_source : (card : List ℕ × List ℕ) (itself : Bool) → (if itself then Err BadRequest else destination_by card.0 card.1 f) ≡ Ok to → card ≡ (to.book, to.card)
    by_source card true e = absurd cc
    by_source card false e = by_flag card f e

-- what a PROPPATCH is asked by
patch_named : (p q : Patch) → patch_asked p ≡ Ok (asked.Proppatch q) → sets_members_by q ≡ sets_members_by p
patch_named (patch.DisplayName label) q e = by_bound (nat_le (length label) MAX_LABEL_BYTES) e
  where
    by_bound : (short : Bool) → (if short then Ok (asked.Proppatch (patch.DisplayName label)) else Err BadRequest) ≡ Ok (asked.Proppatch q) → sets_members_by q ≡ false
    by_bound true e = let same : patch.DisplayName label ≡ q = cc in ap sets_members_by (sym same)
    by_bound false e = absurd cc
patch_named (patch.GroupMembers members) q e = by_bound (nat_le (length (each_once members)) MAX_MEMBERS) e
  where
    by_bound : (short : Bool) → (if short then Ok (asked.Proppatch (patch.GroupMembers (each_once members))) else Err BadRequest) ≡ Ok (asked.Proppatch q) → sets_members_by q ≡ true
    by_bound true e = let same : patch.GroupMembers (each_once members) ≡ q = cc in ap sets_members_by (sym same)
    by_bound false e = absurd cc

body_named : (b : Body) (q : Patch) → proppatch_asked b ≡ Ok (asked.Proppatch q) → sets_members_by q ≡ sets_members b
body_named body.Empty q e = absurd cc
body_named (body.Text text) q e = absurd cc
body_named (body.Find properties) q e = absurd cc
body_named (body.Patch p) q e = patch_named p q e
body_named (body.List list) q e = absurd cc
body_named (body.Report report) q e = absurd cc
body_named body.Unread q e = absurd cc

-- the request names the same
abbrev AreAsked : Method → Request → Asked → Path → Type 0
AreAsked m r what p = (names_at what p ≡ cards_asked m r.path r.destination) × (raises_at what p ≡ raises_asked m r.path r.body)

asked_of_path : (r : Request) (p : Path) → r.path ≡ Some p → path_card p ≡ option_and_then path_card r.path
asked_of_path r p at = ap (option_and_then path_card) (sym at)

are_asked : (r : Request) (what : Asked) (p : Path) → asked_of (method_of what) r ≡ Ok what → r.path ≡ Some p → AreAsked (method_of what) r what p
are_asked r asked.Get p e at = (refl, refl)
are_asked r asked.Head p e at = (refl, refl)
are_asked r asked.Options p e at = (refl, refl)
are_asked r (asked.Put text) p e at = (ap (λ x. both x None) (asked_of_path r p at), refl)
are_asked r (asked.Propfind find) p e at = (refl, refl)
are_asked r (asked.Proppatch q) p e at = (ap (λ x. both x None) (asked_of_path r p at), body_named r.body q e)
are_asked r (asked.Acl list) p e at = (refl, refl)
are_asked r (asked.Copy to) p e at =
    (ap (both None) (sym (destination_named r.path r.overwrite r.destination to (copied_to (destination_asked r.path r.overwrite r.destination) to e))), refl)
are_asked r (asked.Move to) p e at =
    let named = destination_named r.path r.overwrite r.destination to (moved_to (destination_asked r.path r.overwrite r.destination) to e) in
    ((λ i. both (asked_of_path r p at i) (sym named i)), refl)
are_asked r asked.Delete p e at = (ap (λ x. both x None) (asked_of_path r p at), ap (λ x. is_some (option_and_then path_book x)) (sym at))
are_asked r asked.Mkcol p e at = (refl, refl)
are_asked r (asked.Report which) p e at = (refl, refl)

all_asked : (m : Method) (r : Request) (what : Asked) (p : Path) → asked_of m r ≡ Ok what → r.path ≡ Some p → AreAsked m r what p
all_asked m r what p e at =
    let by = asked_by m r what e in
    subst (λ x. AreAsked x r what p) by (are_asked r what p (subst (λ x. asked_of x r ≡ Ok what) (sym by) e) at)

target_path : (o : Office) (m : Method) (p : Option Path) (t : Target) → target_of o m p ≡ Ok t → p ≡ Some t.path
target_path o m None t e = absurd cc
target_path o m (Some p) t e = by_node (option_map unnumbered (node_at o p)) e
  where
    by_node : (node : Option Node) → at_node o m p node ≡ Ok t → Some p ≡ Some t.path
    by_node None e = let a = bind_ok (at_unmapped o m p) _ t e in ap (λ (x : Target). Some x.path) (same_Ok _ t a.2)
    by_node (Some node) e = let a = bind_ok (check (goes_on m node.kind) _) _ t e in ap (λ (x : Target). Some x.path) (same_Ok _ t a.2)

module _ (o : Office) (request : Request) where
  abbrev to_ready : Caller → Asked → Target → Bool → Result Ready Refusal
  to_ready caller what target found = Ok (record { caller = caller; asked = what; target = record target { replaces = found } })

  abbrev to_destination : Caller → Asked → Target → Result Ready Refusal
  to_destination caller what target = destination_of o (destination_in what) >>= to_ready caller what target

  abbrev to_suited : Caller → Asked → Target → Result Ready Refusal
  to_suited caller what target = suits_target what target >>= λ _. to_destination caller what target

  abbrev to_target : Caller → Asked → Result Ready Refusal
  to_target caller what = target_of o request.method request.path >>= to_suited caller what

  abbrev to_asked : Caller → Result Ready Refusal
  to_asked caller = asked_of request.method request >>= to_target caller

  -- what a request that has passed the first stages asks, and of which path
  ready_asked : (name : Option (List ℕ)) (ready : Ready) → ready_of o name request ≡ Ok ready
      → (asked_of request.method request ≡ Ok ready.asked) × (request.path ≡ Some ready.target.path)
  ready_asked name ready is =
      let a = bind_ok (caller_of o name) to_asked ready is in
      let b = bind_ok (asked_of request.method request) (to_target a.0) ready a.2 in
      let c = bind_ok (target_of o request.method request.path) (to_suited a.0 b.0) ready b.2 in
      let d = bind_ok (suits_target b.0 c.0) (λ _. to_destination a.0 b.0 c.0) ready c.2 in
      let f = bind_ok (destination_of o (destination_in b.0)) (to_ready a.0 b.0 c.0) ready d.2 in
      let made = same_Ok _ ready f.2 in (
        b.1 ∙ ap (λ (x : Ready). Ok x.asked) made,
        target_path o request.method request.path c.0 c.1 ∙ ap (λ (x : Ready). Some x.target.path) made,
      )

  -- what the plan of a request does, by the request
  pub data IsPlanned (plan : Plan) : Type 0 where
    plans_nothing : plan.edit ≡ None → cards_asked request.method request.path request.destination ≡ []
        → raises_asked request.method request.path request.body ≡ false → IsPlanned plan
    plans : (edit : Edit) → plan.edit ≡ Some edit → touches edit ≡ cards_asked request.method request.path request.destination
        → raises_epoch o edit ≡ raises_asked request.method request.path request.body → IsPlanned plan

  planned_from : (name : Option (List ℕ)) (ready : Ready) (circle : CircleOf) (plan : Plan) → ready_of o name request ≡ Ok ready
      → IsSuccess o circle ready (Ok plan) → IsPlanned plan
  planned_from name ready circle plan is success =
      let by = ready_asked name ready is in
      let same = all_asked request.method request ready.asked ready.target.path by.0 by.1 in
      elim (done_by o circle ready.asked ready.caller ready.target plan success) [
        | nothing none names raises ↦ plans_nothing none (sym same.0 ∙ names) (sym same.1 ∙ raises)
        | edits edit is_edit names raises ↦ plans edit is_edit (names ∙ same.0) (raises ∙ same.1)
      ]

  by_ready : (name : Option (List ℕ)) (plan : Plan) (r : Result Ready Refusal) → ready_of o name request ≡ r → IsPlannedFrom o r (Ok plan) → IsPlanned plan
  by_ready name plan (Err refusal) is planned = absurd cc
  by_ready name plan (Ok ready) is (inl granted) =
      planned_from name ready granted.0.circle plan is (plan_of_success o granted.0.circle ready plan granted.1)
  by_ready name plan (Ok ready) is (inr denied) = let h = denied.2 in absurd (cc (h))

  pub plan_does : (name : Option (List ℕ)) (plan : Plan) → IsPlan o name request (Ok plan) → IsPlanned plan
  plan_does name plan planned = by_ready name plan (ready_of o name request) refl planned
