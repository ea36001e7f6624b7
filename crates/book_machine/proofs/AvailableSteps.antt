-- No stage refuses a request as unavailable.
use Rattle.book_machine.proofs.Common.{◌≡◌, ℕ, List, Bool, true, false, Option, Some, None, Result, Ok, Err, inl, inr, sym, ap, ◌∙◌, is_some, option_map, if◌then◌else◌, nat_le, length, get, person_path, CircleOf, Caller, Known, Method, Get, Head, Options, Put, Propfind, Proppatch, Acl, Copy, Move, Delete, Mkcol, Find, kind_of, Path, node_at, unnumbered, Node, Office, is_late, refused, goes_on, asked_of, each_once, report_asked, destination_asked, copy_asked, move_asked, destination_in, destination_path, ◌>>=◌, check, caller_of, target_of, at_node, at_unmapped, suits_target, ready_of, text_of, put_edit, delete_edit, mkcol_edit, patch_edit, IsListed, IsSuccessOf, IsGrantedPlan, replaceable, destination_of, copy_edit, move_edit, IsPlannedFrom, IsPlan, settled, Asked, Destination, Patch, Reply, Request, Plan, Ready, Target, Refusal, BadRequest, BodyOnMkcol, UnknownCaller, NotAllowed, NoParent, Overwrite, Unavailable}
use Rattle.book_rights.specs.declared.methods.Method.TheVariants.{Report}
use Rattle.book_limits.specs.declared.TheConstants.{MAX_MEMBERS, MAX_LABEL_BYTES}
use Rattle.book_office_listings.specs.declared.messages.Extent.{Extent}
use Rattle.book_office_listings.specs.declared.messages.Extent.TheVariants.{Resource as Alone, Children}
use Rattle.book_machine.specs.Finding.{may_be_asked}
use Rattle.book_office_values.specs.declared.paths.Path.TheVariants as path
use Rattle.book_machine.proofs.ReportPlans.{reported_available}
use Rattle.book_machine.proofs.StepLaws.{granted_answer, done, late, not_success, planned_succeeds, same_refusal}
use Rattle.book_machine.specs.Laws.{StepsAreAvailable}
use Rattle.book_machine.specs.AllowedMethods.{allowed_of}
use Rattle.book_machine.specs.Asked.{is_empty, put_asked, find_asked_to, find_asked, patch_asked, proppatch_asked, acl_asked, mkcol_asked, is_card, destination_by}
use Rattle.book_machine.specs.Stages.{new_card, new_book_at, text_told, members_edit}
use Rattle.book_machine.specs.declared.allowed_methods.AllowedMethods.TheVariants.{OfNewCard}
use Rattle.book_machine.specs.declared.asked.Asked.TheVariants as asked
use Rattle.book_machine.specs.declared.messages.Body.{Body}
use Rattle.book_machine.specs.declared.messages.Body.TheVariants as body
use Rattle.book_machine.specs.declared.messages.Depth.{Depth}
use Rattle.book_machine.specs.declared.messages.Depth.TheVariants as depth
use Rattle.book_machine.specs.declared.messages.Flag.{Flag}
use Rattle.book_machine.specs.declared.messages.Flag.TheVariants as flag
use Rattle.book_machine.specs.declared.messages.Patch.TheVariants as patch

-- a stage that tells some other refusal
abbrev IsAvailable : {A : Type 0} → Result A Refusal → Type 0
IsAvailable r = r ≡ Err Unavailable → ⊥

both : {A B : Type 0} (stage : Result A Refusal) (rest : A → Result B Refusal) → IsAvailable stage → ((x : A) → IsAvailable (rest x)) → IsAvailable (stage >>= rest)
both (Ok x) rest first second e = second x e
both (Err r) rest first second e = let same : r ≡ Unavailable = cc (e) in first (ap Err same)

value : {A : Type 0} (x : A) → IsAvailable (Ok x)
value x e = absurd (cc (e))

check_available : (b : Bool) (r : Refusal) → (r ≡ Unavailable → ⊥) → IsAvailable (check b r)
check_available true r other e = absurd (cc (e))
check_available false r other e = let same : r ≡ Unavailable = cc (e) in other same

no_parent : NoParent ≡ Unavailable → ⊥
no_parent e = absurd (cc (e))

caller_available : (o : Office) (name : Option (List ℕ)) → IsAvailable (caller_of o name)
caller_available o None e = absurd (cc (e))
caller_available o (Some name) e =
    elim (is_some (get o.persons name)) as (λ there. IsAvailable (if there then Ok (Known (person_path name)) else Err UnknownCaller)) [
      | true ↦ λ h. absurd (cc (h))
      | false ↦ λ h. absurd (cc (h))
    ] e

put_available : (b : Body) → IsAvailable (put_asked b)
put_available body.Empty e = absurd (cc (e))
put_available (body.Text text) e = absurd (cc (e))
put_available (body.Find properties) e = absurd (cc (e))
put_available (body.Patch p) e = absurd (cc (e))
put_available (body.List list) e = absurd (cc (e))
put_available (body.Report report) e = absurd (cc (e))
put_available body.Unread e = absurd (cc (e))

text_available : (empty : Bool) → IsAvailable (if empty then Ok asked.Mkcol else Err BodyOnMkcol)
text_available true e = absurd (cc (e))
text_available false e = absurd (cc (e))

mkcol_available : (b : Body) → IsAvailable (mkcol_asked b)
mkcol_available body.Empty e = absurd (cc (e))
mkcol_available (body.Text text) e = text_available (is_empty text) e
mkcol_available (body.Find properties) e = absurd (cc (e))
mkcol_available (body.Patch p) e = absurd (cc (e))
mkcol_available (body.List list) e = absurd (cc (e))
mkcol_available (body.Report report) e = absurd (cc (e))
mkcol_available body.Unread e = absurd (cc (e))

bound_available : (low : Bool) (what : Asked) → IsAvailable (if low then Ok what else Err BadRequest)
bound_available true what e = absurd (cc (e))
bound_available false what e = absurd (cc (e))

patch_available : (p : Patch) → IsAvailable (patch_asked p)
patch_available (patch.DisplayName label) e = bound_available (nat_le (length label) MAX_LABEL_BYTES) _ e
patch_available (patch.GroupMembers members) e = bound_available (nat_le (length (each_once members)) MAX_MEMBERS) _ e

proppatch_available : (b : Body) → IsAvailable (proppatch_asked b)
proppatch_available body.Empty e = absurd (cc (e))
proppatch_available (body.Text text) e = absurd (cc (e))
proppatch_available (body.Find properties) e = absurd (cc (e))
proppatch_available (body.Patch p) e = patch_available p e
proppatch_available (body.List list) e = absurd (cc (e))
proppatch_available (body.Report report) e = absurd (cc (e))
proppatch_available body.Unread e = absurd (cc (e))

acl_available : (b : Body) → IsAvailable (acl_asked b)
acl_available body.Empty e = absurd (cc (e))
acl_available (body.Text text) e = absurd (cc (e))
acl_available (body.Find properties) e = absurd (cc (e))
acl_available (body.Patch p) e = absurd (cc (e))
acl_available (body.List list) e = absurd (cc (e))
acl_available (body.Report report) e = absurd (cc (e))
acl_available body.Unread e = absurd (cc (e))

find_available : (extent : Extent) (b : Body) → IsAvailable (find_asked_to extent b)
find_available extent body.Empty e = absurd (cc (e))
find_available extent (body.Text text) e = absurd (cc (e))
find_available extent (body.Find properties) e = bound_available (may_be_asked properties) _ e
find_available extent (body.Patch p) e = absurd (cc (e))
find_available extent (body.List list) e = absurd (cc (e))
find_available extent (body.Report report) e = absurd (cc (e))
find_available extent body.Unread e = absurd (cc (e))

depth_available : (d : Depth) (b : Body) → IsAvailable (find_asked d b)
depth_available depth.Zero b e = find_available Alone b e
depth_available depth.One b e = find_available Children b e
depth_available depth.Unread b e = absurd (cc (e))

report_available : (b : Body) → IsAvailable (report_asked b)
report_available body.Empty e = absurd (cc (e))
report_available (body.Text text) e = absurd (cc (e))
report_available (body.Find properties) e = absurd (cc (e))
report_available (body.Patch p) e = absurd (cc (e))
report_available (body.List list) e = absurd (cc (e))
report_available (body.Report which) e = absurd (cc (e))
report_available body.Unread e = absurd (cc (e))

flag_available : (b c : List ℕ) (f : Flag) → IsAvailable (destination_by b c f)
flag_available b c flag.Yes e = absurd (cc (e))
flag_available b c flag.No e = absurd (cc (e))
flag_available b c flag.Unread e = absurd (cc (e))

card_to_available : (same : Bool) (b c : List ℕ) (f : Flag) → IsAvailable (if same then Err BadRequest else destination_by b c f)
card_to_available true b c f e = absurd (cc (e))
card_to_available false b c f e = flag_available b c f e

destination_available : (source : Option Path) (f : Flag) (at : Option Path) → IsAvailable (destination_asked source f at)
destination_available source f None e = absurd (cc (e))
destination_available source f (Some path.Root) e = absurd (cc (e))
destination_available source f (Some path.People) e = absurd (cc (e))
destination_available source f (Some path.Groups) e = absurd (cc (e))
destination_available source f (Some path.Books) e = absurd (cc (e))
destination_available source f (Some (path.Person n)) e = absurd (cc (e))
destination_available source f (Some (path.Group n)) e = absurd (cc (e))
destination_available source f (Some (path.Book b)) e = absurd (cc (e))
destination_available source f (Some (path.Card b c)) e = card_to_available (is_card b c source) b c f e

copy_available : (at : Result Destination Refusal) → IsAvailable at → IsAvailable (copy_asked at)
copy_available (Ok to) available e = absurd (cc (e))
copy_available (Err r) available e = let same : r ≡ Unavailable = cc (e) in available (ap Err same)

move_available : (at : Result Destination Refusal) → IsAvailable at → IsAvailable (move_asked at)
move_available (Ok to) available e = absurd (cc (e))
move_available (Err r) available e = let same : r ≡ Unavailable = cc (e) in available (ap Err same)

asked_available : (m : Method) (r : Request) → IsAvailable (asked_of m r)
asked_available Get r e = absurd (cc (e))
asked_available Head r e = absurd (cc (e))
asked_available Options r e = absurd (cc (e))
asked_available Put r e = put_available r.body e
asked_available Propfind r e = depth_available r.depth r.body e
asked_available Proppatch r e = proppatch_available r.body e
asked_available Acl r e = acl_available r.body e
asked_available Copy r e = copy_available _ (destination_available r.path r.overwrite r.destination) e
asked_available Move r e = move_available _ (destination_available r.path r.overwrite r.destination) e
asked_available Delete r e = absurd (cc (e))
asked_available Mkcol r e = mkcol_available r.body e
asked_available Report r e = report_available r.body e

card_available : (o : Office) (p : Path) → IsAvailable (new_card o p)
card_available o path.Root e = absurd (cc (e))
card_available o path.People e = absurd (cc (e))
card_available o path.Groups e = absurd (cc (e))
card_available o path.Books e = absurd (cc (e))
card_available o (path.Person n) e = absurd (cc (e))
card_available o (path.Group n) e = absurd (cc (e))
card_available o (path.Book b) e = absurd (cc (e))
card_available o (path.Card b c) e = check_available (is_some (get o.books b)) NoParent no_parent e

book_available : (o : Office) (p : Path) → IsAvailable (new_book_at o p)
book_available o path.Root e = absurd (cc (e))
book_available o path.People e = absurd (cc (e))
book_available o path.Groups e = absurd (cc (e))
book_available o path.Books e = absurd (cc (e))
book_available o (path.Person n) e = absurd (cc (e))
book_available o (path.Group n) e = absurd (cc (e))
book_available o (path.Book b) e = absurd (cc (e))
book_available o (path.Card b c) e =
    both (check (is_some (get o.books b)) NoParent) (λ _. Err (NotAllowed OfNewCard)) (check_available (is_some (get o.books b)) NoParent no_parent) (λ _ h. absurd (cc (h))) e

unmapped_available : (o : Office) (m : Method) (p : Path) → IsAvailable (at_unmapped o m p)
unmapped_available o Get p e = absurd (cc (e))
unmapped_available o Head p e = absurd (cc (e))
unmapped_available o Options p e = absurd (cc (e))
unmapped_available o Put p e = card_available o p e
unmapped_available o Propfind p e = absurd (cc (e))
unmapped_available o Proppatch p e = absurd (cc (e))
unmapped_available o Acl p e = absurd (cc (e))
unmapped_available o Copy p e = absurd (cc (e))
unmapped_available o Move p e = absurd (cc (e))
unmapped_available o Delete p e = absurd (cc (e))
unmapped_available o Mkcol p e = book_available o p e
unmapped_available o Report p e = absurd (cc (e))

node_available : (o : Office) (m : Method) (p : Path) (node : Option Node) → IsAvailable (at_node o m p node)
node_available o m p None e = both (at_unmapped o m p) (λ _. Ok (record { path = p; node = None; replaces = false })) (unmapped_available o m p) (λ _. value _) e
node_available o m p (Some node) e =
    both (check (goes_on m node.kind) (NotAllowed (allowed_of node.kind))) (λ _. Ok (record { path = p; node = Some node; replaces = false }))
    (check_available (goes_on m node.kind) (NotAllowed (allowed_of node.kind)) (λ h. absurd (cc (h)))) (λ _. value _) e

target_available : (o : Office) (m : Method) (p : Option Path) → IsAvailable (target_of o m p)
target_available o m None e = absurd (cc (e))
target_available o m (Some p) e = node_available o m p (option_map unnumbered (node_at o p)) e

replaceable_available : (overwrite taken : Bool) → IsAvailable (replaceable overwrite taken)
replaceable_available overwrite false e = absurd (cc (e))
replaceable_available overwrite true e =
    both (check overwrite Overwrite) (λ _. Ok true) (check_available overwrite Overwrite (λ h. absurd (cc (h)))) (λ _. value _) e

found_available : (o : Office) (at : Option Destination) → IsAvailable (destination_of o at)
found_available o None e = absurd (cc (e))
found_available o (Some to) e =
    both (check (is_some (get o.books to.book)) NoParent) (λ _. replaceable to.overwrite (is_some (node_at o (destination_path to))))
    (check_available (is_some (get o.books to.book)) NoParent no_parent) (λ _. replaceable_available to.overwrite (is_some (node_at o (destination_path to)))) e

text_of_available : (node : Option Node) → IsAvailable (text_of node)
text_of_available None e = absurd (cc (e))
text_of_available (Some node) e = told node.text e
  where
    told : (text : Option (List ℕ)) → IsAvailable (text_told text)
    told None e = absurd (cc (e))
    told (Some text) e = absurd (cc (e))

put_edit_available : (caller : Caller) (text : List ℕ) (p : Path) → IsAvailable (put_edit caller text p)
put_edit_available caller text path.Root e = absurd (cc (e))
put_edit_available caller text path.People e = absurd (cc (e))
put_edit_available caller text path.Groups e = absurd (cc (e))
put_edit_available caller text path.Books e = absurd (cc (e))
put_edit_available caller text (path.Person n) e = absurd (cc (e))
put_edit_available caller text (path.Group n) e = absurd (cc (e))
put_edit_available caller text (path.Book b) e = absurd (cc (e))
put_edit_available caller text (path.Card b c) e = absurd (cc (e))

copy_edit_available : (caller : Caller) (p : Path) (to : Destination) → IsAvailable (copy_edit caller p to)
copy_edit_available caller path.Root to e = absurd (cc (e))
copy_edit_available caller path.People to e = absurd (cc (e))
copy_edit_available caller path.Groups to e = absurd (cc (e))
copy_edit_available caller path.Books to e = absurd (cc (e))
copy_edit_available caller (path.Person n) to e = absurd (cc (e))
copy_edit_available caller (path.Group n) to e = absurd (cc (e))
copy_edit_available caller (path.Book b) to e = absurd (cc (e))
copy_edit_available caller (path.Card b c) to e = absurd (cc (e))

move_edit_available : (p : Path) (to : Destination) → IsAvailable (move_edit p to)
move_edit_available path.Root to e = absurd (cc (e))
move_edit_available path.People to e = absurd (cc (e))
move_edit_available path.Groups to e = absurd (cc (e))
move_edit_available path.Books to e = absurd (cc (e))
move_edit_available (path.Person n) to e = absurd (cc (e))
move_edit_available (path.Group n) to e = absurd (cc (e))
move_edit_available (path.Book b) to e = absurd (cc (e))
move_edit_available (path.Card b c) to e = absurd (cc (e))

delete_edit_available : (p : Path) → IsAvailable (delete_edit p)
delete_edit_available path.Root e = absurd (cc (e))
delete_edit_available path.People e = absurd (cc (e))
delete_edit_available path.Groups e = absurd (cc (e))
delete_edit_available path.Books e = absurd (cc (e))
delete_edit_available (path.Person n) e = absurd (cc (e))
delete_edit_available (path.Group n) e = absurd (cc (e))
delete_edit_available (path.Book b) e = absurd (cc (e))
delete_edit_available (path.Card b c) e = absurd (cc (e))

mkcol_edit_available : (caller : Caller) (p : Path) → IsAvailable (mkcol_edit caller p)
mkcol_edit_available caller path.Root e = absurd (cc (e))
mkcol_edit_available caller path.People e = absurd (cc (e))
mkcol_edit_available caller path.Groups e = absurd (cc (e))
mkcol_edit_available caller path.Books e = absurd (cc (e))
mkcol_edit_available caller (path.Person n) e = absurd (cc (e))
mkcol_edit_available caller (path.Group n) e = absurd (cc (e))
mkcol_edit_available caller (path.Book b) e = absurd (cc (e))
mkcol_edit_available caller (path.Card b c) e = absurd (cc (e))

members_edit_available : (p : Path) (members : List (List ℕ)) → IsAvailable (members_edit p members)
members_edit_available path.Root members e = absurd (cc (e))
members_edit_available path.People members e = absurd (cc (e))
members_edit_available path.Groups members e = absurd (cc (e))
members_edit_available path.Books members e = absurd (cc (e))
members_edit_available (path.Person n) members e = absurd (cc (e))
members_edit_available (path.Group n) members e = absurd (cc (e))
members_edit_available (path.Book b) members e = absurd (cc (e))
members_edit_available (path.Card b c) members e = absurd (cc (e))

patch_edit_available : (p : Path) (patched : Patch) → IsAvailable (patch_edit p patched)
patch_edit_available p (patch.DisplayName label) e = absurd (cc (e))
patch_edit_available p (patch.GroupMembers members) e = members_edit_available p members e

listed_available : (o : Office) (circle : CircleOf) (find : Find) (p : Path) (node : Option Node) → IsListed o circle find p node (Err Unavailable) → ⊥
listed_available o circle find p None is = absurd (cc (is))
listed_available o circle find p (Some node) is = let told = is.2 in absurd (cc (told))

success_available : (o : Office) (circle : CircleOf) (what : Asked) (caller : Caller) (target : Target) → IsSuccessOf o circle what caller target (Err Unavailable) → ⊥
success_available o circle asked.Get caller target = both (text_of target.node) _ (text_of_available target.node) (λ text. value _)
success_available o circle asked.Head caller target = both (text_of target.node) _ (text_of_available target.node) (λ text. value _)
success_available o circle asked.Options caller target = value _
success_available o circle (asked.Put text) caller target = both (put_edit caller text target.path) _ (put_edit_available caller text target.path) (λ edit. value _)
success_available o circle (asked.Propfind find) caller target = listed_available o circle find target.path target.node
success_available o circle (asked.Proppatch patched) caller target = both (patch_edit target.path patched) _ (patch_edit_available target.path patched) (λ edit. value _)
success_available o circle (asked.Acl list) caller target = value _
success_available o circle (asked.Copy to) caller target = both (copy_edit caller target.path to) _ (copy_edit_available caller target.path to) (λ edit. value _)
success_available o circle (asked.Move to) caller target = both (move_edit target.path to) _ (move_edit_available target.path to) (λ edit. value _)
success_available o circle asked.Delete caller target = both (delete_edit target.path) _ (delete_edit_available target.path) (λ edit. value _)
success_available o circle asked.Mkcol caller target = both (mkcol_edit caller target.path) _ (mkcol_edit_available caller target.path) (λ edit. value _)
success_available o circle (asked.Report which) caller target = reported_available o circle which target.path

module _ (o : Office) (request : Request) where
  ready_available : (name : Option (List ℕ)) → IsAvailable (ready_of o name request)
  ready_available name = both (caller_of o name) _ (caller_available o name) (λ caller.
      both (asked_of request.method request) _ (asked_available request.method request) (λ what.
      both (target_of o request.method request.path) _ (target_available o request.method request.path) (λ target.
      both (suits_target what target) _ (check_available _ (NotAllowed (allowed_of (kind_of target.path))) (λ h. absurd (cc (h)))) (λ _.
      both (destination_of o (destination_in what)) _ (found_available o (destination_in what)) (λ found. value _)))))

  granted_available : (circle : CircleOf) (ready : Ready) → IsGrantedPlan o circle ready (Err Unavailable) → ⊥
  granted_available circle ready planned = elim (granted_answer o circle ready (Err Unavailable) planned) [
    | done is ↦ success_available o circle ready.asked ready.caller ready.target is
    | late refusal told is ↦
        let same : refusal ≡ Unavailable = cc (is) in
        let not_late : is_late Unavailable ≡ true = ap is_late (sym same) ∙ told in
        absurd (cc (not_late))
  ]

  plan_available : (ready : Result Ready Refusal) → IsAvailable ready → IsPlannedFrom o ready (Err Unavailable) → ⊥
  plan_available (Err refusal) available is = let same : refusal ≡ Unavailable = cc (is) in available (ap Err same)
  plan_available (Ok ready) available (inl granted) = granted_available granted.0.circle ready granted.1
  plan_available (Ok ready) available (inr denied) = let h = denied.2 in absurd (cc (h))

pub steps_are_available : StepsAreAvailable
steps_are_available o name request after step = go step.0 step.1 step.2
  where
    go : (result : Result Plan Refusal) → IsPlan o name request result → (refused Unavailable, after) ≡ settled o result → ⊥
    go (Ok plan) planned settles =
        not_success plan.reply Unavailable (sym (ap (λ (x : Reply × Office). x.0) settles)) (planned_succeeds o (ready_of o name request) plan planned)
    go (Err e) planned settles =
        let same : Unavailable ≡ e = same_refusal Unavailable e (ap (λ (x : Reply × Office). x.0) settles) in
        plan_available o request (ready_of o name request) (ready_available o request name) (rw same planned)
