-- From agreeing Offices a request has one plan.
use Rattle.book_machine.proofs.Common.{◌≡◌, inl, inr, ℕ, List, [], ◌∷◌, Bool, true, false, Option, Some, None, is_some, option_map, ◌&&◌, ◌||◌, Result, Ok, Err, refl, sym, ap, ◌∙◌, subst, nat_lt, if◌then◌else◌, map, get, AllZip, flat_map, bytes_eq, IsCircle, CircleOf, person_path, Caller, Nobody, Known, Submitted, effective_at, EffectiveEntry, node_at, unnumbered, IsMapped, Node, Method, Get, Head, Options, Put, Propfind, Proppatch, Acl, Copy, Move, Delete, Mkcol, Need, Leaf, Office, MAX_CARDS, MAX_BOOKS, LAST_NUMBER, Path, kind_of, levels, Find, named, MayRead, outline, Agree, goes_on, asked_of, method_of, destination_in, destination_path, ◌>>=◌, check, caller_of, at_unmapped, at_node, target_of, suits_target, ready_of, IsMembersAnswer, IsChecked, protected_entries_at, IsAclAnswer, IsBodyAnswer, can_change, label_limits, limits_of, report_plan, sync_plan, body_then_limits, AreMembersTold, IsReportOf, IsListed, IsSuccessOf, IsDone, IsGrantedPlan, put_edit, replied, replaceable, destination_of, can_change_twice, move_limits, copy_edit, move_edit, IsDecided, IsPlannedFrom, IsPlan, IsGrantedAt, here_of, AreGranted, IsGranted, IsDenied, needs_at, place_path, Asked, Destination, ReportKind, Request, SyncRequest, Plan, Ready, Target, Denial, Refusal, UnknownCaller, Full, NotAllowed, NoParent}
use Rattle.book_office.specs.Levels.{protected_entries}
use Rattle.book_rights.specs.Needs.{read_and, needs_of}
use Rattle.book_rights.specs.Privileges.{is_read}
use Rattle.book_rights.specs.declared.methods.Method.TheVariants.{Report}
use Rattle.book_rights.specs.declared.methods.Shape.{Shape}
use Rattle.book_rights.specs.declared.privileges.Leaf.TheVariants.{ReadTexts, WriteContent, WriteProperties, Bind, Unbind, ReadAcl, WriteAcl, ReadCurrentUserPrivilegeSet, ReadNames}
use Rattle.book_office_values.specs.declared.paths.Path.TheVariants as path
use Rattle.book_machine.proofs.AlikeOffices.{alike_of}
use Rattle.book_machine.proofs.AlikeReports.{AreReportedAlike, members_alike, names_alike, reports_alike, rulings_told_alike}
use Rattle.book_machine.proofs.FittingPlans.{IsShaped, bind_ok, ready_is_target, ready_shaped}
use Rattle.book_machine.proofs.Outlines.{there_mapped, outline_of_node, book_there, count_same, nodes_alike, targets_alike, node_same, level_same, effective_same, here_same}
use Rattle.book_office_listings.proofs.AlikeListings.{unread_unseen}
use Rattle.book_office_listings.specs.Laws.{AreAlike, HasRead}
use Rattle.book_office_listings.specs.Properties.{is_asked}
use Rattle.book_office_listings.specs.declared.messages.Property.{Property}
use Rattle.book_office_listings.specs.declared.messages.Property.TheVariants as property
use Rattle.book_machine.specs.Agreement.{MayHave}
use Rattle.book_machine.specs.Finding.{needed_for}
use Rattle.book_machine.specs.AllowedMethods.{allowed_of}
use Rattle.book_machine.specs.Stages.{IsListAnswer, IsReportAnswer, put_limits, delete_limits, keeps_limits, card_plan, allow_plan, put_plan, patch_plan, acl_plan, delete_plan, mkcol_plan, AreNamesTold, put_status, copy_plan, move_plan}
use Rattle.book_office_listings.specs.Verdicts.{IsGrantedBy, IsDeniedBy, IsDeniedAt}
use Rattle.book_office_values.specs.Paths.{is_kind}
use Rattle.book_office_values.specs.declared.paths.Kind.TheVariants as kind
use Rattle.book_machine.specs.Verdicts.{IsFirstDenial, asks_effective, asks_for, asks_names, shape_at}
use Rattle.book_machine.specs.declared.allowed_methods.AllowedMethods.TheVariants.{OfNewCard}
use Rattle.book_machine.specs.declared.asked.Asked.TheVariants as asked
use Rattle.book_machine.specs.declared.messages.Content.TheVariants as content
use Rattle.book_machine.specs.declared.messages.Patch.TheVariants as patch
use Rattle.book_machine.specs.declared.messages.ReportKind.TheVariants as report

-- ---- results of stages
abbrev told_of : {A B : Type 0} → (A → B) → Result A Refusal → Result B Refusal
told_of f (Ok x) = Ok (f x)
told_of f (Err e) = Err e

told_then_ok : {A B C : Type 0} (f : B → C) (m : Result A Refusal) (x : B) → told_of f (m >>= λ _. Ok x) ≡ (m >>= λ _. Ok (f x))
told_then_ok f (Ok a) x = refl
told_then_ok f (Err e) x = refl

bound : {A B C : Type 0} (h : B → C) (m n : Result A Refusal) (f g : A → Result B Refusal) → m ≡ n → ((x : A) → told_of h (f x) ≡ told_of h (g x))
    → told_of h (m >>= f) ≡ told_of h (n >>= g)
bound h m (Ok x) f g e each = ap (λ r. told_of h (r >>= f)) e ∙ each x
bound h m (Err r) f g e each = ap (λ r. told_of h (r >>= f)) e

-- where the first stages tell alike, and so do those that follow
bound_told : {A B C D : Type 0} (g : A → D) (h : B → C) (m n : Result A Refusal) (f k : A → Result B Refusal) → told_of g m ≡ told_of g n
    → ((x y : A) → g x ≡ g y → told_of h (f x) ≡ told_of h (k y)) → told_of h (m >>= f) ≡ told_of h (n >>= k)
bound_told g h (Ok x) (Ok y) f k e each = each x y (cc (e))
bound_told g h (Ok x) (Err s) f k e each = absurd (cc (e))
bound_told g h (Err r) (Ok y) f k e each = absurd (cc (e))
bound_told g h (Err r) (Err s) f k e each = let same : r ≡ s = cc (e) in ap Err same

-- ---- what is found out before the verdict, but for the label and the text of the target
abbrev outline_of_target : Target → Target
outline_of_target t = record { path = t.path; node = option_map outline_of_node t.node; replaces = t.replaces }

abbrev outline_of_ready : Ready → Ready
outline_of_ready r = record { caller = r.caller; asked = r.asked; target = outline_of_target r.target }

node_told : (o : Office) (m : Method) (q : Path) (r : Option Node) → told_of outline_of_target (at_node o m q r) ≡ at_node o m q (option_map outline_of_node r)
node_told o m q None = told_then_ok outline_of_target (at_unmapped o m q) (record { path = q; node = None; replaces = false })
node_told o m q (Some node) = told_then_ok outline_of_target (check (goes_on m node.kind) (NotAllowed (allowed_of node.kind))) (record { path = q; node = Some node; replaces = false })

-- ---- the verdict
module _ (o p : Office) (same : outline o ≡ outline p) where
  pub circle_same : (caller : Caller) (circle : CircleOf) → IsCircle o.pairs caller circle → IsCircle p.pairs caller circle
  circle_same caller circle h = subst (λ (x : Office). IsCircle x.pairs caller circle) same h

  pub granted_same : (circle : CircleOf) (q : Path) (set : Leaf → Bool) → IsGrantedAt o circle q set → IsGrantedAt p circle q set
  granted_same circle q set h =
      subst (λ here. IsGrantedBy (effective_at p q) circle here set) (here_same o p same q)
      (subst (λ list. IsGrantedBy list circle (here_of o q) set) (effective_same o p same q) h)

  pub denied_same : (circle : CircleOf) (q : Path) (set : Leaf → Bool) (denial : Denial) → IsDeniedAt o circle q set denial → IsDeniedAt p circle q set denial
  denied_same circle q set denial h =
      subst (λ here. IsDeniedBy (effective_at p q) circle here q set denial) (here_same o p same q)
      (subst (λ list. IsDeniedBy list circle (here_of o q) q set denial) (effective_same o p same q) h)

  pub may_same : (caller : Caller) (q : Path) (set : Leaf → Bool) → MayHave o caller q set → MayHave p caller q set
  may_same caller q set h = record {
    circle = h.circle;
    is_circle = circle_same caller h.circle h.is_circle;
    granted = granted_same h.circle q set h.granted;
  }

  module _ (circle : CircleOf) (to : Option Destination) (target : Path) where
    each_granted : (needs : List Need) → AreGranted o circle to target needs → AreGranted p circle to target needs
    each_granted [] h = tt
    each_granted (need ∷ rest) h = (granted_same circle (place_path to target need.place) need.set h.0, each_granted rest h.1)

    first_denied : (needs : List Need) (denial : Denial) → IsFirstDenial o circle to target needs denial → IsFirstDenial p circle to target needs denial
    first_denied [] denial h = absurd h
    first_denied (need ∷ rest) denial (inl here) = inl (denied_same circle (place_path to target need.place) need.set denial here)
    first_denied (need ∷ rest) denial (inr later) =
        inr (granted_same circle (place_path to target need.place) need.set later.0, first_denied rest denial later.1)

  -- ---- the stages before the verdict
  new_card_same : (m : Method) (q : Path) → at_unmapped o m q ≡ at_unmapped p m q
  new_card_same Get q = refl
  new_card_same Head q = refl
  new_card_same Options q = refl
  new_card_same Put q = at_new_card q
    where
      at_new_card : (q : Path) → at_unmapped o Put q ≡ at_unmapped p Put q
      at_new_card path.Root = refl
      at_new_card path.People = refl
      at_new_card path.Groups = refl
      at_new_card path.Books = refl
      at_new_card (path.Person n) = refl
      at_new_card (path.Group n) = refl
      at_new_card (path.Book b) = refl
      at_new_card (path.Card b c) = ap (λ there. check there NoParent) (book_there o p same b)
  new_card_same Propfind q = refl
  new_card_same Proppatch q = refl
  new_card_same Acl q = refl
  new_card_same Copy q = refl
  new_card_same Move q = refl
  new_card_same Delete q = refl
  new_card_same Mkcol q = at_new_book q
    where
      at_new_book : (q : Path) → at_unmapped o Mkcol q ≡ at_unmapped p Mkcol q
      at_new_book path.Root = refl
      at_new_book path.People = refl
      at_new_book path.Groups = refl
      at_new_book path.Books = refl
      at_new_book (path.Person n) = refl
      at_new_book (path.Group n) = refl
      at_new_book (path.Book b) = refl
      at_new_book (path.Card b c) = ap (λ there. check there NoParent >>= λ _. Err (NotAllowed OfNewCard)) (book_there o p same b)
  new_card_same Report q = refl

  at_node_same : (m : Method) (q : Path) (r : Option Node) → at_node o m q r ≡ at_node p m q r
  at_node_same m q None = ap (λ r. r >>= λ _. Ok (record { path = q; node = None; replaces = false })) (new_card_same m q)
  at_node_same m q (Some node) = refl

  target_same : (m : Method) (q : Option Path) → told_of outline_of_target (target_of o m q) ≡ told_of outline_of_target (target_of p m q)
  target_same m None = refl
  target_same m (Some q) =
      node_told o m q (option_map unnumbered (node_at o q))
      ∙ ap (at_node o m q) (targets_alike o p same q)
      ∙ at_node_same m q (option_map outline_of_node (option_map unnumbered (node_at p q)))
      ∙ sym (node_told p m q (option_map unnumbered (node_at p q)))

  mapped_same : (q : Path) → is_some (node_at o q) ≡ is_some (node_at p q)
  mapped_same q = sym (there_mapped outline_of_node (node_at o q)) ∙ ap is_some (nodes_alike o p same q) ∙ there_mapped outline_of_node (node_at p q)

  destination_same : (to : Option Destination) → destination_of o to ≡ destination_of p to
  destination_same None = refl
  destination_same (Some to) = λ i. check (book_there o p same to.book i) NoParent >>= λ _. replaceable to.overwrite (mapped_same (destination_path to) i)

  caller_same : (name : Option (List ℕ)) → caller_of o name ≡ caller_of p name
  caller_same None = refl
  caller_same (Some name) = ap (λ (x : Office). if is_some (get x.persons name) then Ok (Known (person_path name)) else Err UnknownCaller) same

  pub ready_same : (name : Option (List ℕ)) (request : Request) → told_of outline_of_ready (ready_of o name request) ≡ told_of outline_of_ready (ready_of p name request)
  ready_same name request =
      bound outline_of_ready (caller_of o name) (caller_of p name) _ _ (caller_same name) (λ caller.
      bound outline_of_ready (asked_of request.method request) (asked_of request.method request) _ _ refl (λ what.
      bound_told outline_of_target outline_of_ready (target_of o request.method request.path) (target_of p request.method request.path) _ _ (target_same request.method request.path) (λ t u alike.
      bound outline_of_ready (suits_target what t) (suits_target what u) _ _ (ap (suits_target what) alike) (λ _.
      bound outline_of_ready (destination_of o (destination_in what)) (destination_of p (destination_in what)) _ _ (destination_same (destination_in what)) (λ found.
      λ i. Ok (record { caller = caller; asked = what; target = record (alike i) { replaces = found } }))))))

  -- ---- the limits
  book_changes_same : (b : List ℕ) → can_change (node_at o (path.Book b)) ≡ can_change (node_at p (path.Book b))
  book_changes_same b = ap can_change (node_same o p same (path.Book b) (λ b c is. absurd cc))

  put_limits_same : (q : Path) (mapped : Bool) → put_limits o q mapped ≡ put_limits p q mapped
  put_limits_same path.Root mapped = refl
  put_limits_same path.People mapped = refl
  put_limits_same path.Groups mapped = refl
  put_limits_same path.Books mapped = refl
  put_limits_same (path.Person n) mapped = refl
  put_limits_same (path.Group n) mapped = refl
  put_limits_same (path.Book b) mapped = refl
  put_limits_same (path.Card b c) mapped = λ i. book_changes_same b i && (mapped || nat_lt (count_same o p same (path.Book b) i) MAX_CARDS)

  move_limits_same : (q : Path) (to : Destination) (taken : Bool) → move_limits o q to taken ≡ move_limits p q to taken
  move_limits_same path.Root to taken = refl
  move_limits_same path.People to taken = refl
  move_limits_same path.Groups to taken = refl
  move_limits_same path.Books to taken = refl
  move_limits_same (path.Person n) to taken = refl
  move_limits_same (path.Group n) to taken = refl
  move_limits_same (path.Book b) to taken = refl
  move_limits_same (path.Card b c) to taken =
      λ i. if bytes_eq b to.book
      then ap can_change_twice (node_same o p same (path.Book b) (λ b c is. absurd cc)) i
      else book_changes_same b i && put_limits_same (destination_path to) taken i

  delete_limits_same : (q : Path) → delete_limits o q ≡ delete_limits p q
  delete_limits_same path.Root = refl
  delete_limits_same path.People = refl
  delete_limits_same path.Groups = refl
  delete_limits_same path.Books = refl
  delete_limits_same (path.Person n) = refl
  delete_limits_same (path.Group n) = refl
  delete_limits_same (path.Book b) = ap (λ (x : Office). nat_lt x.epoch LAST_NUMBER) same
  delete_limits_same (path.Card b c) = book_changes_same b

  label_limits_same : (q : Path) → label_limits o q ≡ label_limits p q
  label_limits_same path.Root = refl
  label_limits_same path.People = refl
  label_limits_same path.Groups = refl
  label_limits_same path.Books = refl
  label_limits_same (path.Person n) = refl
  label_limits_same (path.Group n) = refl
  label_limits_same (path.Book b) = refl
  label_limits_same (path.Card b c) = book_changes_same b

  -- ---- the body
  protected_same : (q : Path) → protected_entries_at o q ≡ protected_entries_at p q
  protected_same q = λ i. map (λ (e : EffectiveEntry). e.entry) (flat_map protected_entries (map (λ x. level_same o p same x i) (levels q)))

  acl_answer_same : (q : Path) (list : List Submitted) (answer : Result (Unit {0}) Refusal) → IsAclAnswer o q list answer → IsAclAnswer p q list answer
  acl_answer_same q list answer (inl long) = inl long
  acl_answer_same q list answer (inr at) = inr (
    at.0,
    (
      at.1.0,
      subst (λ (x : Office). AllZip (IsChecked x) list at.1.0) same at.1.1,
      subst (λ protected. IsListAnswer protected at.1.0 answer) (protected_same q) at.1.2,
    ),
  )

  report_answer_same : (which : ReportKind) (answer : Result (Unit {0}) Refusal) → IsReportAnswer o which answer → IsReportAnswer p which answer
  report_answer_same (report.SyncCollection asks) answer is = is
  report_answer_same report.GroupMembers answer is = is
  report_answer_same (report.Effective Nobody) answer is = is
  report_answer_same (report.Effective (Known person)) (Ok u) is = subst (λ (x : Office). IsMapped x person) same is
  report_answer_same (report.Effective (Known person)) (Err e) is = (is.0, λ there. is.1 (subst (λ (x : Office). IsMapped x person) (sym same) there))
  report_answer_same report.Names answer is = is

  body_answer_same : (what : Asked) (q : Path) (answer : Result (Unit {0}) Refusal) → IsBodyAnswer o what q answer → IsBodyAnswer p what q answer
  body_answer_same asked.Get q answer is = is
  body_answer_same asked.Head q answer is = is
  body_answer_same asked.Options q answer is = is
  body_answer_same (asked.Put text) q answer is = is
  body_answer_same (asked.Propfind find) q answer is = is
  body_answer_same (asked.Proppatch (patch.DisplayName label)) q answer is = is
  body_answer_same (asked.Proppatch (patch.GroupMembers members)) q answer is = subst (λ (x : Office). IsMembersAnswer x members answer) same is
  body_answer_same (asked.Acl list) q answer is = acl_answer_same q list answer is
  body_answer_same (asked.Copy to) q answer is = is
  body_answer_same (asked.Move to) q answer is = is
  body_answer_same asked.Delete q answer is = is
  body_answer_same asked.Mkcol q answer is = is
  body_answer_same (asked.Report which) q answer is = report_answer_same which answer is

  keeps_limits_same : (what : Asked) (q : Path) (mapped taken : Bool) → keeps_limits o what q mapped taken ≡ keeps_limits p what q mapped taken
  keeps_limits_same asked.Get q mapped taken = refl
  keeps_limits_same asked.Head q mapped taken = refl
  keeps_limits_same asked.Options q mapped taken = refl
  keeps_limits_same (asked.Put text) q mapped taken = put_limits_same q mapped
  keeps_limits_same (asked.Propfind find) q mapped taken = refl
  keeps_limits_same (asked.Proppatch (patch.DisplayName label)) q mapped taken = label_limits_same q
  keeps_limits_same (asked.Proppatch (patch.GroupMembers members)) q mapped taken = ap (λ (x : Office). nat_lt x.epoch LAST_NUMBER) same
  keeps_limits_same (asked.Acl list) q mapped taken = ap (λ (x : Office). nat_lt x.epoch LAST_NUMBER) same
  keeps_limits_same (asked.Copy to) q mapped taken = put_limits_same (destination_path to) taken
  keeps_limits_same (asked.Move to) q mapped taken = move_limits_same q to taken
  keeps_limits_same asked.Delete q mapped taken = delete_limits_same q
  keeps_limits_same asked.Mkcol q mapped taken = ap (λ n. nat_lt n MAX_BOOKS) (count_same o p same path.Books)
  keeps_limits_same (asked.Report which) q mapped taken = refl

-- ---- methods that need `read` at their target
read_has_read : HasRead is_read
read_has_read leaf is = is

-- what is needed beside `read` leaves it needed
more_has_read : (acl privileges : Bool) → HasRead (read_and acl privileges)
more_has_read acl privileges ReadTexts is = refl
more_has_read acl privileges WriteContent is = absurd cc
more_has_read acl privileges WriteProperties is = absurd cc
more_has_read acl privileges Bind is = absurd cc
more_has_read acl privileges Unbind is = absurd cc
more_has_read acl privileges ReadAcl is = absurd cc
more_has_read acl privileges WriteAcl is = absurd cc
more_has_read acl privileges ReadCurrentUserPrivilegeSet is = absurd cc
more_has_read acl privileges ReadNames is = refl

-- who is granted a set with `read` may read
pub reads_by : (o : Office) (caller : Caller) (circle : CircleOf) (q : Path) (set : Leaf → Bool) → IsCircle o.pairs caller circle
    → HasRead set → IsGrantedAt o circle q set → MayRead o caller q
reads_by o caller circle q set is_circle reads granted = record {
  circle = circle;
  is_circle = is_circle;
  granted = λ leaf is. granted leaf (reads leaf is);
}

abbrev pub reads_target : Method → Bool
reads_target Get = true
reads_target Head = true
reads_target Options = true
reads_target Put = false
reads_target Propfind = true
reads_target Proppatch = false
reads_target Acl = false
reads_target Copy = true
reads_target Move = false
reads_target Delete = false
reads_target Mkcol = false
reads_target Report = false

module _ (o : Office) (caller : Caller) (circle : CircleOf) (is_circle : IsCircle o.pairs caller circle) (to : Option Destination) (target : Path) (shape : Shape) where
  reads_granted : (m : Method) → reads_target m ≡ true → AreGranted o circle to target (needs_of m shape) → MayRead o caller target
  reads_granted Get e h = reads_by o caller circle target is_read is_circle read_has_read h.0
  reads_granted Head e h = reads_by o caller circle target is_read is_circle read_has_read h.0
  reads_granted Options e h = reads_by o caller circle target is_read is_circle read_has_read h.0
  reads_granted Put e h = absurd cc
  reads_granted Propfind e h = reads_by o caller circle target (read_and shape.acl shape.privileges) is_circle (more_has_read shape.acl shape.privileges) h.0
  reads_granted Proppatch e h = absurd cc
  reads_granted Acl e h = absurd cc
  reads_granted Copy e h = reads_by o caller circle target is_read is_circle read_has_read h.0
  reads_granted Move e h = absurd cc
  reads_granted Delete e h = absurd cc
  reads_granted Mkcol e h = absurd cc
  reads_granted Report e h = absurd cc

pub reads : (o : Office) (ready : Ready) → reads_target (method_of ready.asked) ≡ true → IsGranted o ready → MayRead o ready.caller ready.target.path
reads o ready e h = reads_granted o ready.caller h.circle h.is_circle (destination_in ready.asked) ready.target.path (shape_at ready) (method_of ready.asked) e h.granted

-- ---- two requests that are found out alike, but for the label and text of the target
module _ (a b : Ready) (alike : outline_of_ready a ≡ outline_of_ready b) where
  caller_is : a.caller ≡ b.caller
  caller_is = ap (λ (r : Ready). r.caller) alike

  asked_is : a.asked ≡ b.asked
  asked_is = ap (λ (r : Ready). r.asked) alike

  path_is : a.target.path ≡ b.target.path
  path_is = ap (λ (r : Ready). r.target.path) alike

  mapped_is : is_some a.target.node ≡ is_some b.target.node
  mapped_is = sym (there_mapped outline_of_node a.target.node) ∙ ap (λ (r : Ready). is_some r.target.node) alike ∙ there_mapped outline_of_node b.target.node

  taken_is : a.target.replaces ≡ b.target.replaces
  taken_is = ap (λ (r : Ready). r.target.replaces) alike

  needs_is : needs_at a ≡ needs_at b
  needs_is = λ i. needs_of (method_of (asked_is i)) (record {
    target_mapped = mapped_is i;
    destination_mapped = taken_is i;
    book = is_kind kind.Book (kind_of (path_is i));
    acl = asks_for property.Acl (asked_is i);
    privileges = asks_for property.CurrentUserPrivilegeSet (asked_is i);
    effective = asks_effective (asked_is i);
    names = asks_names (asked_is i);
  })

  module _ (o p : Office) (same : outline o ≡ outline p) where
    pub verdict_granted : IsGranted o a → IsGranted p b
    verdict_granted h = record {
      circle = h.circle;
      is_circle = subst (λ c. IsCircle p.pairs c h.circle) caller_is (circle_same o p same a.caller h.circle h.is_circle);
      granted = subst (λ needs. AreGranted p h.circle (destination_in b.asked) b.target.path needs) needs_is
          (subst (λ t. AreGranted p h.circle (destination_in b.asked) t (needs_at a)) path_is
          (subst (λ what. AreGranted p h.circle (destination_in what) a.target.path (needs_at a)) asked_is
          (each_granted o p same h.circle (destination_in a.asked) a.target.path (needs_at a) h.granted)));
    }

    pub verdict_denied : (denial : Denial) → IsDenied o a denial → IsDenied p b denial
    verdict_denied denial h = record {
      circle = h.circle;
      is_circle = subst (λ c. IsCircle p.pairs c h.circle) caller_is (circle_same o p same a.caller h.circle h.is_circle);
      denied = subst (λ needs. IsFirstDenial p h.circle (destination_in b.asked) b.target.path needs denial) needs_is
          (subst (λ t. IsFirstDenial p h.circle (destination_in b.asked) t (needs_at a) denial) path_is
          (subst (λ what. IsFirstDenial p h.circle (destination_in what) a.target.path (needs_at a) denial) asked_is
          (first_denied o p same h.circle (destination_in a.asked) a.target.path (needs_at a) denial h.denied)));
    }

    limits_same : limits_of o a.asked a.target ≡ limits_of p b.asked b.target
    limits_same = ap (λ t. check t Full) (keeps_limits_same o p same a.asked a.target.path (is_some a.target.node) a.target.replaces ∙ (λ i. keeps_limits p (asked_is i) (path_is i) (mapped_is i) (taken_is i)))

  needed_has_read : (properties : List Property) → HasRead (needed_for properties)
  needed_has_read properties = more_has_read (is_asked property.Acl properties) (is_asked property.CurrentUserPrivilegeSet properties)

  -- what is replied and done rests on the label and text of the target in methods alone that need `read` there
  module _ (o p : Office) (circle : CircleOf) (offices : AreAlike o p circle) (reports : AreReportedAlike o p circle) where
    sync_same : (asks : SyncRequest) (q : Path) → sync_plan o circle asks q ≡ sync_plan p circle asks q
    sync_same asks path.Root = refl
    sync_same asks path.People = refl
    sync_same asks path.Groups = refl
    sync_same asks path.Books = refl
    sync_same asks (path.Person n) = refl
    sync_same asks (path.Group n) = refl
    sync_same asks (path.Book b) = ap report_plan (reports.synced b asks.limit asks.from)
    sync_same asks (path.Card b c) = refl

    members_same : (q : Path) (result : Result Plan Refusal) → AreMembersTold o circle q result → AreMembersTold p circle q result
    members_same path.Root result is = is
    members_same path.People result is = is
    members_same path.Groups result is = is
    members_same path.Books result is = is
    members_same (path.Person n) result is = is
    members_same (path.Group n) result is = is
    members_same (path.Book b) result is = is
    members_same (path.Card b c) result is = (is.0, members_alike o p circle reports.seen_alike b c is.0 is.1, is.2)

    names_same : (q : Path) (result : Result Plan Refusal) → AreNamesTold o circle q result → AreNamesTold p circle q result
    names_same path.Root result is = is
    names_same path.People result is = is
    names_same path.Groups result is = is
    names_same path.Books result is = is
    names_same (path.Person n) result is = is
    names_same (path.Group n) result is = is
    names_same (path.Book b) result is = (is.0, names_alike o p circle reports.named_alike b is.0 is.1, is.2)
    names_same (path.Card b c) result is = is

    report_same : (which : ReportKind) (q : Path) (result : Result Plan Refusal) → IsReportOf o circle which q result → IsReportOf p circle which q result
    report_same (report.SyncCollection asks) q result is = sym (sync_same asks q) ∙ is
    report_same report.GroupMembers q result is = members_same q result is
    report_same (report.Effective caller) q result is = rulings_told_alike o p reports.outlines caller q result is
    report_same report.Names q result is = names_same q result is

    listed_same : (find : Find) → HasRead find.needed → (q : Path) (node : Option Node) (result : Result Plan Refusal)
        → IsListed o circle find q node result → IsListed p circle find q node result
    listed_same find needs q None result is = is
    listed_same find needs q (Some node) result is = (is.0, unread_unseen o p circle offices find needs q is.0 is.1, is.2)

    success_same : (what : Asked) → IsShaped what → (reads_target (method_of what) ≡ true → a.target.node ≡ b.target.node) → (result : Result Plan Refusal)
        → IsSuccessOf o circle what a.caller a.target result → IsSuccessOf p circle what b.caller b.target result
    success_same asked.Get shaped shown result is = sym (ap card_plan (shown refl)) ∙ is
    success_same asked.Head shaped shown result is = sym (ap card_plan (shown refl)) ∙ is
    success_same asked.Options shaped shown result is = sym (ap allow_plan path_is) ∙ is
    success_same (asked.Put text) shaped shown result is =
        let plans : put_plan a.caller text a.target ≡ put_plan b.caller text b.target =
        λ i. put_edit (caller_is i) text (path_is i) >>= λ edit. Ok (replied (put_status (mapped_is i)) content.Empty (Some edit)) in
        sym plans ∙ is
    success_same (asked.Propfind find) shaped shown result is =
        subst (λ q. IsListed p circle find q b.target.node result) path_is
        (subst (λ node. IsListed p circle find a.target.path node result) (shown refl) (listed_same find (subst HasRead (sym shaped) (needed_has_read find.properties)) a.target.path a.target.node result is))
    success_same (asked.Proppatch patched) shaped shown result is = sym (ap (λ q. patch_plan q patched) path_is) ∙ is
    success_same (asked.Acl list) shaped shown result is = sym (ap (λ q. acl_plan q list) path_is) ∙ is
    success_same (asked.Copy to) shaped shown result is =
        let plans : copy_plan a.caller to a.target ≡ copy_plan b.caller to b.target =
        λ i. copy_edit (caller_is i) (path_is i) to >>= λ edit. Ok (replied (put_status (taken_is i)) content.Empty (Some edit)) in
        sym plans ∙ is
    success_same (asked.Move to) shaped shown result is =
        let plans : move_plan to a.target ≡ move_plan to b.target =
        λ i. move_edit (path_is i) to >>= λ edit. Ok (replied (put_status (taken_is i)) content.Empty (Some edit)) in
        sym plans ∙ is
    success_same asked.Delete shaped shown result is = sym (ap delete_plan path_is) ∙ is
    success_same asked.Mkcol shaped shown result is =
        let plans : mkcol_plan a.caller a.target.path ≡ mkcol_plan b.caller b.target.path = λ i. mkcol_plan (caller_is i) (path_is i) in
        sym plans ∙ is
    success_same (asked.Report which) shaped shown result is = subst (λ q. IsReportOf p circle which q result) path_is (report_same which a.target.path result is)

    done_same : IsShaped a.asked → (reads_target (method_of a.asked) ≡ true → a.target.node ≡ b.target.node) → (c : Result (Unit {0}) Refusal) (result : Result Plan Refusal)
        → IsDone o circle a c result → IsDone p circle b c result
    done_same shaped shown (Err e) result is = is
    done_same shaped shown (Ok u) result is = subst (λ what. IsSuccessOf p circle what b.caller b.target result) asked_is (success_same a.asked shaped shown result is)

    pub granted_plan_same : outline o ≡ outline p → IsShaped a.asked → (reads_target (method_of a.asked) ≡ true → a.target.node ≡ b.target.node)
        → (result : Result Plan Refusal) → IsGrantedPlan o circle a result → IsGrantedPlan p circle b result
    granted_plan_same same shaped shown result is =
        let limits = limits_same o p same in
        let answers : IsBodyAnswer p b.asked b.target.path is.0 =
        subst (λ q. IsBodyAnswer p b.asked q is.0) path_is (subst (λ what. IsBodyAnswer p what a.target.path is.0) asked_is (body_answer_same o p same a.asked a.target.path is.0 is.1)) in
        let checks : body_then_limits o a is.0 ≡ body_then_limits p b is.0 = λ i. is.0 >>= λ _. limits i in
        (is.0, answers, done_same shaped shown (body_then_limits p b is.0) result (subst (λ c. IsDone o circle a c result) checks is.2))

-- ---- the caller of a request that has passed is the one that it names
caller_named : (o : Office) (name : Option (List ℕ)) (caller : Caller) → caller_of o name ≡ Ok caller → caller ≡ named name
caller_named o None caller e = cc
caller_named o (Some name) caller e =
    elim (is_some (get o.persons name)) as (λ there. (if there then Ok (Known (person_path name)) else Err UnknownCaller) ≡ Ok caller → caller ≡ Known (person_path name)) [
      | true ↦ λ h. cc
      | false ↦ λ h. absurd cc
    ] e

abbrev then_destination : Office → Caller → Asked → Target → Result Ready Refusal
then_destination o caller what target =
    destination_of o (destination_in what) >>= λ found. Ok (record { caller = caller; asked = what; target = record target { replaces = found } })

abbrev then_suited : Office → Caller → Asked → Target → Result Ready Refusal
then_suited o caller what target = suits_target what target >>= λ _. then_destination o caller what target

abbrev then_target : Office → Request → Caller → Asked → Result Ready Refusal
then_target o request caller what = target_of o request.method request.path >>= then_suited o caller what

abbrev then_asked : Office → Request → Caller → Result Ready Refusal
then_asked o request caller = asked_of request.method request >>= then_target o request caller

pub ready_named : (o : Office) (name : Option (List ℕ)) (request : Request) (ready : Ready) → ready_of o name request ≡ Ok ready → ready.caller ≡ named name
ready_named o name request ready is =
    let a = bind_ok (caller_of o name) (then_asked o request) ready is in
    let b = bind_ok (asked_of request.method request) (then_target o request a.0) ready a.2 in
    let c = bind_ok (target_of o request.method request.path) (then_suited o a.0 b.0) ready b.2 in
    let d = bind_ok (suits_target b.0 c.0) (λ _. then_destination o a.0 b.0 c.0) ready c.2 in
    let f = bind_ok (destination_of o (destination_in b.0)) _ ready d.2 in
    let made : record { caller = a.0; asked = b.0; target = record c.0 { replaces = f.0 } } ≡ ready = cc (f.2) in
    sym (ap (λ (r : Ready). r.caller) made) ∙ caller_named o name a.0 a.1

-- ---- plans
module _ (o p : Office) (name : Option (List ℕ)) (request : Request) (agree : Agree o p (named name)) where
  target_seen : (a b : Ready) → ready_of o name request ≡ Ok a → ready_of p name request ≡ Ok b → outline_of_ready a ≡ outline_of_ready b
      → MayRead o a.caller a.target.path → a.target.node ≡ b.target.node
  target_seen a b a_is b_is alike may =
      let where_a : a.target.node ≡ option_map unnumbered (node_at o a.target.path) = ready_is_target o request name a a_is in
      let where_b : b.target.node ≡ option_map unnumbered (node_at p b.target.path) = ready_is_target p request name b b_is in
      let may_named : MayRead o (named name) a.target.path = subst (λ c. MayRead o c a.target.path) (ready_named o name request a a_is) may in
      where_a
      ∙ ap (option_map unnumbered) (node_same o p agree.outlines a.target.path (λ b' c' is. agree.readable b' c' (subst (MayRead o (named name)) is may_named)))
      ∙ ap (λ q. option_map unnumbered (node_at p q)) (path_is a b alike)
      ∙ sym where_b

  -- for the circle of a request that has passed
  offices_alike : (a : Ready) → ready_of o name request ≡ Ok a → (granted : IsGranted o a) → AreAlike o p granted.circle
  offices_alike a a_is granted =
      alike_of o p (named name) agree granted.circle (subst (λ c. IsCircle o.pairs c granted.circle) (ready_named o name request a a_is) granted.is_circle)

  books_reported_alike : (a : Ready) → ready_of o name request ≡ Ok a → (granted : IsGranted o a) → AreReportedAlike o p granted.circle
  books_reported_alike a a_is granted =
      reports_alike o p (named name) agree granted.circle (subst (λ c. IsCircle o.pairs c granted.circle) (ready_named o name request a a_is) granted.is_circle)

  decided_same : (a b : Ready) → ready_of o name request ≡ Ok a → ready_of p name request ≡ Ok b → outline_of_ready a ≡ outline_of_ready b
      → (result : Result Plan Refusal) → IsDecided o a result → IsDecided p b result
  unfolding verdict_granted
  decided_same a b a_is b_is alike result (inl granted) = inl (
    verdict_granted a b alike o p agree.outlines granted.0,
    granted_plan_same a b alike o p granted.0.circle (offices_alike a a_is granted.0) (books_reported_alike a a_is granted.0) agree.outlines (ready_shaped o request name a a_is)
        (λ m. target_seen a b a_is b_is alike (reads o a m granted.0)) result granted.1,
  )
  decided_same a b a_is b_is alike result (inr denied) = inr (denied.0, verdict_denied a b alike o p agree.outlines denied.0 denied.1, denied.2)

  planned_same : (r s : Result Ready Refusal) → ready_of o name request ≡ r → ready_of p name request ≡ s → told_of outline_of_ready r ≡ told_of outline_of_ready s
      → (result : Result Plan Refusal) → IsPlannedFrom o r result → IsPlannedFrom p s result
  planned_same (Err e) (Err f) r_is s_is alike result h = h ∙ (let same : e ≡ f = cc (alike) in ap Err same)
  planned_same (Err e) (Ok b) r_is s_is alike result h = absurd (cc (alike))
  planned_same (Ok a) (Err f) r_is s_is alike result h = absurd (cc (alike))
  planned_same (Ok a) (Ok b) r_is s_is alike result h = decided_same a b r_is s_is (cc (alike)) result h

  -- from Offices that agree for its caller a request has one plan
  pub plan_same : (result : Result Plan Refusal) → IsPlan o name request result → IsPlan p name request result
  plan_same result h = planned_same (ready_of o name request) (ready_of p name request) refl refl (ready_same o p agree.outlines name request) result h
