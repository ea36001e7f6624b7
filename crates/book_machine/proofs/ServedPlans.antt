-- What the path stage lets through is served: a granted request with an accepted body within the limits has a plan.
use Rattle.book_machine.proofs.Common.{◌≡◌, ◌⊎◌, ℕ, ◌<◌, List, Bool, true, false, Option, Some, None, is_some, option_map, option_and_then, Result, Ok, Err, inl, inr, refl, sym, ap, ◌∙◌, subst, arith, get, same_Some, kind_of, Book, Office, Properties, StoredCard, Kind, Path, CircleOf, Caller, AreRulingsAt, Ruling, Find, node_of, node_at, unnumbered, properties_resource, card_resource, card_in, number_of, Edit, Node, Method, Report, goes_on, method_of, is_late, ◌>>=◌, at_unmapped, replied, text_of, put_edit, delete_edit, mkcol_edit, patch_edit, report_from, report_plan, sync_plan, AreMembersTold, IsListed, IsReportOf, IsSuccess, IsSuccessOf, copy_edit, move_edit, Asked, Destination, Content, ReportKind, Request, SyncRequest, Plan, Ready, Refusal, ValidSyncToken}
use Rattle.book_office_values.specs.declared.paths.Kind.TheVariants as kind
use Rattle.book_office_values.specs.Paths.{is_kind}
use Rattle.book_office_values.specs.declared.paths.Path.TheVariants as path
use Rattle.book_machine.proofs.FittingPlans.{Passed, answered, bind_ok, book_kind, is_taken, ready_at, same_Ok}
use Rattle.book_machine.proofs.ReportPlans.{reported_told}
use Rattle.book_machine.specs.Stages.{suits, put_status, report_suits, rulings_plan, AreNamesTold}
use Rattle.book_machine.specs.declared.asked.Asked.TheVariants as asked
use Rattle.book_machine.specs.declared.messages.Content.TheVariants as content
use Rattle.book_machine.specs.declared.messages.Patch.TheVariants as patch
use Rattle.book_machine.specs.declared.messages.ReportKind.TheVariants as report

-- ---- the kind of what is mapped
of_properties : (k : Kind) (found : Option Properties) (n : Node) → option_map node_of (option_map (properties_resource k 0) found) ≡ Some n → n.kind ≡ k
of_properties k None n e = absurd (cc (e))
of_properties k (Some x) n e = sym (ap (λ (m : Node). m.kind) (same_Some _ n e))

of_card : (number : ℕ) (found : Option StoredCard) (n : Node) → option_map node_of (option_map (card_resource number) found) ≡ Some n
    → (n.kind ≡ kind.Card) × ((text : List ℕ) × (n.text ≡ Some text))
of_card number None n e = absurd (cc (e))
of_card number (Some x) n e =
    let same = sym (same_Some _ n e) in
    (ap (λ (m : Node). m.kind) same, (x.text, ap (λ (m : Node). m.text) same))

in_book : (c : List ℕ) (found : Option Book) (n : Node) → option_map node_of (option_and_then (λ (book : Book). card_in book c) found) ≡ Some n
    → (n.kind ≡ kind.Card) × ((text : List ℕ) × (n.text ≡ Some text))
in_book c None n e = absurd (cc (e))
in_book c (Some book) n e = of_card (number_of book c) (get book.cards c) n e

kind_at : (o : Office) (p : Path) (n : Node) → node_at o p ≡ Some n → n.kind ≡ kind_of p
kind_at o path.Root n e = sym (ap (λ (m : Node). m.kind) (same_Some _ n e))
kind_at o path.People n e = sym (ap (λ (m : Node). m.kind) (same_Some _ n e))
kind_at o path.Groups n e = sym (ap (λ (m : Node). m.kind) (same_Some _ n e))
kind_at o path.Books n e = sym (ap (λ (m : Node). m.kind) (same_Some _ n e))
kind_at o (path.Person x) n e = of_properties kind.Person (get o.persons x) n e
kind_at o (path.Group x) n e = of_properties kind.Group (get o.groups x) n e
kind_at o (path.Book b) n e = book_kind (get o.books b) n e
kind_at o (path.Card b c) n e = (in_book c (get o.books b) n e).0

-- ---- what the path stage lets through
abbrev refused_then : Refusal → Unit {0} → Result (Unit {0}) Refusal
refused_then r _ = Err r

abbrev passes : Result (Unit {0}) Refusal
passes = Ok tt

then_refused : {A : Type 0} (m : Result (Unit {0}) Refusal) (r : Refusal) → (m >>= refused_then r) ≡ passes → A
then_refused (Ok u) r e = absurd (cc (e))
then_refused (Err x) r e = absurd (cc (e))

-- a plan that succeeds, or a refusal by the body
abbrev pub IsServed : Result Plan Refusal → Type 0
IsServed result = ((plan : Plan) × (result ≡ Ok plan) × (plan.reply.status < 300)) ⊎ ((refusal : Refusal) × (is_late refusal ≡ true) × (result ≡ Err refusal))

-- a success has a plan, but for a sync report by a token that is not valid
pub record Served (o : Office) (circle : CircleOf) (ready : Ready) : Type 0 where
  pub told : (result : Result Plan Refusal) → IsSuccess o circle ready result → IsServed result

at_once : (o : Office) (circle : CircleOf) (ready : Ready) (stage : Result Plan Refusal) (status : ℕ) (what : Content) (edit : Option Edit)
    → stage ≡ answered (replied status what edit) → status < 300 → ((result : Result Plan Refusal) → IsSuccess o circle ready result → stage ≡ result)
    → Served o circle ready
at_once o circle ready stage status what edit is low all = record { told = λ result h. inl (replied status what edit, sym (all result h) ∙ is, low) }

-- a listing of what is mapped
listed_told : (o : Office) (circle : CircleOf) (find : Find) (p : Path) (node : Option Node) (n : Node) (result : Result Plan Refusal)
    → node ≡ Some n → IsListed o circle find p node result → IsServed result
listed_told o circle find p None n result mapped h = absurd (cc (mapped))
listed_told o circle find p (Some node) n result mapped h = inl (replied 207 (content.Listing h.0) None, sym h.2, omega arith)

-- a sync report on a book
report_served : (report : Option Report) (result : Result Plan Refusal) → report_plan report ≡ result → IsServed result
report_served None result is = inr (ValidSyncToken, refl, sym is)
report_served (Some report) result is = inl (replied 207 (content.Synced report) None, sym is, omega arith)

sync_served : (o : Office) (circle : CircleOf) (asks : SyncRequest) (p : Path) (result : Result Plan Refusal) → is_kind kind.Book (kind_of p) ≡ true → sync_plan o circle asks p ≡ result → IsServed result
sync_served o circle asks path.Root result suited is = absurd (cc (suited))
sync_served o circle asks path.People result suited is = absurd (cc (suited))
sync_served o circle asks path.Groups result suited is = absurd (cc (suited))
sync_served o circle asks path.Books result suited is = absurd (cc (suited))
sync_served o circle asks (path.Person n) result suited is = absurd (cc (suited))
sync_served o circle asks (path.Group n) result suited is = absurd (cc (suited))
sync_served o circle asks (path.Book b) result suited is = report_served (report_from o circle b asks.limit asks.from) result is
sync_served o circle asks (path.Card b c) result suited is = absurd (cc (suited))

-- the members of a card
members_reported : (o : Office) (circle : CircleOf) (p : Path) (result : Result Plan Refusal) → is_kind kind.Card (kind_of p) ≡ true → AreMembersTold o circle p result → IsServed result
members_reported o circle path.Root result suited is = absurd (cc (suited))
members_reported o circle path.People result suited is = absurd (cc (suited))
members_reported o circle path.Groups result suited is = absurd (cc (suited))
members_reported o circle path.Books result suited is = absurd (cc (suited))
members_reported o circle (path.Person n) result suited is = absurd (cc (suited))
members_reported o circle (path.Group n) result suited is = absurd (cc (suited))
members_reported o circle (path.Book b) result suited is = absurd (cc (suited))
members_reported o circle (path.Card b c) result suited is = inl (replied 200 (content.Members b is.0) None, sym is.2, omega arith)

-- the names of a book's cards
names_reported : (o : Office) (circle : CircleOf) (p : Path) (result : Result Plan Refusal) → is_kind kind.Book (kind_of p) ≡ true → AreNamesTold o circle p result → IsServed result
names_reported o circle path.Root result suited is = absurd (cc (suited))
names_reported o circle path.People result suited is = absurd (cc (suited))
names_reported o circle path.Groups result suited is = absurd (cc (suited))
names_reported o circle path.Books result suited is = absurd (cc (suited))
names_reported o circle (path.Person n) result suited is = absurd (cc (suited))
names_reported o circle (path.Group n) result suited is = absurd (cc (suited))
names_reported o circle (path.Book b) result suited is = inl (replied 200 (content.Names b is.0) None, sym is.2, omega arith)
names_reported o circle (path.Card b c) result suited is = absurd (cc (suited))

-- what decides each leaf at what is mapped
rulings_reported : (o : Office) (circle : CircleOf) (p : Path) (n : Node) (found : Option (List Ruling)) (result : Result Plan Refusal)
    → node_at o p ≡ Some n → AreRulingsAt o circle p found → rulings_plan found ≡ result → IsServed result
rulings_reported o circle p n None result there none is = let clash = sym (ap (option_map node_of) none) ∙ there in absurd (cc (clash))
rulings_reported o circle p n (Some rulings) result there are is = inl (replied 200 (content.Rulings rulings) None, sym is, omega arith)

reported : (o : Office) (circle : CircleOf) (which : ReportKind) (p : Path) (n : Node) (result : Result Plan Refusal)
    → node_at o p ≡ Some n → report_suits which (kind_of p) ≡ true → IsReportOf o circle which p result → IsServed result
reported o circle (report.SyncCollection asks) p n result there suited is = sync_served o circle asks p result suited is
reported o circle report.GroupMembers p n result there suited is = members_reported o circle p result suited is
reported o circle (report.Effective caller) p n result there suited is =
    rulings_reported o is.circle p n is.rulings.rulings result there is.rulings.are is.rulings.is_told
reported o circle report.Names p n result there suited is = names_reported o circle p result suited is

put_low : (replaces : Bool) → put_status replaces < 300
put_low false = omega arith
put_low true = omega arith

module _ (o : Office) (circle : CircleOf) (caller : Caller) where
  -- a method goes on at a path where its stage for unmapped paths does, or by the kind of the path
  let_through : (m : Method) (p : Path) → (node_at o p ≡ None → at_unmapped o m p ≡ Ok tt) → ((n : Node) → node_at o p ≡ Some n → goes_on m n.kind ≡ true)
      → (at_unmapped o m p ≡ Ok tt) ⊎ ((n : Node) × (node_at o p ≡ Some n) × (goes_on m (kind_of p) ≡ true))
  let_through m p free there = go (node_at o p) refl
    where
      go : (r : Option Node) → node_at o p ≡ r → (at_unmapped o m p ≡ Ok tt) ⊎ ((n : Node) × (node_at o p ≡ Some n) × (goes_on m (kind_of p) ≡ true))
      go None is = inl (free is)
      go (Some n) is = inr (n, is, subst (λ k. goes_on m k ≡ true) (kind_at o p n is) (there n is))

  abbrev ServedAt : Asked → Path → Type 0
  ServedAt what p = (at_unmapped o (method_of what) p ≡ Ok tt) ⊎ ((n : Node) × (node_at o p ≡ Some n) × (goes_on (method_of what) (kind_of p) ≡ true)) → Served o circle (ready_at o p caller what)

  -- a card has a text
  text_there : (b c : List ℕ) (n : Node) → node_at o (path.Card b c) ≡ Some n → (text : List ℕ) × (text_of (option_map unnumbered (node_at o (path.Card b c))) ≡ Ok text)
  text_there b c n is =
      let card = (in_book c (get o.books b) n is).1 in
      (card.0, ap (λ r. text_of (option_map unnumbered r)) is ∙ ap (λ t. text_of (Some (record n { text = t }))) card.1)

  get_served : (p : Path) → ServedAt asked.Get p
  get_served p (inl free) = absurd (cc (free))
  get_served path.Root (inr there) = let h = there.2 in absurd (cc (h))
  get_served path.People (inr there) = let h = there.2 in absurd (cc (h))
  get_served path.Groups (inr there) = let h = there.2 in absurd (cc (h))
  get_served path.Books (inr there) = let h = there.2 in absurd (cc (h))
  get_served (path.Person n) (inr there) = let h = there.2 in absurd (cc (h))
  get_served (path.Group n) (inr there) = let h = there.2 in absurd (cc (h))
  get_served (path.Book b) (inr there) = let h = there.2 in absurd (cc (h))
  get_served (path.Card b c) (inr there) =
      let text = text_there b c there.0 there.1 in
      at_once o circle _ _ 200 _ None (ap (λ r. r >>= λ t. Ok (replied 200 (content.Card t) None)) text.1) (omega arith) (λ result h. h)

  head_served : (p : Path) → ServedAt asked.Head p
  head_served p (inl free) = absurd (cc (free))
  head_served path.Root (inr there) = let h = there.2 in absurd (cc (h))
  head_served path.People (inr there) = let h = there.2 in absurd (cc (h))
  head_served path.Groups (inr there) = let h = there.2 in absurd (cc (h))
  head_served path.Books (inr there) = let h = there.2 in absurd (cc (h))
  head_served (path.Person n) (inr there) = let h = there.2 in absurd (cc (h))
  head_served (path.Group n) (inr there) = let h = there.2 in absurd (cc (h))
  head_served (path.Book b) (inr there) = let h = there.2 in absurd (cc (h))
  head_served (path.Card b c) (inr there) =
      let text = text_there b c there.0 there.1 in
      at_once o circle _ _ 200 _ None (ap (λ r. r >>= λ t. Ok (replied 200 (content.Card t) None)) text.1) (omega arith) (λ result h. h)

  put_served : (text : List ℕ) (p : Path) → ServedAt (asked.Put text) p
  put_served text path.Root (inl free) = absurd (cc (free))
  put_served text path.Root (inr there) = let h = there.2 in absurd (cc (h))
  put_served text path.People (inl free) = absurd (cc (free))
  put_served text path.People (inr there) = let h = there.2 in absurd (cc (h))
  put_served text path.Groups (inl free) = absurd (cc (free))
  put_served text path.Groups (inr there) = let h = there.2 in absurd (cc (h))
  put_served text path.Books (inl free) = absurd (cc (free))
  put_served text path.Books (inr there) = let h = there.2 in absurd (cc (h))
  put_served text (path.Person n) (inl free) = absurd (cc (free))
  put_served text (path.Person n) (inr there) = let h = there.2 in absurd (cc (h))
  put_served text (path.Group n) (inl free) = absurd (cc (free))
  put_served text (path.Group n) (inr there) = let h = there.2 in absurd (cc (h))
  put_served text (path.Book b) (inl free) = absurd (cc (free))
  put_served text (path.Book b) (inr there) = let h = there.2 in absurd (cc (h))
  put_served text (path.Card b c) through = at_once o circle _ _ (put_status (is_some (option_map unnumbered (node_at o (path.Card b c))))) _ _ refl (put_low (is_some (option_map unnumbered (node_at o (path.Card b c))))) (λ result h. h)

  copy_served : (to : Destination) (p : Path) → ServedAt (asked.Copy to) p
  copy_served to p (inl free) = absurd (cc (free))
  copy_served to path.Root (inr there) = let h = there.2 in absurd (cc (h))
  copy_served to path.People (inr there) = let h = there.2 in absurd (cc (h))
  copy_served to path.Groups (inr there) = let h = there.2 in absurd (cc (h))
  copy_served to path.Books (inr there) = let h = there.2 in absurd (cc (h))
  copy_served to (path.Person n) (inr there) = let h = there.2 in absurd (cc (h))
  copy_served to (path.Group n) (inr there) = let h = there.2 in absurd (cc (h))
  copy_served to (path.Book b) (inr there) = let h = there.2 in absurd (cc (h))
  copy_served to (path.Card b c) (inr there) =
      at_once o circle _ _ (put_status (is_taken o (Some to))) _ _ refl (put_low (is_taken o (Some to))) (λ result h. h)

  move_served : (to : Destination) (p : Path) → ServedAt (asked.Move to) p
  move_served to p (inl free) = absurd (cc (free))
  move_served to path.Root (inr there) = let h = there.2 in absurd (cc (h))
  move_served to path.People (inr there) = let h = there.2 in absurd (cc (h))
  move_served to path.Groups (inr there) = let h = there.2 in absurd (cc (h))
  move_served to path.Books (inr there) = let h = there.2 in absurd (cc (h))
  move_served to (path.Person n) (inr there) = let h = there.2 in absurd (cc (h))
  move_served to (path.Group n) (inr there) = let h = there.2 in absurd (cc (h))
  move_served to (path.Book b) (inr there) = let h = there.2 in absurd (cc (h))
  move_served to (path.Card b c) (inr there) =
      at_once o circle _ _ (put_status (is_taken o (Some to))) _ _ refl (put_low (is_taken o (Some to))) (λ result h. h)

  delete_served : (p : Path) → ServedAt asked.Delete p
  delete_served p (inl free) = absurd (cc (free))
  delete_served path.Root (inr there) = let h = there.2 in absurd (cc (h))
  delete_served path.People (inr there) = let h = there.2 in absurd (cc (h))
  delete_served path.Groups (inr there) = let h = there.2 in absurd (cc (h))
  delete_served path.Books (inr there) = let h = there.2 in absurd (cc (h))
  delete_served (path.Person n) (inr there) = let h = there.2 in absurd (cc (h))
  delete_served (path.Group n) (inr there) = let h = there.2 in absurd (cc (h))
  delete_served (path.Book b) (inr there) = at_once o circle _ _ 204 _ _ refl (omega arith) (λ result h. h)
  delete_served (path.Card b c) (inr there) = at_once o circle _ _ 204 _ _ refl (omega arith) (λ result h. h)

  mkcol_served : (p : Path) → ServedAt asked.Mkcol p
  mkcol_served path.Root (inl free) = absurd (cc (free))
  mkcol_served path.Root (inr there) = let h = there.2 in absurd (cc (h))
  mkcol_served path.People (inl free) = absurd (cc (free))
  mkcol_served path.People (inr there) = let h = there.2 in absurd (cc (h))
  mkcol_served path.Groups (inl free) = absurd (cc (free))
  mkcol_served path.Groups (inr there) = let h = there.2 in absurd (cc (h))
  mkcol_served path.Books (inl free) = absurd (cc (free))
  mkcol_served path.Books (inr there) = let h = there.2 in absurd (cc (h))
  mkcol_served (path.Person n) (inl free) = absurd (cc (free))
  mkcol_served (path.Person n) (inr there) = let h = there.2 in absurd (cc (h))
  mkcol_served (path.Group n) (inl free) = absurd (cc (free))
  mkcol_served (path.Group n) (inr there) = let h = there.2 in absurd (cc (h))
  mkcol_served (path.Book b) through = at_once o circle _ _ 201 _ _ refl (omega arith) (λ result h. h)
  mkcol_served (path.Card b c) (inl free) = then_refused _ _ free
  mkcol_served (path.Card b c) (inr there) = let h = there.2 in absurd (cc (h))

  -- members are set at a group, to which the path stage has held them
  members_served : (members : List (List ℕ)) (p : Path) → suits (asked.Proppatch (patch.GroupMembers members)) (kind_of p) ≡ true → ServedAt (asked.Proppatch (patch.GroupMembers members)) p
  members_served members path.Root suited through = absurd (cc (suited))
  members_served members path.People suited through = absurd (cc (suited))
  members_served members path.Groups suited through = absurd (cc (suited))
  members_served members path.Books suited through = absurd (cc (suited))
  members_served members (path.Person n) suited through = absurd (cc (suited))
  members_served members (path.Group n) suited through = at_once o circle _ _ 200 _ _ refl (omega arith) (λ result h. h)
  members_served members (path.Book b) suited through = absurd (cc (suited))
  members_served members (path.Card b c) suited through = absurd (cc (suited))

  propfind_served : (find : Find) (p : Path) → ServedAt (asked.Propfind find) p
  propfind_served find p (inl free) = absurd (cc (free))
  propfind_served find p (inr there) = record { told = λ result h. listed_told o circle find p (option_map unnumbered (node_at o p)) (unnumbered there.0) result (ap (option_map unnumbered) there.1) h }

  report_at_served : (which : ReportKind) (p : Path) → report_suits which (kind_of p) ≡ true → ServedAt (asked.Report which) p
  report_at_served which p suited (inl free) = absurd (cc (free))
  report_at_served which p suited (inr there) = record { told = λ result h. reported o circle which p there.0 result there.1 suited h }

  served_at : (what : Asked) (p : Path) → suits what (kind_of p) ≡ true → ServedAt what p
  served_at asked.Get p suited = get_served p
  served_at asked.Head p suited = head_served p
  served_at asked.Options p suited = λ _. at_once o circle _ _ 200 _ None refl (omega arith) (λ result h. h)
  served_at (asked.Put text) p suited = put_served text p
  served_at (asked.Propfind find) p suited = propfind_served find p
  served_at (asked.Proppatch (patch.DisplayName label)) p suited = λ _. at_once o circle _ _ 200 _ _ refl (omega arith) (λ result h. h)
  served_at (asked.Proppatch (patch.GroupMembers members)) p suited = members_served members p suited
  served_at (asked.Acl list) p suited = λ _. at_once o circle _ _ 200 _ _ refl (omega arith) (λ result h. h)
  served_at (asked.Copy to) p suited = copy_served to p
  served_at (asked.Move to) p suited = move_served to p
  served_at asked.Delete p suited = delete_served p
  served_at asked.Mkcol p suited = mkcol_served p
  served_at (asked.Report which) p suited = report_at_served which p suited

pub served : (o : Office) (circle : CircleOf) (request : Request) (ready : Ready) → Passed o request ready → Served o circle ready
served o circle request ready past =
    subst (Served o circle) (sym past.is) (served_at o circle past.caller past.what past.at past.suited (let_through o circle past.caller (method_of past.what) past.at past.free past.there))

-- ---- any plan of a success
low_at_once : (status : ℕ) (what : Content) (edit : Option Edit) (plan : Plan) → answered (replied status what edit) ≡ Ok plan → status < 300 → plan.reply.status < 300
low_at_once status what edit plan is low = subst (λ (p : Plan). p.reply.status < 300) (same_Ok _ plan is) low

listed_low : (o : Office) (circle : CircleOf) (find : Find) (p : Path) (node : Option Node) (plan : Plan) → IsListed o circle find p node (Ok plan) → plan.reply.status < 300
listed_low o circle find p None plan is = absurd (cc (is))
listed_low o circle find p (Some node) plan is = low_at_once 207 _ _ plan is.2 (omega arith)

pub success_low : (o : Office) (circle : CircleOf) (what : Asked) (ready : Ready) (plan : Plan) → IsSuccessOf o circle what ready.caller ready.target (Ok plan) → plan.reply.status < 300
success_low o circle asked.Get ready plan is = let told = bind_ok (text_of ready.target.node) _ plan is in low_at_once 200 _ _ plan told.2 (omega arith)
success_low o circle asked.Head ready plan is = let told = bind_ok (text_of ready.target.node) _ plan is in low_at_once 200 _ _ plan told.2 (omega arith)
success_low o circle asked.Options ready plan is = low_at_once 200 _ _ plan is (omega arith)
success_low o circle (asked.Put text) ready plan is = let told = bind_ok (put_edit ready.caller text ready.target.path) _ plan is in low_at_once (put_status (is_some ready.target.node)) _ _ plan told.2 (put_low (is_some ready.target.node))
success_low o circle (asked.Propfind find) ready plan is = listed_low o circle find ready.target.path ready.target.node plan is
success_low o circle (asked.Proppatch patched) ready plan is = let told = bind_ok (patch_edit ready.target.path patched) _ plan is in low_at_once 200 _ _ plan told.2 (omega arith)
success_low o circle (asked.Acl list) ready plan is = low_at_once 200 _ _ plan is (omega arith)
success_low o circle (asked.Copy to) ready plan is = let told = bind_ok (copy_edit ready.caller ready.target.path to) _ plan is in low_at_once (put_status ready.target.replaces) _ _ plan told.2 (put_low ready.target.replaces)
success_low o circle (asked.Move to) ready plan is = let told = bind_ok (move_edit ready.target.path to) _ plan is in low_at_once (put_status ready.target.replaces) _ _ plan told.2 (put_low ready.target.replaces)
success_low o circle asked.Delete ready plan is = let told = bind_ok (delete_edit ready.target.path) _ plan is in low_at_once 204 _ _ plan told.2 (omega arith)
success_low o circle asked.Mkcol ready plan is = let told = bind_ok (mkcol_edit ready.caller ready.target.path) _ plan is in low_at_once 201 _ _ plan told.2 (omega arith)
success_low o circle (asked.Report which) ready plan is = let told = reported_told o circle which ready.target.path plan is in low_at_once told.status told.what None plan told.is told.low
