-- The edit of a plan fits the Office that it was made for.
use Rattle.book_machine.proofs.Common.{All, ◌≡◌, ◌≢◌, ℕ, ◌+◌, ◌<◌, ◌≤◌, List, length, Bool, true, false, ◌&&◌, ◌||◌, nat_lt, Option, Some, None, is_some, Result, Ok, Err, inl, inr, refl, sym, ap, ◌∙◌, subst, option_map, option_and_then, unwrap_or, arith, get, len, bytes_eq, bytes_eq-Decides, if◌then◌else◌, nat_le, same_Some, card_fault, CardFault, CircleOf, IsName, person_path, Caller, Nobody, Known, Kind, Path, kind_of, entries_of, group_path, Submitted, Edit, PutCard, RemoveCard, Node, Book, Office, MAX_CARDS, LAST_NUMBER, Resource, properties_resource, resource_at, node_of, node_at, unnumbered, count_at, book_resource, card_resource, card_in, number_of, IsMapped, IsSound, Fits, Find, Method, Get, Head, Options, Put, Propfind, Proppatch, Acl, Copy, Move, Delete, Mkcol, goes_on, asked_of, each_once, report_asked, method_of, destination_asked, copy_asked, move_asked, destination_in, destination_path, IsWellFormed, ◌>>=◌, check, caller_of, target_of, at_node, at_unmapped, suits_target, destination_of, ready_of, bad_card, IsBodyAnswer, can_change, can_change_twice, move_limits, label_limits, limits_of, replied, text_of, body_then_limits, IsListed, IsSuccess, IsDone, IsGrantedPlan, IsPlannedFrom, IsPlan, IsTarget, Asked, Destination, Content, Patch, Request, Plan, Ready, Target, Refusal, BadRequest, BodyOnMkcol, Full, UnknownCaller}
use Rattle.std.proofs.lemmas.Bool.Decides.{nat_tests}
use Rattle.std.proofs.lemmas.Bool.{and_parts, or_cases}
use Rattle.std.specs.Str.{IsUtf8}
use Rattle.book_office_values.specs.declared.paths.Kind.TheVariants as kind
use Rattle.book_office_values.specs.declared.paths.Path.TheVariants as path
use Rattle.book_office.proofs.FittingEdits.{put_card_fits, remove_card_fits, copy_card_fits, move_across_fits, move_within_fits, add_book_fits, remove_book_fits}
use Rattle.book_office.proofs.FittingSettings.{set_label_fits, set_list_fits, set_members_fits}
use Rattle.book_office.specs.declared.edits.Edit.TheVariants.{CopyCard, MoveCard}
use Rattle.book_limits.specs.declared.TheConstants.{MAX_MEMBERS, MAX_LABEL_BYTES, MAX_CARD_BYTES}
use Rattle.book_office.specs.Fitting.{HasRoom, HasNumberFor}
use Rattle.book_office.specs.Sound.{IsOwner}
use Rattle.book_office_listings.specs.declared.messages.Extent.{Extent}
use Rattle.book_office_listings.specs.declared.messages.Extent.TheVariants.{Resource as Alone, Children}
use Rattle.book_office_listings.specs.declared.messages.Property.{Property}
use Rattle.book_rights.specs.declared.methods.Method.TheVariants.{Report}
use Rattle.book_machine.proofs.AskedTexts.{AsksTexts, put_texts, proppatch_texts}
use Rattle.book_machine.proofs.BodyAnswers.{accepted_list}
use Rattle.book_machine.proofs.Outlines.{there_mapped}
use Rattle.book_machine.proofs.ReportPlans.{reported_told}
use Rattle.book_machine.specs.Asked.{put_asked, find_asked_to, find_asked, patch_asked, proppatch_asked, acl_asked, mkcol_asked, is_empty}
pub use Rattle.book_machine.proofs.DestinedCards.{IsDestined, answered, bind_ok, is_taken, same_Ok}
use Rattle.book_machine.proofs.DestinedCards.{IsAskedTo, asked_to, check_true, copied_to, destination_told, destined_at, moved_to, some_not_none}
use Rattle.book_machine.specs.Asking.{HasPath, HasTexts}
use Rattle.book_machine.specs.Finding.{find_of, may_be_asked, needed_for}
use Rattle.book_machine.specs.Stages.{suits, copy_limits, owner_of}
use Rattle.book_machine.specs.declared.asked.Asked.TheVariants as asked
use Rattle.book_machine.specs.declared.messages.Body.{Body}
use Rattle.book_machine.specs.declared.messages.Body.TheVariants as body
use Rattle.book_machine.specs.declared.messages.Depth.{Depth}
use Rattle.book_machine.specs.declared.messages.Depth.TheVariants as depth
use Rattle.book_machine.specs.declared.messages.Patch.TheVariants as patch
use Rattle.book_office_sync.proofs.ChangesAfter.{below}

-- ---- truth values

-- ---- the caller
caller_is_owner : (o : Office) (name : Option (List ℕ)) (caller : Caller) → caller_of o name ≡ Ok caller → IsOwner o (owner_of caller)
caller_is_owner o None caller e = subst (λ c. IsOwner o (owner_of c)) (same_Ok Nobody caller e) tt
caller_is_owner o (Some name) caller e =
    elim (is_some (get o.persons name)) as (λ there. is_some (get o.persons name) ≡ there → (if there then Ok (Known (person_path name)) else Err UnknownCaller) ≡ Ok caller → IsOwner o (owner_of caller)) [
      | true ↦ λ is h. subst (λ c. IsOwner o (owner_of c)) (same_Ok (Known (person_path name)) caller h) (inl (name, refl, some_not_none (get o.persons name) is))
      | false ↦ λ is h. absurd cc
    ] refl e

-- ---- the path
-- what the path stage lets through, where this is mapped
record GoesOn (o : Office) (m : Method) (p : Path) (node : Option Node) (t : Target) : Type 0 where
  is : t ≡ record { path = p; node = option_map unnumbered node; replaces = false }
  free : node ≡ None → at_unmapped o m p ≡ Ok tt
  there : (n : Node) → node ≡ Some n → goes_on m n.kind ≡ true

gone_on : (o : Office) (m : Method) (p : Path) (node : Option Node) (t : Target) → at_node o m p (option_map unnumbered node) ≡ Ok t → GoesOn o m p node t
gone_on o m p None t e =
    let answered = bind_ok (at_unmapped o m p) (λ _. Ok (record { path = p; node = None; replaces = false })) t e in
    record { is = sym (same_Ok _ t answered.2); free = λ _. answered.1; there = λ n none. absurd cc }
gone_on o m p (Some node) t e =
    let answered = bind_ok (check (goes_on m node.kind) _) (λ _. Ok (record { path = p; node = Some (unnumbered node); replaces = false })) t e in
    record { is = sym (same_Ok _ t answered.2); free = λ none. absurd cc; there = λ n same. cc (check_true _ _ answered.0 answered.1, same) }

-- ---- books and cards
-- a book whose number can rise
book_changes : (found : Option Book) → can_change (option_map node_of (option_map book_resource found)) ≡ true
    → (book : Book) × (found ≡ Some book) × (book.changes.number < LAST_NUMBER)
book_changes None e = absurd cc
book_changes (Some book) e = (book, refl, below _ _ e)

pub count_of_book : (o : Office) (b : List ℕ) (book : Book) → get o.books b ≡ Some book → count_at o (path.Book b) ≡ len book.cards
count_of_book o b book found = ap (λ x. unwrap_or (option_map (λ (book : Book). len book.cards) x) 0) found

pub node_of_card : (o : Office) (b c : List ℕ) (book : Book) → get o.books b ≡ Some book
    → node_at o (path.Card b c) ≡ option_map node_of (option_map (card_resource (number_of book c)) (get book.cards c))
node_of_card o b c book found = ap (λ x. option_map node_of (option_and_then (λ (book : Book). card_in book c) x)) found

mapped_card : (o : Office) (b c : List ℕ) (book : Book) → get o.books b ≡ Some book → is_some (node_at o (path.Card b c)) ≡ true → get book.cards c ≢ None
mapped_card o b c book found there none =
    let gone : is_some (node_at o (path.Card b c)) ≡ false =
    ap is_some (node_of_card o b c book found ∙ ap (λ x. option_map node_of (option_map (card_resource (number_of book c)) x)) none) in
    absurd (cc (sym there ∙ gone))

-- ---- the body
short : (n : ℕ) (fault : CardFault) (rest : Option CardFault) → (if nat_lt MAX_CARD_BYTES n then Some fault else rest) ≡ None → n ≤ MAX_CARD_BYTES
short n fault rest e = grind (arith, nat_tests)

faultless : (fault : Option CardFault) (u : Unit {0}) → bad_card fault ≡ Ok u → fault ≡ None
faultless None u e = refl
faultless (Some fault) u e = absurd cc

short_text : (text : List ℕ) (u : Unit {0}) → answered u ≡ bad_card (card_fault text) → length text ≤ MAX_CARD_BYTES
short_text text u e = short (length text) _ _ (faultless (card_fault text) u (sym e))

-- ---- each edit
-- limits that are kept
kept : (test : Bool) (u : Unit {0}) → check test Full ≡ Ok u → test ≡ true
kept test u e = check_true test Full u e

-- the limits of a card that is put: its book can change, and has room
room_at : (o : Office) (b c : List ℕ)
    → (can_change (node_at o (path.Book b)) && (is_some (node_at o (path.Card b c)) || nat_lt (count_at o (path.Book b)) MAX_CARDS)) ≡ true
    → (book : Book) × (get o.books b ≡ Some book) × (book.changes.number < LAST_NUMBER) × HasRoom book c
room_at o b c limits =
    let both = and_parts _ _ limits in
    let changes = book_changes (get o.books b) both.0 in
    let free : HasRoom changes.0 c = elim (or_cases (is_some (node_at o (path.Card b c))) _ both.1) [
      | inl there ↦ inl (mapped_card o b c changes.0 changes.1 there)
      | inr few ↦ inr (subst (λ n. n < MAX_CARDS) (count_of_book o b changes.0 changes.1) (below _ _ few))
    ] in
    (changes.0, changes.1, changes.2, free)

-- a book whose number can rise twice
book_changes_twice : (found : Option Book) → can_change_twice (option_map node_of (option_map book_resource found)) ≡ true
    → (book : Book) × (found ≡ Some book) × (book.changes.number + 1 < LAST_NUMBER)
book_changes_twice None e = absurd (cc (e))
book_changes_twice (Some book) e = (book, refl, below _ _ e)

-- a card that is there
card_of_node : (c : List ℕ) (found : Option Book) → is_some (option_map node_of (option_and_then (λ (book : Book). card_in book c) found)) ≡ true
    → option_and_then (λ (book : Book). get book.cards c) found ≢ None
card_of_node c None there none = absurd (cc (there))
card_of_node c (Some book) there none =
    let gone : is_some (option_map node_of (card_in book c)) ≡ false = ap (λ x. is_some (option_map node_of (option_map (card_resource (number_of book c)) x))) none in
    absurd (cc (sym there ∙ gone))

module _ (o : Office) (sound : IsSound o) where
  copy_fits : (b c : List ℕ) (to : Destination) (owner : Option (List ℕ)) (v : Unit {0}) → is_some (node_at o (path.Card b c)) ≡ true
      → IsDestined o (path.Card b c) (Some to) → IsOwner o owner
      → check (copy_limits o to (is_some (node_at o (destination_path to)))) Full ≡ Ok v
      → Fits o (CopyCard b c to.book to.card owner)
  copy_fits b c to owner v there destined owned limits =
      let room = room_at o to.book to.card (kept _ v limits) in
      copy_card_fits o b c to.book to.card owner room.0 sound (card_of_node c (get o.books b) there) room.1 destined.0 owned room.2 room.3

  move_fits : (b c : List ℕ) (to : Destination) (v : Unit {0}) → is_some (node_at o (path.Card b c)) ≡ true
      → IsDestined o (path.Card b c) (Some to)
      → check (move_limits o (path.Card b c) to (is_some (node_at o (destination_path to)))) Full ≡ Ok v
      → Fits o (MoveCard b c to.book to.card)
  move_fits b c to v there destined limits =
      elim (bytes_eq b to.book) as (λ same. bytes_eq b to.book ≡ same
      → (if same then can_change_twice (node_at o (path.Book b)) else can_change (node_at o (path.Book b)) && copy_limits o to (is_some (node_at o (destination_path to)))) ≡ true
      → Fits o (MoveCard b c to.book to.card)) [
        | true ↦ λ is h.
            let one : b ≡ to.book = (bytes_eq-Decides b to.book).0 is in
            let changes = book_changes_twice (get o.books b) h in
            let apart : c ≢ to.card = λ same. destined.2 (λ i. path.Card (one i) (same i)) in
            subst (λ x. Fits o (MoveCard b c x to.card)) one
            (move_within_fits o b c to.card changes.0 sound apart changes.1 (mapped_card o b c changes.0 changes.1 there) destined.0 changes.2)
        | false ↦ λ is h.
            let both = and_parts _ _ h in
            let source = book_changes (get o.books b) both.0 in
            let room = room_at o to.book to.card both.1 in
            let apart : b ≢ to.book = λ same. let yes = (bytes_eq-Decides b to.book).1 same in absurd (cc (sym is ∙ yes)) in
            move_across_fits o b c to.book to.card source.0 room.0 sound apart source.1 (mapped_card o b c source.0 source.1 there) room.1 destined.0 source.2 room.2 room.3
      ] refl (kept _ v limits)

  put_fits : (b c : List ℕ) (owner : Option (List ℕ)) (text : List ℕ) (u v : Unit {0}) → IsName c → IsOwner o owner
      → IsUtf8 text → answered u ≡ bad_card (card_fault text)
      → check (can_change (node_at o (path.Book b)) && (is_some (node_at o (path.Card b c)) || nat_lt (count_at o (path.Book b)) MAX_CARDS)) Full ≡ Ok v
      → Fits o (PutCard b c owner text)
  put_fits b c owner text u v named owned utf8 body limits =
      let room = room_at o b c (kept _ v limits) in
      put_card_fits o b c owner text room.0 sound room.1 named owned room.2 room.3 (record { utf8 = utf8; short = short_text text u body })

  remove_fits : (b c : List ℕ) (v : Unit {0}) → is_some (node_at o (path.Card b c)) ≡ true
      → check (can_change (node_at o (path.Book b))) Full ≡ Ok v → Fits o (RemoveCard b c)
  remove_fits b c v there limits =
      let changes = book_changes (get o.books b) (kept _ v limits) in
      remove_card_fits o b c changes.0 sound changes.1 (mapped_card o b c changes.0 changes.1 there) changes.2

mapped_book : (o : Office) (b : List ℕ) → is_some (node_at o (path.Book b)) ≡ true → get o.books b ≢ None
mapped_book o b there none =
    let gone : is_some (node_at o (path.Book b)) ≡ false = ap (λ x. is_some (option_map node_of (option_map book_resource x))) none in
    absurd (cc (sym there ∙ gone))

pub no_book : (node : Option Book) → option_map node_of (option_map book_resource node) ≡ None → node ≡ None
no_book None e = refl
no_book (Some book) e = absurd cc

is_there : {A : Type 0} (node : Option A) → (node ≡ None → ⊥) → is_some node ≡ true
is_there None there = absurd (there refl)
is_there (Some n) there = refl

pub is_free : {A : Type 0} (node : Option A) → ((n : A) → node ≡ Some n → ⊥) → node ≡ None
is_free None free = refl
is_free (Some n) free = absurd (free n refl)

-- what is asked is within its bounds
abbrev pub IsShaped : Asked → Type 0
IsShaped asked.Get = Unit {0}
IsShaped asked.Head = Unit {0}
IsShaped asked.Options = Unit {0}
IsShaped (asked.Put text) = Unit {0}
IsShaped (asked.Propfind find) = find.needed ≡ needed_for find.properties
IsShaped (asked.Proppatch (patch.DisplayName label)) = length label ≤ MAX_LABEL_BYTES
IsShaped (asked.Proppatch (patch.GroupMembers members)) = length members ≤ MAX_MEMBERS
IsShaped (asked.Acl list) = Unit {0}
IsShaped (asked.Copy to) = Unit {0}
IsShaped (asked.Move to) = Unit {0}
IsShaped asked.Delete = Unit {0}
IsShaped asked.Mkcol = Unit {0}
IsShaped (asked.Report which) = Unit {0}

-- what has passed the path stage at a path
abbrev pub ready_at : Office → Path → Caller → Asked → Ready
ready_at o p caller what = record { caller = caller; asked = what; target = record { path = p; node = option_map unnumbered (node_at o p); replaces = is_taken o (destination_in what) } }

pub record Passed (o : Office) (request : Request) (ready : Ready) : Type 0 where
  pub caller : Caller
  pub owned : IsOwner o (owner_of caller)
  pub what : Asked
  pub at : Path
  pub named : HasPath request.path → HasPath (Some at)
  pub free : node_at o at ≡ None → at_unmapped o (method_of what) at ≡ Ok tt
  pub there : (n : Node) → node_at o at ≡ Some n → goes_on (method_of what) n.kind ≡ true
  pub suited : suits what (kind_of at) ≡ true
  pub texts : HasTexts request.body → AsksTexts what
  pub shaped : IsShaped what
  pub destined : HasPath request.destination → IsDestined o at (destination_in what)
  pub is : ready ≡ ready_at o at caller what

-- the edit of a plan that is told at once
pub edit_told : (status : ℕ) (what : Content) (made : Option Edit) (plan : Plan) (edit : Edit)
    → answered (replied status what made) ≡ Ok plan → plan.edit ≡ Some edit → made ≡ Some edit
edit_told status what made plan edit is has = ap (λ (x : Plan). x.edit) (same_Ok _ plan is) ∙ has

-- a text that is told makes no edit
text_makes_none : (r : Result (List ℕ) Refusal) (status : ℕ) (what : List ℕ → Content) (plan : Plan) (edit : Edit)
    → (r >>= λ text. Ok (replied status (what text) None)) ≡ Ok plan → plan.edit ≡ Some edit → ⊥
text_makes_none (Ok text) status what plan edit is has = let h = edit_told status (what text) None plan edit is has in absurd (cc (h))
text_makes_none (Err e) status what plan edit is has = absurd (cc (is))

-- a listing makes no edit
listing_makes_none : (o : Office) (circle : CircleOf) (find : Find) (p : Path) (node : Option Node) (plan : Plan) (edit : Edit)
    → IsListed o circle find p node (Ok plan) → plan.edit ≡ Some edit → ⊥
listing_makes_none o circle find p None plan edit is has = absurd (cc (is))
listing_makes_none o circle find p (Some node) plan edit is has = let h = edit_told _ _ None plan edit is.2 has in absurd (cc (h))

-- MKCOL does not go on at a book that is there
mkcol_at_book : (k : Kind) → k ≡ kind.Book → goes_on Mkcol k ≡ true → ⊥
mkcol_at_book k is goes = let h : goes_on Mkcol kind.Book ≡ true = subst (λ x. goes_on Mkcol x ≡ true) is goes in absurd (cc (h))

pub book_kind : (found : Option Book) (n : Node) → option_map node_of (option_map book_resource found) ≡ Some n → n.kind ≡ kind.Book
book_kind None n e = absurd (cc (e))
book_kind (Some book) n e = sym (ap (λ (x : Node). x.kind) (same_Some _ n e))

pub no_mkcol_at : (o : Office) (b : List ℕ) (n : Node) → node_at o (path.Book b) ≡ Some n → goes_on Mkcol n.kind ≡ true → ⊥
no_mkcol_at o b n some goes = mkcol_at_book n.kind (book_kind (get o.books b) n some) goes

module _ (o : Office) (sound : IsSound o) (circle : CircleOf) (caller : Caller) (owned : IsOwner o (owner_of caller)) (u v : Unit {0}) (plan : Plan) (edit : Edit) (has : plan.edit ≡ Some edit) where
  abbrev Succeeds : Asked → Path → Type 0
  Succeeds what p = IsSuccess o circle (ready_at o p caller what) (Ok plan)

  put_plan_fits : (text : List ℕ) (p : Path) → HasPath (Some p) → IsUtf8 text → answered u ≡ bad_card (card_fault text)
      → limits_of o (asked.Put text) (ready_at o p caller (asked.Put text)).target ≡ Ok v → Succeeds (asked.Put text) p → Fits o edit
  put_plan_fits text path.Root named utf8 body limits is = absurd cc
  put_plan_fits text path.People named utf8 body limits is = absurd cc
  put_plan_fits text path.Groups named utf8 body limits is = absurd cc
  put_plan_fits text path.Books named utf8 body limits is = absurd cc
  put_plan_fits text (path.Person n) named utf8 body limits is = absurd cc
  put_plan_fits text (path.Group n) named utf8 body limits is = absurd cc
  put_plan_fits text (path.Book b) named utf8 body limits is = absurd cc
  put_plan_fits text (path.Card b c) named utf8 body limits is =
      subst (Fits o) (same_Some _ _ (edit_told _ _ _ plan edit is has)) (put_fits o sound b c (owner_of caller) text u v named.1 owned utf8 body
      (subst (λ mapped. check (can_change (node_at o (path.Book b)) && (mapped || nat_lt (count_at o (path.Book b)) MAX_CARDS)) Full ≡ Ok v) (there_mapped unnumbered (node_at o (path.Card b c))) limits))

  copy_plan_fits : (to : Destination) (p : Path) → (node_at o p ≡ None → at_unmapped o Copy p ≡ Ok tt) → IsDestined o p (Some to)
      → limits_of o (asked.Copy to) (ready_at o p caller (asked.Copy to)).target ≡ Ok v → Succeeds (asked.Copy to) p → Fits o edit
  copy_plan_fits to path.Root free destined limits is = absurd cc
  copy_plan_fits to path.People free destined limits is = absurd cc
  copy_plan_fits to path.Groups free destined limits is = absurd cc
  copy_plan_fits to path.Books free destined limits is = absurd cc
  copy_plan_fits to (path.Person n) free destined limits is = absurd cc
  copy_plan_fits to (path.Group n) free destined limits is = absurd cc
  copy_plan_fits to (path.Book b) free destined limits is = absurd cc
  copy_plan_fits to (path.Card b c) free destined limits is =
      let there = is_there (node_at o (path.Card b c)) (λ none. let h = free none in absurd cc) in
      subst (Fits o) (same_Some _ _ (edit_told _ _ _ plan edit is has)) (copy_fits o sound b c to (owner_of caller) v there destined owned limits)

  move_plan_fits : (to : Destination) (p : Path) → (node_at o p ≡ None → at_unmapped o Move p ≡ Ok tt) → IsDestined o p (Some to)
      → limits_of o (asked.Move to) (ready_at o p caller (asked.Move to)).target ≡ Ok v → Succeeds (asked.Move to) p → Fits o edit
  move_plan_fits to path.Root free destined limits is = absurd cc
  move_plan_fits to path.People free destined limits is = absurd cc
  move_plan_fits to path.Groups free destined limits is = absurd cc
  move_plan_fits to path.Books free destined limits is = absurd cc
  move_plan_fits to (path.Person n) free destined limits is = absurd cc
  move_plan_fits to (path.Group n) free destined limits is = absurd cc
  move_plan_fits to (path.Book b) free destined limits is = absurd cc
  move_plan_fits to (path.Card b c) free destined limits is =
      let there = is_there (node_at o (path.Card b c)) (λ none. let h = free none in absurd cc) in
      subst (Fits o) (same_Some _ _ (edit_told _ _ _ plan edit is has)) (move_fits o sound b c to v there destined limits)

  delete_plan_fits : (p : Path) → (node_at o p ≡ None → at_unmapped o Delete p ≡ Ok tt)
      → limits_of o asked.Delete (ready_at o p caller asked.Delete).target ≡ Ok v → Succeeds asked.Delete p → Fits o edit
  delete_plan_fits path.Root free limits is = absurd cc
  delete_plan_fits path.People free limits is = absurd cc
  delete_plan_fits path.Groups free limits is = absurd cc
  delete_plan_fits path.Books free limits is = absurd cc
  delete_plan_fits (path.Person n) free limits is = absurd cc
  delete_plan_fits (path.Group n) free limits is = absurd cc
  delete_plan_fits (path.Book b) free limits is =
      let there = is_there (node_at o (path.Book b)) (λ none. let h = free none in absurd cc) in
      subst (Fits o) (same_Some _ _ (edit_told _ _ _ plan edit is has)) (remove_book_fits o b sound (mapped_book o b there) (below _ _ (kept _ v limits)))
  delete_plan_fits (path.Card b c) free limits is =
      let there = is_there (node_at o (path.Card b c)) (λ none. let h = free none in absurd cc) in
      subst (Fits o) (same_Some _ _ (edit_told _ _ _ plan edit is has)) (remove_fits o sound b c v there limits)

  mkcol_plan_fits : (p : Path) → HasPath (Some p) → ((n : Node) → node_at o p ≡ Some n → goes_on Mkcol n.kind ≡ true)
      → limits_of o asked.Mkcol (ready_at o p caller asked.Mkcol).target ≡ Ok v → Succeeds asked.Mkcol p → Fits o edit
  mkcol_plan_fits path.Root named there limits is = absurd cc
  mkcol_plan_fits path.People named there limits is = absurd cc
  mkcol_plan_fits path.Groups named there limits is = absurd cc
  mkcol_plan_fits path.Books named there limits is = absurd cc
  mkcol_plan_fits (path.Person n) named there limits is = absurd cc
  mkcol_plan_fits (path.Group n) named there limits is = absurd cc
  mkcol_plan_fits (path.Card b c) named there limits is = absurd cc
  mkcol_plan_fits (path.Book b) named there limits is =
      let none = no_book (get o.books b) (is_free (node_at o (path.Book b)) (λ n some. no_mkcol_at o b n some (there n some))) in
      subst (Fits o) (same_Some _ _ (edit_told _ _ _ plan edit is has)) (add_book_fits o b (owner_of caller) sound none named owned (below _ _ (kept _ v limits)))

  -- a resource that is there
  resource_there : (p : Path) → is_some (node_at o p) ≡ true → resource_at o p ≢ None
  resource_there p there none = let gone : is_some (node_at o p) ≡ false = ap (λ (r : Option Resource). is_some (option_map node_of r)) none in absurd (cc (sym there ∙ gone))

  number_for : (p : Path) → check (label_limits o p) Full ≡ Ok v → HasNumberFor o p
  number_for path.Root limits = tt
  number_for path.People limits = tt
  number_for path.Groups limits = tt
  number_for path.Books limits = tt
  number_for (path.Person n) limits = tt
  number_for (path.Group n) limits = tt
  number_for (path.Book b) limits = tt
  number_for (path.Card b c) limits = λ book found.
      let changes = book_changes (get o.books b) (kept _ v limits) in
      let same : changes.0 ≡ book = same_Some _ _ (sym changes.1 ∙ found) in
      subst (λ (k : Book). k.changes.number < LAST_NUMBER) same changes.2

  label_plan_fits : (label : List ℕ) (p : Path) → (node_at o p ≡ None → at_unmapped o Proppatch p ≡ Ok tt) → IsUtf8 label → length label ≤ MAX_LABEL_BYTES
      → limits_of o (asked.Proppatch (patch.DisplayName label)) (ready_at o p caller (asked.Proppatch (patch.DisplayName label))).target ≡ Ok v
      → Succeeds (asked.Proppatch (patch.DisplayName label)) p → Fits o edit
  label_plan_fits label p free utf8 short limits is =
      let there = is_there (node_at o p) (λ none. let h = free none in absurd cc) in
      subst (Fits o) (same_Some _ _ (edit_told _ _ _ plan edit is has)) (set_label_fits o p label sound (resource_there p there) (record { utf8 = utf8; short = short }) (number_for p limits))

  -- a group that is there
  group_there : (n : List ℕ) → is_some (node_at o (path.Group n)) ≡ true → get o.groups n ≢ None
  group_there n there none =
      let gone : is_some (node_at o (path.Group n)) ≡ false = ap (λ r. is_some (option_map node_of (option_map (properties_resource kind.Group 0) r))) none in
      absurd (cc (sym there ∙ gone))

  members_plan_fits : (members : List (List ℕ)) (p : Path) → (node_at o p ≡ None → at_unmapped o Proppatch p ≡ Ok tt) → All (IsMapped o) members → length members ≤ MAX_MEMBERS
      → limits_of o (asked.Proppatch (patch.GroupMembers members)) (ready_at o p caller (asked.Proppatch (patch.GroupMembers members))).target ≡ Ok v
      → Succeeds (asked.Proppatch (patch.GroupMembers members)) p → Fits o edit
  members_plan_fits members path.Root free known few limits is = absurd cc
  members_plan_fits members path.People free known few limits is = absurd cc
  members_plan_fits members path.Groups free known few limits is = absurd cc
  members_plan_fits members path.Books free known few limits is = absurd cc
  members_plan_fits members (path.Person n) free known few limits is = absurd cc
  members_plan_fits members (path.Book b) free known few limits is = absurd cc
  members_plan_fits members (path.Card b c) free known few limits is = absurd cc
  members_plan_fits members (path.Group n) free known few limits is =
      let there = is_there (node_at o (path.Group n)) (λ none. let h = free none in absurd cc) in
      subst (Fits o) (same_Some _ _ (edit_told _ _ _ plan edit is has))
      (set_members_fits o (group_path n) members sound (n, refl, group_there n there) known few (below _ _ (kept _ v limits)))

  acl_plan_fits : (list : List Submitted) (p : Path) → (node_at o p ≡ None → at_unmapped o Acl p ≡ Ok tt) → IsBodyAnswer o (asked.Acl list) p (Ok u)
      → limits_of o (asked.Acl list) (ready_at o p caller (asked.Acl list)).target ≡ Ok v → Succeeds (asked.Acl list) p → Fits o edit
  acl_plan_fits list p free body limits is =
      let there = is_there (node_at o p) (λ none. let h = free none in absurd cc) in
      subst (Fits o) (same_Some _ _ (edit_told _ _ _ plan edit is has))
      (set_list_fits o p (entries_of list) sound (resource_there p there) (accepted_list o p list body) (below _ _ (kept _ v limits)))

  pub plan_at_fits : (what : Asked) (p : Path) → HasPath (Some p) → AsksTexts what → IsShaped what → IsDestined o p (destination_in what) → (node_at o p ≡ None → at_unmapped o (method_of what) p ≡ Ok tt)
      → ((n : Node) → node_at o p ≡ Some n → goes_on (method_of what) n.kind ≡ true)
      → IsBodyAnswer o what p (Ok u) → limits_of o what (ready_at o p caller what).target ≡ Ok v → Succeeds what p → Fits o edit
  plan_at_fits asked.Get p named texts shaped destined free there body limits is = absurd (text_makes_none (text_of (option_map unnumbered (node_at o p))) _ _ plan edit is has)
  plan_at_fits asked.Head p named texts shaped destined free there body limits is = absurd (text_makes_none (text_of (option_map unnumbered (node_at o p))) _ _ plan edit is has)
  plan_at_fits asked.Options p named texts shaped destined free there body limits is = let h = edit_told _ _ None plan edit is has in absurd (cc (h))
  plan_at_fits (asked.Put text) p named texts shaped destined free there body limits is = put_plan_fits text p named texts body limits is
  plan_at_fits (asked.Propfind find) p named texts shaped destined free there body limits is = absurd (listing_makes_none o circle find p (option_map unnumbered (node_at o p)) plan edit is has)
  plan_at_fits (asked.Proppatch (patch.DisplayName label)) p named texts shaped destined free there body limits is = label_plan_fits label p free texts shaped limits is
  plan_at_fits (asked.Proppatch (patch.GroupMembers members)) p named texts shaped destined free there body limits is = members_plan_fits members p free body shaped limits is
  plan_at_fits (asked.Acl list) p named texts shaped destined free there body limits is = acl_plan_fits list p free body limits is
  plan_at_fits (asked.Copy to) p named texts shaped destined free there body limits is = copy_plan_fits to p free destined limits is
  plan_at_fits (asked.Move to) p named texts shaped destined free there body limits is = move_plan_fits to p free destined limits is
  plan_at_fits asked.Delete p named texts shaped destined free there body limits is = delete_plan_fits p free limits is
  plan_at_fits asked.Mkcol p named texts shaped destined free there body limits is = mkcol_plan_fits p named there limits is
  plan_at_fits (asked.Report which) p named texts shaped destined free there body limits is =
      let told = reported_told o circle which p plan is in
      let h = edit_told told.status told.what None plan edit told.is has in absurd (cc (h))

-- ---- the whole plan
-- what the path stage lets through has a path
at_path : (o : Office) (m : Method) (p : Option Path) (t : Target) → target_of o m p ≡ Ok t → (q : Path) × (p ≡ Some q) × GoesOn o m q (node_at o q) t
at_path o m None t e = absurd cc
at_path o m (Some p) t e = (p, refl, gone_on o m p (node_at o p) t e)

target_is : (o : Office) (m : Method) (p : Option Path) (t : Target) → target_of o m p ≡ Ok t → IsTarget o t
target_is o m None t e = absurd cc
target_is o m (Some p) t e = let going = gone_on o m p (node_at o p) t e in subst (IsTarget o) (sym going.is) refl

path_asked : (o : Office) (m : Method) (p : Option Path) (t : Target) → target_of o m p ≡ Ok t → p ≡ Some t.path
path_asked o m None t e = absurd cc
path_asked o m (Some p) t e = let going = gone_on o m p (node_at o p) t e in ap (λ (x : Target). Some x.path) (sym going.is)

planned_ready : (o : Office) (r : Result Ready Refusal) (p : Plan) → IsPlannedFrom o r (Ok p)
    → (ready : Ready) × (circle : CircleOf) × (r ≡ Ok ready) × IsGrantedPlan o circle ready (Ok p)
planned_ready o (Err refusal) p is = absurd cc
planned_ready o (Ok ready) p (inl granted) = (ready, granted.0.circle, refl, granted.1)
planned_ready o (Ok ready) p (inr denied) = let h = denied.2 in absurd (cc (h))

-- what is asked is asked by the request's method
pub asked_by : (m : Method) (r : Request) (what : Asked) → asked_of m r ≡ Ok what → method_of what ≡ m
asked_by Get r what e = sym (ap method_of (same_Ok _ what e))
asked_by Head r what e = sym (ap method_of (same_Ok _ what e))
asked_by Options r what e = sym (ap method_of (same_Ok _ what e))
asked_by Put r what e = by_put r.body e
  where
    by_put : (b : Body) → put_asked b ≡ Ok what → method_of what ≡ Put
    by_put body.Empty e = sym (ap method_of (same_Ok _ what e))
    by_put (body.Text text) e = sym (ap method_of (same_Ok _ what e))
    by_put (body.Find properties) e = absurd (cc (e))
    by_put (body.Patch p) e = absurd (cc (e))
    by_put (body.List list) e = absurd (cc (e))
    by_put (body.Report report) e = absurd (cc (e))
    by_put body.Unread e = absurd (cc (e))
asked_by Propfind r what e = by_depth r.depth e
  where
    by_bound : (may : Bool) (find : Find) → (if may then Ok (asked.Propfind find) else Err BadRequest) ≡ Ok what → method_of what ≡ Propfind
    by_bound true find e = sym (ap method_of (same_Ok _ what e))
    by_bound false find e = absurd (cc (e))

    by_body : (extent : Extent) (b : Body) → find_asked_to extent b ≡ Ok what → method_of what ≡ Propfind
    by_body extent body.Empty e = sym (ap method_of (same_Ok _ what e))
    by_body extent (body.Text text) e = absurd (cc (e))
    by_body extent (body.Find properties) e = by_bound (may_be_asked properties) (find_of extent properties) e
    by_body extent (body.Patch p) e = absurd (cc (e))
    by_body extent (body.List list) e = absurd (cc (e))
    by_body extent (body.Report report) e = absurd (cc (e))
    by_body extent body.Unread e = absurd (cc (e))

    by_depth : (d : Depth) → find_asked d r.body ≡ Ok what → method_of what ≡ Propfind
    by_depth depth.Zero e = by_body Alone r.body e
    by_depth depth.One e = by_body Children r.body e
    by_depth depth.Unread e = absurd (cc (e))
asked_by Proppatch r what e = by_proppatch r.body e
  where
    by_label : (short : Bool) (p : Patch) → (if short then Ok (asked.Proppatch p) else Err BadRequest) ≡ Ok what → method_of what ≡ Proppatch
    by_label true p e = sym (ap method_of (same_Ok _ what e))
    by_label false p e = absurd (cc (e))

    by_patch : (p : Patch) → patch_asked p ≡ Ok what → method_of what ≡ Proppatch
    by_patch (patch.DisplayName label) e = by_label (nat_le (length label) MAX_LABEL_BYTES) (patch.DisplayName label) e
    by_patch (patch.GroupMembers members) e = by_label (nat_le (length (each_once members)) MAX_MEMBERS) (patch.GroupMembers (each_once members)) e

    by_proppatch : (b : Body) → proppatch_asked b ≡ Ok what → method_of what ≡ Proppatch
    by_proppatch body.Empty e = absurd (cc (e))
    by_proppatch (body.Text text) e = absurd (cc (e))
    by_proppatch (body.Find properties) e = absurd (cc (e))
    by_proppatch (body.Patch p) e = by_patch p e
    by_proppatch (body.List list) e = absurd (cc (e))
    by_proppatch (body.Report report) e = absurd (cc (e))
    by_proppatch body.Unread e = absurd (cc (e))
asked_by Acl r what e = by_acl r.body e
  where
    by_acl : (b : Body) → acl_asked b ≡ Ok what → method_of what ≡ Acl
    by_acl body.Empty e = absurd (cc (e))
    by_acl (body.Text text) e = absurd (cc (e))
    by_acl (body.Find properties) e = absurd (cc (e))
    by_acl (body.Patch p) e = absurd (cc (e))
    by_acl (body.List list) e = sym (ap method_of (same_Ok _ what e))
    by_acl (body.Report report) e = absurd (cc (e))
    by_acl body.Unread e = absurd (cc (e))
asked_by Copy r what e = by_destination (destination_asked r.path r.overwrite r.destination) e
  where
    by_destination : (to : Result Destination Refusal) → copy_asked to ≡ Ok what → method_of what ≡ Copy
    by_destination (Ok to) e = sym (ap method_of (same_Ok _ what e))
    by_destination (Err refusal) e = absurd (cc (e))
asked_by Move r what e = by_destination (destination_asked r.path r.overwrite r.destination) e
  where
    by_destination : (to : Result Destination Refusal) → move_asked to ≡ Ok what → method_of what ≡ Move
    by_destination (Ok to) e = sym (ap method_of (same_Ok _ what e))
    by_destination (Err refusal) e = absurd (cc (e))
asked_by Delete r what e = sym (ap method_of (same_Ok _ what e))
asked_by Mkcol r what e = by_mkcol r.body e
  where
    by_text : (empty : Bool) → (if empty then Ok asked.Mkcol else Err BodyOnMkcol) ≡ Ok what → method_of what ≡ Mkcol
    by_text true e = sym (ap method_of (same_Ok _ what e))
    by_text false e = absurd (cc (e))

    by_mkcol : (b : Body) → mkcol_asked b ≡ Ok what → method_of what ≡ Mkcol
    by_mkcol body.Empty e = sym (ap method_of (same_Ok _ what e))
    by_mkcol (body.Text text) e = by_text (is_empty text) e
    by_mkcol (body.Find properties) e = absurd (cc (e))
    by_mkcol (body.Patch p) e = absurd (cc (e))
    by_mkcol (body.List list) e = absurd (cc (e))
    by_mkcol (body.Report report) e = absurd (cc (e))
    by_mkcol body.Unread e = absurd (cc (e))
asked_by Report r what e = by_report r.body e
  where
    by_report : (b : Body) → report_asked b ≡ Ok what → method_of what ≡ Report
    by_report body.Empty e = absurd (cc (e))
    by_report (body.Text text) e = absurd (cc (e))
    by_report (body.Find properties) e = absurd (cc (e))
    by_report (body.Patch p) e = absurd (cc (e))
    by_report (body.List list) e = absurd (cc (e))
    by_report (body.Report which) e = sym (ap method_of (same_Ok _ what e))
    by_report body.Unread e = absurd (cc (e))

-- what is asked is within its bounds
asked_shaped : (m : Method) (r : Request) (what : Asked) → asked_of m r ≡ Ok what → IsShaped what
asked_shaped Get r what e = subst IsShaped (same_Ok _ what e) tt
asked_shaped Head r what e = subst IsShaped (same_Ok _ what e) tt
asked_shaped Options r what e = subst IsShaped (same_Ok _ what e) tt
asked_shaped Put r what e = by_put r.body e
  where
    by_put : (b : Body) → put_asked b ≡ Ok what → IsShaped what
    by_put body.Empty e = subst IsShaped (same_Ok _ what e) tt
    by_put (body.Text text) e = subst IsShaped (same_Ok _ what e) tt
    by_put (body.Find properties) e = absurd (cc (e))
    by_put (body.Patch p) e = absurd (cc (e))
    by_put (body.List list) e = absurd (cc (e))
    by_put (body.Report report) e = absurd (cc (e))
    by_put body.Unread e = absurd (cc (e))
asked_shaped Propfind r what e = by_depth r.depth e
  where
    by_bound : (may : Bool) (extent : Extent) (properties : List Property)
        → (if may then Ok (asked.Propfind (find_of extent properties)) else Err BadRequest) ≡ Ok what → IsShaped what
    by_bound true extent properties e = subst IsShaped (same_Ok _ what e) refl
    by_bound false extent properties e = absurd (cc (e))

    by_body : (extent : Extent) (b : Body) → find_asked_to extent b ≡ Ok what → IsShaped what
    by_body extent body.Empty e = subst IsShaped (same_Ok _ what e) refl
    by_body extent (body.Text text) e = absurd (cc (e))
    by_body extent (body.Find properties) e = by_bound (may_be_asked properties) extent properties e
    by_body extent (body.Patch p) e = absurd (cc (e))
    by_body extent (body.List list) e = absurd (cc (e))
    by_body extent (body.Report report) e = absurd (cc (e))
    by_body extent body.Unread e = absurd (cc (e))

    by_depth : (d : Depth) → find_asked d r.body ≡ Ok what → IsShaped what
    by_depth depth.Zero e = by_body Alone r.body e
    by_depth depth.One e = by_body Children r.body e
    by_depth depth.Unread e = absurd (cc (e))
asked_shaped Proppatch r what e = by_proppatch r.body e
  where
    by_bound : (n most : ℕ) (p : Patch) → (n ≤ most → IsShaped (asked.Proppatch p)) → (if nat_le n most then Ok (asked.Proppatch p) else Err BadRequest) ≡ Ok what → IsShaped what
    by_bound n most p shaped e =
        elim (nat_le n most) as (λ low. nat_le n most ≡ low → (if low then Ok (asked.Proppatch p) else Err BadRequest) ≡ Ok what → IsShaped what) [
          | true ↦ λ low h. subst IsShaped (same_Ok _ what h) (shaped (grind (arith, nat_tests)))
          | false ↦ λ low h. absurd (cc (h))
        ] refl e

    by_patch : (p : Patch) → patch_asked p ≡ Ok what → IsShaped what
    by_patch (patch.DisplayName label) e = by_bound (length label) MAX_LABEL_BYTES (patch.DisplayName label) (λ low. low) e
    by_patch (patch.GroupMembers members) e = by_bound (length (each_once members)) MAX_MEMBERS (patch.GroupMembers (each_once members)) (λ low. low) e

    by_proppatch : (b : Body) → proppatch_asked b ≡ Ok what → IsShaped what
    by_proppatch body.Empty e = absurd (cc (e))
    by_proppatch (body.Text text) e = absurd (cc (e))
    by_proppatch (body.Find properties) e = absurd (cc (e))
    by_proppatch (body.Patch p) e = by_patch p e
    by_proppatch (body.List list) e = absurd (cc (e))
    by_proppatch (body.Report report) e = absurd (cc (e))
    by_proppatch body.Unread e = absurd (cc (e))
asked_shaped Acl r what e = by_acl r.body e
  where
    by_acl : (b : Body) → acl_asked b ≡ Ok what → IsShaped what
    by_acl body.Empty e = absurd (cc (e))
    by_acl (body.Text text) e = absurd (cc (e))
    by_acl (body.Find properties) e = absurd (cc (e))
    by_acl (body.Patch p) e = absurd (cc (e))
    by_acl (body.List list) e = subst IsShaped (same_Ok _ what e) tt
    by_acl (body.Report report) e = absurd (cc (e))
    by_acl body.Unread e = absurd (cc (e))
asked_shaped Copy r what e = by_destination (destination_asked r.path r.overwrite r.destination) e
  where
    by_destination : (to : Result Destination Refusal) → copy_asked to ≡ Ok what → IsShaped what
    by_destination (Ok to) e = subst IsShaped (same_Ok _ what e) tt
    by_destination (Err refusal) e = absurd (cc (e))
asked_shaped Move r what e = by_destination (destination_asked r.path r.overwrite r.destination) e
  where
    by_destination : (to : Result Destination Refusal) → move_asked to ≡ Ok what → IsShaped what
    by_destination (Ok to) e = subst IsShaped (same_Ok _ what e) tt
    by_destination (Err refusal) e = absurd (cc (e))
asked_shaped Delete r what e = subst IsShaped (same_Ok _ what e) tt
asked_shaped Mkcol r what e = by_mkcol r.body e
  where
    by_text : (empty : Bool) → (if empty then Ok asked.Mkcol else Err BodyOnMkcol) ≡ Ok what → IsShaped what
    by_text true e = subst IsShaped (same_Ok _ what e) tt
    by_text false e = absurd (cc (e))

    by_mkcol : (b : Body) → mkcol_asked b ≡ Ok what → IsShaped what
    by_mkcol body.Empty e = subst IsShaped (same_Ok _ what e) tt
    by_mkcol (body.Text text) e = by_text (is_empty text) e
    by_mkcol (body.Find properties) e = absurd (cc (e))
    by_mkcol (body.Patch p) e = absurd (cc (e))
    by_mkcol (body.List list) e = absurd (cc (e))
    by_mkcol (body.Report report) e = absurd (cc (e))
    by_mkcol body.Unread e = absurd (cc (e))
asked_shaped Report r what e = by_report r.body e
  where
    by_report : (b : Body) → report_asked b ≡ Ok what → IsShaped what
    by_report body.Empty e = absurd (cc (e))
    by_report (body.Text text) e = absurd (cc (e))
    by_report (body.Find properties) e = absurd (cc (e))
    by_report (body.Patch p) e = absurd (cc (e))
    by_report (body.List list) e = absurd (cc (e))
    by_report (body.Report which) e = subst IsShaped (same_Ok _ what e) tt
    by_report body.Unread e = absurd (cc (e))

-- the texts of what is asked are UTF-8
asked_texts : (m : Method) (r : Request) (what : Asked) → asked_of m r ≡ Ok what → HasTexts r.body → AsksTexts what
asked_texts m r asked.Get e has = tt
asked_texts m r asked.Head e has = tt
asked_texts m r asked.Options e has = tt
asked_texts m r (asked.Put text) e has =
    put_texts r.body (asked.Put text) (subst (λ x. asked_of x r ≡ Ok (asked.Put text)) (sym (asked_by m r (asked.Put text) e)) e) has
asked_texts m r (asked.Propfind find) e has = tt
asked_texts m r (asked.Proppatch p) e has =
    proppatch_texts r.body (asked.Proppatch p) (subst (λ x. asked_of x r ≡ Ok (asked.Proppatch p)) (sym (asked_by m r (asked.Proppatch p) e)) e) has
asked_texts m r (asked.Acl list) e has = tt
asked_texts m r (asked.Copy to) e has = tt
asked_texts m r (asked.Move to) e has = tt
asked_texts m r asked.Delete e has = tt
asked_texts m r asked.Mkcol e has = tt
asked_texts m r (asked.Report which) e has = tt

-- what is asked leads to another card
asked_destined : (m : Method) (r : Request) (what : Asked) → asked_of m r ≡ Ok what → HasPath r.destination → IsAskedTo r.path (destination_in what)
asked_destined m r asked.Get e named = tt
asked_destined m r asked.Head e named = tt
asked_destined m r asked.Options e named = tt
asked_destined m r (asked.Put text) e named = tt
asked_destined m r (asked.Propfind find) e named = tt
asked_destined m r (asked.Proppatch p) e named = tt
asked_destined m r (asked.Acl list) e named = tt
asked_destined m r (asked.Copy to) e named =
    let h : asked_of Copy r ≡ Ok (asked.Copy to) = subst (λ x. asked_of x r ≡ Ok (asked.Copy to)) (sym (asked_by m r (asked.Copy to) e)) e in
    asked_to r.path r.overwrite r.destination to (copied_to (destination_asked r.path r.overwrite r.destination) to h) named
asked_destined m r (asked.Move to) e named =
    let h : asked_of Move r ≡ Ok (asked.Move to) = subst (λ x. asked_of x r ≡ Ok (asked.Move to)) (sym (asked_by m r (asked.Move to) e)) e in
    asked_to r.path r.overwrite r.destination to (moved_to (destination_asked r.path r.overwrite r.destination) to h) named
asked_destined m r asked.Delete e named = tt
asked_destined m r asked.Mkcol e named = tt
asked_destined m r (asked.Report which) e named = tt

-- a plan is that of a success, after body and limits that have passed
done_ok : (o : Office) (circle : CircleOf) (ready : Ready) (c : Result (Unit {0}) Refusal) (plan : Plan)
    → IsDone o circle ready c (Ok plan) → (u : Unit {0}) × (c ≡ Ok u) × IsSuccess o circle ready (Ok plan)
done_ok o circle ready (Ok u) plan is = (u, refl, is)
done_ok o circle ready (Err e) plan is = absurd (cc (is))

-- the answers of the stages before the verdict
record Staged (o : Office) (request : Request) (name : Option (List ℕ)) (ready : Ready) : Type 0 where
  caller : Caller
  caller_is : caller_of o name ≡ Ok caller
  what : Asked
  what_is : asked_of request.method request ≡ Ok what
  target : Target
  target_at : target_of o request.method request.path ≡ Ok target
  fits_kind : Unit {0}
  suits_kind : suits_target what target ≡ Ok fits_kind
  found : Bool
  found_at : destination_of o (destination_in what) ≡ Ok found
  made : record { caller = caller; asked = what; target = record target { replaces = found } } ≡ ready

module _ (o : Office) (request : Request) where
  abbrev to_ready : Caller → Asked → Target → Bool → Result Ready Refusal
  to_ready caller what target found = Ok (record { caller = caller; asked = what; target = record target { replaces = found } })

  abbrev to_destination : Caller → Asked → Target → Result Ready Refusal
  to_destination caller what target = destination_of o (destination_in what) >>= to_ready caller what target

  abbrev to_suited : Caller → Asked → Target → Result Ready Refusal
  to_suited caller what target = suits_target what target >>= λ _. to_destination caller what target

  abbrev to_target : Caller → Asked → Result Ready Refusal
  to_target caller what = target_of o request.method request.path >>= to_suited caller what

  abbrev to_asked : Caller → Result Ready Refusal
  to_asked caller = asked_of request.method request >>= to_target caller

  abbrev to_limits : Ready → Unit {0} → Result (Unit {0}) Refusal
  to_limits ready _ = limits_of o ready.asked ready.target

  staged : (name : Option (List ℕ)) (ready : Ready) → ready_of o name request ≡ Ok ready → Staged o request name ready
  staged name ready is =
      let a = bind_ok (caller_of o name) to_asked ready is in
      let b = bind_ok (asked_of request.method request) (to_target a.0) ready a.2 in
      let c = bind_ok (target_of o request.method request.path) (to_suited a.0 b.0) ready b.2 in
      let d = bind_ok (suits_target b.0 c.0) (λ _. to_destination a.0 b.0 c.0) ready c.2 in
      let f = bind_ok (destination_of o (destination_in b.0)) (to_ready a.0 b.0 c.0) ready d.2 in
      record {
        caller = a.0;
        caller_is = a.1;
        what = b.0;
        what_is = b.1;
        target = c.0;
        target_at = c.1;
        fits_kind = d.0;
        suits_kind = d.1;
        found = f.0;
        found_at = f.1;
        made = same_Ok _ ready f.2;
      }

  -- what has passed the stages before the verdict
  pub passed : (name : Option (List ℕ)) (ready : Ready) → ready_of o name request ≡ Ok ready → Passed o request ready
  passed name ready is =
      let s = staged name ready is in
      let at = at_path o request.method request.path s.target s.target_at in
      let by = asked_by request.method request s.what s.what_is in
      let found_is = destination_told o (destination_in s.what) s.found s.found_at in
      record {
        caller = s.caller;
        owned = caller_is_owner o name s.caller s.caller_is;
        what = s.what;
        at = at.0;
        named = subst HasPath at.1;
        free = λ none. ap (λ m. at_unmapped o m at.0) by ∙ at.2.free none;
        there = λ n some. ap (λ m. goes_on m n.kind) by ∙ at.2.there n some;
        suited = ap (λ (t : Target). suits s.what (kind_of t.path)) (sym at.2.is) ∙ check_true _ _ s.fits_kind s.suits_kind;
        texts = asked_texts request.method request s.what s.what_is;
        shaped = asked_shaped request.method request s.what s.what_is;
        destined = λ named.
            destined_at o request.path at.0 (destination_in s.what) s.found at.1 (asked_destined request.method request s.what s.what_is named) s.found_at;
        is = sym s.made ∙ (λ i. record { caller = s.caller; asked = s.what; target = record (at.2.is i) { replaces = found_is i } });
      }

  -- what a request that has passed asks is within its bounds
  pub ready_shaped : (name : Option (List ℕ)) (ready : Ready) → ready_of o name request ≡ Ok ready → IsShaped ready.asked
  ready_shaped name ready is = let past = passed name ready is in subst (λ (x : Ready). IsShaped x.asked) (sym past.is) past.shaped

  -- a request that has passed is asked by its method
  pub asked_by_request : (name : Option (List ℕ)) (ready : Ready) → ready_of o name request ≡ Ok ready → method_of ready.asked ≡ request.method
  asked_by_request name ready is =
      let s = staged name ready is in
      ap (λ (x : Ready). method_of x.asked) (sym s.made) ∙ asked_by request.method request s.what s.what_is

  -- the edit of a success fits where body and limits have passed
  pub success_fits : (circle : CircleOf) (ready : Ready) (plan : Plan) (edit : Edit) (u v : Unit {0}) → IsSound o → IsWellFormed request → Passed o request ready
      → IsBodyAnswer o ready.asked ready.target.path (Ok u) → limits_of o ready.asked ready.target ≡ Ok v → IsSuccess o circle ready (Ok plan) → plan.edit ≡ Some edit → Fits o edit
  success_fits circle ready plan edit u v sound named past body limits is has =
      plan_at_fits o sound circle past.caller past.owned u v plan edit has past.what past.at (past.named named.path) (past.texts named.body) past.shaped (past.destined named.destination) past.free past.there
      (subst (λ (x : Ready). IsBodyAnswer o x.asked x.target.path (Ok u)) past.is body)
      (subst (λ (x : Ready). limits_of o x.asked x.target ≡ Ok v) past.is limits)
      (subst (λ (x : Ready). IsSuccess o circle x (Ok plan)) past.is is)

  -- the edit of a plan fits
  pub plan_fits : (name : Option (List ℕ)) (p : Plan) (edit : Edit) → IsSound o → IsWellFormed request → IsPlan o name request (Ok p) → p.edit ≡ Some edit → Fits o edit
  plan_fits name p edit sound named planned is =
      let r = planned_ready o (ready_of o name request) p planned in
      let answer = r.3 in
      let a = done_ok o r.1 r.0 (body_then_limits o r.0 answer.0) p answer.2 in
      let d = bind_ok answer.0 (to_limits r.0) a.0 a.1 in
      success_fits r.1 r.0 p edit d.0 a.0 sound named (passed name r.0 r.2) (subst (IsBodyAnswer o r.0.asked r.0.target.path) d.1 answer.1) d.2 a.2 is

  -- the target of a request that has passed the path stage is told with what is mapped there
  pub ready_is_target : (name : Option (List ℕ)) (ready : Ready) → ready_of o name request ≡ Ok ready → IsTarget o ready.target
  ready_is_target name ready is =
      let s = staged name ready is in
      subst (λ (x : Ready). IsTarget o x.target) s.made (target_is o request.method request.path s.target s.target_at)

  -- its path is the one that was asked for
  pub ready_path : (name : Option (List ℕ)) (ready : Ready) → ready_of o name request ≡ Ok ready → request.path ≡ Some ready.target.path
  ready_path name ready is =
      let s = staged name ready is in
      subst (λ (x : Ready). request.path ≡ Some x.target.path) s.made (path_asked o request.method request.path s.target s.target_at)
