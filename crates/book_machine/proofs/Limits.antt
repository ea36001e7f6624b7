-- A request is refused as full exactly where its edit would leave an Office beyond a limit.
use Rattle.book_machine.proofs.Common.{◌≡◌, ◌≢◌, inl, inr, ℕ, ◌+◌, ◌<◌, ◌≤◌, List, Bool, true, false, ◌&&◌, ◌||◌, cond, nat_lt, Option, Some, None, is_some, option_map, option_and_then, Result, Ok, Err, refl, sym, ap, ◌∙◌, subst, arith, lt-ltb, nat_list_cmp_total, get, insert, len, if◌then◌else◌, bytes_eq, bytes_eq-Decides, same_Some, NamesTo, CircleOf, Caller, Book, StoredCard, Office, MAX_CARDS, MAX_BOOKS, LAST_NUMBER, Path, entries_of, group_path, Entry, apply, place_card, node_of, node_at, unnumbered, count_at, book_resource, card_at, card_in, card_resource, number_of, IsSound, Edit, PutCard, RemoveCard, Node, Put, Proppatch, Copy, Move, Delete, Mkcol, one_circle, goes_on, destination_in, method_of, destination_path, check, at_unmapped, can_change, can_change_twice, move_limits, label_limits, limits_of, replied, body_then_limits, IsBodyAnswer, IsSuccess, IsDone, IsGrantedPlan, IsDecided, settled, IsGranted, Asked, Destination, Content, Reply, Plan, Ready, Refusal, Full, NoParent}
use Rattle.std.proofs.lemmas.Bool.{and_from, or_right}
use Rattle.std.specs.FinMap.{len-insert}
use Rattle.book_office_values.proofs.OneName.{by_option, changed_here, changed_elsewhere, where_some}
use Rattle.book_office_values.specs.Fresh.{new_book}
use Rattle.book_office_values.specs.Names.{changed_at}
use Rattle.book_office_values.specs.declared.paths.Path.TheVariants as path
use Rattle.book_office.specs.Edits.{put_card, card_put, copy_from, card_copied, move_to, remove_card, label_card}
use Rattle.book_office.specs.Sound.{IsSoundBook}
use Rattle.book_office.specs.declared.edits.Edit.TheVariants.{CopyCard, MoveCard, AddBook, RemoveBook, SetLabel, SetList, SetMembers}
use Rattle.book_machine.proofs.BodyAnswers.{one_body_answer}
use Rattle.book_machine.proofs.FittingPlans.{answered, passed, edit_told, IsDestined, no_mkcol_at, success_fits, ready_at, count_of_book, node_of_card, no_book, is_free}
use Rattle.book_machine.proofs.OnePlan.{one_success, verdicts_exclude}
use Rattle.book_machine.proofs.Outlines.{there_mapped}
use Rattle.book_machine.proofs.ServedPlans.{success_low}
use Rattle.book_machine.proofs.StepLaws.{decided, limits_answers, not_success}
use Rattle.book_machine.specs.Laws.{RequestsAreFullAtLimits}
use Rattle.book_machine.specs.Stages.{put_limits, copy_limits, delete_limits, owner_of}
use Rattle.book_machine.specs.declared.asked.Asked.TheVariants as asked
use Rattle.book_machine.specs.declared.messages.Patch.TheVariants as patch
use Rattle.book_machine.specs.declared.refusals.Refusal.TheVariants.{NotFound}

-- ---- what an Office within the limits tells of the one before

checked : (b : Bool) (r : Refusal) → b ≡ true → check b r ≡ Ok tt
checked true r e = refl
checked false r e = absurd cc

changes_of : (found : Option Book) (book : Book) → found ≡ Some book → book.changes.number < LAST_NUMBER
    → can_change (option_map node_of (option_map book_resource found)) ≡ true
changes_of None book is low = absurd cc
changes_of (Some old) book is low =
    let same : old ≡ book = same_Some _ _ is in
    lt-ltb _ _ (subst (λ (k : Book). k.changes.number < LAST_NUMBER) (sym same) low)

changes_twice_of : (found : Option Book) (book : Book) → found ≡ Some book → book.changes.number + 1 < LAST_NUMBER
    → can_change_twice (option_map node_of (option_map book_resource found)) ≡ true
changes_twice_of None book is low = absurd cc
changes_twice_of (Some old) book is low =
    let same : old ≡ book = same_Some _ _ is in
    lt-ltb _ _ (subst (λ (k : Book). k.changes.number + 1 < LAST_NUMBER) (sym same) low)

-- a map with one more name
longer : {V : Type 0} (m : NamesTo V) (k : List ℕ) (v : V) → get m k ≡ None → len (insert m k v) ≡ len m + 1
longer m k v none = len-insert nat_list_cmp_total m k v ∙ ap (λ r. cond (is_some r) (len m) (len m + 1)) none

-- whether a card is there, by what its book has
abbrev card_node : List ℕ → Option Book → Option Node
card_node c found = option_map node_of (option_and_then (λ (book : Book). card_in book c) found)

abbrev is_mapped : Book → List ℕ → Option StoredCard → Bool
is_mapped book c found = is_some (option_map node_of (option_map (card_resource (number_of book c)) found))

module _ (o : Office) where
  -- at the path of a card the path stage lets through, its book is there
  book_for : (b c : List ℕ) (P : Type 0) → (node_at o (path.Card b c) ≡ None → at_unmapped o Put (path.Card b c) ≡ Ok tt)
      → ((book : Book) → get o.books b ≡ Some book → P) → P
  book_for b c P free some = by_option (get o.books b)
      (λ none. no_parent (sym (ap (λ x. check (is_some x) NoParent) none) ∙ free (ap (card_node c) none)))
      some
    where
      no_parent : check false NoParent ≡ Ok tt → P
      no_parent e = absurd cc

  -- a book with a card put into it stays within its limits
  room_from : (b c : List ℕ) (book : Book) (card : StoredCard) → get o.books b ≡ Some book
      → book.changes.number + 1 ≤ LAST_NUMBER → len (insert book.cards c card) ≤ MAX_CARDS → put_limits o (path.Card b c) (is_some (node_at o (path.Card b c))) ≡ true
  room_from b c book card is last few =
      let count : count_at o (path.Book b) ≡ len book.cards = count_of_book o b book is in
      and_from _ _ (changes_of (get o.books b) book is (omega (arith, last)))
      (by_option (get book.cards c)
      (λ none.
      let more = longer book.cards c card none in
      or_right (is_some (node_at o (path.Card b c))) _ (lt-ltb (count_at o (path.Book b)) MAX_CARDS (omega (arith, few, more, count))))
      (λ card some. ap (λ x. x || nat_lt (count_at o (path.Book b)) MAX_CARDS) (ap is_some (node_of_card o b c book is) ∙ ap (is_mapped book c) some)))

  put_room : (b c : List ℕ) (owner : Option (List ℕ)) (text : List ℕ) (book : Book) → get o.books b ≡ Some book
      → IsSound (apply o (PutCard b c owner text)) → put_limits o (path.Card b c) (is_some (node_at o (path.Card b c))) ≡ true
  put_room b c owner text book is after =
      let new : Book = put_card c owner text book in
      let there = (after.books b new (changed_here o.books b (put_card c owner text) ∙ ap (option_map (put_card c owner text)) is)).1 in
      let last : book.changes.number + 1 ≤ LAST_NUMBER = there.last in
      let few : len (insert book.cards c (card_put (get book.cards c) owner text)) ≤ MAX_CARDS = there.few in
      room_from b c book (card_put (get book.cards c) owner text) is last few

  remove_room : (b c : List ℕ) (book : Book) → get o.books b ≡ Some book
      → IsSound (apply o (RemoveCard b c)) → delete_limits o (path.Card b c) ≡ true
  remove_room b c book is after =
      let there = (after.books b (remove_card c book) (changed_here o.books b (remove_card c) ∙ ap (option_map (remove_card c)) is)).1 in
      let last : book.changes.number + 1 ≤ LAST_NUMBER = there.last in
      changes_of (get o.books b) book is (omega (arith, last))

  add_room : (b : List ℕ) (owner : Option (List ℕ)) → get o.books b ≡ None → IsSound (apply o (AddBook b owner)) → nat_lt (len o.books) MAX_BOOKS ≡ true
  add_room b owner none after =
      let few : len (insert o.books b (new_book owner)) ≤ MAX_BOOKS = after.few in
      let more = longer o.books b (new_book owner) none in
      lt-ltb _ _ (omega (arith, few, more))

  remove_book_room : (b : List ℕ) → IsSound (apply o (RemoveBook b)) → nat_lt o.epoch LAST_NUMBER ≡ true
  remove_book_room b after =
      let last : o.epoch + 1 ≤ LAST_NUMBER = after.epoch in
      lt-ltb _ _ (omega (arith, last))

  -- at the path of a card that is there, its book and the card
  card_for : (b c : List ℕ) (P : Type 0) → (node_at o (path.Card b c) ≡ None → P)
      → ((book : Book) (card : StoredCard) → get o.books b ≡ Some book → get book.cards c ≡ Some card → P) → P
  card_for b c P free some = by_option (get o.books b)
      (λ none. free (ap (card_node c) none))
      (λ book found. by_option (get book.cards c)
      (λ none. free (node_of_card o b c book found ∙ ap (λ r. option_map node_of (option_map (card_resource (number_of book c)) r)) none))
      (λ card held. some book card found held))

  card_found : (b c : List ℕ) (book : Book) (card : StoredCard) → get o.books b ≡ Some book → get book.cards c ≡ Some card → card_at o b c ≡ Some card
  card_found b c book card is held = ap (option_and_then (λ (k : Book). get k.cards c)) is ∙ held

  copy_room : (fb fc : List ℕ) (to : Destination) (owner : Option (List ℕ)) (source : Book) (card : StoredCard) (target : Book)
      → get o.books fb ≡ Some source → get source.cards fc ≡ Some card → get o.books to.book ≡ Some target
      → IsSound (apply o (CopyCard fb fc to.book to.card owner)) → copy_limits o to (is_some (node_at o (destination_path to))) ≡ true
  copy_room fb fc to owner source card target is held at after =
      let change : Book → Book = copy_from (card_at o fb fc) to.card owner in
      let new : StoredCard = card_copied (get target.cards to.card) owner card.label card.text in
      let placed : change target ≡ place_card target to.card new = ap (λ r. copy_from r to.card owner target) (card_found fb fc source card is held) in
      let there = subst (IsSoundBook (apply o (CopyCard fb fc to.book to.card owner))) placed
      (after.books to.book (change target) (changed_here o.books to.book change ∙ ap (option_map change) at)).1 in
      let last : target.changes.number + 1 ≤ LAST_NUMBER = there.last in
      let few : len (insert target.cards to.card new) ≤ MAX_CARDS = there.few in
      room_from to.book to.card target new at last few

  -- a MOVE within a book, and one to another
  move_within_room : (b fc tc : List ℕ) (source : Book) (card : StoredCard) → get o.books b ≡ Some source → get source.cards fc ≡ Some card
      → IsSound (apply o (MoveCard b fc b tc)) → can_change_twice (node_at o (path.Book b)) ≡ true
  move_within_room b fc tc source card is held after =
      let change : Book → Book = move_to (card_at o b fc) tc in
      let without = changed_at (remove_card fc) o.books b in
      let at : get without b ≡ Some (remove_card fc source) = changed_here o.books b (remove_card fc) ∙ ap (option_map (remove_card fc)) is in
      let placed : change (remove_card fc source) ≡ place_card (remove_card fc source) tc card = ap (λ r. move_to r tc (remove_card fc source)) (card_found b fc source card is held) in
      let there = subst (IsSoundBook (apply o (MoveCard b fc b tc))) placed
      (after.books b (change (remove_card fc source)) (changed_here without b change ∙ ap (option_map change) at)).1 in
      let last : source.changes.number + 1 + 1 ≤ LAST_NUMBER = there.last in
      changes_twice_of (get o.books b) source is (omega (arith, last))

  move_across_room : (fb fc : List ℕ) (to : Destination) (source : Book) (card : StoredCard) (target : Book) → fb ≢ to.book
      → get o.books fb ≡ Some source → get source.cards fc ≡ Some card → get o.books to.book ≡ Some target
      → IsSound (apply o (MoveCard fb fc to.book to.card))
      → (can_change (node_at o (path.Book fb)) && copy_limits o to (is_some (node_at o (destination_path to)))) ≡ true
  move_across_room fb fc to source card target apart is held at after =
      let whole : Office = apply o (MoveCard fb fc to.book to.card) in
      let change : Book → Book = move_to (card_at o fb fc) to.card in
      let without = changed_at (remove_card fc) o.books fb in
      let still : get without to.book ≡ Some target = changed_elsewhere o.books fb (remove_card fc) to.book (λ same. apart (sym same)) ∙ at in
      let placed : change target ≡ place_card target to.card card = ap (λ r. move_to r to.card target) (card_found fb fc source card is held) in
      let there = subst (IsSoundBook whole) placed (after.books to.book (change target) (changed_here without to.book change ∙ ap (option_map change) still)).1 in
      let behind = (after.books fb (remove_card fc source)
      (changed_elsewhere without to.book change fb apart ∙ changed_here o.books fb (remove_card fc) ∙ ap (option_map (remove_card fc)) is)).1 in
      let last : target.changes.number + 1 ≤ LAST_NUMBER = there.last in
      let few : len (insert target.cards to.card card) ≤ MAX_CARDS = there.few in
      let low : source.changes.number + 1 ≤ LAST_NUMBER = behind.last in
      and_from _ _ (changes_of (get o.books fb) source is (omega (arith, low))) (room_from to.book to.card target card at last few)

  move_room : (fb fc : List ℕ) (to : Destination) (source : Book) (card : StoredCard) (target : Book)
      → get o.books fb ≡ Some source → get source.cards fc ≡ Some card → get o.books to.book ≡ Some target
      → IsSound (apply o (MoveCard fb fc to.book to.card)) → move_limits o (path.Card fb fc) to (is_some (node_at o (destination_path to))) ≡ true
  move_room fb fc to source card target is held at after =
      elim (bytes_eq fb to.book) as (λ same. bytes_eq fb to.book ≡ same
      → (if same then can_change_twice (node_at o (path.Book fb)) else can_change (node_at o (path.Book fb)) && copy_limits o to (is_some (node_at o (destination_path to)))) ≡ true) [
        | true ↦ λ yes.
            let one : to.book ≡ fb = sym ((bytes_eq-Decides fb to.book).0 yes) in
            move_within_room fb fc to.card source card is held (subst (λ x. IsSound (apply o (MoveCard fb fc x to.card))) one after)
        | false ↦ λ no.
            let apart : fb ≢ to.book = λ same. let yes = (bytes_eq-Decides fb to.book).1 same in absurd (cc (sym no ∙ yes)) in
            move_across_room fb fc to source card target apart is held at after
      ] refl

  label_room : (b c label : List ℕ) (book : Book) (card : StoredCard) → get o.books b ≡ Some book → get book.cards c ≡ Some card
      → IsSound (apply o (SetLabel (path.Card b c) label)) → label_limits o (path.Card b c) ≡ true
  label_room b c label book card is held after =
      let change : Book → Book = λ k. label_card c label (get k.cards c) k in
      let there = (after.books b (change book) (changed_here o.books b change ∙ ap (option_map change) is)).1 in
      let last : (change book).changes.number ≤ LAST_NUMBER = there.last in
      let labelled : (change book).changes.number ≡ book.changes.number + 1 = ap (λ r. (label_card c label r book).changes.number) held in
      changes_of (get o.books b) book is (omega (arith, last, labelled))

  members_room : (group : List ℕ) (members : List (List ℕ)) → IsSound (apply o (SetMembers group members)) → nat_lt o.epoch LAST_NUMBER ≡ true
  members_room group members after =
      let last : o.epoch + 1 ≤ LAST_NUMBER = after.epoch in
      lt-ltb _ _ (omega (arith, last))

  list_room : (p : Path) (list : List Entry) → IsSound (apply o (SetList p list)) → nat_lt o.epoch LAST_NUMBER ≡ true
  list_room p list after =
      let last : o.epoch + 1 ≤ LAST_NUMBER = after.epoch in
      lt-ltb _ _ (omega (arith, last))

-- ---- the limits of a request whose edit stays within them
abbrev refused_by : Refusal → Result (Unit {0}) Refusal
refused_by r = Err r

not_unmapped : {A : Type 0} (r : Refusal) → refused_by r ≡ Ok tt → A
not_unmapped r e = absurd cc

module _ (o : Office) (circle : CircleOf) (caller : Caller) (plan : Plan) (edit : Edit) (has : plan.edit ≡ Some edit) (after : IsSound (apply o edit)) where
  abbrev Within : Asked → Path → Type 0
  Within what p = IsSuccess o circle (ready_at o p caller what) (Ok plan) → limits_of o what (ready_at o p caller what).target ≡ Ok tt

  -- the Office after the edit that is told at once
  after_told : (status : ℕ) (what : Content) (made : Edit) → answered (replied status what (Some made)) ≡ Ok plan → IsSound (apply o made)
  after_told status what made is = subst (λ e. IsSound (apply o e)) (sym (same_Some made edit (edit_told status what (Some made) plan edit is has))) after

  put_within : (text : List ℕ) (p : Path) → (node_at o p ≡ None → at_unmapped o Put p ≡ Ok tt) → Within (asked.Put text) p
  put_within text path.Root free is = absurd cc
  put_within text path.People free is = absurd cc
  put_within text path.Groups free is = absurd cc
  put_within text path.Books free is = absurd cc
  put_within text (path.Person n) free is = absurd cc
  put_within text (path.Group n) free is = absurd cc
  put_within text (path.Book b) free is = absurd cc
  put_within text (path.Card b c) free is = book_for o b c _ free (λ book found.
      checked _ Full (ap (put_limits o (path.Card b c)) (there_mapped unnumbered (node_at o (path.Card b c))) ∙ put_room o b c (owner_of caller) text book found (after_told _ _ _ is)))

  copy_within : (to : Destination) (p : Path) → IsDestined o p (Some to) → (node_at o p ≡ None → at_unmapped o Copy p ≡ Ok tt) → Within (asked.Copy to) p
  copy_within to path.Root destined free is = absurd cc
  copy_within to path.People destined free is = absurd cc
  copy_within to path.Groups destined free is = absurd cc
  copy_within to path.Books destined free is = absurd cc
  copy_within to (path.Person n) destined free is = absurd cc
  copy_within to (path.Group n) destined free is = absurd cc
  copy_within to (path.Book b) destined free is = absurd cc
  copy_within to (path.Card b c) destined free is = card_for o b c _ (λ none. not_unmapped NotFound (free none)) (λ book card found held.
      where_some (get o.books to.book) destined.1 (λ target at.
      checked _ Full (copy_room o b c to (owner_of caller) book card target found held at (after_told _ _ _ is))))

  move_within : (to : Destination) (p : Path) → IsDestined o p (Some to) → (node_at o p ≡ None → at_unmapped o Move p ≡ Ok tt) → Within (asked.Move to) p
  move_within to path.Root destined free is = absurd cc
  move_within to path.People destined free is = absurd cc
  move_within to path.Groups destined free is = absurd cc
  move_within to path.Books destined free is = absurd cc
  move_within to (path.Person n) destined free is = absurd cc
  move_within to (path.Group n) destined free is = absurd cc
  move_within to (path.Book b) destined free is = absurd cc
  move_within to (path.Card b c) destined free is = card_for o b c _ (λ none. not_unmapped NotFound (free none)) (λ book card found held.
      where_some (get o.books to.book) destined.1 (λ target at.
      checked _ Full (move_room o b c to book card target found held at (after_told _ _ _ is))))

  delete_within : (p : Path) → (node_at o p ≡ None → at_unmapped o Delete p ≡ Ok tt) → Within asked.Delete p
  delete_within path.Root free is = absurd cc
  delete_within path.People free is = absurd cc
  delete_within path.Groups free is = absurd cc
  delete_within path.Books free is = absurd cc
  delete_within (path.Person n) free is = absurd cc
  delete_within (path.Group n) free is = absurd cc
  delete_within (path.Book b) free is = checked _ Full (remove_book_room o b (after_told _ _ _ is))
  delete_within (path.Card b c) free is = book_for o b c _ (λ none. not_unmapped NotFound (free none)) (λ book found.
      checked _ Full (remove_room o b c book found (after_told _ _ _ is)))

  mkcol_within : (p : Path) → ((n : Node) → node_at o p ≡ Some n → goes_on Mkcol n.kind ≡ true) → Within asked.Mkcol p
  mkcol_within path.Root there is = absurd cc
  mkcol_within path.People there is = absurd cc
  mkcol_within path.Groups there is = absurd cc
  mkcol_within path.Books there is = absurd cc
  mkcol_within (path.Person n) there is = absurd cc
  mkcol_within (path.Group n) there is = absurd cc
  mkcol_within (path.Card b c) there is = absurd cc
  mkcol_within (path.Book b) there is =
      let none = no_book (get o.books b) (is_free (node_at o (path.Book b)) (λ n some. no_mkcol_at o b n some (there n some))) in
      checked _ Full (add_room o b (owner_of caller) none (after_told _ _ _ is))

  label_within : (label : List ℕ) (p : Path) → (node_at o p ≡ None → at_unmapped o Proppatch p ≡ Ok tt) → Within (asked.Proppatch (patch.DisplayName label)) p
  label_within label path.Root free is = refl
  label_within label path.People free is = refl
  label_within label path.Groups free is = refl
  label_within label path.Books free is = refl
  label_within label (path.Person n) free is = refl
  label_within label (path.Group n) free is = refl
  label_within label (path.Book b) free is = refl
  label_within label (path.Card b c) free is = card_for o b c _ (λ none. not_unmapped NotFound (free none)) (λ book card found held.
      checked _ Full (label_room o b c label book card found held (after_told _ _ _ is)))

  members_within : (members : List (List ℕ)) (p : Path) → Within (asked.Proppatch (patch.GroupMembers members)) p
  members_within members path.Root is = absurd cc
  members_within members path.People is = absurd cc
  members_within members path.Groups is = absurd cc
  members_within members path.Books is = absurd cc
  members_within members (path.Person n) is = absurd cc
  members_within members (path.Group n) is = checked _ Full (members_room o (group_path n) members (after_told _ _ _ is))
  members_within members (path.Book b) is = absurd cc
  members_within members (path.Card b c) is = absurd cc

  within : (what : Asked) (p : Path) → IsDestined o p (destination_in what) → (node_at o p ≡ None → at_unmapped o (method_of what) p ≡ Ok tt) → ((n : Node) → node_at o p ≡ Some n → goes_on (method_of what) n.kind ≡ true) → Within what p
  within asked.Get p destined free there is = refl
  within asked.Head p destined free there is = refl
  within asked.Options p destined free there is = refl
  within (asked.Put text) p destined free there is = put_within text p free is
  within (asked.Propfind find) p destined free there is = refl
  within (asked.Proppatch (patch.DisplayName label)) p destined free there is = label_within label p free is
  within (asked.Proppatch (patch.GroupMembers members)) p destined free there is = members_within members p is
  within (asked.Acl list) p destined free there is = checked _ Full (list_room o p (entries_of list) (after_told _ _ _ is))
  within (asked.Copy to) p destined free there is = copy_within to p destined free is
  within (asked.Move to) p destined free there is = move_within to p destined free is
  within asked.Delete p destined free there is = delete_within p free is
  within asked.Mkcol p destined free there is = mkcol_within p there is
  within (asked.Report which) p destined free there is = refl

-- ---- the reply
pub granted_as : (o : Office) (ready : Ready) (result : Result Plan Refusal) (granted : IsGranted o ready) → IsDecided o ready result
    → IsGrantedPlan o granted.circle ready result
granted_as o ready result granted (inl is) =
    subst (λ c. IsGrantedPlan o c ready result) (one_circle o.pairs ready.caller is.0.circle granted.circle is.0.is_circle granted.is_circle) is.1
granted_as o ready result granted (inr denied) = absurd (verdicts_exclude o ready denied.0 granted denied.1)

-- what follows an accepted body
pub accepted_done : (o : Office) (circle : CircleOf) (ready : Ready) (result : Result Plan Refusal) → IsBodyAnswer o ready.asked ready.target.path (Ok tt)
    → IsGrantedPlan o circle ready result → IsDone o circle ready (limits_of o ready.asked ready.target) result
accepted_done o circle ready result body is =
    subst (λ answer. IsDone o circle ready (body_then_limits o ready answer) result) (one_body_answer o ready.asked ready.target.path is.0 (Ok tt) is.1 body) is.2

pub full_at_limits : RequestsAreFullAtLimits
full_at_limits o name request ready edit reply after sound named is granted body plan succeeds has_edit step =
    let past = passed o request name ready is in
    let circle = granted.circle in
    let done = accepted_done o circle ready step.0 body (granted_as o ready step.0 granted (decided o name request ready step.0 is step.1)) in
    let told : reply ≡ (settled o step.0).0 = ap (λ (x : Reply × Office). x.0) step.2 in (
      λ full sound_after.
          let succeeds_at = subst (λ (x : Ready). IsSuccess o circle x (Ok plan)) past.is succeeds in
          let room = subst (λ (x : Ready). limits_of o x.asked x.target ≡ Ok tt) (sym past.is)
          (within o circle past.caller plan edit has_edit sound_after past.what past.at (past.destined named.destination) past.free past.there succeeds_at) in
          let same : step.0 ≡ Ok plan =
          one_success o circle ready.asked ready.caller ready.target step.0 (Ok plan) (subst (λ c. IsDone o circle ready c step.0) room done) succeeds in
          not_success reply Full full (subst (λ (x : Reply). x.status < 300) (sym (told ∙ ap (λ r. (settled o r).0) same)) (success_low o circle ready.asked ready plan succeeds)),
      λ beyond. elim (limits_answers o ready.asked ready.target) [
        | inl room ↦ absurd (beyond (success_fits o request circle ready plan edit tt tt sound named past body room succeeds has_edit).sound)
        | inr none ↦ told ∙ ap (λ r. (settled o r).0) (sym (subst (λ c. IsDone o circle ready c step.0) none done))
      ],
    )
