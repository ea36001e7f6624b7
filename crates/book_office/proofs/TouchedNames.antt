-- Which names of a book get a new last change.
use Rattle.book_office.proofs.Common.{◌≡◌, ◌≢◌, inl, inr, ℕ, ◌+◌, List, [], ◌∷◌, true, false, cond, ◌||◌, map, Option, Some, None, option_and_then, option_map, refl, sym, ap, ◌∙◌, subst, arith, false≢true, get, list_any, same_Some, NamesTo, taken_over, same_office, Book, StoredCard, Office, Entry, Path, changed_at, with_book, with_book_properties, with_cards, put_card, remove_card, copy_from, move_to, new_book, label_set, card_labelled, label_card, list_set, listed_card, name_cmp, card_at, card_in, card_resource, number_of, same, some_apart, where_some, by_put, by_removed, by_changed}
use Rattle.std.proofs.Common.{◌⊎◌, zero, suc, fold, filter, Contains, is_some, bytes_eq}
use Rattle.std.proofs.lemmas.Bool.{false_from_ne_true}
use Rattle.std.proofs.lemmas.Slice.Eq.{bytes_eq-Decides}
use Rattle.std.proofs.lemmas.List.Elements.{Contains-append_left, Contains-append_right}
use Rattle.std.specs.FinMap.{get-empty, keys, contains_key-keys}
use Rattle.book_office_values.specs.Paths.{book_path}
use Rattle.book_policy_values.specs.declared.parts.PolicyBook.{PolicyBook}
use Rattle.book_policy_values.specs.declared.parts.PolicyTables.{PolicyTables}
use Rattle.book_office_adopting.specs.Adopting.{adopt}
use Rattle.book_office_values.specs.Changes.{touched}
use Rattle.book_office_values.specs.declared.collections.changes.Numbers.{Numbers}
use Rattle.book_office.specs.declared.edits.Edit.TheVariants.{PutCard, RemoveCard, CopyCard, MoveCard, AddBook, RemoveBook, SetLabel, SetList, SetMembers, Adopt}
use Rattle.book_office_values.specs.declared.paths.Path.TheVariants as path
use Rattle.book_office.specs.Edits.{place_card, card_put, card_copied, set_label, set_list, touches, touches_label}
use Rattle.book_office.specs.Resources.{resource_at}
use Rattle.book_office.specs.Touches.{books_at, OtherBooksStay, names_in, NamesAreTouchedInTurn, Renumbers, TouchedNamesAloneChange, ChangesOneName, PutCardChangesOneName, RemoveCardChangesOneName, CopyCardChangesOneName, MoveAcrossChangesANameOfEach, MoveWithinChangesTwoNames, CardLabelChangesOneName, NewBookHasNoChanges, RemovedBookIsGone}
use Rattle.book_office_values.proofs.NameMapLaws.{by_names, by_same}
use Rattle.book_office_adopting.proofs.Adoptions.{book_after, book_there}
use Rattle.book_office.proofs.MovedCards.{card_is}
use Rattle.book_office_values.proofs.OneName.{put_here, put_elsewhere, removed_here, removed_elsewhere, changed_here, changed_elsewhere}

-- the elements of a list
contains_first : {A : Type 0} (x : A) (xs : List A) (y : A) → y ≡ x → Contains (x ∷ xs) y
contains_first x xs y e = (0, omega arith, sym e)

contains_later : {A : Type 0} (x : A) (xs : List A) (y : A) → Contains xs y → Contains (x ∷ xs) y
contains_later x xs y (k, l, e) = (suc k, omega arith, e)

contains_cases : {A : Type 0} (x : A) (xs : List A) (y : A) → Contains (x ∷ xs) y → (y ≡ x) ⊎ Contains xs y
contains_cases x xs y (zero, l, e) = inl (sym e)
contains_cases x xs y (suc k, l, e) = inr (k, omega arith, e)

apart_from_one : (x y : List ℕ) → (Contains (x ∷ []) y → ⊥) → y ≢ x
apart_from_one x y h e = h (contains_first x [] y e)

-- whether a name is in a list
among : (names : List (List ℕ)) (q : List ℕ) → Contains names q ⊎ (Contains names q → ⊥)
among [] q = inr (λ h. absurd (let l = h.1 in omega arith))
among (name ∷ names) q = by_names q name (λ _. Contains (name ∷ names) q ⊎ (Contains (name ∷ names) q → ⊥))
    (λ is. inl (contains_first name names q is))
    (λ apart. elim (among names q) [
      | inl h ↦ inl (contains_later name names q h)
      | inr h ↦ inr (λ c. elim (contains_cases name names q c) [ inl is ↦ apart is | inr later ↦ h later ])
    ])

-- ---- adopting a policy

book_adopted : (t : PolicyTables) (o : Office) (b : List ℕ) → get (adopt t o).books b ≡ book_after t (book_path b) (get t.books b) (get o.books b)
book_adopted t o b = elim (same_office o (taken_over t o)) as (λ same.
    get (cond same (taken_over t o) (record (taken_over t o) { epoch = (taken_over t o).epoch + 1 })).books b
    ≡ book_after t (book_path b) (get t.books b) (get o.books b)) [ true ↦ book_there t o b | false ↦ book_there t o b ]

book_kept : (t : PolicyTables) (at : List ℕ) (named : Option PolicyBook) (old new : Book) → book_after t at named (Some old) ≡ Some new → new.changes ≡ old.changes
book_kept t at None old new e = ap (λ (book : Book). book.changes) (sym (same_Some _ _ e))
book_kept t at (Some named) old new e = ap (λ (book : Book). book.changes) (sym (same_Some _ _ e))

-- a name with a value is a key
any_there : (b : List ℕ) (ks : List (List ℕ)) → list_any (same b) ks ≡ true → Contains ks b
any_there b [] e = absurd (false≢true e)
any_there b (k ∷ ks) e = by_same b k (λ t. (t || list_any (same b) ks) ≡ true → Contains (k ∷ ks) b)
    (λ is _. contains_first k ks b is) (λ later. contains_later k ks b (any_there b ks later)) e

key_there : {V : Type 0} (m : NamesTo V) (b : List ℕ) (v : V) → get m b ≡ Some v → Contains (keys m) b
key_there m b v is = any_there b (keys m) (sym (contains_key-keys m b) ∙ ap is_some is)

-- a name that is no key has no value
no_key : {V : Type 0} (m : NamesTo V) (b : List ℕ) → (Contains (keys m) b → ⊥) → get m b ≡ None
no_key m b h = elim (get m b) as (λ r. get m b ≡ r → r ≡ None) [
  | None ↦ λ _. refl
  | Some v ↦ λ is. absurd (h (key_there m b v is))
] refl

-- labels and lists of one resource, seen from a book that is neither it nor above it
label_elsewhere : (p : Path) (label : List ℕ) (o : Office) (b : List ℕ) → (Contains (books_at p) b → ⊥) → get (set_label p label o).books b ≡ get o.books b
label_elsewhere path.Root label o b h = refl
label_elsewhere path.People label o b h = refl
label_elsewhere path.Groups label o b h = refl
label_elsewhere path.Books label o b h = refl
label_elsewhere (path.Person n) label o b h = refl
label_elsewhere (path.Group n) label o b h = refl
label_elsewhere (path.Book b') label o b h = changed_elsewhere o.books b' (with_book_properties (label_set label)) b (apart_from_one b' b h)
label_elsewhere (path.Card b' c) label o b h = changed_elsewhere o.books b' (λ (book : Book). label_card c label (get book.cards c) book) b (apart_from_one b' b h)

list_elsewhere : (p : Path) (list : List Entry) (o : Office) (b : List ℕ) → (Contains (books_at p) b → ⊥) → get (set_list p list o).books b ≡ get o.books b
list_elsewhere path.Root list o b h = refl
list_elsewhere path.People list o b h = refl
list_elsewhere path.Groups list o b h = refl
list_elsewhere path.Books list o b h = refl
list_elsewhere (path.Person n) list o b h = refl
list_elsewhere (path.Group n) list o b h = refl
list_elsewhere (path.Book b') list o b h = changed_elsewhere o.books b' (with_book_properties (list_set list)) b (apart_from_one b' b h)
list_elsewhere (path.Card b' c) list o b h = changed_elsewhere o.books b' (with_cards (λ cards. changed_at (listed_card list) cards c)) b (apart_from_one b' b h)

pub other_books_stay : OtherBooksStay
other_books_stay o (PutCard b' c owner text) b h = changed_elsewhere o.books b' (put_card c owner text) b (apart_from_one b' b h)
other_books_stay o (RemoveCard b' c) b h = changed_elsewhere o.books b' (remove_card c) b (apart_from_one b' b h)
other_books_stay o (CopyCard fb fc b' c owner) b h = changed_elsewhere o.books b' (copy_from (card_at o fb fc) c owner) b (apart_from_one b' b h)
other_books_stay o (MoveCard fb fc tb tc) b h =
    changed_elsewhere (with_book (remove_card fc) o fb).books tb (move_to (card_at o fb fc) tc) b (λ is. h (contains_later fb (tb ∷ []) b (contains_first tb [] b is)))
    ∙ changed_elsewhere o.books fb (remove_card fc) b (λ is. h (contains_first fb (tb ∷ []) b is))
other_books_stay o (AddBook b' owner) b h = put_elsewhere o.books b' (new_book owner) b (apart_from_one b' b h)
other_books_stay o (RemoveBook b') b h = removed_elsewhere o.books b' b (apart_from_one b' b h)
other_books_stay o (SetLabel p label) b h = label_elsewhere p label o b h
other_books_stay o (SetList p list) b h = list_elsewhere p list o b h
other_books_stay o (SetMembers group members) b h = refl
other_books_stay o (Adopt t) b h =
    let old = no_key o.books b (λ k. h (Contains-append_left (keys o.books) (keys t.books) b k)) in
    let named = no_key t.books b (λ k. h (Contains-append_right (keys o.books) (keys t.books) b k)) in
    book_adopted t o b ∙ (λ i. book_after t (book_path b) (named i) (old i)) ∙ sym old

-- one touch in a book, seen from any book
names_in_one : (b b' c : List ℕ) → b ≡ b' → names_in b ((b', c) ∷ []) ≡ c ∷ []
names_in_one b b' c is = rw ((bytes_eq-Decides b' b).1 (sym is)) refl

names_in_other : (b b' c : List ℕ) → b ≢ b' → names_in b ((b', c) ∷ []) ≡ []
names_in_other b b' c apart = rw (false_from_ne_true (bytes_eq b' b) (λ t. apart (sym ((bytes_eq-Decides b' b).0 t)))) refl

-- a change of one book that touches one name of it
one_touched : (o : Office) (change : Book → Book) (b' c : List ℕ) → ((book : Book) → (change book).changes ≡ touched book.changes c)
    → (b : List ℕ) (old new : Book) → get o.books b ≡ Some old → get (with_book change o b').books b ≡ Some new
    → new.changes ≡ fold touched old.changes (names_in b ((b', c) ∷ []))
one_touched o change b' c h b old new before = by_changed o.books b' change b (λ r. r ≡ Some new → new.changes ≡ fold touched old.changes (names_in b ((b', c) ∷ [])))
    (λ is after.
    let now : change old ≡ new = same_Some _ _ (sym (ap (option_map change) before) ∙ after) in
    ap (λ (book : Book). book.changes) (sym now) ∙ h old ∙ ap (fold touched old.changes) (sym (names_in_one b b' c is)))
    (λ apart after.
    let now : old ≡ new = same_Some _ _ (sym before ∙ after) in
    ap (λ (book : Book). book.changes) (sym now) ∙ ap (fold touched old.changes) (sym (names_in_other b b' c apart)))

-- touches of one book, the first and the others
names_first : (b : List ℕ) (c : Numbers) (x : List ℕ × List ℕ) (ys : List (List ℕ × List ℕ))
    → fold touched c (names_in b (x ∷ ys)) ≡ fold touched (fold touched c (names_in b (x ∷ []))) (names_in b ys)
names_first b c x ys = elim (bytes_eq x.0 b) as (λ t.
    fold touched c (map (λ (touch : List ℕ × List ℕ). touch.1) (cond t (x ∷ filter (λ (touch : List ℕ × List ℕ). bytes_eq touch.0 b) ys) (filter (λ (touch : List ℕ × List ℕ). bytes_eq touch.0 b) ys)))
    ≡ fold touched (fold touched c (map (λ (touch : List ℕ × List ℕ). touch.1) (cond t (x ∷ []) []))) (names_in b ys)) [ true ↦ refl | false ↦ refl ]

-- a book that is there stays there where one book is changed
still_there : (o : Office) (change : Book → Book) (b' b : List ℕ) (old : Book) → get o.books b ≡ Some old → (mid : Book) × (get (with_book change o b').books b ≡ Some mid)
still_there o change b' b old at = by_changed o.books b' change b (λ r. (mid : Book) × (r ≡ Some mid))
    (λ is. (change old, ap (option_map change) at))
    (λ _. (old, at))

-- one more book changed, which touches one name of it
then_touched : (o : Office) (first second : Book → Book) (b' c b'' d : List ℕ) → ((book : Book) → (first book).changes ≡ touched book.changes c)
    → ((book : Book) → (second book).changes ≡ touched book.changes d)
    → (b : List ℕ) (old new : Book) → get o.books b ≡ Some old → get (with_book second (with_book first o b') b'').books b ≡ Some new
    → new.changes ≡ fold touched old.changes (names_in b ((b', c) ∷ (b'', d) ∷ []))
then_touched o first second b' c b'' d h k b old new before after =
    let m = still_there o first b' b old before in
    one_touched (with_book first o b') second b'' d k b m.0 new m.1 after
    ∙ ap (λ n. fold touched n (names_in b ((b'', d) ∷ []))) (one_touched o first b' c h b old m.0 before m.1)
    ∙ sym (names_first b old.changes (b', c) ((b'', d) ∷ []))

copy_touches : (card : Option StoredCard) (c : List ℕ) (owner : Option (List ℕ)) → card ≢ None → (book : Book) → (copy_from card c owner book).changes ≡ touched book.changes c
copy_touches None c owner h book = absurd (h refl)
copy_touches (Some card) c owner h book = refl

move_touches : (card : Option StoredCard) (c : List ℕ) → card ≢ None → (book : Book) → (move_to card c book).changes ≡ touched book.changes c
move_touches None c h book = absurd (h refl)
move_touches (Some card) c h book = refl

-- a change of one book that touches no name
none_touched : (o : Office) (change : Book → Book) (b' : List ℕ) → ((book : Book) → (change book).changes ≡ book.changes)
    → (b : List ℕ) (old new : Book) → get o.books b ≡ Some old → get (with_book change o b').books b ≡ Some new → new.changes ≡ old.changes
none_touched o change b' h b old new before = by_changed o.books b' change b (λ r. r ≡ Some new → new.changes ≡ old.changes)
    (λ _ after. ap (λ (book : Book). book.changes) (same_Some _ _ (sym after ∙ ap (option_map change) before)) ∙ h old)
    (λ _ after. ap (λ (book : Book). book.changes) (same_Some _ _ (sym after ∙ before)))

same_numbers : (old new : Book) (found : Option Book) → found ≡ Some old → found ≡ Some new → new.changes ≡ old.changes
same_numbers old new found before after = ap (λ (book : Book). book.changes) (same_Some _ _ (sym after ∙ before))

-- the card of a resource that is there
label_touches : (card : Option StoredCard) (c label : List ℕ) → card ≢ None → (book : Book) → (label_card c label card book).changes ≡ touched book.changes c
label_touches None c label h book = absurd (h refl)
label_touches (Some card) c label h book = refl

-- a card of one book that is labelled
label_touched : (o : Office) (b' c label : List ℕ) → resource_at o (path.Card b' c) ≢ None → (b : List ℕ) (old new : Book) → get o.books b ≡ Some old
    → get (set_label (path.Card b' c) label o).books b ≡ Some new → new.changes ≡ fold touched old.changes (names_in b ((b', c) ∷ []))
label_touched o b' c label possible b old new before = by_changed o.books b' (λ (book : Book). label_card c label (get book.cards c) book) b
    (λ r. r ≡ Some new → new.changes ≡ fold touched old.changes (names_in b ((b', c) ∷ [])))
    (λ is after.
    let here : get o.books b' ≡ Some old = ap (get o.books) (sym is) ∙ before in
    let there : get old.cards c ≢ None = λ none. possible (ap (option_and_then (λ (book : Book). card_in book c)) here ∙ ap (option_map (card_resource (number_of old c))) none) in
    let now : label_card c label (get old.cards c) old ≡ new = same_Some _ _ (sym (ap (option_map (λ (book : Book). label_card c label (get book.cards c) book)) before) ∙ after) in
    ap (λ (book : Book). book.changes) (sym now) ∙ label_touches (get old.cards c) c label there old ∙ ap (fold touched old.changes) (sym (names_in_one b b' c is)))
    (λ apart after.
    let now : old ≡ new = same_Some _ _ (sym before ∙ after) in
    ap (λ (book : Book). book.changes) (sym now) ∙ ap (fold touched old.changes) (sym (names_in_other b b' c apart)))

label_in_turn : (p : Path) (label : List ℕ) (o : Office) → resource_at o p ≢ None → (b : List ℕ) (old new : Book) → get o.books b ≡ Some old
    → get (set_label p label o).books b ≡ Some new → new.changes ≡ fold touched old.changes (names_in b (touches_label p))
label_in_turn path.Root label o possible b old new before = same_numbers old new _ before
label_in_turn path.People label o possible b old new before = same_numbers old new _ before
label_in_turn path.Groups label o possible b old new before = same_numbers old new _ before
label_in_turn path.Books label o possible b old new before = same_numbers old new _ before
label_in_turn (path.Person n) label o possible b old new before = same_numbers old new _ before
label_in_turn (path.Group n) label o possible b old new before = same_numbers old new _ before
label_in_turn (path.Book b') label o possible b old new before = none_touched o (with_book_properties (label_set label)) b' (λ _. refl) b old new before
label_in_turn (path.Card b' c) label o possible b old new before = label_touched o b' c label possible b old new before

list_in_turn : (p : Path) (list : List Entry) (o : Office) (b : List ℕ) (old new : Book) → get o.books b ≡ Some old
    → get (set_list p list o).books b ≡ Some new → new.changes ≡ old.changes
list_in_turn path.Root list o b old new before = same_numbers old new _ before
list_in_turn path.People list o b old new before = same_numbers old new _ before
list_in_turn path.Groups list o b old new before = same_numbers old new _ before
list_in_turn path.Books list o b old new before = same_numbers old new _ before
list_in_turn (path.Person n) list o b old new before = same_numbers old new _ before
list_in_turn (path.Group n) list o b old new before = same_numbers old new _ before
list_in_turn (path.Book b') list o b old new before = none_touched o (with_book_properties (list_set list)) b' (λ _. refl) b old new before
list_in_turn (path.Card b' c) list o b old new before = none_touched o (with_cards (λ cards. changed_at (listed_card list) cards c)) b' (λ _. refl) b old new before

pub names_touched_in_turn : NamesAreTouchedInTurn
names_touched_in_turn o (PutCard b' c owner text) b old new possible before = one_touched o (put_card c owner text) b' c (λ _. refl) b old new before
names_touched_in_turn o (RemoveCard b' c) b old new possible before = one_touched o (remove_card c) b' c (λ _. refl) b old new before
names_touched_in_turn o (CopyCard fb fc b' c owner) b old new possible before =
    one_touched o (copy_from (card_at o fb fc) c owner) b' c (copy_touches (card_at o fb fc) c owner possible.0) b old new before
names_touched_in_turn o (MoveCard fb fc tb tc) b old new possible before =
    then_touched o (remove_card fc) (move_to (card_at o fb fc) tc) fb fc tb tc (λ _. refl) (move_touches (card_at o fb fc) tc possible.0) b old new before
names_touched_in_turn o (AddBook b' owner) b old new none before = by_put o.books b' (new_book owner) b (λ r. r ≡ Some new → new.changes ≡ old.changes)
    (λ is _. some_apart (sym before ∙ ap (get o.books) is ∙ none))
    (λ _ after. ap (λ (book : Book). book.changes) (same_Some _ _ (sym after ∙ before)))
names_touched_in_turn o (RemoveBook b') b old new possible before = by_removed o.books b' b (λ r. r ≡ Some new → new.changes ≡ old.changes)
    (λ _ after. some_apart (sym after))
    (λ _ after. ap (λ (book : Book). book.changes) (same_Some _ _ (sym after ∙ before)))
names_touched_in_turn o (SetLabel p label) b old new possible before = label_in_turn p label o possible b old new before
names_touched_in_turn o (SetList p list) b old new possible before = list_in_turn p list o b old new before
names_touched_in_turn o (SetMembers group members) b old new possible before = same_numbers old new _ before
names_touched_in_turn o (Adopt t) b old new possible before = λ after.
    book_kept t (book_path b) (get t.books b) old new (ap (book_after t (book_path b) (get t.books b)) (sym before) ∙ sym (book_adopted t o b) ∙ after)

-- names touched in turn
in_turn_renumbers : (names : List (List ℕ)) (old : Numbers) → Renumbers old (fold touched old names) names
in_turn_renumbers [] old = record { number = omega arith; touched = λ q h. absurd (let l = h.1 in omega arith); others = λ q h. refl }
in_turn_renumbers (name ∷ names) old =
    let middle : Numbers = touched old name in
    let new : Numbers = fold touched middle names in
    let rest : Renumbers middle new names = in_turn_renumbers names middle in
    let counted = rest.number in
    record {
      number = omega arith;
      touched = λ q h. elim (among names q) [
        | inl later ↦ let t = rest.touched q later in (t.0, t.1, omega arith, t.3)
        | inr none ↦
            let is : q ≡ name = elim (contains_cases name names q h) [ inl is ↦ is | inr later ↦ absurd (none later) ] in
            let at : get middle.last q ≡ Some (old.number + 1) = ap (get middle.last) is ∙ put_here old.last name (old.number + 1) in
            (old.number + 1, rest.others q none ∙ at, omega arith, omega arith)
      ];
      others = λ q h.
          rest.others q (λ later. h (contains_later name names q later))
          ∙ put_elsewhere old.last name (old.number + 1) q (λ is. h (contains_first name names q is));
    }

pub touched_names_alone_change : TouchedNamesAloneChange
touched_names_alone_change o edit b old new possible before after =
    subst (λ changes. Renumbers old.changes changes (names_in b (touches edit)))
    (sym (names_touched_in_turn o edit b old new possible before after))
    (in_turn_renumbers (names_in b (touches edit)) old.changes)

placed_changes : (book : Book) (c : List ℕ) (card : StoredCard) → ChangesOneName book (place_card book c card) c
placed_changes book c card = record {
  number = refl;
  touched = put_here book.changes.last c (book.changes.number + 1);
  others = λ q apart. put_elsewhere book.changes.last c (book.changes.number + 1) q apart;
  cards = λ q apart. put_elsewhere book.cards c card q apart;
  properties = refl;
}

removed_changes : (book : Book) (c : List ℕ) → ChangesOneName book (remove_card c book) c
removed_changes book c = record {
  number = refl;
  touched = put_here book.changes.last c (book.changes.number + 1);
  others = λ q apart. put_elsewhere book.changes.last c (book.changes.number + 1) q apart;
  cards = λ q apart. removed_elsewhere book.cards c q apart;
  properties = refl;
}

pub put_card_changes : PutCardChangesOneName
put_card_changes o b c owner text old at =
    let card : StoredCard = card_put (get old.cards c) owner text in (
      put_card c owner text old,
      changed_here o.books b (put_card c owner text) ∙ ap (option_map (put_card c owner text)) at,
      λ none. some_apart (sym (put_here old.cards c card) ∙ none),
      placed_changes old c card,
    )

pub remove_card_changes : RemoveCardChangesOneName
remove_card_changes o b c old at = (
  remove_card c old,
  changed_here o.books b (remove_card c) ∙ ap (option_map (remove_card c)) at,
  removed_here old.cards c,
  removed_changes old c,
)

pub copy_card_changes : CopyCardChangesOneName
copy_card_changes o fb fc tb tc owner old mapped at = where_some (card_at o fb fc) mapped (λ source is.
    let card : StoredCard = card_copied (get old.cards tc) owner source.label source.text in (
      place_card old tc card,
      changed_here o.books tb (copy_from (card_at o fb fc) tc owner) ∙ ap (option_map (copy_from (card_at o fb fc) tc owner)) at ∙ ap (λ r. Some (copy_from r tc owner old)) is,
      λ none. some_apart (sym (put_here old.cards tc card) ∙ none),
      placed_changes old tc card,
    ))

pub move_across_changes : MoveAcrossChangesANameOfEach
move_across_changes o fb fc tb tc source target card apart at here beside =
    let middle : Office = with_book (remove_card fc) o fb in
    let put : Book → Book = move_to (card_at o fb fc) tc in (
      remove_card fc source,
      place_card target tc card,
      changed_elsewhere middle.books tb put fb apart ∙ changed_here o.books fb (remove_card fc) ∙ ap (option_map (remove_card fc)) at,
      removed_here source.cards fc,
      removed_changes source fc,
      changed_here middle.books tb put ∙ ap (option_map put) (changed_elsewhere o.books fb (remove_card fc) tb (λ is. apart (sym is)) ∙ beside)
          ∙ ap (λ r. Some (move_to r tc target)) (card_is o fb fc source card at here),
      put_here target.cards tc card,
      placed_changes target tc card,
    )

pub move_within_changes : MoveWithinChangesTwoNames
move_within_changes o b fc tc old card apart at here =
    let middle : Office = with_book (remove_card fc) o b in
    let put : Book → Book = move_to (card_at o b fc) tc in
    let removed : Book = remove_card fc old in (
      place_card removed tc card,
      changed_here middle.books b put ∙ ap (option_map put) (changed_here o.books b (remove_card fc) ∙ ap (option_map (remove_card fc)) at)
          ∙ ap (λ r. Some (move_to r tc removed)) (card_is o b fc old card at here),
      put_elsewhere removed.cards tc card fc apart ∙ removed_here old.cards fc,
      put_here removed.cards tc card,
      record {
        number = omega arith;
        first = put_elsewhere removed.changes.last tc (removed.changes.number + 1) fc apart ∙ put_here old.changes.last fc (old.changes.number + 1);
        second = put_here removed.changes.last tc (removed.changes.number + 1);
        others = λ q not_first not_second. put_elsewhere removed.changes.last tc (removed.changes.number + 1) q not_second
            ∙ put_elsewhere old.changes.last fc (old.changes.number + 1) q not_first;
        cards = λ q not_first not_second. put_elsewhere removed.cards tc card q not_second ∙ removed_elsewhere old.cards fc q not_first;
        properties = refl;
      },
    )

pub card_label_changes : CardLabelChangesOneName
card_label_changes o b c label old card at here = (
  place_card old c (card_labelled label card),
  changed_here o.books b (λ (book : Book). label_card c label (get book.cards c) book)
      ∙ ap (option_map (λ (book : Book). label_card c label (get book.cards c) book)) at ∙ ap (λ r. Some (label_card c label r old)) here,
  put_here old.cards c (card_labelled label card),
  placed_changes old c (card_labelled label card),
)

pub new_book_has_no_changes : NewBookHasNoChanges
new_book_has_no_changes o b owner =
    (new_book owner, put_here o.books b (new_book owner), refl, λ q. get-empty name_cmp q, λ q. get-empty name_cmp q)

pub removed_book_is_gone : RemovedBookIsGone
removed_book_is_gone o b = removed_here o.books b
