-- The cards that an edit touches have the next numbers of their books.
use Rattle.std.proofs.Common.{◌≡◌, ◌≢◌, ℕ, ◌+◌, ◌≤◌, List, [], ◌∷◌, map, length, All, Contains, zero, suc, filter, Bool, true, false, if◌then◌else◌, cond, Option, Some, None, option_map, option_and_then, unwrap_or, refl, sym, ap, ◌∙◌, subst, inl, inr, ◌⊎◌, arith, bytes_eq}
use Rattle.std.proofs.lemmas.List.Elements.{All-cons, All-nil}
use Rattle.std.proofs.lemmas.Slice.Eq.{bytes_eq-Decides}
use Rattle.std.specs.FinMap.{get}
use Rattle.book_office.proofs.TouchedNames.{put_card_changes, remove_card_changes, copy_card_changes, move_across_changes, move_within_changes, card_label_changes, touched_names_alone_change}
use Rattle.book_office.specs.Edits.{apply, touches}
use Rattle.book_office.specs.Resources.{card_at, card_in, card_resource, number_of, resource_at}
use Rattle.book_office.specs.Sound.{IsPossible}
use Rattle.book_office.specs.Touches.{ChangesOneName, names_in}
use Rattle.book_office.specs.declared.edits.Edit.{Edit}
use Rattle.book_office.specs.declared.edits.Edit.TheVariants.{PutCard, RemoveCard, CopyCard, MoveCard, AddBook, RemoveBook, SetLabel, SetList, SetMembers, Adopt}
use Rattle.book_office_values.specs.declared.offices.Book.{Book}
use Rattle.book_office_values.specs.declared.offices.Office.{Office}
use Rattle.book_office_values.specs.declared.offices.StoredCard.{StoredCard}
use Rattle.book_office_values.specs.declared.paths.Path.{Path}
use Rattle.book_office_values.specs.declared.paths.Path.TheVariants as path
use Rattle.book_log_lines.specs.declared.lines.Touched.{Touched}
use Rattle.book_log_replies.specs.Effects.{last_change, touched_at}
use Rattle.book_log_replies.specs.Laws.{IsLastChange, TellsChanges}

-- ---- what is there
there : {A : Type 0} (r : Option A) → r ≢ None → (x : A) × (r ≡ Some x)
there None h = absurd (h refl)
there (Some x) h = (x, refl)

module _ (o : Office) (b c : List ℕ) where
  -- a card that is there, in its book
  card_there : card_at o b c ≢ None → (book : Book) × (card : StoredCard) × (get o.books b ≡ Some book) × (get book.cards c ≡ Some card)
  card_there some = by_book (get o.books b) refl
    where
      by_book : (r : Option Book) → get o.books b ≡ r → (book : Book) × (card : StoredCard) × (get o.books b ≡ Some book) × (get book.cards c ≡ Some card)
      by_book None is = absurd (some (ap (option_and_then (λ (book : Book). get book.cards c)) is))
      by_book (Some book) is =
          let card = there (get book.cards c) (λ none. some (ap (option_and_then (λ (book : Book). get book.cards c)) is ∙ none)) in
          (book, card.0, is, card.1)

  resource_there : resource_at o (path.Card b c) ≢ None → card_at o b c ≢ None
  resource_there some none = by_book (get o.books b) refl
    where
      by_card : (book : Book) → get o.books b ≡ Some book → get book.cards c ≡ None → ⊥
      by_card book is gone = some (ap (option_and_then (λ (book : Book). card_in book c)) is ∙ ap (option_map (card_resource (number_of book c))) gone)

      by_book : (r : Option Book) → get o.books b ≡ r → ⊥
      by_book None is = some (ap (option_and_then (λ (book : Book). card_in book c)) is)
      by_book (Some book) is = by_card book is (sym (ap (option_and_then (λ (book : Book). get book.cards c)) is) ∙ none)

-- ---- the number of a change
-- the card's name has that number, which its book has reached
pub record IsLast (after : Office) (card : List ℕ × List ℕ) (n : ℕ) : Type 0 where
  pub book : Book
  pub at : get after.books card.0 ≡ Some book
  pub last : get book.changes.last card.1 ≡ Some n
  pub within : n ≤ book.changes.number

-- the number is so many ahead of that of the card's book before
pub record IsNext (o after : Office) (ahead : ℕ) (card : List ℕ × List ℕ) : Type 0 where
  pub old : Book
  pub was : get o.books card.0 ≡ Some old
  pub now : IsLast after card (old.changes.number + ahead)

-- the number of the second of two cards: of one book, it takes the second number
abbrev pub ahead_of : List ℕ → List ℕ → ℕ
ahead_of one other = if bytes_eq one other then 2 else 1

abbrev pub AreNext : Office → Office → List (List ℕ × List ℕ) → Type 0
AreNext o after [] = Unit {0}
AreNext o after (x ∷ []) = IsNext o after 1 x
AreNext o after (x ∷ y ∷ rest) = IsNext o after 1 x × IsNext o after (ahead_of x.0 y.0) y × (rest ≡ [])

next_one : (o after : Office) (b c : List ℕ) (old new : Book) → get o.books b ≡ Some old → get after.books b ≡ Some new → ChangesOneName old new c → IsNext o after 1 (b, c)
next_one o after b c old new was at changes =
    let number = changes.number in
    record { old = old; was = was; now = record { book = new; at = at; last = changes.touched ∙ ap Some number; within = omega (arith, number) } }

moved_next : (o : Office) (fb fc tb tc : List ℕ) → IsPossible o (MoveCard fb fc tb tc) → AreNext o (apply o (MoveCard fb fc tb tc)) ((fb, fc) ∷ (tb, tc) ∷ [])
moved_next o fb fc tb tc possible = by_same (bytes_eq fb tb) refl
  where
    source : (book : Book) × (card : StoredCard) × (get o.books fb ≡ Some book) × (get book.cards fc ≡ Some card)
    source = card_there o fb fc possible.0

    within : fc ≢ tc → AreNext o (apply o (MoveCard fb fc fb tc)) ((fb, fc) ∷ (fb, tc) ∷ [])
    within apart =
        let s = source in
        let m = move_within_changes o fb fc tc s.0 s.1 apart s.2 s.3 in
        let number = m.4.number in
        let two : ahead_of fb fb ≡ 2 = ap (λ (t : Bool). if t then 2 else 1) ((bytes_eq-Decides fb fb).1 refl) in (
          record { old = s.0; was = s.2; now = record { book = m.0; at = m.1; last = m.4.first; within = omega (arith, number) } },
          record {
            old = s.0;
            was = s.2;
            now = record {
              book = m.0;
              at = m.1;
              last = m.4.second ∙ ap Some (number ∙ ap (λ (k : ℕ). s.0.changes.number + k) (sym two));
              within = omega (arith, number, two);
            };
          },
          refl,
        )

    across : fb ≢ tb → ahead_of fb tb ≡ 1 → AreNext o (apply o (MoveCard fb fc tb tc)) ((fb, fc) ∷ (tb, tc) ∷ [])
    across apart one =
        let s = source in
        let t = there (get o.books tb) possible.1 in
        let m = move_across_changes o fb fc tb tc s.0 t.0 s.1 apart s.2 s.3 t.1 in (
          next_one o _ fb fc s.0 m.0 s.2 m.2 m.4,
          subst (λ (k : ℕ). IsNext o (apply o (MoveCard fb fc tb tc)) k (tb, tc)) (sym one) (next_one o _ tb tc t.0 m.1 t.1 m.5 m.7),
          refl,
        )

    by_same : (same : Bool) → bytes_eq fb tb ≡ same → AreNext o (apply o (MoveCard fb fc tb tc)) ((fb, fc) ∷ (tb, tc) ∷ [])
    by_same true is =
        let one : fb ≡ tb = (bytes_eq-Decides fb tb).0 is in
        subst (λ (b : List ℕ). AreNext o (apply o (MoveCard fb fc b tc)) ((fb, fc) ∷ (b, tc) ∷ [])) one (within (possible.2 one))
    by_same false is =
        across (λ one. let yes = (bytes_eq-Decides fb tb).1 one in absurd cc) (ap (λ (t : Bool). if t then 2 else 1) is)

labelled_next : (o : Office) (p : Path) (label : List ℕ) → IsPossible o (SetLabel p label) → AreNext o (apply o (SetLabel p label)) (touches (SetLabel p label))
labelled_next o path.Root label possible = tt
labelled_next o path.People label possible = tt
labelled_next o path.Groups label possible = tt
labelled_next o path.Books label possible = tt
labelled_next o (path.Person n) label possible = tt
labelled_next o (path.Group n) label possible = tt
labelled_next o (path.Book b) label possible = tt
labelled_next o (path.Card b c) label possible =
    let s = card_there o b c (resource_there o b c possible) in
    let m = card_label_changes o b c label s.0 s.1 s.2 s.3 in
    next_one o _ b c s.0 m.0 s.2 m.1 m.3

pub touched_next : (o : Office) (edit : Edit) → IsPossible o edit → AreNext o (apply o edit) (touches edit)
touched_next o (PutCard b c owner text) possible =
    let s = there (get o.books b) possible in
    let m = put_card_changes o b c owner text s.0 s.1 in
    next_one o _ b c s.0 m.0 s.1 m.1 m.3
touched_next o (RemoveCard b c) possible =
    let s = card_there o b c possible in
    let m = remove_card_changes o b c s.0 s.2 in
    next_one o _ b c s.0 m.0 s.2 m.1 m.3
touched_next o (CopyCard fb fc tb tc owner) possible =
    let t = there (get o.books tb) possible.1 in
    let m = copy_card_changes o fb fc tb tc owner t.0 possible.0 t.1 in
    next_one o _ tb tc t.0 m.0 t.1 m.1 m.3
touched_next o (MoveCard fb fc tb tc) possible = moved_next o fb fc tb tc possible
touched_next o (AddBook b owner) possible = tt
touched_next o (RemoveBook b) possible = tt
touched_next o (SetLabel p label) possible = labelled_next o p label possible
touched_next o (SetList p list) possible = tt
touched_next o (SetMembers group members) possible = tt
touched_next o (Adopt t) possible = tt

-- ---- what is told of them
pub last_is : (after : Office) (card : List ℕ × List ℕ) (n : ℕ) → IsLast after card n → last_change after card.0 card.1 ≡ n
last_is after card n is =
    ap (λ (r : Option Book). unwrap_or (option_map (λ (book : Book). number_of book card.1) r) 0) is.at
    ∙ ap (λ (r : Option ℕ). unwrap_or r 0) is.last

told_last : (o after : Office) (ahead : ℕ) (card : List ℕ × List ℕ) → IsNext o after ahead card → IsLastChange after (touched_at after card)
told_last o after ahead card next =
    (card.0, card.1, next.now.book, refl, next.now.at, next.now.last ∙ ap Some (sym (last_is after card _ next.now)))

each_told : (o after : Office) (cards : List (List ℕ × List ℕ)) → AreNext o after cards → All (IsLastChange after) (map (touched_at after) cards)
each_told o after [] next = All-nil (IsLastChange after)
each_told o after (x ∷ []) next = All-cons (IsLastChange after) (touched_at after x) [] (told_last o after 1 x next) (All-nil (IsLastChange after))
each_told o after (x ∷ y ∷ []) next =
    All-cons (IsLastChange after) (touched_at after x) (touched_at after y ∷ []) (told_last o after 1 x next.0)
    (All-cons (IsLastChange after) (touched_at after y) [] (told_last o after (ahead_of x.0 y.0) y next.1) (All-nil (IsLastChange after)))
each_told o after (x ∷ y ∷ z ∷ rest) next = absurd (let none : z ∷ rest ≡ [] = next.2 in cc)

-- ---- other names
in_later : {A : Type 0} (x : A) (xs : List A) (y : A) → Contains xs y → Contains (x ∷ xs) y
in_later x xs y (k, l, e) = (suc k, omega (arith, l), e)

in_cases : {A : Type 0} (x : A) (xs : List A) (y : A) → Contains (x ∷ xs) y → (y ≡ x) ⊎ Contains xs y
in_cases x xs y (zero, l, e) = inl (sym e)
in_cases x xs y (suc k, l, e) = inr (k, omega (arith, l), e)

abbrev IsTold : Office → List ℕ → List ℕ → List (List ℕ × List ℕ) → Type 0
IsTold after b c cards = Contains (map (λ (t : Touched). t.path) (map (touched_at after) cards)) (path.Card b c)

-- a name that is touched in a book is told
name_told : (after : Office) (b c : List ℕ) (cards : List (List ℕ × List ℕ)) → Contains (names_in b cards) c → IsTold after b c cards
name_told after b c [] h = absurd (let l = h.1 in omega (arith, l))
name_told after b c (x ∷ cards) h = by_same (bytes_eq x.0 b) refl (λ later. name_told after b c cards later)
  where
    by_same : (same : Bool) → bytes_eq x.0 b ≡ same → (Contains (names_in b cards) c → IsTold after b c cards) → IsTold after b c (x ∷ cards)
    by_same true is told =
        let first : names_in b (x ∷ cards) ≡ x.1 ∷ names_in b cards =
        ap (λ (t : Bool). map (λ (touch : List ℕ × List ℕ). touch.1) (cond t (x ∷ filter (λ (touch : List ℕ × List ℕ). bytes_eq touch.0 b) cards) (filter (λ (touch : List ℕ × List ℕ). bytes_eq touch.0 b) cards))) is in
        elim (in_cases x.1 (names_in b cards) c (subst (λ names. Contains names c) first h)) [
          | inl same ↦ (0, omega arith, λ i. path.Card ((bytes_eq-Decides x.0 b).0 is i) (sym same i))
          | inr later ↦ in_later (path.Card x.0 x.1) _ (path.Card b c) (told later)
        ]
    by_same false is told =
        let rest : names_in b (x ∷ cards) ≡ names_in b cards =
        ap (λ (t : Bool). map (λ (touch : List ℕ × List ℕ). touch.1) (cond t (x ∷ filter (λ (touch : List ℕ × List ℕ). bytes_eq touch.0 b) cards) (filter (λ (touch : List ℕ × List ℕ). bytes_eq touch.0 b) cards))) is in
        in_later (path.Card x.0 x.1) _ (path.Card b c) (told (subst (λ names. Contains names c) rest h))

pub others_stay : (o : Office) (edit : Edit) (b c : List ℕ) (old new : Book) → IsPossible o edit → get o.books b ≡ Some old → get (apply o edit).books b ≡ Some new
    → (Contains (map (λ (t : Touched). t.path) (map (touched_at (apply o edit)) (touches edit))) (path.Card b c) → ⊥)
    → get new.changes.last c ≡ get old.changes.last c
others_stay o edit b c old new possible was now untold =
    (touched_names_alone_change o edit b old new possible was now).others c (λ told. untold (name_told (apply o edit) b c (touches edit) told))

pub cards_told : (o : Office) (edit : Edit) → IsPossible o edit → length (touches edit) ≤ 2
    → TellsChanges o (apply o edit) (map (touched_at (apply o edit)) (touches edit))
cards_told o edit possible few = record {
  few = few_told (touches edit) few;
  each = each_told o (apply o edit) (touches edit) (touched_next o edit possible);
  others = λ b c old new was now untold. others_stay o edit b c old new possible was now untold;
}
  where
    few_told : (cards : List (List ℕ × List ℕ)) → length cards ≤ 2 → length (map (touched_at (apply o edit)) cards) ≤ 2
    few_told [] h = omega arith
    few_told (x ∷ []) h = omega arith
    few_told (x ∷ y ∷ []) h = omega arith
    few_told (x ∷ y ∷ z ∷ rest) h = absurd (omega (arith, h))
