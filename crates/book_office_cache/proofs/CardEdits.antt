-- An edit of cards leaves what is remembered true.
use Rattle.book_office_cache.proofs.Common.{◌≡◌, Option, Some, ap, ◌∙◌, Remembers, bare_level, Remembered, level_at, Node, Office}
use Rattle.std.proofs.Common.{arith, ◌≤◌, ◌⊎◌, ℕ, ◌+◌, ◌-◌, Bool, true, false, cond, List, [], None, option_and_then, refl, sym}
use Rattle.std.specs.FinMap.{get, insert, remove, len, len-insert, len-remove, contains_key}
use Rattle.std.specs.Cmp.Lexicographic.{nat_list_cmp_total}
use Rattle.book_office_cache.proofs.OneBook.{Hold, IsNode, AreBareIn, AreAllBareIn, IsAtMost, IsLevel, KeepsProperties, GivesNone, AddsNone, AddsOne, own_of, own_under, none_if, hold_removed, hold_followed, hold_stays, level_stays, node_raised, cards_stay_bare, all_stay_bare, count_stays, count_grows, books_remembered}
use Rattle.book_office_cache.specs.Remembering.{one_card_more, with_next_number}
use Rattle.book_office.specs.Edits.{apply, with_book, put_card, card_put, remove_card, copy_from, card_copied, move_to}
use Rattle.book_office.specs.declared.edits.Edit.TheVariants.{PutCard, RemoveCard, CopyCard, MoveCard}
use Rattle.book_office.specs.Resources.{card_at}
use Rattle.book_office_values.specs.declared.offices.Book.{Book}
use Rattle.book_office_values.specs.declared.offices.StoredCard.{StoredCard}
use Rattle.book_office_values.specs.declared.paths.Path.TheVariants as path
use Rattle.book_office_values.specs.Names.{NamesTo, changed_at}
use Rattle.book_office_values.proofs.OneName.{by_put, by_removed}

at_most_one : (there : Bool) (n : ℕ) → cond there n (n + 1) ≤ n + 1
at_most_one true n = omega arith
at_most_one false n = omega arith

at_most_none : (there : Bool) (n : ℕ) → cond there (n - 1) n ≤ n
at_most_none true n = omega arith
at_most_none false n = omega arith

inserted : (cards : NamesTo StoredCard) (c : List ℕ) (card : StoredCard) → len (insert cards c card) ≤ len cards + 1
inserted cards c card = rw (len-insert nat_list_cmp_total cards c card) (at_most_one (contains_key cards c) (len cards))

removed : (cards : NamesTo StoredCard) (c : List ℕ) → len (remove cards c) ≤ len cards
removed cards c = rw (len-remove nat_list_cmp_total cards c) (at_most_none (contains_key cards c) (len cards))

put_gives : (c : List ℕ) (owner : Option (List ℕ)) (text : List ℕ) → GivesNone (put_card c owner text)
put_gives c owner text book q is =
    by_put book.cards c (card_put (get book.cards c) owner text) q (λ card. own_of card ≡ [])
    (λ same. go (get book.cards c) (ap (λ n. own_of (get book.cards n)) (sym same) ∙ is)) (λ _. is)
  where
    go : (card : Option StoredCard) → own_of card ≡ [] → (card_put card owner text).own ≡ []
    go None is = refl
    go (Some card) is = is

remove_gives : (c : List ℕ) → GivesNone (remove_card c)
remove_gives c book q is = by_removed book.cards c q (λ card. own_of card ≡ []) (λ _. refl) (λ _. is)

copy_gives : (source : Option StoredCard) (c : List ℕ) (owner : Option (List ℕ)) → GivesNone (copy_from source c owner)
copy_gives None c owner book q is = is
copy_gives (Some source) c owner book q is =
    by_put book.cards c (card_copied (get book.cards c) owner source.label source.text) q (λ card. own_of card ≡ [])
    (λ same. go (get book.cards c) (ap (λ n. own_of (get book.cards n)) (sym same) ∙ is)) (λ _. is)
  where
    go : (card : Option StoredCard) → own_of card ≡ [] → (card_copied card owner source.label source.text).own ≡ []
    go None is = refl
    go (Some card) is = is

-- a card without entries that is moved gives none
move_gives : (source : Option StoredCard) (c : List ℕ) → own_of source ≡ [] → GivesNone (move_to source c)
move_gives None c none book q is = is
move_gives (Some card) c none book q is = by_put book.cards c card q (λ card. own_of card ≡ []) (λ _. none) (λ _. is)

own_at : (c : List ℕ) (book : Option Book) → own_under c book ≡ [] → own_of (option_and_then (λ (book : Book). get book.cards c) book) ≡ []
own_at c None is = refl
own_at c (Some book) is = is

copy_keeps : (source : Option StoredCard) (c : List ℕ) (owner : Option (List ℕ)) → KeepsProperties (copy_from source c owner)
copy_keeps None c owner book = refl
copy_keeps (Some source) c owner book = refl

move_keeps : (source : Option StoredCard) (c : List ℕ) → KeepsProperties (move_to source c)
move_keeps None c book = refl
move_keeps (Some source) c book = refl

copy_adds : (source : Option StoredCard) (c : List ℕ) (owner : Option (List ℕ)) → AddsOne (copy_from source c owner)
copy_adds None c owner book = omega arith
copy_adds (Some source) c owner book = inserted book.cards c (card_copied (get book.cards c) owner source.label source.text)

move_adds : (source : Option StoredCard) (c : List ℕ) → AddsOne (move_to source c)
move_adds None c book = omega arith
move_adds (Some source) c book = inserted book.cards c source

-- a card more is counted, or the cards are not counted any more
abbrev Counted : NamesTo ℕ → List ℕ → NamesTo ℕ → Type 0
Counted counts b after = (after ≡ changed_at one_card_more counts b) ⊎ (after ≡ remove counts b)

abbrev Raised : NamesTo Node → List ℕ → NamesTo Node → Type 0
Raised nodes b after = (after ≡ changed_at with_next_number nodes b) ⊎ (after ≡ remove nodes b)

-- a change of the cards of one book
module _ (f : Book → Book) (keeps : KeepsProperties f) (r : Remembered) (o : Office) (remembers : Remembers r o) (b : List ℕ) where
  pub cards_changed : (nodes : NamesTo Node) (bare : NamesTo (NamesTo (Unit {0}))) (all : NamesTo (Unit {0})) (counts : NamesTo ℕ)
      → Hold IsNode nodes (changed_at f o.books b) → Hold AreBareIn bare (changed_at f o.books b) → Hold AreAllBareIn all (changed_at f o.books b) → Hold IsAtMost counts (changed_at f o.books b)
      → Remembers (record r { book_nodes = nodes; bare = bare; bare_books = all; counts = counts }) (with_book f o b)
  cards_changed nodes bare all counts =
      books_remembered r o remembers (changed_at f o.books b) o.epoch r.books nodes bare all counts
      (hold_stays IsLevel f b o.books r.books remembers.books (λ level is. level_stays f keeps b level (get o.books b) is))

  -- one that gives no card entries
  pub cards_changed_bare : GivesNone f → (nodes : NamesTo Node) (counts : NamesTo ℕ) → Hold IsNode nodes (changed_at f o.books b) → Hold IsAtMost counts (changed_at f o.books b)
      → Remembers (record r { book_nodes = nodes; counts = counts }) (with_book f o b)
  cards_changed_bare gives nodes counts are counted =
      cards_changed nodes r.bare r.bare_books counts are
      (hold_stays AreBareIn f b o.books r.bare remembers.bare (λ cards is. cards_stay_bare f gives b cards (get o.books b) is))
      (hold_stays AreAllBareIn f b o.books r.bare_books remembers.bare_books (λ unit is. all_stay_bare f gives b unit (get o.books b) is))
      counted

  pub number_raised : ((book : Book) → (f book).changes.number ≡ book.changes.number + 1) → (nodes : NamesTo Node) → Raised r.book_nodes b nodes → Hold IsNode nodes (changed_at f o.books b)
  number_raised raises = hold_followed IsNode f b o.books r.book_nodes remembers.book_nodes with_next_number (λ node is. node_raised f keeps raises b node (get o.books b) is)

  pub number_forgotten : Hold IsNode (remove r.book_nodes b) (changed_at f o.books b)
  number_forgotten = hold_removed IsNode f b o.books r.book_nodes remembers.book_nodes

  pub one_counted : AddsOne f → (counts : NamesTo ℕ) → Counted r.counts b counts → Hold IsAtMost counts (changed_at f o.books b)
  one_counted adds = hold_followed IsAtMost f b o.books r.counts remembers.counts one_card_more (λ count is. count_grows f adds b count (get o.books b) is)

  pub none_counted : AddsNone f → Hold IsAtMost r.counts (changed_at f o.books b)
  none_counted adds = hold_stays IsAtMost f b o.books r.counts remembers.counts (λ count is. count_stays f adds b count (get o.books b) is)

-- what is remembered after each edit of cards
module _ (r : Remembered) (o : Office) (remembers : Remembers r o) where
  pub put_remembers : (b c : List ℕ) (owner : Option (List ℕ)) (text : List ℕ) (nodes : NamesTo Node) (counts : NamesTo ℕ)
      → Raised r.book_nodes b nodes → Counted r.counts b counts
      → Remembers (record r { book_nodes = nodes; counts = counts }) (apply o (PutCard b c owner text))
  put_remembers b c owner text nodes counts raised counted =
      let f = put_card c owner text in
      cards_changed_bare f (λ _. refl) r o remembers b (put_gives c owner text) nodes counts
      (number_raised f (λ _. refl) r o remembers b (λ _. refl) nodes raised)
      (one_counted f (λ _. refl) r o remembers b (λ book. inserted book.cards c (card_put (get book.cards c) owner text)) counts counted)

  pub remove_remembers : (b c : List ℕ) (nodes : NamesTo Node) → Raised r.book_nodes b nodes → Remembers (record r { book_nodes = nodes }) (apply o (RemoveCard b c))
  remove_remembers b c nodes raised =
      let f = remove_card c in
      cards_changed_bare f (λ _. refl) r o remembers b (remove_gives c) nodes r.counts
      (number_raised f (λ _. refl) r o remembers b (λ _. refl) nodes raised)
      (none_counted f (λ _. refl) r o remembers b (λ book. removed book.cards c))

  pub copy_remembers : (from_book from_card to_book to_card : List ℕ) (owner : Option (List ℕ)) (counts : NamesTo ℕ) → Counted r.counts to_book counts
      → Remembers (record r { book_nodes = remove r.book_nodes to_book; counts = counts }) (apply o (CopyCard from_book from_card to_book to_card owner))
  copy_remembers from_book from_card to_book to_card owner counts counted =
      let source = card_at o from_book from_card in
      let f = copy_from source to_card owner in
      cards_changed_bare f (copy_keeps source to_card owner) r o remembers to_book (copy_gives source to_card owner) (remove r.book_nodes to_book) counts
      (number_forgotten f (copy_keeps source to_card owner) r o remembers to_book)
      (one_counted f (copy_keeps source to_card owner) r o remembers to_book (copy_adds source to_card owner) counts counted)

  -- the source is removed
  left_remembers : (b c : List ℕ) → Remembers (record r { book_nodes = remove r.book_nodes b }) (with_book (remove_card c) o b)
  left_remembers b c =
      let f = remove_card c in
      cards_changed_bare f (λ _. refl) r o remembers b (remove_gives c) (remove r.book_nodes b) r.counts
      (number_forgotten f (λ _. refl) r o remembers b)
      (none_counted f (λ _. refl) r o remembers b (λ book. removed book.cards c))

  -- a card without entries is moved
  pub bare_move_remembers : (from_book from_card to_book to_card : List ℕ) (counts : NamesTo ℕ)
      → bare_level (path.Card from_book from_card) ≡ level_at o (path.Card from_book from_card) → Counted r.counts to_book counts
      → Remembers (record r { book_nodes = remove (remove r.book_nodes from_book) to_book; counts = counts }) (apply o (MoveCard from_book from_card to_book to_card))
  bare_move_remembers from_book from_card to_book to_card counts bare counted =
      let source = card_at o from_book from_card in
      let f = move_to source to_card in
      let keeps = move_keeps source to_card in
      let none : own_of source ≡ [] = own_at from_card (get o.books from_book) (none_if from_book from_card (get o.books from_book) bare) in
      let left = with_book (remove_card from_card) o from_book in
      let rest = record r { book_nodes = remove r.book_nodes from_book } in
      let before : Remembers rest left = left_remembers from_book from_card in
      cards_changed_bare f keeps rest left before to_book (move_gives source to_card none) (remove rest.book_nodes to_book) counts
      (number_forgotten f keeps rest left before to_book)
      (one_counted f keeps rest left before to_book (move_adds source to_card) counts counted)

  -- a card that may have entries is moved
  pub move_remembers : (from_book from_card to_book to_card : List ℕ) (counts : NamesTo ℕ) → Counted r.counts to_book counts
      → Remembers (record r { book_nodes = remove (remove r.book_nodes from_book) to_book; bare = remove r.bare to_book; bare_books = remove r.bare_books to_book; counts = counts })
      (apply o (MoveCard from_book from_card to_book to_card))
  move_remembers from_book from_card to_book to_card counts counted =
      let source = card_at o from_book from_card in
      let f = move_to source to_card in
      let keeps = move_keeps source to_card in
      let left = with_book (remove_card from_card) o from_book in
      let rest = record r { book_nodes = remove r.book_nodes from_book } in
      let before : Remembers rest left = left_remembers from_book from_card in
      cards_changed f keeps rest left before to_book (remove rest.book_nodes to_book) (remove r.bare to_book) (remove r.bare_books to_book) counts
      (number_forgotten f keeps rest left before to_book)
      (hold_removed AreBareIn f to_book left.books r.bare before.bare)
      (hold_removed AreAllBareIn f to_book left.books r.bare_books before.bare_books)
      (one_counted f keeps rest left before to_book (move_adds source to_card) counts counted)
