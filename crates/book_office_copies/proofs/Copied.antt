-- What is read of a sound Office is that Office.
use Rattle.std.proofs.Common.{◌≡◌, ◌≤◌, inl, inr, ℕ, List, [], ◌∷◌, true, map, nat_lt, Option, Some, None, option_map, unwrap_or, refl, sym, ap, ◌∙◌, arith}
use Rattle.std.proofs.lemmas.Bool.Decides.{nat_tests}
use Rattle.std.specs.Cmp.Lexicographic.{nat_list_cmp_total}
use Rattle.std.specs.FinMap.{empty, entries, get, get-empty, insert, same_map}
use Rattle.book_lists.specs.Names.{name_cmp}
use Rattle.book_office.specs.Resources.{Resource, as_listed, book_resource, changed_after, changed_in, listed_books, listed_principals, node_of}
use Rattle.book_office.specs.Sound.{IsSound, IsSoundBook}
use Rattle.book_office_adopting.proofs.Merges.{get_mapped, made_of}
use Rattle.book_office_adopting.proofs.TakenOver.{get_placed}
use Rattle.book_office_adopting.specs.TakingOver.{all_inserted, bare, bare_books, emptied}
use Rattle.book_office_sync.proofs.ChangesAfter.{after_last, after_whole}
use Rattle.book_office_values.proofs.Members.{Mem, mem_get}
use Rattle.book_office_values.proofs.NameMapLaws.{names_apart}
use Rattle.book_office_values.proofs.OneName.{by_option, by_put, some_apart, where_some}
use Rattle.book_office_values.specs.Changes.{Change, changes_after}
use Rattle.book_office_values.specs.Fresh.{empty_properties}
use Rattle.book_office_values.specs.Names.{NamesTo}
use Rattle.book_office_values.specs.declared.offices.Book.{Book}
use Rattle.book_office_values.specs.declared.offices.Office.{Office}
use Rattle.book_office_values.specs.declared.offices.Properties.{Properties}
use Rattle.book_office_values.specs.declared.offices.StoredCard.{StoredCard}
use Rattle.book_office_values.specs.declared.paths.Kind.{Kind}
use Rattle.book_office_values.specs.declared.paths.Kind.TheVariants as kind
use Rattle.book_office_values.specs.declared.paths.Path.{Path}
use Rattle.book_office_copies.specs.Copies.{as_it_is, bare_entry, bare_maps_told, book_told, books_told, cards_in, lasts_in, listed_place, maps_told, named_book, named_entry, office_with, place_with, properties_of, with_card}

-- ---- places, and persons and groups

pub place_is : (r : Option Resource) (p : Path)
    → place_with (option_map node_of r)
    (record { path = p; protected = unwrap_or (option_map (λ (x : Resource). x.protected) r) []; own = unwrap_or (option_map (λ (x : Resource). x.own) r) [] })
    ≡ unwrap_or (option_map properties_of r) (empty_properties None)
place_is None p = refl
place_is (Some r) p = refl

made : {V : Type 0} (r old : Option V) → old ≡ None → made_of (λ x _. x) r old ≡ r
made None old e = e
made (Some v) old e = refl

-- the entries of a map, put into an empty one, are that map
all_back : {V : Type 0} (m : NamesTo V) → all_inserted as_it_is empty (entries m) ≡ m
all_back m = same_map nat_list_cmp_total names_apart _ m (λ q. get_placed as_it_is empty m q ∙ made (get m q) (get empty q) (get-empty name_cmp q))

listed_back : (k : Kind) (es : List (List ℕ × Properties)) → map listed_place (listed_principals k es) ≡ es
listed_back k [] = refl
listed_back k (e ∷ es) = ap (λ rest. e ∷ rest) (listed_back k es)

principals_back : (k : Kind) (m : NamesTo Properties) → all_inserted as_it_is empty (map listed_place (listed_principals k (entries m))) ≡ m
principals_back k m = ap (all_inserted as_it_is empty) (listed_back k (entries m)) ∙ all_back m

-- ---- a book

positive : (n : ℕ) → 1 ≤ n → nat_lt 0 n ≡ true
positive n h = grind (arith, nat_tests)

module _ (o : Office) (book : Book) (sound : IsSoundBook o book) where
  abbrev last : NamesTo ℕ
  last = book.changes.last

  abbrev all : List Change
  all = changes_after last 0

  -- a name that has what the book has at it still does
  card_kept : (m : NamesTo StoredCard) (n : List ℕ) (r : Option StoredCard) → get book.cards n ≡ r → (q : List ℕ) → get m q ≡ get book.cards q → get (with_card m n r) q ≡ get book.cards q
  card_kept m n None at q e = e
  card_kept m n (Some card) at q e = by_put m n card q (λ r. r ≡ get book.cards q) (λ is. sym at ∙ ap (get book.cards) (sym is)) (λ _. e)

  cards_kept : (cs : List Change) (m : NamesTo StoredCard) (q : List ℕ) → get m q ≡ get book.cards q → get (cards_in m (changed_in book cs)) q ≡ get book.cards q
  cards_kept [] m q e = e
  cards_kept (c ∷ cs) m q e = cards_kept cs (with_card m c.1 (get book.cards c.1)) q (card_kept m c.1 (get book.cards c.1) refl q e)

  -- a name that changed has it
  card_here : (m : NamesTo StoredCard) (n : List ℕ) (r : Option StoredCard) (card : StoredCard) (q : List ℕ) → get book.cards n ≡ r → q ≡ n → get book.cards q ≡ Some card
      → get (with_card m n r) q ≡ get book.cards q
  card_here m n None card q at is there = some_apart (sym there ∙ ap (get book.cards) is ∙ at)
  card_here m n (Some c) card q at is there = by_put m n c q (λ r. r ≡ get book.cards q) (λ _. sym at ∙ ap (get book.cards) (sym is)) (λ apart. absurd (apart is))

  cards_there : (cs : List Change) (m : NamesTo StoredCard) (n : ℕ) (q : List ℕ) (card : StoredCard) → Mem (n, q) cs → get book.cards q ≡ Some card
      → get (cards_in m (changed_in book cs)) q ≡ get book.cards q
  cards_there [] m n q card among there = absurd among
  cards_there (c ∷ cs) m n q card (inl is) there =
      cards_kept cs (with_card m c.1 (get book.cards c.1)) q (card_here m c.1 (get book.cards c.1) card q refl (ap (λ p. p.1) is) there)
  cards_there (c ∷ cs) m n q card (inr k) there = cards_there cs (with_card m c.1 (get book.cards c.1)) n q card k there

  among_all : (n : ℕ) (q : List ℕ) → get last q ≡ Some n → Mem (n, q) all
  among_all n q is = after_whole last sound.different 0 n q is (positive n (sound.within q n is).0)

  cards_back : cards_in empty (changed_in book all) ≡ book.cards
  cards_back = same_map nat_list_cmp_total names_apart _ book.cards (λ q. by_option (get book.cards q)
      (λ none. cards_kept all empty q (get-empty name_cmp q ∙ sym none))
      (λ card there. where_some (get last q) (sound.changed q card there) (λ n is. cards_there all empty n q card (among_all n q is) there)))

  -- so with last changes
  abbrev AreLast : List Change → Type 0
  AreLast cs = (n : ℕ) (q : List ℕ) → Mem (n, q) cs → get last q ≡ Some n

  lasts_kept : (cs : List Change) (m : NamesTo ℕ) → AreLast cs → (q : List ℕ) → get m q ≡ get last q → get (lasts_in m (changed_in book cs)) q ≡ get last q
  lasts_kept [] m are q e = e
  lasts_kept (c ∷ cs) m are q e =
      lasts_kept cs (insert m c.1 c.0) (λ n x k. are n x (inr k)) q
      (by_put m c.1 c.0 q (λ r. r ≡ get last q) (λ is. sym (ap (get last) is ∙ are c.0 c.1 (inl refl))) (λ _. e))

  lasts_there : (cs : List Change) (m : NamesTo ℕ) → AreLast cs → (n : ℕ) (q : List ℕ) → Mem (n, q) cs → get (lasts_in m (changed_in book cs)) q ≡ get last q
  lasts_there [] m are n q among = absurd among
  lasts_there (c ∷ cs) m are n q (inl is) =
      lasts_kept cs (insert m c.1 c.0) (λ n x k. are n x (inr k)) q
      (by_put m c.1 c.0 q (λ r. r ≡ get last q) (λ same. sym (ap (get last) same ∙ are c.0 c.1 (inl refl))) (λ apart. absurd (apart (ap (λ p. p.1) is))))
  lasts_there (c ∷ cs) m are n q (inr k) = lasts_there cs (insert m c.1 c.0) (λ n x k. are n x (inr k)) n q k

  lasts_back : lasts_in empty (changed_in book all) ≡ last
  lasts_back = same_map nat_list_cmp_total names_apart _ last (λ q. by_option (get last q)
      (λ none. lasts_kept all empty (λ n x k. after_last last 0 n x k) q (get-empty name_cmp q ∙ sym none))
      (λ n is. lasts_there all empty (λ n x k. after_last last 0 n x k) n q (among_all n q is)))

  pub book_back : (name : List ℕ) → book_told (as_listed name (book_resource book)) (changed_in book all) ≡ book
  book_back name = λ i. record {
    properties = book.properties;
    cards = cards_back i;
    changes = record { number = book.changes.number; last = lasts_back i };
  }

-- ---- the books, and the Office

module _ (o : Office) (sound : IsSound o) where
  one_back : (name : List ℕ) (book : Book) → get o.books name ≡ Some book → book_told (as_listed name (book_resource book)) (changed_after o name 0) ≡ book
  one_back name book is =
      ap (λ r. book_told (as_listed name (book_resource book)) (unwrap_or (option_map (λ (b : Book). changed_in b (changes_after b.changes.last 0)) r) [])) is
      ∙ book_back o book (sound.books name book is).1 name

  named_back : (es : List (List ℕ × Book)) → ((name : List ℕ) (book : Book) → Mem (name, book) es → get o.books name ≡ Some book)
      → map named_entry (map (named_book o) (listed_books es)) ≡ es
  named_back [] are = refl
  named_back (e ∷ es) are =
      let one = one_back e.0 e.1 (are e.0 e.1 (inl refl)) in
      let rest = named_back es (λ name book k. are name book (inr k)) in
      λ i. (e.0, one i) ∷ rest i

  books_back : books_told o ≡ o.books
  books_back =
      ap (all_inserted as_it_is empty) (named_back (entries o.books) (λ name book k. mem_get nat_list_cmp_total names_apart o.books name book k)) ∙ all_back o.books

  pub office_back : office_with o (maps_told o) ≡ o
  office_back = λ i. record {
    root = o.root;
    people = o.people;
    groups_home = o.groups_home;
    books_home = o.books_home;
    persons = principals_back kind.Person o.persons i;
    groups = principals_back kind.Group o.groups i;
    books = books_back i;
    pairs = o.pairs;
    epoch = o.epoch;
  }

-- ---- the Office without cards

bare_in : (m : NamesTo Book) (es : List (List ℕ × Book)) → all_inserted as_it_is m (map bare_entry (listed_books es)) ≡ all_inserted (λ name book. emptied book) m es
bare_in m [] = refl
bare_in m (e ∷ es) = bare_in (insert m e.0 (emptied e.1)) es

made_bare : (r old : Option Book) → old ≡ None → made_of (λ x _. emptied x) r old ≡ option_map emptied r
made_bare None old e = e
made_bare (Some book) old e = refl

books_bare : (m : NamesTo Book) → all_inserted as_it_is empty (map bare_entry (listed_books (entries m))) ≡ bare_books m
books_bare m =
    bare_in empty (entries m)
    ∙ same_map nat_list_cmp_total names_apart _ (bare_books m) (λ q.
    get_placed (λ name book. emptied book) empty m q ∙ made_bare (get m q) (get empty q) (get-empty name_cmp q) ∙ sym (get_mapped (λ name book. emptied book) m q))

pub office_bare : (o : Office) → office_with o (bare_maps_told o) ≡ bare o
office_bare o = λ i. record {
  root = o.root;
  people = o.people;
  groups_home = o.groups_home;
  books_home = o.books_home;
  persons = principals_back kind.Person o.persons i;
  groups = principals_back kind.Group o.groups i;
  books = books_bare o.books i;
  pairs = o.pairs;
  epoch = o.epoch;
}
