-- Offices that agree for a caller tell the same in listings.
use Rattle.book_machine.proofs.Common.{◌≡◌, ℕ, List, [], ◌∷◌, map, Option, Some, None, is_some, option_map, unwrap_or, refl, sym, ap, ◌∙◌, subst, get, entries, IsCircle, CircleOf, Caller, levels, Book, Office, StoredCard, Path, Resource, resource_at, MayRead, outline, outline_of_book, outline_of_card, Agree}
use Rattle.book_office_values.specs.declared.paths.Kind.TheVariants as kind
use Rattle.book_office_values.specs.declared.paths.Path.TheVariants as path
use Rattle.book_office.specs.Resources.{listed_books, listed_cards, listed_of_book, listed_principals}
use Rattle.book_office.specs.declared.nodes.Listed.{Listed}
use Rattle.book_office_listings.specs.Laws.{AreAlike}
use Rattle.book_office_listings.specs.Listings.{child_path, children_paths, subject_at}
use Rattle.book_office_adopting.proofs.MappedEntries.{entries_mapped}
use Rattle.book_machine.proofs.Outlines.{there_mapped, told, outline_of_resource, books_alike, resource_same, resources_alike, level_same, here_same}

-- ---- the paths of children, which rest on names alone
abbrev path_in : Path → Listed → Path
path_in q child = child_path q child.name

abbrev paths_of_books : List (List ℕ × Book) → List Path
paths_of_books books = map (path_in path.Books) (listed_books books)

books_named : (books : List (List ℕ × Book)) → paths_of_books (map (λ e. (e.0, outline_of_book e.1)) books) ≡ paths_of_books books
books_named [] = refl
books_named (e ∷ books) = ap (λ qs. path.Book e.0 ∷ qs) (books_named books)

abbrev paths_of_cards : List ℕ → List (List ℕ × StoredCard) → List Path
paths_of_cards b cards = map (λ e. path.Card b e.0) cards

cards_named : (b : List ℕ) (cards : List (List ℕ × StoredCard)) → paths_of_cards b (map (λ e. (e.0, outline_of_card e.1)) cards) ≡ paths_of_cards b cards
cards_named b [] = refl
cards_named b (e ∷ cards) = ap (λ qs. path.Card b e.0 ∷ qs) (cards_named b cards)

abbrev paths_in_book : List ℕ → Book → List Path
paths_in_book b book = paths_of_cards b (entries book.cards)

listed_named : (b : List ℕ) (book : Book) (cards : List (List ℕ × StoredCard)) → map (path_in (path.Book b)) (listed_of_book book cards) ≡ paths_of_cards b cards
listed_named b book [] = refl
listed_named b book (e ∷ cards) = ap (λ qs. path.Card b e.0 ∷ qs) (listed_named b book cards)

-- the children of a book, if it is there
found_named : (b : List ℕ) (r : Option Book)
    → map (path_in (path.Book b)) (unwrap_or (option_map listed_cards r) []) ≡ unwrap_or (option_map (paths_in_book b) r) []
found_named b None = refl
found_named b (Some book) = listed_named b book (entries book.cards)

outline_named : (b : List ℕ) (r : Option Book) → option_map (λ (book : Book). paths_in_book b (outline_of_book book)) r ≡ option_map (paths_in_book b) r
outline_named b None = refl
outline_named b (Some book) =
    ap Some (ap (paths_of_cards b) (entries_mapped (λ _ card. outline_of_card card) book.cards) ∙ cards_named b (entries book.cards))

module _ (o p : Office) (same : outline o ≡ outline p) where
  books_same : children_paths o path.Books ≡ children_paths p path.Books
  books_same =
      sym (books_named (entries o.books))
      ∙ ap paths_of_books (sym (entries_mapped (λ _ book. outline_of_book book) o.books))
      ∙ ap (λ (x : Office). paths_of_books (entries x.books)) same
      ∙ ap paths_of_books (entries_mapped (λ _ book. outline_of_book book) p.books)
      ∙ books_named (entries p.books)

  cards_same : (b : List ℕ) → children_paths o (path.Book b) ≡ children_paths p (path.Book b)
  cards_same b =
      found_named b (get o.books b)
      ∙ ap (λ r. unwrap_or r [])
      (sym (outline_named b (get o.books b))
      ∙ told outline_of_book (paths_in_book b) (get o.books b) (get p.books b) (books_alike o p same b)
      ∙ outline_named b (get p.books b))
      ∙ sym (found_named b (get p.books b))

  pub children_same : (q : Path) → children_paths o q ≡ children_paths p q
  children_same path.Root = refl
  children_same path.People = ap (λ (x : Office). map (path_in path.People) (listed_principals kind.Person (entries x.persons))) same
  children_same path.Groups = ap (λ (x : Office). map (path_in path.Groups) (listed_principals kind.Group (entries x.groups))) same
  children_same path.Books = books_same
  children_same (path.Person n) = refl
  children_same (path.Group n) = refl
  children_same (path.Book b) = cards_same b
  children_same (path.Card b c) = refl

-- ---- Offices that agree for a caller are alike for the caller's circle
subject_same : (o p : Office) → outline o ≡ outline p → (q : Path) → resource_at o q ≡ resource_at p q → subject_at o q ≡ subject_at p q
subject_same o p same q found = λ i.
    option_map (λ (r : Resource). record { here = here_same o p same q i; kind = r.kind; label = r.label; number = r.number }) (found i)

pub alike_of : (o p : Office) (caller : Caller) → Agree o p caller → (circle : CircleOf) → IsCircle o.pairs caller circle → AreAlike o p circle
alike_of o p caller agree circle is_circle = record {
  pairs = ap (λ (x : Office). x.pairs) agree.outlines;
  epoch = ap (λ (x : Office). x.epoch) agree.outlines;
  children = children_same o p agree.outlines;
  lists = λ q. (λ i. record { levels = map (λ x. level_same o p agree.outlines x i) (levels q) });
  there = λ q. sym (there_mapped outline_of_resource (resource_at o q)) ∙ ap is_some (resources_alike o p agree.outlines q) ∙ there_mapped outline_of_resource (resource_at p q);
  here = here_same o p agree.outlines;
  readable = λ q granted.
      let may : MayRead o caller q = record { circle = circle; is_circle = is_circle; granted = granted } in
      subject_same o p agree.outlines q (resource_same o p agree.outlines q (λ b c is. agree.readable b c (subst (MayRead o caller) is may)));
}
