-- The resources of an Office in which one name of a book was touched.
use Rattle.book_tables.proofs.Common.{◌≡◌, ◌≢◌, ℕ, ◌+◌, List, Option, Some, option_map, option_and_then, unwrap_or, refl, sym, ap, ◌∙◌, get, insert, Book, StoredCard, Office, Path, NamesTo, IsName, with_book, resource_at, removed_at, book_resource, card_resource, card_in, number_of, unless_mapped, IsSound, by_names, put_here, put_elsewhere}
use Rattle.book_office_values.specs.Changes.{touched}
use Rattle.book_office_values.specs.declared.paths.Path.TheVariants as path
use Rattle.book_office_values.specs.Names.{changed_if}

-- the book that is there becomes another
pub edited_book : (f : Book → Book) (o : Office) (b : List ℕ) (book : Book) → get o.books b ≡ Some book → with_book f o b ≡ record o { books = insert o.books b (f book) }
edited_book f o b book there = λ i. record o { books = changed_if f o.books b (there i) }

-- the book with these cards, of which one name was touched
abbrev pub touched_book : Book → List ℕ → NamesTo StoredCard → Book
touched_book book c cards = record book { cards = cards; changes = touched book.changes c }

abbrev pub touched_office : Office → List ℕ → List ℕ → Book → NamesTo StoredCard → Office
touched_office o b c book cards = record o { books = insert o.books b (touched_book book c cards) }

module _ (o : Office) (b c : List ℕ) (book : Book) (there : get o.books b ≡ Some book) (cards : NamesTo StoredCard) (card : Option StoredCard)
    (here : get cards c ≡ card) (others : (d : List ℕ) → d ≢ c → get cards d ≡ get book.cards d) where
  abbrev pub new_book : Book
  new_book = touched_book book c cards

  abbrev pub after : Office
  after = touched_office o b c book cards

  abbrev pub number : ℕ
  number = book.changes.number + 1

  pub book_there : get after.books b ≡ Some new_book
  book_there = put_here o.books b new_book

  pub last_here : get new_book.changes.last c ≡ Some number
  last_here = put_here book.changes.last c number

  -- in a sound Office the name is one
  pub named_card : IsSound after → IsName c
  named_card sound = ((sound.books b new_book book_there).1).names c number last_here

  pub at_book : resource_at after (path.Book b) ≡ Some (book_resource new_book)
  at_book = ap (option_map book_resource) book_there

  pub at_card : resource_at after (path.Card b c) ≡ option_map (card_resource number) card
  at_card =
      ap (option_and_then (λ (k : Book). card_in k c)) book_there
      ∙ ap (option_map (card_resource (number_of new_book c))) here
      ∙ ap (λ r. option_map (card_resource (unwrap_or r 0)) card) last_here

  -- another card of the same book
  card_elsewhere : (d : List ℕ) → d ≢ c → card_in new_book d ≡ card_in book d
  card_elsewhere d apart =
      ap (option_map (card_resource (number_of new_book d))) (others d apart)
      ∙ ap (λ r. option_map (card_resource (unwrap_or r 0)) (get book.cards d)) (put_elsewhere book.changes.last c number d apart)

  pub elsewhere : (p : Path) → p ≢ path.Book b → p ≢ path.Card b c → resource_at after p ≡ resource_at o p
  elsewhere path.Root x y = refl
  elsewhere path.People x y = refl
  elsewhere path.Groups x y = refl
  elsewhere path.Books x y = refl
  elsewhere (path.Person n) x y = refl
  elsewhere (path.Group n) x y = refl
  elsewhere (path.Book a) x y = ap (option_map book_resource) (put_elsewhere o.books b new_book a (λ is. x (ap path.Book is)))
  elsewhere (path.Card a d) x y = by_names a b (λ _. resource_at after (path.Card a d) ≡ resource_at o (path.Card a d))
      (λ is.
      let apart : d ≢ c = λ same. y (λ i. path.Card (is i) (same i)) in
      ap (λ k. option_and_then (λ (k : Book). card_in k d) (get after.books k)) is ∙ ap (option_and_then (λ (k : Book). card_in k d)) book_there ∙ card_elsewhere d apart
      ∙ sym (ap (λ k. option_and_then (λ (k : Book). card_in k d) (get o.books k)) is ∙ ap (option_and_then (λ (k : Book). card_in k d)) there))
      (λ apart. ap (option_and_then (λ (k : Book). card_in k d)) (put_elsewhere o.books b new_book a apart))

  -- ---- removed names

  abbrev pub left_by : List ℕ → Book → Option ℕ
  left_by name k = unless_mapped (get k.cards name) (get k.changes.last name)

  pub removed_here : removed_at after b c ≡ unless_mapped card (Some number)
  removed_here =
      ap (option_and_then (left_by c)) book_there
      ∙ ap (λ r. unless_mapped r (get new_book.changes.last c)) here ∙ ap (unless_mapped card) last_here

  pub removed_in_book : (name : List ℕ) → name ≢ c → removed_at after b name ≡ removed_at o b name
  removed_in_book name apart =
      ap (option_and_then (left_by name)) book_there
      ∙ ap (λ r. unless_mapped r (get new_book.changes.last name)) (others name apart)
      ∙ ap (unless_mapped (get book.cards name)) (put_elsewhere book.changes.last c number name apart)
      ∙ sym (ap (option_and_then (left_by name)) there)

  pub removed_elsewhere : (a name : List ℕ) → a ≢ b → removed_at after a name ≡ removed_at o a name
  removed_elsewhere a name apart = ap (option_and_then (left_by name)) (put_elsewhere o.books b new_book a apart)
