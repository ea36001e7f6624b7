-- Rows in which one name of a book was touched give the Office in which it was touched.
use Rattle.book_tables.proofs.Common.{◌≡◌, ◌≢◌, ℕ, ◌+◌, Bool, true, false, List, find, Option, Some, None, option_map, is_some, refl, sym, ap, ◌∙◌, get, AllByRecursion, same_Some, Row, rowid, IsName, Book, StoredCard, Office, Path, NamesTo, IsPath, path_text, book_path, card_path, one_text, by_names, Resource, resource_at, removed_at, book_resource, card_resource, unless_mapped, Rows, with_number, row_at, resource_in, resource_of, list_in, removed_from, removed_in, is_member, IsNode, IsEntry, IsRemoved, Gives}
use Rattle.book_office_values.specs.declared.paths.Path.TheVariants as path
use Rattle.book_tables.proofs.LeftRows.{book_name, book_or_card}
use Rattle.book_tables.proofs.TouchedOffices as office

-- the book's row has its new number, the card's is another or none, and every other row is found as before, with its lists
pub record AreTouched (rows after : Rows) (b c : List ℕ) (book_row : Row) (card_row : Option Row) (n : ℕ) : Type 0 where
  pub at_book : row_at after (book_path b) ≡ Some (with_number n book_row)
  pub at_card : row_at after (card_path b c) ≡ card_row
  pub elsewhere : (t : List ℕ) → t ≢ book_path b → t ≢ card_path b c → row_at after t ≡ row_at rows t
  pub lists : (t : List ℕ) (r : Row) → row_at rows t ≡ Some r → t ≢ card_path b c → (pr : Bool) → list_in after.entries (rowid r) pr ≡ list_in rows.entries (rowid r) pr
  pub removed : (a name : List ℕ) → IsName a → (a ≡ b → name ≢ c) → removed_from after.gone name (row_at rows (book_path a)) ≡ removed_in rows a name
  pub members : after.members ≡ rows.members
  pub meta : after.meta ≡ rows.meta

-- what a row gives does not depend on its number but for the number
numbered : (entries others : List Row) (r : Row) (n : ℕ) → ((pr : Bool) → list_in others (rowid r) pr ≡ list_in entries (rowid r) pr)
    → resource_of others (with_number n r) ≡ record (resource_of entries r) { number = n }
numbered entries others r n lists = λ i. record (resource_of entries r) { number = n; protected = lists true i; own = lists false i }

module _ (rows after : Rows) (o : Office) (gives : Gives rows o) (b c : List ℕ) (book : Book) (there : get o.books b ≡ Some book)
    (cards : NamesTo StoredCard) (card : Option StoredCard) (here : get cards c ≡ card) (others : (d : List ℕ) → d ≢ c → get cards d ≡ get book.cards d)
    (named : IsName b) (named_card : IsName c) (book_row : Row) (card_row : Option Row) (at_book : row_at rows (book_path b) ≡ Some book_row)
    (are : AreTouched rows after b c book_row card_row (book.changes.number + 1)) where
  abbrev o' : Office
  o' = office.after o b c book there cards card here others

  abbrev n : ℕ
  n = book.changes.number + 1

  cards_apart : book_path b ≢ card_path b c
  cards_apart is = book_or_card (one_text (path.Book b) (path.Card b c) named (named, named_card) is)

  book_resource_is : resource_of rows.entries book_row ≡ book_resource book
  book_resource_is =
      same_Some _ _ (sym (ap (option_map (resource_of rows.entries)) at_book) ∙ gives.resources (path.Book b) named ∙ ap (option_map book_resource) there)

  new_book_resource : resource_of after.entries (with_number n book_row) ≡ book_resource (office.new_book o b c book there cards card here others)
  new_book_resource =
      numbered rows.entries after.entries book_row n (are.lists (book_path b) book_row at_book cards_apart)
      ∙ ap (λ (r : Resource). record r { number = n }) book_resource_is

  same_lists : (t : List ℕ) (found : Option Row) → row_at rows t ≡ found → t ≢ card_path b c → option_map (resource_of after.entries) found ≡ option_map (resource_of rows.entries) found
  same_lists t None is apart = refl
  same_lists t (Some r) is apart = ap Some (λ i. record (resource_of rows.entries r) { protected = are.lists t r is apart true i; own = are.lists t r is apart false i })

  -- at each path there is the resource of the Office in which the name was touched
  resources_touched : option_map (resource_of after.entries) card_row ≡ option_map (card_resource n) card → (p : Path) → IsPath p → resource_in after (path_text p) ≡ resource_at o' p
  resources_touched card_is p is_path =
      by_names (path_text p) (book_path b) (λ _. resource_in after (path_text p) ≡ resource_at o' p)
      (λ is.
      let same_path : p ≡ path.Book b = one_text p (path.Book b) is_path named is in
      ap (option_map (resource_of after.entries)) (ap (row_at after) is ∙ are.at_book) ∙ ap Some new_book_resource
      ∙ sym (office.at_book o b c book there cards card here others) ∙ ap (resource_at o') (sym same_path))
      (λ not_book. by_names (path_text p) (card_path b c) (λ _. resource_in after (path_text p) ≡ resource_at o' p)
      (λ is.
      let same_path : p ≡ path.Card b c = one_text p (path.Card b c) is_path (named, named_card) is in
      ap (option_map (resource_of after.entries)) (ap (row_at after) is ∙ are.at_card) ∙ card_is
      ∙ sym (office.at_card o b c book there cards card here others) ∙ ap (resource_at o') (sym same_path))
      (λ not_card.
      ap (option_map (resource_of after.entries)) (are.elsewhere (path_text p) not_book not_card)
      ∙ same_lists (path_text p) (row_at rows (path_text p)) refl not_card ∙ gives.resources p is_path
      ∙ sym (office.elsewhere o b c book there cards card here others p (λ is. not_book (ap path_text is)) (λ is. not_card (ap path_text is)))))

  -- ---- removed names

  -- the row of a book has its number afterwards
  same_book : (a : List ℕ) → IsName a → (name : List ℕ) → removed_in after a name ≡ removed_from after.gone name (row_at rows (book_path a))
  same_book a named_a name = by_names a b (λ _. removed_in after a name ≡ removed_from after.gone name (row_at rows (book_path a)))
      (λ is. ap (λ k. removed_in after k name) is ∙ ap (removed_from after.gone name) are.at_book
      ∙ sym (ap (removed_from after.gone name) (ap (λ k. row_at rows (book_path k)) is ∙ at_book)))
      (λ differs. ap (removed_from after.gone name) (are.elsewhere (book_path a)
      (λ is. differs (book_name (one_text (path.Book a) (path.Book b) named_a named is)))
      (λ is. book_or_card (one_text (path.Book a) (path.Card b c) named_a (named, named_card) is))))

  removed_touched : removed_from after.gone c (Some book_row) ≡ unless_mapped card (Some n) → (a name : List ℕ) → IsName a → removed_in after a name ≡ removed_at o' a name
  removed_touched at_name a name named_a = same_book a named_a name ∙ by_names a b (λ _. removed_from after.gone name (row_at rows (book_path a)) ≡ removed_at o' a name)
      (λ is. by_names name c (λ _. removed_from after.gone name (row_at rows (book_path a)) ≡ removed_at o' a name)
      (λ same_name.
      ap (removed_from after.gone name) (ap (λ k. row_at rows (book_path k)) is ∙ at_book)
      ∙ ap (λ k. removed_from after.gone k (Some book_row)) same_name ∙ at_name
      ∙ sym (office.removed_here o b c book there cards card here others) ∙ (λ i. removed_at o' (sym is i) (sym same_name i)))
      (λ other. are.removed a name named_a (λ _. other) ∙ gives.gone a name named_a ∙ ap (λ k. removed_at o k name) is
      ∙ sym (office.removed_in_book o b c book there cards card here others name other) ∙ ap (λ k. removed_at o' k name) (sym is)))
      (λ differs. are.removed a name named_a (λ is. absurd (differs is)) ∙ gives.gone a name named_a
      ∙ sym (office.removed_elsewhere o b c book there cards card here others a name differs))

  pub gives_touched : option_map (resource_of after.entries) card_row ≡ option_map (card_resource n) card
      → removed_from after.gone c (Some book_row) ≡ unless_mapped card (Some n)
      → AllByRecursion (IsNode after) after.nodes → AllByRecursion (IsEntry after) after.entries → AllByRecursion (IsRemoved after) after.gone
      → Gives after o'
  gives_touched card_is at_name nodes entries removed = record {
    nodes = nodes;
    entries = entries;
    removed = removed;
    resources = resources_touched card_is;
    members = λ m. ap (λ ms. is_some (find (is_member m) ms)) are.members ∙ gives.members m;
    gone = removed_touched at_name;
    meta = (gives.meta.0, are.meta ∙ gives.meta.1);
  }
