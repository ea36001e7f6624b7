-- Sound Offices that answer alike are equal.
use Rattle.book_office.proofs.Common.{◌≡◌, ◌≢◌, ℕ, List, [], Option, Some, None, option_map, option_and_then, unwrap_or, refl, sym, ap, ◌∙◌, get, same_Some, Book, StoredCard, Properties, NamesTo, Resource, card_resource, number_of, some_apart, by_option, where_some}
use Rattle.std.specs.Cmp.Lexicographic.{nat_list_cmp_total}
use Rattle.std.specs.FinMap.{same_map}
use Rattle.book_office_values.specs.declared.paths.Kind.{Kind}
use Rattle.book_office_values.specs.declared.paths.Kind.TheVariants as kind
use Rattle.book_office_values.specs.declared.paths.Path.TheVariants as path
use Rattle.book_office.specs.Laws.{OfficeIsItsResources}
use Rattle.book_office.specs.Resources.{properties_resource, unless_mapped}
use Rattle.book_office_values.proofs.NameMapLaws.{names_apart}

-- the properties or the card that a resource tells
abbrev told_properties : Resource → Properties
told_properties r = record { owner = r.owner; label = r.label; protected = r.protected; own = r.own }

abbrev told_card : Resource → StoredCard
told_card r = record { owner = r.owner; label = r.label; own = r.own; text = unwrap_or r.text [] }

told_back : {V : Type 0} (f : V → Resource) (back : Resource → V) → ((v : V) → back (f v) ≡ v) → (r : Option V) → option_map back (option_map f r) ≡ r
told_back f back keeps None = refl
told_back f back keeps (Some v) = ap Some (keeps v)

-- two values of which equal resources are told are equal
told_same : {V : Type 0} (f g : V → Resource) (back : Resource → V) → ((v : V) → back (f v) ≡ v) → ((v : V) → back (g v) ≡ v) → (r s : Option V)
    → option_map f r ≡ option_map g s → r ≡ s
told_same f g back keeps keeps' r s e = sym (told_back f back keeps r) ∙ ap (option_map back) e ∙ told_back g back keeps' s

principals_same : (k : Kind) (m n : NamesTo Properties) → ((q : List ℕ) → option_map (properties_resource k 0) (get m q) ≡ option_map (properties_resource k 0) (get n q)) → m ≡ n
principals_same k m n h = same_map nat_list_cmp_total names_apart m n (λ q.
    told_same (properties_resource k 0) (properties_resource k 0) told_properties (λ _. refl) (λ _. refl) (get m q) (get n q) (h q))

abbrev told_book : Book → Resource
told_book book = properties_resource kind.Book book.changes.number book.properties

abbrev told_name : Book → List ℕ → Option Resource
told_name book c = option_map (card_resource (number_of book c)) (get book.cards c)

abbrev removed_name : Book → List ℕ → Option ℕ
removed_name book name = unless_mapped (get book.cards name) (get book.changes.last name)

-- every card has a last change
abbrev HasChanges : Book → Type 0
HasChanges book = (name : List ℕ) (card : StoredCard) → get book.cards name ≡ Some card → get book.changes.last name ≢ None

module _ (k l : Book) (changed : HasChanges k) (changed' : HasChanges l) (names : (c : List ℕ) → told_name k c ≡ told_name l c) (removed : (name : List ℕ) → removed_name k name ≡ removed_name l name) where
  card_same : (c : List ℕ) → get k.cards c ≡ get l.cards c
  card_same c = told_same (card_resource (number_of k c)) (card_resource (number_of l c)) told_card (λ _. refl) (λ _. refl) (get k.cards c) (get l.cards c) (names c)

  number_same : (c : List ℕ) (card : StoredCard) → get k.cards c ≡ Some card → number_of k c ≡ number_of l c
  number_same c card e =
      let is : option_map (card_resource (number_of k c)) (Some card) ≡ option_map (card_resource (number_of l c)) (Some card) =
      ap (option_map (card_resource (number_of k c))) (sym e) ∙ names c ∙ ap (option_map (card_resource (number_of l c))) (sym (card_same c) ∙ e) in
      ap (λ (r : Resource). r.number) (same_Some _ _ is)

  last_same : (c : List ℕ) → get k.changes.last c ≡ get l.changes.last c
  last_same c = by_option (get k.cards c)
      (λ none. ap (λ r. unless_mapped r (get k.changes.last c)) (sym none) ∙ removed c ∙ ap (λ r. unless_mapped r (get l.changes.last c)) (sym (card_same c) ∙ none))
      (λ card e. where_some (get k.changes.last c) (changed c card e) (λ m is.
      where_some (get l.changes.last c) (changed' c card (sym (card_same c) ∙ e)) (λ n is'.
      is ∙ ap Some (sym (ap (λ r. unwrap_or r 0) is) ∙ number_same c card e ∙ ap (λ r. unwrap_or r 0) is') ∙ sym is')))

  book_same : told_book k ≡ told_book l → k ≡ l
  book_same e =
      let properties : k.properties ≡ l.properties = ap told_properties e in
      let cards : k.cards ≡ l.cards = same_map nat_list_cmp_total names_apart k.cards l.cards card_same in
      let number : k.changes.number ≡ l.changes.number = ap (λ (r : Resource). r.number) e in
      let last : k.changes.last ≡ l.changes.last = same_map nat_list_cmp_total names_apart k.changes.last l.changes.last last_same in
      λ i. record { properties = properties i; cards = cards i; changes = record { number = number i; last = last i } }

book_at_same : (x y : Option Book) → ((book : Book) → x ≡ Some book → HasChanges book) → ((book : Book) → y ≡ Some book → HasChanges book)
    → option_map told_book x ≡ option_map told_book y
    → ((c : List ℕ) → option_and_then (λ (book : Book). told_name book c) x ≡ option_and_then (λ (book : Book). told_name book c) y)
    → ((name : List ℕ) → option_and_then (λ (book : Book). removed_name book name) x ≡ option_and_then (λ (book : Book). removed_name book name) y)
    → x ≡ y
book_at_same None None sx sy told names removed = refl
book_at_same None (Some l) sx sy told names removed = some_apart (sym told)
book_at_same (Some k) None sx sy told names removed = some_apart told
book_at_same (Some k) (Some l) sx sy told names removed = ap Some (book_same k l (sx k refl) (sy l refl) names removed (same_Some _ _ told))

pub same_office : OfficeIsItsResources
same_office o p sound sound' resources pairs removed epoch =
    let root : o.root ≡ p.root = ap told_properties (same_Some _ _ (resources path.Root)) in
    let people : o.people ≡ p.people = ap told_properties (same_Some _ _ (resources path.People)) in
    let groups_home : o.groups_home ≡ p.groups_home = ap told_properties (same_Some _ _ (resources path.Groups)) in
    let books_home : o.books_home ≡ p.books_home = ap told_properties (same_Some _ _ (resources path.Books)) in
    let persons : o.persons ≡ p.persons = principals_same kind.Person o.persons p.persons (λ n. resources (path.Person n)) in
    let groups : o.groups ≡ p.groups = principals_same kind.Group o.groups p.groups (λ n. resources (path.Group n)) in
    let books : o.books ≡ p.books = same_map nat_list_cmp_total names_apart o.books p.books (λ b.
    book_at_same (get o.books b) (get p.books b)
    (λ k e. (sound.books b k e).1.changed) (λ l e. (sound'.books b l e).1.changed)
    (resources (path.Book b)) (λ c. resources (path.Card b c)) (removed b)) in
    λ i. record {
      root = root i;
      people = people i;
      groups_home = groups_home i;
      books_home = books_home i;
      persons = persons i;
      groups = groups i;
      books = books i;
      pairs = pairs i;
      epoch = epoch i;
    }
