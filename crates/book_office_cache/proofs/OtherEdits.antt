-- An edit of a book, a label, a list or direct members leaves what is remembered true.
use Rattle.book_office_cache.proofs.Common.{◌≡◌, Option, Some, ap, ◌∙◌, AreAllBare, Remembers, Remembered, Level, Node, Office}
use Rattle.std.proofs.Common.{arith, ◌≢◌, ◌≤◌, ℕ, ◌+◌, cond, List, [], None, IfSome, is_some, option_map, refl, sym, subst}
use Rattle.std.specs.FinMap.{empty, get, insert, remove, len, len-insert, get-empty}
use Rattle.std.specs.Cmp.Lexicographic.{nat_list_cmp_total}
use Rattle.book_office_cache.proofs.CardEdits.{cards_changed_bare, none_counted, number_forgotten}
use Rattle.book_office_cache.proofs.Kept.{at_most, none_in}
use Rattle.book_office_cache.proofs.OneBook.{AreAllBareIn, AreBareIn, GivesNone, IsAtMost, IsBare, IsLevel, IsNode, KeepsProperties, all_stay_bare, bare_if, books_remembered, cards_stay_bare, count_stays, hold_forgotten, hold_removed, hold_stays, level_stays, node_stays, own_of}
use Rattle.book_lists.specs.Callers.{IsCircle}
use Rattle.book_lists.specs.Circles.{CircleOf}
use Rattle.book_lists.specs.Memberships.{Memberships}
use Rattle.book_lists.specs.Names.{name_cmp}
use Rattle.book_lists.specs.Principals.{person_path}
use Rattle.book_lists.specs.declared.circles.Caller.TheVariants.{Known}
use Rattle.book_lists.specs.declared.entries.Entry.{Entry}
use Rattle.book_office.specs.Edits.{apply, card_labelled, label_card, label_set, list_set, listed_card, members_set, with_book_properties, with_cards}
use Rattle.book_office.specs.Resources.{node_of, properties_resource}
use Rattle.book_office.specs.declared.edits.Edit.TheVariants.{AddBook, RemoveBook, SetLabel, SetList, SetMembers}
use Rattle.book_office_values.specs.Fresh.{new_book}
use Rattle.book_office_values.specs.Names.{NamesTo, changed_at}
use Rattle.book_office_values.specs.declared.offices.Book.{Book}
use Rattle.book_office_values.specs.declared.offices.Properties.{Properties}
use Rattle.book_office_values.specs.declared.offices.StoredCard.{StoredCard}
use Rattle.book_office_values.specs.declared.paths.Kind.TheVariants as kind
use Rattle.book_office_values.specs.declared.paths.Path.TheVariants as path
use Rattle.book_office_values.proofs.OneName.{by_put, len_changed, put_elsewhere, put_here, removed_elsewhere}

-- a new book has no card with entries
pub new_bare : (o : Office) (b : List ℕ) (owner : Option (List ℕ)) → AreAllBare (apply o (AddBook b owner)) b
new_bare o b owner c =
    subst (λ book. IsBare b c book) (sym (put_here o.books b (new_book owner))) (bare_if b c (Some (new_book owner)) (ap own_of (get-empty name_cmp c)))

-- the label of a card
label_keeps : (c label : List ℕ) (card : Option StoredCard) (book : Book) → (label_card c label card book).properties ≡ book.properties
label_keeps c label None book = refl
label_keeps c label (Some card) book = refl

label_gives : (c label : List ℕ) (book : Book) (card : Option StoredCard) → get book.cards c ≡ card
    → (q : List ℕ) → own_of (get book.cards q) ≡ [] → own_of (get (label_card c label card book).cards q) ≡ []
label_gives c label book None at q is = is
label_gives c label book (Some card) at q is =
    by_put book.cards c (card_labelled label card) q (λ card. own_of card ≡ [])
    (λ same. sym (ap own_of at) ∙ ap (λ n. own_of (get book.cards n)) (sym same) ∙ is) (λ _. is)

label_adds : (c label : List ℕ) (book : Book) (card : Option StoredCard) → get book.cards c ≡ card → len (label_card c label card book).cards ≤ len book.cards
label_adds c label book None at = omega arith
label_adds c label book (Some card) at =
    at_most (len-insert nat_list_cmp_total book.cards c (card_labelled label card) ∙ ap (λ r. cond (is_some r) (len book.cards) (len book.cards + 1)) at)

-- what is remembered beside books changes with what the Office has beside them
beside_books : (r : Remembered) (o : Office) → Remembers r o
    → (root people groups home : Properties) (persons others : NamesTo Properties) (pairs : Memberships) (epoch : ℕ)
    → (circles : NamesTo CircleOf) (nodes : NamesTo Node) (at_root at_home : Option Level)
    → ((n : List ℕ) → IfSome (get circles n) (IsCircle pairs (Known (person_path n))))
    → ((n : List ℕ) → IfSome (get nodes n) (λ node. option_map node_of (option_map (properties_resource kind.Person 0) (get persons n)) ≡ Some node))
    → IfSome at_root (λ level. level ≡ record { path = path.Root; protected = root.protected; own = root.own })
    → IfSome at_home (λ level. level ≡ record { path = path.Books; protected = home.protected; own = home.own })
    → Remembers (record r { circles = circles; persons = nodes; root = at_root; home = at_home })
    (record o { root = root; people = people; groups_home = groups; books_home = home; persons = persons; groups = others; pairs = pairs; epoch = epoch })
beside_books r o remembers root people groups home persons others pairs epoch circles nodes at_root at_home are_circles are_persons is_root is_home = record {
  circles = are_circles;
  persons = are_persons;
  root = is_root;
  home = is_home;
  books = remembers.books;
  book_nodes = remembers.book_nodes;
  bare = remembers.bare;
  bare_books = remembers.bare_books;
  counts = remembers.counts;
}

module _ (r : Remembered) (o : Office) (remembers : Remembers r o) where
  -- all of one book is forgotten
  all_of_forgotten : (b : List ℕ) (books : NamesTo Book) (epoch : ℕ) → ((n : List ℕ) → n ≢ b → get books n ≡ get o.books n)
      → Remembers (record r { books = remove r.books b; book_nodes = remove r.book_nodes b; bare = remove r.bare b; bare_books = remove r.bare_books b; counts = remove r.counts b }) (record o { books = books; epoch = epoch })
  all_of_forgotten b books epoch elsewhere =
      books_remembered r o remembers books epoch (remove r.books b) (remove r.book_nodes b) (remove r.bare b) (remove r.bare_books b) (remove r.counts b)
      (hold_forgotten IsLevel b o.books books elsewhere r.books remembers.books)
      (hold_forgotten IsNode b o.books books elsewhere r.book_nodes remembers.book_nodes)
      (hold_forgotten AreBareIn b o.books books elsewhere r.bare remembers.bare)
      (hold_forgotten AreAllBareIn b o.books books elsewhere r.bare_books remembers.bare_books)
      (hold_forgotten IsAtMost b o.books books elsewhere r.counts remembers.counts)

  pub remembers_removed : (b : List ℕ)
      → Remembers (record r { books = remove r.books b; book_nodes = remove r.book_nodes b; bare = remove r.bare b; bare_books = remove r.bare_books b; counts = remove r.counts b }) (apply o (RemoveBook b))
  remembers_removed b = all_of_forgotten b (remove o.books b) (o.epoch + 1) (removed_elsewhere o.books b)

  pub remembers_added : (b : List ℕ) (owner : Option (List ℕ))
      → Remembers (record r { books = remove r.books b; book_nodes = remove r.book_nodes b; bare = remove r.bare b; bare_books = remove r.bare_books b; counts = remove r.counts b }) (apply o (AddBook b owner))
  remembers_added b owner = all_of_forgotten b (insert o.books b (new_book owner)) o.epoch (put_elsewhere o.books b (new_book owner))

  -- the label or the own list of a book
  book_changed : (change : Properties → Properties) (b : List ℕ) (epoch : ℕ)
      → Remembers (record r { books = remove r.books b; book_nodes = remove r.book_nodes b }) (record o { books = changed_at (with_book_properties change) o.books b; epoch = epoch })
  book_changed change b epoch =
      let f : Book → Book = with_book_properties change in
      books_remembered r o remembers (changed_at f o.books b) epoch (remove r.books b) (remove r.book_nodes b) r.bare r.bare_books r.counts
      (hold_removed IsLevel f b o.books r.books remembers.books)
      (hold_removed IsNode f b o.books r.book_nodes remembers.book_nodes)
      (hold_stays AreBareIn f b o.books r.bare remembers.bare (λ cards is. cards_stay_bare f (λ _ _ none. none) b cards (get o.books b) is))
      (hold_stays AreAllBareIn f b o.books r.bare_books remembers.bare_books (λ unit is. all_stay_bare f (λ _ _ none. none) b unit (get o.books b) is))
      (hold_stays IsAtMost f b o.books r.counts remembers.counts (λ count is. count_stays f (λ _. omega arith) b count (get o.books b) is))

  pub book_labelled : (b label : List ℕ) → Remembers (record r { books = remove r.books b; book_nodes = remove r.book_nodes b }) (apply o (SetLabel (path.Book b) label))
  book_labelled b label = book_changed (label_set label) b o.epoch

  pub book_listed : (b : List ℕ) (list : List Entry) → Remembers (record r { books = remove r.books b; book_nodes = remove r.book_nodes b }) (apply o (SetList (path.Book b) list))
  book_listed b list = book_changed (list_set list) b (o.epoch + 1)

  pub card_labelled_in : (b c label : List ℕ) → Remembers (record r { book_nodes = remove r.book_nodes b }) (apply o (SetLabel (path.Card b c) label))
  card_labelled_in b c label =
      let f : Book → Book = λ book. label_card c label (get book.cards c) book in
      let keeps : KeepsProperties f = λ book. label_keeps c label (get book.cards c) book in
      let gives : GivesNone f = λ book q. label_gives c label book (get book.cards c) refl q in
      cards_changed_bare f keeps r o remembers b gives (remove r.book_nodes b) r.counts
      (number_forgotten f keeps r o remembers b)
      (none_counted f keeps r o remembers b (λ book. label_adds c label book (get book.cards c) refl))

  pub card_listed : (b c : List ℕ) (list : List Entry) → Remembers (record r { bare = remove r.bare b; bare_books = remove r.bare_books b }) (apply o (SetList (path.Card b c) list))
  card_listed b c list =
      let f : Book → Book = with_cards (λ cards. changed_at (listed_card list) cards c) in
      books_remembered r o remembers (changed_at f o.books b) (o.epoch + 1) r.books r.book_nodes (remove r.bare b) (remove r.bare_books b) r.counts
      (hold_stays IsLevel f b o.books r.books remembers.books (λ level is. level_stays f (λ _. refl) b level (get o.books b) is))
      (hold_stays IsNode f b o.books r.book_nodes remembers.book_nodes (λ node is. node_stays f (λ _. refl) (λ _. refl) b node (get o.books b) is))
      (hold_removed AreBareIn f b o.books r.bare remembers.bare)
      (hold_removed AreAllBareIn f b o.books r.bare_books remembers.bare_books)
      (hold_stays IsAtMost f b o.books r.counts remembers.counts (λ count is. count_stays f (λ book. at_most (len_changed book.cards c (listed_card list))) b count (get o.books b) is))

  -- the label or the own list of what is no book: of the root
  pub root_labelled : (label : List ℕ) → Remembers r (apply o (SetLabel path.Root label))
  root_labelled label =
      beside_books r o remembers (label_set label o.root) o.people o.groups_home o.books_home o.persons o.groups o.pairs o.epoch
      r.circles r.persons r.root r.home remembers.circles remembers.persons remembers.root remembers.home

  pub root_listed : (list : List Entry) → Remembers (record r { root = None }) (apply o (SetList path.Root list))
  root_listed list =
      beside_books r o remembers (list_set list o.root) o.people o.groups_home o.books_home o.persons o.groups o.pairs (o.epoch + 1)
      r.circles r.persons None r.home remembers.circles remembers.persons tt remembers.home

  -- of the homes
  people_changed : (people : Properties) (epoch : ℕ) → Remembers r (record o { people = people; epoch = epoch })
  people_changed people epoch =
      beside_books r o remembers o.root people o.groups_home o.books_home o.persons o.groups o.pairs epoch
      r.circles r.persons r.root r.home remembers.circles remembers.persons remembers.root remembers.home

  pub people_labelled : (label : List ℕ) → Remembers r (apply o (SetLabel path.People label))
  people_labelled label = people_changed (label_set label o.people) o.epoch

  pub people_listed : (list : List Entry) → Remembers r (apply o (SetList path.People list))
  people_listed list = people_changed (list_set list o.people) (o.epoch + 1)

  groups_changed : (home : Properties) (groups : NamesTo Properties) (epoch : ℕ) → Remembers r (record o { groups_home = home; groups = groups; epoch = epoch })
  groups_changed home groups epoch =
      beside_books r o remembers o.root o.people home o.books_home o.persons groups o.pairs epoch
      r.circles r.persons r.root r.home remembers.circles remembers.persons remembers.root remembers.home

  pub groups_labelled : (label : List ℕ) → Remembers r (apply o (SetLabel path.Groups label))
  groups_labelled label = groups_changed (label_set label o.groups_home) o.groups o.epoch

  pub groups_listed : (list : List Entry) → Remembers r (apply o (SetList path.Groups list))
  groups_listed list = groups_changed (list_set list o.groups_home) o.groups (o.epoch + 1)

  pub group_labelled : (n label : List ℕ) → Remembers r (apply o (SetLabel (path.Group n) label))
  group_labelled n label = groups_changed o.groups_home (changed_at (label_set label) o.groups n) o.epoch

  pub group_listed : (n : List ℕ) (list : List Entry) → Remembers r (apply o (SetList (path.Group n) list))
  group_listed n list = groups_changed o.groups_home (changed_at (list_set list) o.groups n) (o.epoch + 1)

  pub home_labelled : (label : List ℕ) → Remembers r (apply o (SetLabel path.Books label))
  home_labelled label =
      beside_books r o remembers o.root o.people o.groups_home (label_set label o.books_home) o.persons o.groups o.pairs o.epoch
      r.circles r.persons r.root r.home remembers.circles remembers.persons remembers.root remembers.home

  pub home_listed : (list : List Entry) → Remembers (record r { home = None }) (apply o (SetList path.Books list))
  home_listed list =
      beside_books r o remembers o.root o.people o.groups_home (list_set list o.books_home) o.persons o.groups o.pairs (o.epoch + 1)
      r.circles r.persons r.root None remembers.circles remembers.persons remembers.root tt

  -- of a person
  person_changed : (nodes : NamesTo Node) → nodes ≡ empty → (persons : NamesTo Properties) (epoch : ℕ) → Remembers (record r { persons = nodes }) (record o { persons = persons; epoch = epoch })
  person_changed nodes none persons epoch =
      beside_books r o remembers o.root o.people o.groups_home o.books_home persons o.groups o.pairs epoch
      r.circles nodes r.root r.home remembers.circles
      (λ n. none_in (λ node. option_map node_of (option_map (properties_resource kind.Person 0) (get persons n)) ≡ Some node) nodes none n)
      remembers.root remembers.home

  pub person_labelled : (nodes : NamesTo Node) → nodes ≡ empty → (n label : List ℕ) → Remembers (record r { persons = nodes }) (apply o (SetLabel (path.Person n) label))
  person_labelled nodes none n label = person_changed nodes none (changed_at (label_set label) o.persons n) o.epoch

  pub person_listed : (nodes : NamesTo Node) → nodes ≡ empty → (n : List ℕ) (list : List Entry) → Remembers (record r { persons = nodes }) (apply o (SetList (path.Person n) list))
  person_listed nodes none n list = person_changed nodes none (changed_at (list_set list) o.persons n) (o.epoch + 1)

  -- direct members
  pub members_remember : (circles : NamesTo CircleOf) → circles ≡ empty → (group : List ℕ) (members : List (List ℕ)) → Remembers (record r { circles = circles }) (apply o (SetMembers group members))
  members_remember circles none group members =
      beside_books r o remembers o.root o.people o.groups_home o.books_home o.persons o.groups (members_set o.pairs group members) (o.epoch + 1)
      circles r.persons r.root r.home
      (λ n. none_in (IsCircle (members_set o.pairs group members) (Known (person_path n))) circles none n)
      remembers.persons remembers.root remembers.home
