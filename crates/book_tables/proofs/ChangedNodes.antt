-- An Office in which what is kept at one path changed: the resource there, and all else.
use Rattle.book_tables.proofs.Common.{◌≡◌, ◌≢◌, ℕ, List, Option, Some, None, option_map, option_and_then, refl, sym, ap, subst, ◌∙◌, get, Memberships, Entry, Book, Office, Properties, StoredCard, Kind, Path, NamesTo, Resource, resource_at, removed_at, properties_resource, book_resource, card_resource, card_in, number_of, unless_mapped}
use Rattle.book_office_values.specs.declared.paths.Kind.TheVariants as kind
use Rattle.book_office_values.specs.declared.paths.Path.TheVariants as path
use Rattle.book_office_values.specs.Names.{changed_at}
use Rattle.book_office_values.proofs.OneName.{changed_here, changed_elsewhere, by_changed}
use Rattle.book_office.specs.Edits.{with_properties, with_book_properties, with_cards, with_card, label_set, set_label, list_set, listed_card, own_list_set}

-- a path that is no card's
abbrev pub IsOther : Path → Type 0
IsOther p = (b c : List ℕ) → p ≢ path.Card b c

-- neither pairs nor epoch are a resource's
pub same_resources : (o : Office) (pairs : Memberships) (epoch : ℕ) (q : Path) → resource_at (record o { pairs = pairs; epoch = epoch }) q ≡ resource_at o q
same_resources o pairs epoch path.Root = refl
same_resources o pairs epoch path.People = refl
same_resources o pairs epoch path.Groups = refl
same_resources o pairs epoch path.Books = refl
same_resources o pairs epoch (path.Person n) = refl
same_resources o pairs epoch (path.Group n) = refl
same_resources o pairs epoch (path.Book b) = refl
same_resources o pairs epoch (path.Card b c) = refl

-- the resource at one path changes, but for its number, and no other; no name is removed or comes back
pub record ChangesOne (o o' : Office) (p : Path) (change : Resource → Resource) : Type 0 where
  pub here : resource_at o' p ≡ option_map change (resource_at o p)
  pub elsewhere : (q : Path) → p ≢ q → resource_at o' q ≡ resource_at o q
  pub removed : (a name : List ℕ) → removed_at o' a name ≡ removed_at o a name
  pub pairs : o'.pairs ≡ o.pairs
  pub epoch : o'.epoch ≡ o.epoch

-- what is read of each value where the values change, and the reading with them
module _ {V : Type 0} (m : NamesTo V) (k : List ℕ) (f : V → V) (read : V → Resource) (change : Resource → Resource) (alike : (v : V) → read (f v) ≡ change (read v)) where
  map_alike : (r : Option V) → option_map read (option_map f r) ≡ option_map change (option_map read r)
  map_alike None = refl
  map_alike (Some v) = ap Some (alike v)

  read_here : option_map read (get (changed_at f m k) k) ≡ option_map change (option_map read (get m k))
  read_here = ap (option_map read) (changed_here m k f) ∙ map_alike (get m k)

abbrev left_by : List ℕ → Book → Option ℕ
left_by name k = unless_mapped (get k.cards name) (get k.changes.last name)

-- what a book tells where its properties change
module _ (f : Properties → Properties) {X : Type 0} (read : Book → Option X) (same : (k : Book) → read (with_book_properties f k) ≡ read k) (books : NamesTo Book) where
  read_stays : (b a : List ℕ) → option_and_then read (get (changed_at (with_book_properties f) books b) a) ≡ option_and_then read (get books a)
  read_stays b a = by_changed books b (with_book_properties f) a (λ r. option_and_then read r ≡ option_and_then read (get books a)) (λ _. go (get books a)) (λ _. refl)
    where
      go : (r : Option Book) → option_and_then read (option_map (with_book_properties f) r) ≡ option_and_then read r
      go None = refl
      go (Some k) = same k

-- ---- at a path that is no card's

module _ (o : Office) (f : Properties → Properties) (change : Resource → Resource) (alike : (k : Kind) (n : ℕ) (v : Properties) → properties_resource k n (f v) ≡ change (properties_resource k n v)) where
  abbrev changed : Path → Office
  changed p = with_properties f o p

  changed_there : (p : Path) → IsOther p → resource_at (changed p) p ≡ option_map change (resource_at o p)
  changed_there path.Root other = ap Some (alike kind.Root 0 o.root)
  changed_there path.People other = ap Some (alike kind.Home 0 o.people)
  changed_there path.Groups other = ap Some (alike kind.Home 0 o.groups_home)
  changed_there path.Books other = ap Some (alike kind.Home 0 o.books_home)
  changed_there (path.Person n) other = read_here o.persons n f (properties_resource kind.Person 0) change (alike kind.Person 0)
  changed_there (path.Group n) other = read_here o.groups n f (properties_resource kind.Group 0) change (alike kind.Group 0)
  changed_there (path.Book b) other = read_here o.books b (with_book_properties f) book_resource change (λ k. alike kind.Book k.changes.number k.properties)
  changed_there (path.Card b c) other = absurd (other b c refl)

  removed_stay : (p : Path) → IsOther p → (a name : List ℕ) → removed_at (changed p) a name ≡ removed_at o a name
  removed_stay path.Root other a name = refl
  removed_stay path.People other a name = refl
  removed_stay path.Groups other a name = refl
  removed_stay path.Books other a name = refl
  removed_stay (path.Person n) other a name = refl
  removed_stay (path.Group n) other a name = refl
  removed_stay (path.Book b) other a name = read_stays f (left_by name) (λ k. refl) o.books b a
  removed_stay (path.Card b c) other a name = absurd (other b c refl)

  pairs_stay : (p : Path) → (changed p).pairs ≡ o.pairs
  pairs_stay path.Root = refl
  pairs_stay path.People = refl
  pairs_stay path.Groups = refl
  pairs_stay path.Books = refl
  pairs_stay (path.Person n) = refl
  pairs_stay (path.Group n) = refl
  pairs_stay (path.Book b) = refl
  pairs_stay (path.Card b c) = refl

  epoch_stays : (p : Path) → (changed p).epoch ≡ o.epoch
  epoch_stays path.Root = refl
  epoch_stays path.People = refl
  epoch_stays path.Groups = refl
  epoch_stays path.Books = refl
  epoch_stays (path.Person n) = refl
  epoch_stays (path.Group n) = refl
  epoch_stays (path.Book b) = refl
  epoch_stays (path.Card b c) = refl

  -- ---- at another path

  at_root : (p : Path) → IsOther p → p ≢ path.Root → resource_at (changed p) path.Root ≡ resource_at o path.Root
  at_root path.Root other x = absurd (x refl)
  at_root path.People other x = refl
  at_root path.Groups other x = refl
  at_root path.Books other x = refl
  at_root (path.Person n) other x = refl
  at_root (path.Group n) other x = refl
  at_root (path.Book b) other x = refl
  at_root (path.Card b c) other x = absurd (other b c refl)

  at_people : (p : Path) → IsOther p → p ≢ path.People → resource_at (changed p) path.People ≡ resource_at o path.People
  at_people path.Root other x = refl
  at_people path.People other x = absurd (x refl)
  at_people path.Groups other x = refl
  at_people path.Books other x = refl
  at_people (path.Person n) other x = refl
  at_people (path.Group n) other x = refl
  at_people (path.Book b) other x = refl
  at_people (path.Card b c) other x = absurd (other b c refl)

  at_groups : (p : Path) → IsOther p → p ≢ path.Groups → resource_at (changed p) path.Groups ≡ resource_at o path.Groups
  at_groups path.Root other x = refl
  at_groups path.People other x = refl
  at_groups path.Groups other x = absurd (x refl)
  at_groups path.Books other x = refl
  at_groups (path.Person n) other x = refl
  at_groups (path.Group n) other x = refl
  at_groups (path.Book b) other x = refl
  at_groups (path.Card b c) other x = absurd (other b c refl)

  at_books : (p : Path) → IsOther p → p ≢ path.Books → resource_at (changed p) path.Books ≡ resource_at o path.Books
  at_books path.Root other x = refl
  at_books path.People other x = refl
  at_books path.Groups other x = refl
  at_books path.Books other x = absurd (x refl)
  at_books (path.Person n) other x = refl
  at_books (path.Group n) other x = refl
  at_books (path.Book b) other x = refl
  at_books (path.Card b c) other x = absurd (other b c refl)

  at_person : (m : List ℕ) (p : Path) → IsOther p → p ≢ path.Person m → resource_at (changed p) (path.Person m) ≡ resource_at o (path.Person m)
  at_person m path.Root other x = refl
  at_person m path.People other x = refl
  at_person m path.Groups other x = refl
  at_person m path.Books other x = refl
  at_person m (path.Person n) other x = ap (option_map (properties_resource kind.Person 0)) (changed_elsewhere o.persons n f m (λ is. x (ap path.Person (sym is))))
  at_person m (path.Group n) other x = refl
  at_person m (path.Book b) other x = refl
  at_person m (path.Card b c) other x = absurd (other b c refl)

  at_group : (m : List ℕ) (p : Path) → IsOther p → p ≢ path.Group m → resource_at (changed p) (path.Group m) ≡ resource_at o (path.Group m)
  at_group m path.Root other x = refl
  at_group m path.People other x = refl
  at_group m path.Groups other x = refl
  at_group m path.Books other x = refl
  at_group m (path.Person n) other x = refl
  at_group m (path.Group n) other x = ap (option_map (properties_resource kind.Group 0)) (changed_elsewhere o.groups n f m (λ is. x (ap path.Group (sym is))))
  at_group m (path.Book b) other x = refl
  at_group m (path.Card b c) other x = absurd (other b c refl)

  at_book : (m : List ℕ) (p : Path) → IsOther p → p ≢ path.Book m → resource_at (changed p) (path.Book m) ≡ resource_at o (path.Book m)
  at_book m path.Root other x = refl
  at_book m path.People other x = refl
  at_book m path.Groups other x = refl
  at_book m path.Books other x = refl
  at_book m (path.Person n) other x = refl
  at_book m (path.Group n) other x = refl
  at_book m (path.Book b) other x = ap (option_map book_resource) (changed_elsewhere o.books b (with_book_properties f) m (λ is. x (ap path.Book (sym is))))
  at_book m (path.Card b c) other x = absurd (other b c refl)

  at_card : (a d : List ℕ) (p : Path) → IsOther p → resource_at (changed p) (path.Card a d) ≡ resource_at o (path.Card a d)
  at_card a d path.Root other = refl
  at_card a d path.People other = refl
  at_card a d path.Groups other = refl
  at_card a d path.Books other = refl
  at_card a d (path.Person n) other = refl
  at_card a d (path.Group n) other = refl
  at_card a d (path.Book b) other = read_stays f (λ k. card_in k d) (λ k. refl) o.books b a
  at_card a d (path.Card b c) other = absurd (other b c refl)

  changed_elsewhere_too : (p : Path) → IsOther p → (q : Path) → p ≢ q → resource_at (changed p) q ≡ resource_at o q
  changed_elsewhere_too p other path.Root x = at_root p other x
  changed_elsewhere_too p other path.People x = at_people p other x
  changed_elsewhere_too p other path.Groups x = at_groups p other x
  changed_elsewhere_too p other path.Books x = at_books p other x
  changed_elsewhere_too p other (path.Person m) x = at_person m p other x
  changed_elsewhere_too p other (path.Group m) x = at_group m p other x
  changed_elsewhere_too p other (path.Book m) x = at_book m p other x
  changed_elsewhere_too p other (path.Card a d) x = at_card a d p other

  pub properties_change : (p : Path) → IsOther p → ChangesOne o (changed p) p change
  properties_change p other = record {
    here = changed_there p other;
    elsewhere = changed_elsewhere_too p other;
    removed = removed_stay p other;
    pairs = pairs_stay p;
    epoch = epoch_stays p;
  }

-- ---- the label, and the own list

abbrev pub relabel : List ℕ → Resource → Resource
relabel label r = record r { label = label }

abbrev pub relist : List Entry → Resource → Resource
relist list r = record r { own = list }

set_label_is : (p : Path) → IsOther p → (label : List ℕ) (o : Office) → with_properties (label_set label) o p ≡ set_label p label o
set_label_is path.Root other label o = refl
set_label_is path.People other label o = refl
set_label_is path.Groups other label o = refl
set_label_is path.Books other label o = refl
set_label_is (path.Person n) other label o = refl
set_label_is (path.Group n) other label o = refl
set_label_is (path.Book b) other label o = refl
set_label_is (path.Card b c) other label o = absurd (other b c refl)

pub label_changes : (p : Path) → IsOther p → (label : List ℕ) (o : Office) → ChangesOne o (set_label p label o) p (relabel label)
label_changes p other label o =
    subst (λ o'. ChangesOne o o' p (relabel label)) (set_label_is p other label o) (properties_change o (label_set label) (relabel label) (λ k n v. refl) p other)

-- the own list of a card
module _ (o : Office) (b c : List ℕ) (list : List Entry) where
  abbrev listed_in : Book → Book
  listed_in = with_cards (λ cards. changed_at (listed_card list) cards c)

  abbrev after : Office
  after = with_card (listed_card list) o b c

  card_here : resource_at after (path.Card b c) ≡ option_map (relist list) (resource_at o (path.Card b c))
  card_here = ap (option_and_then (λ (k : Book). card_in k c)) (changed_here o.books b listed_in) ∙ go (get o.books b)
    where
      go : (r : Option Book) → option_and_then (λ (k : Book). card_in k c) (option_map listed_in r) ≡ option_map (relist list) (option_and_then (λ (k : Book). card_in k c) r)
      go None = refl
      go (Some k) = read_here k.cards c (listed_card list) (card_resource (number_of k c)) (relist list) (λ v. refl)

  other_card : (d : List ℕ) → (d ≡ c → ⊥) → (r : Option Book) → option_and_then (λ (k : Book). card_in k d) (option_map listed_in r) ≡ option_and_then (λ (k : Book). card_in k d) r
  other_card d apart None = refl
  other_card d apart (Some k) = ap (option_map (card_resource (number_of k d))) (changed_elsewhere k.cards c (listed_card list) d apart)

  same_left : (name : List ℕ) (r : Option Book) → option_and_then (left_by name) (option_map listed_in r) ≡ option_and_then (left_by name) r
  same_left name None = refl
  same_left name (Some k) = by_changed k.cards c (listed_card list) name (λ r. unless_mapped r (get k.changes.last name) ≡ left_by name k) (λ _. go (get k.cards name)) (λ _. refl)
    where
      go : (r : Option StoredCard) → unless_mapped (option_map (listed_card list) r) (get k.changes.last name) ≡ unless_mapped r (get k.changes.last name)
      go None = refl
      go (Some card) = refl

  same_book : (r : Option Book) → option_map book_resource (option_map listed_in r) ≡ option_map book_resource r
  same_book None = refl
  same_book (Some k) = refl

  card_elsewhere : (q : Path) → path.Card b c ≢ q → resource_at after q ≡ resource_at o q
  card_elsewhere path.Root x = refl
  card_elsewhere path.People x = refl
  card_elsewhere path.Groups x = refl
  card_elsewhere path.Books x = refl
  card_elsewhere (path.Person n) x = refl
  card_elsewhere (path.Group n) x = refl
  card_elsewhere (path.Book a) x = by_changed o.books b listed_in a (λ r. option_map book_resource r ≡ option_map book_resource (get o.books a)) (λ _. same_book (get o.books a)) (λ _. refl)
  card_elsewhere (path.Card a d) x = by_changed o.books b listed_in a (λ r. option_and_then (λ (k : Book). card_in k d) r ≡ option_and_then (λ (k : Book). card_in k d) (get o.books a))
      (λ is. other_card d (λ same. x (λ i. path.Card (sym is i) (sym same i))) (get o.books a)) (λ _. refl)

  card_list_changes : ChangesOne o after (path.Card b c) (relist list)
  card_list_changes = record {
    here = card_here;
    elsewhere = card_elsewhere;
    removed = λ a name. by_changed o.books b listed_in a (λ r. option_and_then (left_by name) r ≡ removed_at o a name) (λ _. same_left name (get o.books a)) (λ _. refl);
    pairs = refl;
    epoch = refl;
  }

other_list : (p : Path) → IsOther p → (list : List Entry) (o : Office) → ChangesOne o (with_properties (list_set list) o p) p (relist list)
other_list p other list o = properties_change o (list_set list) (relist list) (λ k n v. refl) p other

pub list_changes : (p : Path) (list : List Entry) (o : Office) → ChangesOne o (own_list_set p list o) p (relist list)
list_changes path.Root list o = other_list path.Root (λ b c e. cc) list o
list_changes path.People list o = other_list path.People (λ b c e. cc) list o
list_changes path.Groups list o = other_list path.Groups (λ b c e. cc) list o
list_changes path.Books list o = other_list path.Books (λ b c e. cc) list o
list_changes (path.Person n) list o = other_list (path.Person n) (λ b c e. cc) list o
list_changes (path.Group n) list o = other_list (path.Group n) (λ b c e. cc) list o
list_changes (path.Book b) list o = other_list (path.Book b) (λ b c e. cc) list o
list_changes (path.Card b c) list o = card_list_changes o b c list
