-- What Offices with one outline have in common.
use Rattle.book_machine.proofs.Common.{◌≡◌, ℕ, List, [], map, Option, Some, None, is_some, option_map, option_and_then, unwrap_or, refl, sym, ap, ◌∙◌, get, len, same_Some, get_mapped, Node, protected_at, own_at, level_at, effective_of, effective_at, Resource, properties_resource, book_resource, card_resource, number_of, card_at, card_in, resource_at, count_at, node_of, node_at, unnumbered, some_apart, levels, Book, StoredCard, Office, Path, outline_of_card, outline_of_book, outline, owner_at, here_of}
use Rattle.book_office_values.specs.declared.paths.Kind.TheVariants as kind
use Rattle.book_office_values.specs.declared.paths.Path.TheVariants as path
use Rattle.book_office_adopting.proofs.MappedEntries.{len_mapped}
use Rattle.book_office_listings.specs.Verdicts.{principal_of}

-- ---- values that may be there
pub fused : {A B C : Type 0} (f : B → C) (g : A → B) (r : Option A) → option_map f (option_map g r) ≡ option_map (λ x. f (g x)) r
fused f g None = refl
fused f g (Some x) = refl

pub then_fused : {A B C : Type 0} (f : B → Option C) (g : A → B) (r : Option A) → option_and_then f (option_map g r) ≡ option_and_then (λ x. f (g x)) r
then_fused f g None = refl
then_fused f g (Some x) = refl

-- what is read of equal outlines is equal
pub told : {A B C : Type 0} (g : A → B) (f : B → C) (r s : Option A) → option_map g r ≡ option_map g s
    → option_map (λ x. f (g x)) r ≡ option_map (λ x. f (g x)) s
told g f r s e = sym (fused f g r) ∙ ap (option_map f) e ∙ fused f g s

pub told_then : {A B C : Type 0} (g : A → B) (f : B → Option C) (r s : Option A) → option_map g r ≡ option_map g s
    → option_and_then (λ x. f (g x)) r ≡ option_and_then (λ x. f (g x)) s
told_then g f r s e = sym (then_fused f g r) ∙ ap (option_and_then f) e ∙ then_fused f g s

pub there_mapped : {A B : Type 0} (g : A → B) (r : Option A) → is_some (option_map g r) ≡ is_some r
there_mapped g None = refl
there_mapped g (Some x) = refl

-- ---- outlines of resources and nodes
abbrev pub outline_of_resource : Resource → Resource
outline_of_resource r = record r { label = []; text = None }

abbrev pub outline_of_node : Node → Node
outline_of_node node = record node { label = []; text = None }

node_outline : (r : Option Resource) → option_map outline_of_node (option_map node_of r) ≡ option_map node_of (option_map outline_of_resource r)
node_outline None = refl
node_outline (Some r) = refl

unnumbered_outline : (r : Option Node) → option_map outline_of_node (option_map unnumbered r) ≡ option_map unnumbered (option_map outline_of_node r)
unnumbered_outline None = refl
unnumbered_outline (Some node) = refl

card_outline : (number : ℕ) (r : Option StoredCard)
    → option_map outline_of_resource (option_map (card_resource number) r) ≡ option_map outline_of_resource (option_map (card_resource number) (option_map outline_of_card r))
card_outline number None = refl
card_outline number (Some card) = refl

-- ---- cards of a book
pub cards_of_outline : (c : List ℕ) (r : Option Book)
    → option_map outline_of_card (option_and_then (λ (book : Book). get book.cards c) r) ≡ option_and_then (λ (book : Book). get book.cards c) (option_map outline_of_book r)
cards_of_outline c None = refl
cards_of_outline c (Some book) = sym (get_mapped (λ _ card. outline_of_card card) book.cards c)

resources_of_outline : (c : List ℕ) (r : Option Book)
    → option_map outline_of_resource (option_and_then (λ (book : Book). card_in book c) r) ≡ option_map outline_of_resource (option_and_then (λ (book : Book). card_in book c) (option_map outline_of_book r))
resources_of_outline c None = refl
resources_of_outline c (Some book) =
    card_outline (number_of book c) (get book.cards c)
    ∙ ap (λ x. option_map outline_of_resource (option_map (card_resource (number_of book c)) x)) (sym (get_mapped (λ _ card. outline_of_card card) book.cards c))

counted_of_outline : (r : Option Book) → option_map (λ (book : Book). len book.cards) r ≡ option_map (λ (book : Book). len (outline_of_book book).cards) r
counted_of_outline None = refl
counted_of_outline (Some book) = ap Some (sym (len_mapped (λ _ card. outline_of_card card) book.cards))

-- cards that are equal are equal resources, in books with one outline
same_resource : (c : List ℕ) (r s : Option Book) → option_map outline_of_book r ≡ option_map outline_of_book s
    → option_and_then (λ (book : Book). get book.cards c) r ≡ option_and_then (λ (book : Book). get book.cards c) s
    → option_and_then (λ (book : Book). card_in book c) r ≡ option_and_then (λ (book : Book). card_in book c) s
same_resource c None None e same = refl
same_resource c None (Some y) e same = some_apart (sym e)
same_resource c (Some x) None e same = some_apart e
same_resource c (Some x) (Some y) e same =
    let changes : x.changes ≡ y.changes = ap (λ (book : Book). book.changes) (same_Some (outline_of_book x) (outline_of_book y) e) in
    λ i. option_map (card_resource (unwrap_or (get (changes i).last c) 0)) (same i)

module _ (o p : Office) (same : outline o ≡ outline p) where
  pub books_alike : (b : List ℕ) → option_map outline_of_book (get o.books b) ≡ option_map outline_of_book (get p.books b)
  books_alike b = sym (get_mapped (λ _ book. outline_of_book book) o.books b) ∙ ap (λ (x : Office). get x.books b) same ∙ get_mapped (λ _ book. outline_of_book book) p.books b

  pub cards_alike : (b c : List ℕ) → option_map outline_of_card (card_at o b c) ≡ option_map outline_of_card (card_at p b c)
  cards_alike b c = cards_of_outline c (get o.books b) ∙ ap (option_and_then (λ (book : Book). get book.cards c)) (books_alike b) ∙ sym (cards_of_outline c (get p.books b))

  pub book_there : (b : List ℕ) → is_some (get o.books b) ≡ is_some (get p.books b)
  book_there b = sym (there_mapped outline_of_book (get o.books b)) ∙ ap is_some (books_alike b) ∙ there_mapped outline_of_book (get p.books b)

  -- a resource that is no card, and a card that is equal
  pub resource_same : (q : Path) → ((b c : List ℕ) → q ≡ path.Card b c → card_at o b c ≡ card_at p b c) → resource_at o q ≡ resource_at p q
  resource_same path.Root h = ap (λ (x : Office). Some (properties_resource kind.Root 0 x.root)) same
  resource_same path.People h = ap (λ (x : Office). Some (properties_resource kind.Home 0 x.people)) same
  resource_same path.Groups h = ap (λ (x : Office). Some (properties_resource kind.Home 0 x.groups_home)) same
  resource_same path.Books h = ap (λ (x : Office). Some (properties_resource kind.Home 0 x.books_home)) same
  resource_same (path.Person n) h = ap (λ (x : Office). option_map (properties_resource kind.Person 0) (get x.persons n)) same
  resource_same (path.Group n) h = ap (λ (x : Office). option_map (properties_resource kind.Group 0) (get x.groups n)) same
  resource_same (path.Book b) h = told outline_of_book book_resource (get o.books b) (get p.books b) (books_alike b)
  resource_same (path.Card b c) h = same_resource c (get o.books b) (get p.books b) (books_alike b) (h b c refl)

  -- every resource, but for a card's label and text
  pub resources_alike : (q : Path) → option_map outline_of_resource (resource_at o q) ≡ option_map outline_of_resource (resource_at p q)
  resources_alike path.Root = ap (option_map outline_of_resource) (resource_same path.Root (λ b c is. absurd cc))
  resources_alike path.People = ap (option_map outline_of_resource) (resource_same path.People (λ b c is. absurd cc))
  resources_alike path.Groups = ap (option_map outline_of_resource) (resource_same path.Groups (λ b c is. absurd cc))
  resources_alike path.Books = ap (option_map outline_of_resource) (resource_same path.Books (λ b c is. absurd cc))
  resources_alike (path.Person n) = ap (option_map outline_of_resource) (resource_same (path.Person n) (λ b c is. absurd cc))
  resources_alike (path.Group n) = ap (option_map outline_of_resource) (resource_same (path.Group n) (λ b c is. absurd cc))
  resources_alike (path.Book b) = ap (option_map outline_of_resource) (resource_same (path.Book b) (λ b c is. absurd cc))
  resources_alike (path.Card b c) =
      resources_of_outline c (get o.books b) ∙ ap (λ r. option_map outline_of_resource (option_and_then (λ (book : Book). card_in book c) r)) (books_alike b)
      ∙ sym (resources_of_outline c (get p.books b))

  pub count_same : (q : Path) → count_at o q ≡ count_at p q
  count_same path.Root = refl
  count_same path.People = ap (λ (x : Office). len x.persons) same
  count_same path.Groups = ap (λ (x : Office). len x.groups) same
  count_same path.Books =
      sym (len_mapped (λ _ book. outline_of_book book) o.books) ∙ ap (λ (x : Office). len x.books) same ∙ len_mapped (λ _ book. outline_of_book book) p.books
  count_same (path.Person n) = refl
  count_same (path.Group n) = refl
  count_same (path.Book b) = ap (λ r. unwrap_or r 0)
      (counted_of_outline (get o.books b) ∙ told outline_of_book (λ (book : Book). len book.cards) (get o.books b) (get p.books b) (books_alike b)
      ∙ sym (counted_of_outline (get p.books b)))
  count_same (path.Card b c) = refl

  pub nodes_alike : (q : Path) → option_map outline_of_node (node_at o q) ≡ option_map outline_of_node (node_at p q)
  nodes_alike q =
      node_outline (resource_at o q)
      ∙ ap (option_map node_of) (resources_alike q)
      ∙ sym (node_outline (resource_at p q))

  -- the same of nodes of which no number is told
  pub targets_alike : (q : Path) → option_map outline_of_node (option_map unnumbered (node_at o q)) ≡ option_map outline_of_node (option_map unnumbered (node_at p q))
  targets_alike q =
      unnumbered_outline (node_at o q)
      ∙ ap (option_map unnumbered) (nodes_alike q)
      ∙ sym (unnumbered_outline (node_at p q))

  pub node_same : (q : Path) → ((b c : List ℕ) → q ≡ path.Card b c → card_at o b c ≡ card_at p b c) → node_at o q ≡ node_at p q
  node_same q h = ap (option_map node_of) (resource_same q h)

  -- ---- the lists in force, and what they ask of a resource
  pub level_same : (q : Path) → level_at o q ≡ level_at p q
  level_same q =
      let protected : protected_at o q ≡ protected_at p q =
      ap (λ r. unwrap_or r []) (told outline_of_resource (λ (r : Resource). r.protected) (resource_at o q) (resource_at p q) (resources_alike q)) in
      let own : own_at o q ≡ own_at p q =
      ap (λ r. unwrap_or r []) (told outline_of_resource (λ (r : Resource). r.own) (resource_at o q) (resource_at p q) (resources_alike q)) in
      λ i. record { path = q; protected = protected i; own = own i }

  pub effective_same : (q : Path) → effective_at o q ≡ effective_at p q
  effective_same q = λ i. effective_of (map (λ x. level_same x i) (levels q))

  pub here_same : (q : Path) → here_of o q ≡ here_of p q
  here_same q =
      let owner : owner_at o q ≡ owner_at p q =
      told_then outline_of_resource (λ (r : Resource). r.owner) (resource_at o q) (resource_at p q) (resources_alike q) in
      λ i. record { owner = owner i; principal = principal_of q }
