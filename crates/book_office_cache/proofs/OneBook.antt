-- What is remembered of books, each by its name, stays true where one book changes: of each other as it was, of that one by what changes.
use Rattle.book_office_cache.proofs.Common.{◌≡◌, Option, Some, ap, ◌∙◌, Remembers, bare_level, Remembered, Level, Node, Office}
use Rattle.std.proofs.Common.{arith, ◌≢◌, ◌≤◌, ◌⊎◌, ℕ, ◌+◌, true, List, [], inl, inr, None, IfSome, is_some, option_map, option_and_then, unwrap_or, refl, sym, subst}
use Rattle.std.specs.FinMap.{get, remove, len}
use Rattle.std.proofs.lemmas.Option.{same_Some}
use Rattle.book_office_cache.specs.Remembering.{with_next_number}
use Rattle.book_lists.specs.declared.entries.Entry.{Entry}
use Rattle.book_office.specs.Resources.{Resource, book_resource, card_in, card_resource, node_of, number_of}
use Rattle.book_office_values.specs.declared.offices.Book.{Book}
use Rattle.book_office_values.specs.declared.offices.StoredCard.{StoredCard}
use Rattle.book_office_values.specs.declared.paths.Path.TheVariants as path
use Rattle.book_office_values.specs.Names.{NamesTo, changed_at}
use Rattle.book_office_values.specs.declared.paths.Kind.TheVariants as kind
use Rattle.book_office_values.proofs.NameMapLaws.{by_names}
use Rattle.book_office_values.proofs.OneName.{changed_here, changed_elsewhere, removed_here, removed_elsewhere, some_apart}

pub if_some : {A : Type 0} (r : Option A) (P Q : A → Type 0) → ((x : A) → P x → Q x) → IfSome r P → IfSome r Q
if_some None P Q f h = h
if_some (Some x) P Q f h = f x h

if_mapped : {A : Type 0} (g : A → A) (r : Option A) (P Q : A → Type 0) → ((x : A) → P x → Q (g x)) → IfSome r P → IfSome (option_map g r) Q
if_mapped g None P Q f h = h
if_mapped g (Some x) P Q f h = f x h

-- what a map has is true of the books
abbrev pub Hold : {V : Type 0} → (List ℕ → V → Option Book → Type 0) → NamesTo V → NamesTo Book → Type 0
Hold P m books = (n : List ℕ) → IfSome (get m n) (λ v. P n v (get books n))

module _ {V : Type 0} (P : List ℕ → V → Option Book → Type 0) (b : List ℕ) (before after : NamesTo Book) (elsewhere : (n : List ℕ) → n ≢ b → get after n ≡ get before n) (m : NamesTo V) (holds : Hold P m before) where
  -- true at the book that changes, and as it was at each other
  hold_but : (new : NamesTo V) → ((n : List ℕ) → n ≢ b → get new n ≡ get m n) → IfSome (get new b) (λ v. P b v (get after b)) → Hold P new after
  hold_but new same here n =
      by_names n b (λ _. IfSome (get new n) (λ v. P n v (get after n)))
      (λ is. subst (λ n. IfSome (get new n) (λ v. P n v (get after n))) (sym is) here)
      (λ apart. subst (λ found. IfSome found (λ v. P n v (get after n))) (sym (same n apart))
      (subst (λ book. IfSome (get m n) (λ v. P n v book)) (sym (elsewhere n apart)) (holds n)))

  -- it is forgotten of the book that changes
  pub hold_forgotten : Hold P (remove m b) after
  hold_forgotten =
      hold_but (remove m b) (removed_elsewhere m b)
      (subst (λ found. IfSome found (λ v. P b v (get after b))) (sym (removed_here m b)) tt)

module _ {V : Type 0} (P : List ℕ → V → Option Book → Type 0) (f : Book → Book) (b : List ℕ) (books : NamesTo Book) (m : NamesTo V) (holds : Hold P m books) where
  pub hold_removed : Hold P (remove m b) (changed_at f books b)
  hold_removed = hold_forgotten P b books (changed_at f books b) (changed_elsewhere books b f) m holds

  -- what is remembered changes with the book
  hold_changed : (g : V → V) → ((v : V) → P b v (get books b) → P b (g v) (option_map f (get books b))) → Hold P (changed_at g m b) (changed_at f books b)
  hold_changed g step =
      hold_but P b books (changed_at f books b) (changed_elsewhere books b f) m holds (changed_at g m b) (changed_elsewhere m b g)
      (subst (λ found. IfSome found (λ v. P b v (get (changed_at f books b) b))) (sym (changed_here m b g))
      (subst (λ book. IfSome (option_map g (get m b)) (λ v. P b v book)) (sym (changed_here books b f))
      (if_mapped g (get m b) (λ v. P b v (get books b)) (λ v. P b v (option_map f (get books b))) step (holds b))))

  -- or it is forgotten
  pub hold_followed : (g : V → V) → ((v : V) → P b v (get books b) → P b (g v) (option_map f (get books b)))
      → (new : NamesTo V) → (new ≡ changed_at g m b) ⊎ (new ≡ remove m b) → Hold P new (changed_at f books b)
  hold_followed g step new (inl is) = subst (λ m. Hold P m (changed_at f books b)) (sym is) (hold_changed g step)
  hold_followed g step new (inr is) = subst (λ m. Hold P m (changed_at f books b)) (sym is) hold_removed

  -- what is remembered stays
  pub hold_stays : ((v : V) → P b v (get books b) → P b v (option_map f (get books b))) → Hold P m (changed_at f books b)
  hold_stays step =
      hold_but P b books (changed_at f books b) (changed_elsewhere books b f) m holds m (λ _ _. refl)
      (subst (λ book. IfSome (get m b) (λ v. P b v book)) (sym (changed_here books b f))
      (if_some (get m b) (λ v. P b v (get books b)) (λ v. P b v (option_map f (get books b))) step (holds b)))

-- ---- the lists of a book, or of none

abbrev level_of : List ℕ → Option Book → Level
level_of n book = record {
  path = path.Book n;
  protected = unwrap_or (option_map (λ (r : Resource). r.protected) (option_map book_resource book)) [];
  own = unwrap_or (option_map (λ (r : Resource). r.own) (option_map book_resource book)) [];
}

abbrev pub IsLevel : List ℕ → Level → Option Book → Type 0
IsLevel n level book = level ≡ level_of n book

-- a change of what a book has beside its properties
abbrev pub KeepsProperties : (Book → Book) → Type 0
KeepsProperties f = (book : Book) → (f book).properties ≡ book.properties

same_level : (f : Book → Book) → KeepsProperties f → (n : List ℕ) (book : Option Book) → level_of n (option_map f book) ≡ level_of n book
same_level f keeps n None = refl
same_level f keeps n (Some book) = λ i. record { path = path.Book n; protected = (keeps book i).protected; own = (keeps book i).own }

pub level_stays : (f : Book → Book) → KeepsProperties f → (n : List ℕ) (level : Level) (book : Option Book) → IsLevel n level book → IsLevel n level (option_map f book)
level_stays f keeps n level book is = is ∙ sym (same_level f keeps n book)

-- ---- a book, or none

abbrev node_in : Option Book → Option Node
node_in book = option_map node_of (option_map book_resource book)

abbrev pub IsNode : List ℕ → Node → Option Book → Type 0
IsNode n node book = node_in book ≡ Some node

-- a change of a book with its number, and one without
abbrev pub Raises : (Book → Book) → Type 0
Raises f = (book : Book) → (f book).changes.number ≡ book.changes.number + 1

abbrev pub KeepsNumber : (Book → Book) → Type 0
KeepsNumber f = (book : Book) → (f book).changes.number ≡ book.changes.number

pub node_raised : (f : Book → Book) → KeepsProperties f → Raises f → (n : List ℕ) (node : Node) (book : Option Book) → IsNode n node book → IsNode n (with_next_number node) (option_map f book)
node_raised f keeps raises n node None is = some_apart (sym is)
node_raised f keeps raises n node (Some book) is = ap Some (now ∙ ap with_next_number (same_Some (node_of (book_resource book)) node is))
  where
    now : node_of (book_resource (f book)) ≡ with_next_number (node_of (book_resource book))
    now = λ i. record { kind = kind.Book; owner = (keeps book i).owner; label = (keeps book i).label; text = None; number = raises book i }

pub node_stays : (f : Book → Book) → KeepsProperties f → KeepsNumber f → (n : List ℕ) (node : Node) (book : Option Book) → IsNode n node book → IsNode n node (option_map f book)
node_stays f keeps same n node None is = is
node_stays f keeps same n node (Some book) is = ap Some now ∙ is
  where
    now : node_of (book_resource (f book)) ≡ node_of (book_resource book)
    now = λ i. record { kind = kind.Book; owner = (keeps book i).owner; label = (keeps book i).label; text = None; number = same book i }

-- ---- the entries of a card, or of none

abbrev card_level : List ℕ → List ℕ → Option Book → Level
card_level n c book = record {
  path = path.Card n c;
  protected = unwrap_or (option_map (λ (r : Resource). r.protected) (option_and_then (λ (book : Book). card_in book c) book)) [];
  own = unwrap_or (option_map (λ (r : Resource). r.own) (option_and_then (λ (book : Book). card_in book c) book)) [];
}

abbrev pub IsBare : List ℕ → List ℕ → Option Book → Type 0
IsBare n c book = bare_level (path.Card n c) ≡ card_level n c book

abbrev pub AreBareIn : List ℕ → NamesTo (Unit {0}) → Option Book → Type 0
AreBareIn n cards book = (c : List ℕ) → is_some (get cards c) ≡ true → IsBare n c book

abbrev pub AreAllBareIn : List ℕ → Unit {0} → Option Book → Type 0
AreAllBareIn n unit book = (c : List ℕ) → IsBare n c book

abbrev pub own_of : Option StoredCard → List Entry
own_of None = []
own_of (Some card) = card.own

abbrev pub own_under : List ℕ → Option Book → List Entry
own_under c None = []
own_under c (Some book) = own_of (get book.cards c)

pub bare_if : (n c : List ℕ) (book : Option Book) → own_under c book ≡ [] → IsBare n c book
bare_if n c None is = refl
bare_if n c (Some book) is = go (get book.cards c) is
  where
    go : (card : Option StoredCard) → own_of card ≡ [] → bare_level (path.Card n c)
        ≡ record { path = path.Card n c; protected = unwrap_or (option_map (λ (r : Resource). r.protected) (option_map (card_resource (number_of book c)) card)) []; own = unwrap_or (option_map (λ (r : Resource). r.own) (option_map (card_resource (number_of book c)) card)) [] }
    go None is = refl
    go (Some card) is = λ i. record { path = path.Card n c; protected = []; own = sym is i }

pub none_if : (n c : List ℕ) (book : Option Book) → IsBare n c book → own_under c book ≡ []
none_if n c None is = refl
none_if n c (Some book) is = go (get book.cards c) (ap (λ (l : Level). l.own) is)
  where
    go : (card : Option StoredCard) → [] ≡ unwrap_or (option_map (λ (r : Resource). r.own) (option_map (card_resource (number_of book c)) card)) [] → own_of card ≡ []
    go None is = refl
    go (Some card) is = sym is

-- a change of a book that gives no card entries
abbrev pub GivesNone : (Book → Book) → Type 0
GivesNone f = (book : Book) (c : List ℕ) → own_of (get book.cards c) ≡ [] → own_of (get (f book).cards c) ≡ []

none_after : (f : Book → Book) → GivesNone f → (c : List ℕ) (book : Option Book) → own_under c book ≡ [] → own_under c (option_map f book) ≡ []
none_after f gives c None is = refl
none_after f gives c (Some book) is = gives book c is

bare_stays : (f : Book → Book) → GivesNone f → (n c : List ℕ) (book : Option Book) → IsBare n c book → IsBare n c (option_map f book)
bare_stays f gives n c book is = bare_if n c (option_map f book) (none_after f gives c book (none_if n c book is))

pub cards_stay_bare : (f : Book → Book) → GivesNone f → (n : List ℕ) (cards : NamesTo (Unit {0})) (book : Option Book) → AreBareIn n cards book → AreBareIn n cards (option_map f book)
cards_stay_bare f gives n cards book are c there = bare_stays f gives n c book (are c there)

pub all_stay_bare : (f : Book → Book) → GivesNone f → (n : List ℕ) (unit : Unit {0}) (book : Option Book) → AreAllBareIn n unit book → AreAllBareIn n unit (option_map f book)
all_stay_bare f gives n unit book are c = bare_stays f gives n c book (are c)

-- ---- how many cards a book, or none, has

abbrev count_under : Option Book → ℕ
count_under book = unwrap_or (option_map (λ (book : Book). len book.cards) book) 0

abbrev pub IsAtMost : List ℕ → ℕ → Option Book → Type 0
IsAtMost n count book = count_under book ≤ count

-- a change of a book that adds no card, or at most one
abbrev pub AddsNone : (Book → Book) → Type 0
AddsNone f = (book : Book) → len (f book).cards ≤ len book.cards

abbrev pub AddsOne : (Book → Book) → Type 0
AddsOne f = (book : Book) → len (f book).cards ≤ len book.cards + 1

pub count_stays : (f : Book → Book) → AddsNone f → (n : List ℕ) (count : ℕ) (book : Option Book) → IsAtMost n count book → IsAtMost n count (option_map f book)
count_stays f adds n count None is = is
count_stays f adds n count (Some book) is = let now = adds book in omega (arith, is, now)

pub count_grows : (f : Book → Book) → AddsOne f → (n : List ℕ) (count : ℕ) (book : Option Book) → IsAtMost n count book → IsAtMost n (count + 1) (option_map f book)
count_grows f adds n count None is = omega arith
count_grows f adds n count (Some book) is = let now = adds book in omega (arith, is, now)

-- ---- what is remembered of books, and nothing else, changes with them
pub books_remembered : (r : Remembered) (o : Office) → Remembers r o → (books : NamesTo Book) (epoch : ℕ)
    → (levels : NamesTo Level) (nodes : NamesTo Node) (bare : NamesTo (NamesTo (Unit {0}))) (all : NamesTo (Unit {0})) (counts : NamesTo ℕ)
    → Hold IsLevel levels books → Hold IsNode nodes books → Hold AreBareIn bare books → Hold AreAllBareIn all books → Hold IsAtMost counts books
    → Remembers (record r { books = levels; book_nodes = nodes; bare = bare; bare_books = all; counts = counts }) (record o { books = books; epoch = epoch })
books_remembered r o remembers books epoch levels nodes bare all counts are_levels are_nodes are_bare are_all_bare are_counts = record {
  circles = remembers.circles;
  persons = remembers.persons;
  root = remembers.root;
  home = remembers.home;
  books = are_levels;
  book_nodes = are_nodes;
  bare = are_bare;
  bare_books = are_all_bare;
  counts = are_counts;
}
