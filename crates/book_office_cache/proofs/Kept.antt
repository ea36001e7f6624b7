-- What is remembered stays true where more is.
use Rattle.book_office_cache.proofs.Common.{◌≡◌, Option, Some, ap, ◌∙◌, AreAllBare, AreBare, Remembers, bare_level, Remembered, level_at, count_at, node_at, Level, Node, Office}
use Rattle.std.proofs.Common.{arith, ◌≤◌, ℕ, List, None, IfSome, is_some, true, sym, subst}
use Rattle.std.proofs.lemmas.Bool.{false≢true}
use Rattle.std.specs.FinMap.{empty, get, insert, remove, get-empty}
use Rattle.book_lists.specs.Callers.{IsCircle}
use Rattle.book_lists.specs.Circles.{CircleOf}
use Rattle.book_lists.specs.Names.{name_cmp}
use Rattle.book_lists.specs.Principals.{person_path}
use Rattle.book_lists.specs.declared.circles.Caller.TheVariants.{Known}
use Rattle.book_office_values.specs.declared.paths.Path.TheVariants as path
use Rattle.book_office_values.specs.Names.{NamesTo}
use Rattle.book_office_values.proofs.OneName.{by_put, by_removed}

pub at_most : {a b : ℕ} → a ≡ b → a ≤ b
at_most is = omega (arith, is)

pub none_in : {V : Type 0} (P : V → Type 0) (m : NamesTo V) → m ≡ empty → (n : List ℕ) → IfSome (get m n) P
none_in P m is n = subst (λ r. IfSome r P) (sym (ap (λ m. get m n) is ∙ get-empty name_cmp n)) tt

pub nothing_remembered : (circles : NamesTo CircleOf) (persons : NamesTo Node) (books : NamesTo Level) (nodes : NamesTo Node) (bare : NamesTo (NamesTo (Unit {0}))) (all : NamesTo (Unit {0})) (counts : NamesTo ℕ)
    → circles ≡ empty → persons ≡ empty → books ≡ empty → nodes ≡ empty → bare ≡ empty → all ≡ empty → counts ≡ empty → (o : Office)
    → Remembers (record { circles = circles; persons = persons; root = None; home = None; books = books; book_nodes = nodes; bare = bare; bare_count = 0; bare_books = all; counts = counts }) o
nothing_remembered circles persons books nodes bare all counts no_circles no_persons no_books no_nodes none_bare none_all no_counts o = record {
  circles = λ n. none_in (IsCircle o.pairs (Known (person_path n))) circles no_circles n;
  persons = λ n. none_in (λ node. node_at o (path.Person n) ≡ Some node) persons no_persons n;
  root = tt;
  home = tt;
  books = λ n. none_in (λ level. level ≡ level_at o (path.Book n)) books no_books n;
  book_nodes = λ n. none_in (λ node. node_at o (path.Book n) ≡ Some node) nodes no_nodes n;
  bare = λ n. none_in (AreBare o n) bare none_bare n;
  bare_books = λ n. none_in (λ _. AreAllBare o n) all none_all n;
  counts = λ n. none_in (λ count. count_at o (path.Book n) ≤ count) counts no_counts n;
}

pub no_cards_bare : (o : Office) (b : List ℕ) (cards : NamesTo (Unit {0})) → cards ≡ empty → AreBare o b cards
no_cards_bare o b cards is c there =
    absurd (false≢true (sym (ap is_some (ap (λ m. get m c) is ∙ get-empty name_cmp c)) ∙ there))

pub cards_taken : (r : Remembered) (o : Office) (b : List ℕ) (cards : NamesTo (Unit {0})) → Some cards ≡ get r.bare b → Remembers r o → AreBare o b cards
cards_taken r o b cards is remembers = subst (λ found. IfSome found (AreBare o b)) (sym is) (remembers.bare b)

pub card_bare : (o : Office) (b c : List ℕ) (cards : NamesTo (Unit {0})) (unit : Unit {0}) → AreBare o b cards → bare_level (path.Card b c) ≡ level_at o (path.Card b c) → AreBare o b (insert cards c unit)
card_bare o b c cards unit are is q =
    by_put cards c unit q (λ found. is_some found ≡ true → bare_level (path.Card b q) ≡ level_at o (path.Card b q))
    (λ same _. subst (λ n. bare_level (path.Card b n) ≡ level_at o (path.Card b n)) (sym same) is)
    (λ _. are q)

module _ (r : Remembered) (o : Office) (remembers : Remembers r o) where
  pub no_books_remembered : (books : NamesTo Level) → books ≡ empty → Remembers (record r { books = books }) o
  no_books_remembered books is = record {
    circles = remembers.circles;
    persons = remembers.persons;
    root = remembers.root;
    home = remembers.home;
    books = λ n. none_in (λ level. level ≡ level_at o (path.Book n)) books is n;
    book_nodes = remembers.book_nodes;
    bare = remembers.bare;
    bare_books = remembers.bare_books;
    counts = remembers.counts;
  }

  pub no_circles_remembered : (circles : NamesTo CircleOf) → circles ≡ empty → Remembers (record r { circles = circles }) o
  no_circles_remembered circles is = record {
    circles = λ n. none_in (IsCircle o.pairs (Known (person_path n))) circles is n;
    persons = remembers.persons;
    root = remembers.root;
    home = remembers.home;
    books = remembers.books;
    book_nodes = remembers.book_nodes;
    bare = remembers.bare;
    bare_books = remembers.bare_books;
    counts = remembers.counts;
  }

  pub circle_remembered : (name : List ℕ) (circle : CircleOf) → IsCircle o.pairs (Known (person_path name)) circle → Remembers (record r { circles = insert r.circles name circle }) o
  circle_remembered name circle is = record {
    circles = λ n. by_put r.circles name circle n (λ found. IfSome found (IsCircle o.pairs (Known (person_path n))))
        (λ same. subst (λ n. IsCircle o.pairs (Known (person_path n)) circle) (sym same) is) (λ _. remembers.circles n);
    persons = remembers.persons;
    root = remembers.root;
    home = remembers.home;
    books = remembers.books;
    book_nodes = remembers.book_nodes;
    bare = remembers.bare;
    bare_books = remembers.bare_books;
    counts = remembers.counts;
  }

  -- no card of a book has entries
  pub no_bare_books_remembered : (all : NamesTo (Unit {0})) → all ≡ empty → Remembers (record r { bare_books = all }) o
  no_bare_books_remembered all is = record {
    circles = remembers.circles;
    persons = remembers.persons;
    root = remembers.root;
    home = remembers.home;
    books = remembers.books;
    book_nodes = remembers.book_nodes;
    bare = remembers.bare;
    bare_books = λ n. none_in (λ _. AreAllBare o n) all is n;
    counts = remembers.counts;
  }

  pub bare_book_remembered : (b : List ℕ) (unit : Unit {0}) → AreAllBare o b → Remembers (record r { bare_books = insert r.bare_books b unit }) o
  bare_book_remembered b unit are = record {
    circles = remembers.circles;
    persons = remembers.persons;
    root = remembers.root;
    home = remembers.home;
    books = remembers.books;
    book_nodes = remembers.book_nodes;
    bare = remembers.bare;
    bare_books = λ n. by_put r.bare_books b unit n (λ found. IfSome found (λ _. AreAllBare o n)) (λ same. subst (AreAllBare o) (sym same) are) (λ _. remembers.bare_books n);
    counts = remembers.counts;
  }

  pub all_bare : (b : List ℕ) → is_some (get r.bare_books b) ≡ true → AreAllBare o b
  all_bare b there = told (get r.bare_books b) (remembers.bare_books b) there
    where
      told : (found : Option (Unit {0})) → IfSome found (λ _. AreAllBare o b) → is_some found ≡ true → AreAllBare o b
      told None is there = absurd (false≢true there)
      told (Some unit) is there = is

  pub no_bare_remembered : (bare : NamesTo (NamesTo (Unit {0}))) (count : ℕ) → bare ≡ empty → Remembers (record r { bare = bare; bare_count = count }) o
  no_bare_remembered bare count is = record {
    circles = remembers.circles;
    persons = remembers.persons;
    root = remembers.root;
    home = remembers.home;
    books = remembers.books;
    book_nodes = remembers.book_nodes;
    bare = λ n. none_in (AreBare o n) bare is n;
    bare_books = remembers.bare_books;
    counts = remembers.counts;
  }

  pub book_node_remembered : (name : List ℕ) (node : Node) → Some node ≡ node_at o (path.Book name) → Remembers (record r { book_nodes = insert r.book_nodes name node }) o
  book_node_remembered name node is = record {
    circles = remembers.circles;
    persons = remembers.persons;
    root = remembers.root;
    home = remembers.home;
    books = remembers.books;
    book_nodes = λ n. by_put r.book_nodes name node n (λ found. IfSome found (λ node. node_at o (path.Book n) ≡ Some node))
        (λ same. ap (λ n. node_at o (path.Book n)) same ∙ sym is) (λ _. remembers.book_nodes n);
    bare = remembers.bare;
    bare_books = remembers.bare_books;
    counts = remembers.counts;
  }

  pub bare_removed : (b : List ℕ) → Remembers (record r { bare = remove r.bare b }) o
  bare_removed b = record {
    circles = remembers.circles;
    persons = remembers.persons;
    root = remembers.root;
    home = remembers.home;
    books = remembers.books;
    book_nodes = remembers.book_nodes;
    bare = λ n. by_removed r.bare b n (λ found. IfSome found (AreBare o n)) (λ _. tt) (λ _. remembers.bare n);
    bare_books = remembers.bare_books;
    counts = remembers.counts;
  }

  pub bare_remembered : (b : List ℕ) (cards : NamesTo (Unit {0})) (count : ℕ) → AreBare o b cards → Remembers (record r { bare = insert r.bare b cards; bare_count = count }) o
  bare_remembered b cards count are = record {
    circles = remembers.circles;
    persons = remembers.persons;
    root = remembers.root;
    home = remembers.home;
    books = remembers.books;
    book_nodes = remembers.book_nodes;
    bare = λ n. by_put r.bare b cards n (λ found. IfSome found (AreBare o n)) (λ same. subst (λ b. AreBare o b cards) (sym same) are) (λ _. remembers.bare n);
    bare_books = remembers.bare_books;
    counts = remembers.counts;
  }

  pub person_remembered : (name : List ℕ) (node : Node) → Some node ≡ node_at o (path.Person name) → Remembers (record r { persons = insert r.persons name node }) o
  person_remembered name node is = record {
    circles = remembers.circles;
    persons = λ n. by_put r.persons name node n (λ found. IfSome found (λ node. node_at o (path.Person n) ≡ Some node))
        (λ same. ap (λ n. node_at o (path.Person n)) same ∙ sym is) (λ _. remembers.persons n);
    root = remembers.root;
    home = remembers.home;
    books = remembers.books;
    book_nodes = remembers.book_nodes;
    bare = remembers.bare;
    bare_books = remembers.bare_books;
    counts = remembers.counts;
  }

  pub book_remembered : (name : List ℕ) (level : Level) → level ≡ level_at o (path.Book name) → Remembers (record r { books = insert r.books name level }) o
  book_remembered name level is = record {
    circles = remembers.circles;
    persons = remembers.persons;
    root = remembers.root;
    home = remembers.home;
    books = λ n. by_put r.books name level n (λ found. IfSome found (λ level. level ≡ level_at o (path.Book n)))
        (λ same. is ∙ sym (ap (λ n. level_at o (path.Book n)) same)) (λ _. remembers.books n);
    book_nodes = remembers.book_nodes;
    bare = remembers.bare;
    bare_books = remembers.bare_books;
    counts = remembers.counts;
  }

  pub counted : (name : List ℕ) (count : ℕ) → count ≡ count_at o (path.Book name) → Remembers (record r { counts = insert r.counts name count }) o
  counted name count is = record {
    circles = remembers.circles;
    persons = remembers.persons;
    root = remembers.root;
    home = remembers.home;
    books = remembers.books;
    book_nodes = remembers.book_nodes;
    bare = remembers.bare;
    bare_books = remembers.bare_books;
    counts = λ n. by_put r.counts name count n (λ found. IfSome found (λ count. count_at o (path.Book n) ≤ count))
        (λ same. at_most (ap (λ n. count_at o (path.Book n)) same ∙ sym is)) (λ _. remembers.counts n);
  }
