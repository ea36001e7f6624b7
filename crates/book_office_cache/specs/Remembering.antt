-- What is remembered of an Office, and what stands behind it.
use Rattle.std.specs.Prelude.{◌≡◌, ℕ, ◌+◌, ◌≤◌, Bool, true, nat_eq, List, [], ◌∷◌, ◌++◌, length, Some, IfSome, is_some, Result}
use Rattle.std.specs.Borrow.{GName}
use Rattle.std.specs.FinMap.{get}
use Rattle.book_office_cache.specs.declared.cached.Cached.{Cached}
use Rattle.book_office_cache.specs.declared.remembered.Remembered.{Remembered}
use Rattle.book_lists.specs.Callers.{IsCircle}
use Rattle.book_lists.specs.Principals.{person_path}
use Rattle.book_lists.specs.declared.circles.Caller.TheVariants.{Known}
use Rattle.book_office.specs.Edits.{apply}
use Rattle.book_office.specs.Keeping.{Edits, Reads, Standing}
use Rattle.book_office.specs.Levels.{level_at}
use Rattle.book_office.specs.Resources.{count_at, node_at}
use Rattle.book_office.specs.declared.edits.Edit.{Edit}
use Rattle.book_office.specs.declared.keepers.StoreFault.{StoreFault}
use Rattle.book_office.specs.declared.nodes.Level.{Level}
use Rattle.book_office.specs.declared.nodes.Listed.{Listed}
use Rattle.book_office.specs.declared.nodes.Node.{Node}
use Rattle.book_office_values.specs.Names.{NamesTo}
use Rattle.book_office_values.specs.declared.offices.Office.{Office}
use Rattle.book_office_values.specs.declared.paths.Path.{Path}
use Rattle.book_office_values.specs.declared.paths.Path.TheVariants as path

-- the lists at a path without entries
abbrev pub bare_level : Path → Level
bare_level p = record { path = p; protected = []; own = [] }

-- names of a book of which no card has entries
abbrev pub AreBare : Office → List ℕ → NamesTo (Unit {0}) → Type 0
AreBare o b cards = (c : List ℕ) → is_some (get cards c) ≡ true → bare_level (path.Card b c) ≡ level_at o (path.Card b c)

-- no card of a book has entries
abbrev pub AreAllBare : Office → List ℕ → Type 0
AreAllBare o b = (c : List ℕ) → bare_level (path.Card b c) ≡ level_at o (path.Card b c)

-- no own list stands at a child
abbrev pub has_no_list : Listed → Bool
has_no_list child = nat_eq (length child.own) 0

-- a resource with the next number
abbrev pub with_next_number : Node → Node
with_next_number node = record node { number = node.number + 1 }

-- a card more
abbrev pub one_card_more : ℕ → ℕ
one_card_more count = count + 1

-- what is remembered is what the Office has
pub record Remembers (r : Remembered) (o : Office) : Type 0 where
  pub circles : (name : List ℕ) → IfSome (get r.circles name) (IsCircle o.pairs (Known (person_path name)))
  pub persons : (name : List ℕ) → IfSome (get r.persons name) (λ node. node_at o (path.Person name) ≡ Some node)
  pub root : IfSome r.root (λ level. level ≡ level_at o path.Root)
  pub home : IfSome r.home (λ level. level ≡ level_at o path.Books)
  pub books : (name : List ℕ) → IfSome (get r.books name) (λ level. level ≡ level_at o (path.Book name))
  pub book_nodes : (name : List ℕ) → IfSome (get r.book_nodes name) (λ node. node_at o (path.Book name) ≡ Some node)
  pub bare : (name : List ℕ) → IfSome (get r.bare name) (AreBare o name)
  pub bare_books : (name : List ℕ) → IfSome (get r.bare_books name) (λ _. AreAllBare o name)
  pub counts : (name : List ℕ) → IfSome (get r.counts name) (λ count. count_at o (path.Book name) ≤ count)

-- what is remembered, and by which references it is had
pub record Held : Type 0 where
  pub names : List GName
  pub remembered : Remembered

-- a cache's own
abbrev pub own_memory : Remembered → Held
own_memory remembered = record { names = []; remembered = remembered }

-- one that is lent
abbrev pub lent_memory : GName → Remembered → Held
lent_memory name remembered = record { names = name ∷ []; remembered = remembered }

-- what is told is remembered where it is so, and else no more than was
pub record Learns (old new : Held) (IsSo : Office → Type 0) : Type 0 where
  pub names : new.names ≡ old.names
  pub remembers : (o : Office) → Remembers old.remembered o → IsSo o → Remembers new.remembered o

-- no more is remembered than what is still true after an edit
pub record Follows (old new : Held) (edit : Edit) : Type 0 where
  pub names : new.names ≡ old.names
  pub remembers : (o : Office) → Remembers old.remembered o → Remembers new.remembered (apply o edit)

-- nothing is remembered
pub record Forgets (old new : Held) : Type 0 where
  pub names : new.names ≡ old.names
  pub nothing : (o : Office) → Remembers new.remembered o

-- what the keeper stands for, where what is remembered of it is true
abbrev pub remembering : Standing → Held → Standing
remembering kept held = record {
  honest = kept.honest;
  stands = λ o. kept.stands o × Remembers held.remembered o;
  sound = λ o stands. kept.sound o stands.0;
  left = kept.left;
  failures = kept.failures;
  fallback = record { names = held.names ++ kept.fallback.names; stands = kept.fallback.stands; left = kept.fallback.left };
}

-- a read and an edit, by what stands behind what is remembered
abbrev pub ReadsBehind : {K R A : Type 0} → (K → Standing) → (R → Held) → Cached K R → Cached K R → Result A StoreFault → (Office → A → Type 0) → Type 0
ReadsBehind standing held old new result Tells = Reads (remembering (standing old.keeper) (held old.remembered)) (remembering (standing new.keeper) (held new.remembered)) result Tells

abbrev pub EditsBehind : {K R : Type 0} → (K → Standing) → (R → Held) → Cached K R → Cached K R → Result (Unit {0}) StoreFault → Edit → Type 0
EditsBehind standing held old new result edit = Edits (remembering (standing old.keeper) (held old.remembered)) (remembering (standing new.keeper) (held new.remembered)) result edit
