-- Replacing an own list changes no protected list.
use Rattle.book_office.proofs.Common.{◌≡◌, ℕ, ◌<◌, ◌≤◌, List, [], ◌∷◌, ◌++◌, length, map, Option, Some, None, option_map, option_and_then, unwrap_or, refl, sym, ap, ◌∙◌, subst, arith, get, Leaf, Entry, Book, StoredCard, Office, Properties, Path, changed_at, NamesTo, Resource, by_changed}
use Rattle.std.proofs.Common.{zero, suc, flat_map, slice_get, ap₂}
use Rattle.book_lists.specs.Circles.{CircleOf}
use Rattle.book_lists.specs.Decisions.{Decides}
use Rattle.book_lists.specs.declared.entries.Here.{Here}
use Rattle.book_office.specs.declared.nodes.EffectiveEntry.{EffectiveEntry}
use Rattle.book_office_values.specs.declared.paths.Path.TheVariants as path
use Rattle.book_office.specs.Edits.{set_list}
use Rattle.book_office.specs.Levels.{protected_at, level_at, lists_at, protected_entries, own_entries}
use Rattle.book_office.specs.OwnLists.{ProtectedListsStay, ProtectedEntriesStay, ProtectedDecisionsStay, protected_in_force, entries_in_force}
use Rattle.book_office_values.specs.Paths.{levels}

read_changed : {V R : Type 0} (f : V → V) (read : V → R) → ((v : V) → read (f v) ≡ read v) → (r : Option V) → option_map read (option_map f r) ≡ option_map read r
read_changed f read keeps None = refl
read_changed f read keeps (Some v) = ap Some (keeps v)

-- a change that keeps what is read of each value keeps what is read at each name
kept_at : {V R : Type 0} (f : V → V) (read : V → R) → ((v : V) → read (f v) ≡ read v) → (m : NamesTo V) (k q : List ℕ)
    → option_map read (get (changed_at f m k) q) ≡ option_map read (get m q)
kept_at f read keeps m k q = by_changed m k f q (λ r. option_map read r ≡ option_map read (get m q)) (λ _. read_changed f read keeps (get m q)) (λ _. refl)

-- two Offices with the same protected lists
record SameProtected (o p : Office) : Type 0 where
  root : p.root.protected ≡ o.root.protected
  people : p.people.protected ≡ o.people.protected
  groups_home : p.groups_home.protected ≡ o.groups_home.protected
  books_home : p.books_home.protected ≡ o.books_home.protected
  persons : (n : List ℕ) → option_map (λ (properties : Properties). properties.protected) (get p.persons n) ≡ option_map (λ (properties : Properties). properties.protected) (get o.persons n)
  groups : (n : List ℕ) → option_map (λ (properties : Properties). properties.protected) (get p.groups n) ≡ option_map (λ (properties : Properties). properties.protected) (get o.groups n)
  books : (b : List ℕ) → option_map (λ (book : Book). book.properties.protected) (get p.books b) ≡ option_map (λ (book : Book). book.properties.protected) (get o.books b)

read_twice : {V R S : Type 0} (f : V → R) (g : R → S) (r : Option V) → option_map g (option_map f r) ≡ option_map (λ v. g (f v)) r
read_twice f g None = refl
read_twice f g (Some v) = refl

-- a card has no protected list
no_protected : (book : Option Book) (resource : Book → StoredCard → Resource) (c : List ℕ) → ((book : Book) (card : StoredCard) → (resource book card).protected ≡ [])
    → unwrap_or (option_map (λ (r : Resource). r.protected) (option_and_then (λ (book : Book). option_map (resource book) (get book.cards c)) book)) [] ≡ []
no_protected None resource c h = refl
no_protected (Some book) resource c h =
    elim (get book.cards c) as (λ r. unwrap_or (option_map (λ (r : Resource). r.protected) (option_map (resource book) r)) [] ≡ []) [ None ↦ refl | Some card ↦ h book card ]

protected_same : (o p : Office) → SameProtected o p → (q : Path) → protected_at p q ≡ protected_at o q
protected_same o p h path.Root = h.root
protected_same o p h path.People = h.people
protected_same o p h path.Groups = h.groups_home
protected_same o p h path.Books = h.books_home
protected_same o p h (path.Person n) = ap (λ r. unwrap_or r []) (read_twice _ _ (get p.persons n) ∙ h.persons n ∙ sym (read_twice _ _ (get o.persons n)))
protected_same o p h (path.Group n) = ap (λ r. unwrap_or r []) (read_twice _ _ (get p.groups n) ∙ h.groups n ∙ sym (read_twice _ _ (get o.groups n)))
protected_same o p h (path.Book b) = ap (λ r. unwrap_or r []) (read_twice _ _ (get p.books b) ∙ h.books b ∙ sym (read_twice _ _ (get o.books b)))
protected_same o p h (path.Card b c) = no_protected (get p.books b) _ c (λ _ _. refl) ∙ sym (no_protected (get o.books b) _ c (λ _ _. refl))

set_list_same : (o : Office) (p : Path) (list : List Entry) → SameProtected o (set_list p list o)
set_list_same o (path.Person n) list = record {
  root = refl;
  people = refl;
  groups_home = refl;
  books_home = refl;
  persons = kept_at (λ (properties : Properties). record properties { own = list }) (λ properties. properties.protected) (λ _. refl) o.persons n;
  groups = λ _. refl;
  books = λ _. refl;
}
set_list_same o (path.Group n) list = record {
  root = refl;
  people = refl;
  groups_home = refl;
  books_home = refl;
  persons = λ _. refl;
  groups = kept_at (λ (properties : Properties). record properties { own = list }) (λ properties. properties.protected) (λ _. refl) o.groups n;
  books = λ _. refl;
}
set_list_same o (path.Book b) list = record {
  root = refl;
  people = refl;
  groups_home = refl;
  books_home = refl;
  persons = λ _. refl;
  groups = λ _. refl;
  books = kept_at (λ (book : Book). record book { properties = record book.properties { own = list } }) (λ book. book.properties.protected) (λ _. refl) o.books b;
}
set_list_same o (path.Card b c) list = record {
  root = refl;
  people = refl;
  groups_home = refl;
  books_home = refl;
  persons = λ _. refl;
  groups = λ _. refl;
  books = kept_at (λ (book : Book). record book { cards = changed_at (λ (card : StoredCard). record card { own = list }) book.cards c }) (λ book. book.properties.protected) (λ _. refl) o.books b;
}
set_list_same o p list = record {
  root = refl;
  people = refl;
  groups_home = refl;
  books_home = refl;
  persons = λ _. refl;
  groups = λ _. refl;
  books = λ _. refl;
}

pub protected_lists_stay : ProtectedListsStay
protected_lists_stay o p q list = protected_same o (set_list p list o) (set_list_same o p list) q

same_entries : (o p : Office) → ((q : Path) → protected_at p q ≡ protected_at o q) → (ps : List Path)
    → flat_map protected_entries (map (level_at p) ps) ≡ flat_map protected_entries (map (level_at o) ps)
same_entries o p h [] = refl
same_entries o p h (q ∷ ps) =
    ap₂ (λ list rest. protected_entries (record { path = q; protected = list; own = [] }) ++ rest) (h q) (same_entries o p h ps)

pub protected_entries_stay : ProtectedEntriesStay
protected_entries_stay o p q list = same_entries o (set_list p list o) (λ r. protected_lists_stay o p r list) (levels q)

-- what stands in the first of two lists
front_get : {A B : Type 0} (f : A → B) (xs ys zs : List A) (k : ℕ) → k < length xs → slice_get (map f (xs ++ ys)) k ≡ slice_get (map f (xs ++ zs)) k
front_get f [] ys zs k h = absurd (omega arith)
front_get f (x ∷ xs) ys zs zero h = refl
front_get f (x ∷ xs) ys zs (suc k) h = front_get f xs ys zs k (omega arith)

-- the first entry that bears a leaf is the same in lists that agree up to it
decided_alike : (xs ys : List Entry) (circle : CircleOf) (here : Here) (i : ℕ) (leaf : Leaf) (entry : Entry)
    → ((k : ℕ) → k ≤ i → slice_get xs k ≡ slice_get ys k) → Decides xs circle here i leaf entry → Decides ys circle here i leaf entry
decided_alike xs ys circle here i leaf entry agree h = record {
  there = sym (agree i (omega arith)) ∙ h.there;
  bearing = h.bearing;
  first = λ k earlier below at. h.first k earlier below (agree k (omega arith) ∙ at);
}

pub protected_decisions_stay : ProtectedDecisionsStay
protected_decisions_stay o p q list circle here i leaf entry within =
    let agree : (k : ℕ) → k ≤ i → slice_get (entries_in_force o q) k ≡ slice_get (entries_in_force (set_list p list o) q) k = λ k low.
    subst (λ front. slice_get (entries_in_force o q) k ≡ slice_get (map (λ (e : EffectiveEntry). e.entry) (front ++ flat_map own_entries (lists_at (set_list p list o) q).levels)) k)
    (sym (protected_entries_stay o p q list))
    (front_get (λ (e : EffectiveEntry). e.entry) (protected_in_force o q) _ _ k (omega arith)) in
    (decided_alike _ _ circle here i leaf entry agree, decided_alike _ _ circle here i leaf entry (λ k low. sym (agree k low)))
