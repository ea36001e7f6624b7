-- What holds of the resources and numbers of a sound Office.
use Rattle.book_office.proofs.Common.{◌≡◌, ◌≢◌, inl, inr, ℕ, ◌≤◌, List, Option, Some, None, option_map, option_and_then, unwrap_or, refl, sym, ap, ◌∙◌, subst, get, same_Some, Book, StoredCard, Office, Properties, Path, Resource, card_resource, number_of, card_in, IsSound, some_apart, where_some}
use Rattle.book_office_values.specs.declared.paths.Kind.{Kind}
use Rattle.book_office_values.specs.declared.paths.Kind.TheVariants as kind
use Rattle.book_office_values.specs.declared.paths.Path.TheVariants as path
use Rattle.book_office_values.specs.Paths.{IsPath, parent_of, kind_of}
use Rattle.book_office.specs.ResourceTree.{IsThere, HomesAreThere, StandsInPlace, ResourcesStandInPlace, RemovedNamesAreFree, HasNumber, NumbersAreFromOneToTheBooks, NumbersTellNames}
use Rattle.book_office.specs.Resources.{properties_resource, book_resource, unless_mapped, removed_at}
use Rattle.book_office.proofs.SoundBooks.{card_named}

pub homes_are_there : HomesAreThere
homes_are_there o = (λ e. some_apart e, λ e. some_apart e, λ e. some_apart e, λ e. some_apart e)

-- what a value read from another was read from
pub from_map : {A B P : Type 0} (f : A → B) (r : Option A) (y : B) → option_map f r ≡ Some y → ((x : A) → r ≡ Some x → f x ≡ y → P) → P
from_map f None y e use_it = some_apart (sym e)
from_map f (Some x) y e use_it = use_it x refl (same_Some _ _ e)

pub from_and_then : {A B P : Type 0} (f : A → Option B) (r : Option A) (y : B) → option_and_then f r ≡ Some y → ((x : A) → r ≡ Some x → f x ≡ Some y → P) → P
from_and_then f None y e use_it = some_apart (sym e)
from_and_then f (Some x) y e use_it = use_it x refl e

-- the fields of a resource that is no card
properties_in : (o : Office) (p : Path) (k : Kind) (n : ℕ) (properties : Properties) → IsPath p → k ≡ kind_of p → ((q : Path) → parent_of p ≡ Some q → IsThere o q)
    → (kind_of p ≡ kind.Card → ⊥) → (kind_of p ≢ kind.Book → n ≡ 0) → StandsInPlace o p (properties_resource k n properties)
properties_in o p k n properties named is under apart number = record {
  named = named;
  of_kind = is;
  under = under;
  text = (λ h. absurd (h refl), λ e. absurd (apart e));
  protected = λ e. absurd (apart e);
  number = λ not_book _. number not_book;
}

same_parent : (o : Office) (p : Path) → IsThere o p → (q : Path) → Some p ≡ Some q → IsThere o q
same_parent o p there q e = subst (IsThere o) (same_Some p q e) there

pub resources_stand_in_place : ResourcesStandInPlace
resources_stand_in_place o sound path.Root r e = subst (StandsInPlace o path.Root) (same_Some _ _ e)
    (properties_in o path.Root kind.Root 0 o.root tt refl (λ q h. some_apart (sym h)) (λ h. cc) (λ _. refl))
resources_stand_in_place o sound path.People r e = subst (StandsInPlace o path.People) (same_Some _ _ e)
    (properties_in o path.People kind.Home 0 o.people tt refl (same_parent o path.Root (homes_are_there o).0) (λ h. cc) (λ _. refl))
resources_stand_in_place o sound path.Groups r e = subst (StandsInPlace o path.Groups) (same_Some _ _ e)
    (properties_in o path.Groups kind.Home 0 o.groups_home tt refl (same_parent o path.Root (homes_are_there o).0) (λ h. cc) (λ _. refl))
resources_stand_in_place o sound path.Books r e = subst (StandsInPlace o path.Books) (same_Some _ _ e)
    (properties_in o path.Books kind.Home 0 o.books_home tt refl (same_parent o path.Root (homes_are_there o).0) (λ h. cc) (λ _. refl))
resources_stand_in_place o sound (path.Person n) r e = from_map (properties_resource kind.Person 0) (get o.persons n) r e (λ properties at is.
    subst (StandsInPlace o (path.Person n)) is
    (properties_in o (path.Person n) kind.Person 0 properties (sound.persons n properties at).0 refl (same_parent o path.People (homes_are_there o).1) (λ h. cc) (λ _. refl)))
resources_stand_in_place o sound (path.Group n) r e = from_map (properties_resource kind.Group 0) (get o.groups n) r e (λ properties at is.
    subst (StandsInPlace o (path.Group n)) is
    (properties_in o (path.Group n) kind.Group 0 properties (sound.groups n properties at).0 refl (same_parent o path.Groups (homes_are_there o).2) (λ h. cc) (λ _. refl)))
resources_stand_in_place o sound (path.Book b) r e = from_map book_resource (get o.books b) r e (λ book at is.
    subst (StandsInPlace o (path.Book b)) is
    (properties_in o (path.Book b) kind.Book book.changes.number book.properties (sound.books b book at).0 refl (same_parent o path.Books (homes_are_there o).3) (λ h. cc)
    (λ other. absurd (other refl))))
resources_stand_in_place o sound (path.Card b c) r e = from_and_then (λ (book : Book). card_in book c) (get o.books b) r e (λ book at in_book.
    from_map (card_resource (number_of book c)) (get book.cards c) r in_book (λ card here is.
    subst (StandsInPlace o (path.Card b c)) is (record {
      named = ((sound.books b book at).0, card_named o book c (sound.books b book at).1 (λ none. some_apart (sym here ∙ none)));
      of_kind = refl;
      under = same_parent o (path.Book b) (λ none. some_apart (ap (option_map book_resource) (sym at) ∙ none));
      text = (λ _. refl, λ _ none. some_apart none);
      protected = λ _. refl;
      number = λ _ other. absurd (other refl);
    })))

pub removed_unmapped : (card : Option StoredCard) (last : Option ℕ) (n : ℕ) → unless_mapped card last ≡ Some n → (card ≡ None) × (last ≡ Some n)
removed_unmapped None last n e = (refl, e)
removed_unmapped (Some card) last n e = some_apart (sym e)

-- a removed name, in its book
in_removed : {P : Type 0} (o : Office) (b name : List ℕ) (n : ℕ) → removed_at o b name ≡ Some n
    → ((book : Book) → get o.books b ≡ Some book → get book.cards name ≡ None → get book.changes.last name ≡ Some n → P) → P
in_removed o b name n e use_it = from_and_then (λ (book : Book). unless_mapped (get book.cards name) (get book.changes.last name)) (get o.books b) n e (λ book at is.
    let parts = removed_unmapped (get book.cards name) (get book.changes.last name) n is in
    use_it book at parts.0 parts.1)

pub removed_names_are_free : RemovedNamesAreFree
removed_names_are_free o b name removed = where_some (removed_at o b name) removed (λ n e. in_removed o b name n e (λ book at none last. (
  λ gone. some_apart (ap (option_map book_resource) (sym at) ∙ gone),
  ap (option_and_then (λ (k : Book). card_in k name)) at ∙ ap (option_map (card_resource (number_of book name))) none,
)))

-- the number of a name is its last change
last_of : (o : Office) → IsSound o → (b : List ℕ) (book : Book) → get o.books b ≡ Some book → (name : List ℕ) (n : ℕ) → HasNumber o b name n
    → get book.changes.last name ≡ Some n
last_of o sound b book at name n (inl (r, e, numbered)) = from_and_then (λ (k : Book). card_in k name) (get o.books b) r e (λ k at' in_book.
    let is : k ≡ book = same_Some k book (sym at' ∙ at) in
    subst (λ (x : Book). get x.changes.last name ≡ Some n) is
    (from_map (card_resource (number_of k name)) (get k.cards name) r in_book (λ card here told.
    where_some (get k.changes.last name) ((sound.books b k at').1.changed name card here) (λ m last.
    last ∙ ap Some (sym (ap (λ x. unwrap_or x 0) last) ∙ ap (λ (x : Resource). x.number) told ∙ numbered)))))
last_of o sound b book at name n (inr removed) = in_removed o b name n removed (λ k at' none last.
    subst (λ (x : Book). get x.changes.last name ≡ Some n) (same_Some k book (sym at' ∙ at)) last)

pub numbers_are_within : NumbersAreFromOneToTheBooks
numbers_are_within o sound b r e name n h = from_map book_resource (get o.books b) r e (λ book at is.
    let within = (sound.books b book at).1.within name n (last_of o sound b book at name n h) in
    (within.0, subst (λ (x : Resource). n ≤ x.number) is within.1))

-- the book of a name that has a number
in_book : {P : Type 0} (o : Office) (b name : List ℕ) (n : ℕ) → HasNumber o b name n → ((book : Book) → get o.books b ≡ Some book → P) → P
in_book o b name n (inl (r, e, numbered)) use_it = from_and_then (λ (k : Book). card_in k name) (get o.books b) r e (λ book at _. use_it book at)
in_book o b name n (inr removed) use_it = in_removed o b name n removed (λ book at _ _. use_it book at)

pub numbers_tell_names : NumbersTellNames
numbers_tell_names o sound b name other n h h' = in_book o b name n h (λ book at.
    (sound.books b book at).1.different name other n (last_of o sound b book at name n h) (last_of o sound b book at other n h'))
