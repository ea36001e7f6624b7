-- Two Offices that have the same everywhere are equal, but for the epoch.
use Rattle.book_questions_changes.proofs.Common.{◌≡◌, ◌∙◌, ℕ, Bool, true, List, Option, Some, None, ap, nat_list_cmp_total, refl, subst, sym, Office}
use Rattle.std.proofs.Common.{is_some, option_map}
use Rattle.std.specs.FinMap.{get, same_map}
use Rattle.book_rights.specs.Privileges.{contained}
use Rattle.book_rights.specs.declared.privileges.Leaf.{Leaf}
use Rattle.book_rights.specs.declared.privileges.Privilege.TheVariants.{One}
use Rattle.book_lists.specs.Callers.{IsCircle}
use Rattle.book_lists.specs.Circles.{CircleOf}
use Rattle.book_lists.specs.Memberships.{Memberships}
use Rattle.book_office.specs.Resources.{Resource, book_resource, node_of, properties_resource, resource_at}
use Rattle.book_office_listings.specs.Verdicts.{IsGrantedAt}
use Rattle.book_office_values.proofs.NameMapLaws.{names_apart}
use Rattle.book_office_values.specs.declared.offices.Book.{Book}
use Rattle.book_office_values.specs.declared.offices.Properties.{Properties}
use Rattle.book_office_values.specs.declared.paths.Kind.{Kind}
use Rattle.book_office_values.specs.declared.paths.Kind.TheVariants as kind
use Rattle.book_office_values.specs.declared.paths.Path.{Path}
use Rattle.book_office_values.specs.declared.paths.Path.TheVariants as path
use Rattle.book_questions_rights.specs.Places.{is_itself}
use Rattle.book_questions_differs.specs.Laws.{Holds}
use Rattle.book_questions_differs.specs.Parties.{caller_named, is_there}
use Rattle.book_questions_changes.specs.Laws.{AreUnchanged, HaveSameCards, IsEqualIn, IsSameButEpoch}

-- ---- where everything is the same
same_properties : (x y : Properties) (k : Kind) (m n : ℕ) → IsEqualIn (Some (properties_resource k m x)) (Some (properties_resource k n y)) → x ≡ y
same_properties x y k m n e i = record { owner = e.0 i; label = e.1 i; protected = e.2 i; own = e.3 i }

same_found : (x y : Option Properties) (k : Kind) → IsEqualIn (option_map (properties_resource k 0) x) (option_map (properties_resource k 0) y) → x ≡ y
same_found None None k e = refl
same_found None (Some y) k e = absurd e
same_found (Some x) None k e = absurd e
same_found (Some x) (Some y) k e = ap Some (same_properties x y k 0 0 e)

same_book : (o p : Office) → HaveSameCards o p → (b : List ℕ) (x y : Option Book) → get o.books b ≡ x → get p.books b ≡ y
    → IsEqualIn (option_map book_resource x) (option_map book_resource y) → x ≡ y
same_book o p cards b None None was is e = refl
same_book o p cards b None (Some y) was is e = absurd e
same_book o p cards b (Some x) None was is e = absurd e
same_book o p cards b (Some x) (Some y) was is e =
    let k = cards b x y was is in
    let properties : x.properties ≡ y.properties = same_properties x.properties y.properties kind.Book x.changes.number y.changes.number e in
    λ i. Some (record { properties = properties i; cards = k.0 i; changes = k.1 i })

pub all_equal : (o p : Office) → HaveSameCards o p → o.pairs ≡ p.pairs → ((q : Path) → is_itself q ≡ true → IsEqualIn (resource_at o q) (resource_at p q)) → IsSameButEpoch o p
all_equal o p cards pairs equal_at =
    let root : o.root ≡ p.root = same_properties o.root p.root kind.Root 0 0 (equal_at path.Root refl) in
    let people : o.people ≡ p.people = same_properties o.people p.people kind.Home 0 0 (equal_at path.People refl) in
    let groups_home : o.groups_home ≡ p.groups_home = same_properties o.groups_home p.groups_home kind.Home 0 0 (equal_at path.Groups refl) in
    let books_home : o.books_home ≡ p.books_home = same_properties o.books_home p.books_home kind.Home 0 0 (equal_at path.Books refl) in
    let persons : o.persons ≡ p.persons = same_map nat_list_cmp_total names_apart o.persons p.persons (λ q. same_found (get o.persons q) (get p.persons q) kind.Person (equal_at (path.Person q) refl)) in
    let groups : o.groups ≡ p.groups = same_map nat_list_cmp_total names_apart o.groups p.groups (λ q. same_found (get o.groups q) (get p.groups q) kind.Group (equal_at (path.Group q) refl)) in
    let books : o.books ≡ p.books =
    same_map nat_list_cmp_total names_apart o.books p.books (λ q. same_book o p cards q (get o.books q) (get p.books q) refl refl (equal_at (path.Book q) refl)) in
    λ i. record {
      root = root i;
      people = people i;
      groups_home = groups_home i;
      books_home = books_home i;
      persons = persons i;
      groups = groups i;
      books = books i;
      pairs = pairs i;
      epoch = o.epoch;
    }

-- ---- where the Offices are equal but for the epoch
itself_equal : (r : Option Resource) → IsEqualIn r r
itself_equal None = tt
itself_equal (Some r) = (refl, refl, refl, refl)

with_epoch : (p : Office) (n : ℕ) (q : Path) → resource_at (record p { epoch = n }) q ≡ resource_at p q
with_epoch p n path.Root = refl
with_epoch p n path.People = refl
with_epoch p n path.Groups = refl
with_epoch p n path.Books = refl
with_epoch p n (path.Person q) = refl
with_epoch p n (path.Group q) = refl
with_epoch p n (path.Book b) = refl
with_epoch p n (path.Card b c) = refl

granted_with : (p : Office) (n : ℕ) (circle : CircleOf) (q : Path) (set : Leaf → Bool) → IsGrantedAt (record p { epoch = n }) circle q set → IsGrantedAt p circle q set
granted_with p n circle path.Root set h = h
granted_with p n circle path.People set h = h
granted_with p n circle path.Groups set h = h
granted_with p n circle path.Books set h = h
granted_with p n circle (path.Person q) set h = h
granted_with p n circle (path.Group q) set h = h
granted_with p n circle (path.Book b) set h = h
granted_with p n circle (path.Card b c) set h = h

granted_as : (p : Office) (n : ℕ) (circle : CircleOf) (q : Path) (set : Leaf → Bool) → IsGrantedAt p circle q set → IsGrantedAt (record p { epoch = n }) circle q set
granted_as p n circle path.Root set h = h
granted_as p n circle path.People set h = h
granted_as p n circle path.Groups set h = h
granted_as p n circle path.Books set h = h
granted_as p n circle (path.Person q) set h = h
granted_as p n circle (path.Group q) set h = h
granted_as p n circle (path.Book b) set h = h
granted_as p n circle (path.Card b c) set h = h

module _ (o p : Office) (e : IsSameButEpoch o p) where
  resources_same : (q : Path) → resource_at o q ≡ resource_at p q
  resources_same q = ap (λ x. resource_at x q) e ∙ with_epoch p o.epoch q

  pairs_same : o.pairs ≡ p.pairs
  pairs_same = ap (λ (x : Office). x.pairs) e

  there_same : (name : Option (List ℕ)) → is_there o name ≡ is_there p name
  there_same None = refl
  there_same (Some n) = ap (λ r. is_some (option_map node_of r)) (resources_same (path.Person n))

  abbrev need : Leaf → Leaf → Bool
  need leaf = contained (One leaf)

  holds_after : (name : Option (List ℕ)) (at : Path) (leaf : Leaf) → Holds o name at leaf → Holds p name at leaf
  holds_after name at leaf h = record {
    asked = sym (there_same name) ∙ h.asked;
    mapped = λ none. h.mapped (resources_same at ∙ none);
    circle = h.circle;
    is_circle = subst (λ (m : Memberships). IsCircle m (caller_named name) h.circle) pairs_same h.is_circle;
    granted = granted_with p o.epoch h.circle at (need leaf) (subst (λ (x : Office). IsGrantedAt x h.circle at (need leaf)) e h.granted);
  }

  holds_before : (name : Option (List ℕ)) (at : Path) (leaf : Leaf) → Holds p name at leaf → Holds o name at leaf
  holds_before name at leaf h = record {
    asked = there_same name ∙ h.asked;
    mapped = λ none. h.mapped (sym (resources_same at) ∙ none);
    circle = h.circle;
    is_circle = subst (λ (m : Memberships). IsCircle m (caller_named name) h.circle) (sym pairs_same) h.is_circle;
    granted = subst (λ (x : Office). IsGrantedAt x h.circle at (need leaf)) (sym e) (granted_as p o.epoch h.circle at (need leaf) h.granted);
  }

  pub are_unchanged : AreUnchanged o p
  are_unchanged = record {
    members = pairs_same;
    resources = λ at is. subst (IsEqualIn (resource_at o at)) (resources_same at) (itself_equal (resource_at o at));
    rights = λ name at leaf. (holds_after name at leaf, holds_before name at leaf);
  }
