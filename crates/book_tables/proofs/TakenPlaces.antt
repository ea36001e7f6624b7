-- What an Office that takes over a policy has at each path, beside what it had.
use Rattle.book_tables.proofs.Common.{◌≡◌, ◌≢◌, ◌⊎◌, inl, inr, ℕ, List, [], ◌∷◌, cond, false, Option, Some, None, option_map, option_and_then, unwrap_or, refl, sym, ap, subst, ◌∙◌, get, get-empty, AllByRecursion, same_Some, Has, name_cmp, group_path, PolicyTables, Book, Office, Properties, Path, IsPath, path_text, kind_of, book_path, same, same_itself, by_names, some_apart, by_option, one_text, taken_over, bare, Resource, resource_at, properties_at, properties_resource, removed_at, book_resource, card_in, unless_mapped, Compared, HasLists, HasPlace}
use Rattle.book_lists.specs.Principals.{person_path}
use Rattle.book_policy_values.specs.declared.parts.PolicyBook.{PolicyBook}
use Rattle.book_office_values.specs.declared.paths.Path.TheVariants as path
use Rattle.book_office_values.specs.Fresh.{new_book}
use Rattle.book_office_adopting.specs.TakingOver.{emptied}
use Rattle.book_office_adopting.proofs.Adoptions.{person_after, book_after, person_there, group_there, book_there}
use Rattle.book_office_adopting.proofs.Merges.{get_mapped}
use Rattle.book_tables.specs.Adopting.{properties_of}
use Rattle.book_tables.proofs.Comparisons.{IsCompared}
use Rattle.book_tables.proofs.PlacedRows.{placed_on, place_at, each_place_at}
use Rattle.book_tables.proofs.RelistedRows.{relisted, list_at, each_list_at}
use Rattle.book_tables.proofs.RowFacts.{apart}
use Rattle.book_tables.proofs.Turns.{turned_stays, turned_either, turned_made}

-- ---- an Office without cards has the same places

places_bare : (r : Option Book) → option_map properties_of (option_map emptied r) ≡ option_map properties_of r
places_bare None = refl
places_bare (Some book) = refl

pub bare_properties : (o : Office) (p : Path) → properties_at (bare o) p ≡ properties_at o p
bare_properties o path.Root = refl
bare_properties o path.People = refl
bare_properties o path.Groups = refl
bare_properties o path.Books = refl
bare_properties o (path.Person n) = refl
bare_properties o (path.Group n) = refl
bare_properties o (path.Book b) = ap (option_map properties_of) (get_mapped _ o.books b) ∙ places_bare (get o.books b)
bare_properties o (path.Card b c) = refl

-- ---- numbers and cards stay

abbrev number_in : Option Book → ℕ
number_in r = unwrap_or (option_map (λ (book : Book). book.changes.number) r) 0

-- the number at a path that is no card's
abbrev number_at : Office → Path → ℕ
number_at o path.Root = 0
number_at o path.People = 0
number_at o path.Groups = 0
number_at o path.Books = 0
number_at o (path.Person n) = 0
number_at o (path.Group n) = 0
number_at o (path.Book b) = number_in (get o.books b)
number_at o (path.Card b c) = 0

-- what is kept at a path, and the resource there
pub resource_told : (o : Office) (p : Path) (properties : Properties) → properties_at o p ≡ Some properties → resource_at o p ≡ Some (properties_resource (kind_of p) (number_at o p) properties)
resource_told o path.Root properties is = ap (option_map (properties_resource (kind_of path.Root) 0)) is
resource_told o path.People properties is = ap (option_map (properties_resource (kind_of path.People) 0)) is
resource_told o path.Groups properties is = ap (option_map (properties_resource (kind_of path.Groups) 0)) is
resource_told o path.Books properties is = ap (option_map (properties_resource (kind_of path.Books) 0)) is
resource_told o (path.Person n) properties is = ap (option_map (properties_resource (kind_of (path.Person n)) 0)) is
resource_told o (path.Group n) properties is = ap (option_map (properties_resource (kind_of (path.Group n)) 0)) is
resource_told o (path.Book b) properties is = go (get o.books b) is
  where
    go : (r : Option Book) → option_map properties_of r ≡ Some properties → option_map book_resource r ≡ Some (properties_resource (kind_of (path.Book b)) (number_in r) properties)
    go None e = some_apart (sym e)
    go (Some book) e = ap (λ k. Some (properties_resource (kind_of (path.Book b)) book.changes.number k)) (same_Some _ _ e)
resource_told o (path.Card b c) properties is = some_apart (sym is)

-- where no place is kept, no resource but a card is there, and the number is 0
none_told : (o : Office) (p : Path) → properties_at o p ≡ None → ((b c : List ℕ) → p ≢ path.Card b c) → (resource_at o p ≡ None) × (number_at o p ≡ 0)
none_told o path.Root is other = some_apart is
none_told o path.People is other = some_apart is
none_told o path.Groups is other = some_apart is
none_told o path.Books is other = some_apart is
none_told o (path.Person n) is other = (ap (option_map (properties_resource (kind_of (path.Person n)) 0)) is, refl)
none_told o (path.Group n) is other = (ap (option_map (properties_resource (kind_of (path.Group n)) 0)) is, refl)
none_told o (path.Book b) is other = go (get o.books b) is
  where
    go : (r : Option Book) → option_map properties_of r ≡ None → (option_map book_resource r ≡ None) × (number_in r ≡ 0)
    go None e = (refl, refl)
    go (Some book) e = some_apart e
none_told o (path.Card b c) is other = absurd (other b c refl)

module _ (t : PolicyTables) (o : Office) where
  abbrev N : Office
  N = taken_over t o

  person_kept : (at : List ℕ) (label : Option (List ℕ)) (old : Option Properties) → person_after t at label old ≡ None → old ≡ None
  person_kept at None None e = refl
  person_kept at None (Some properties) e = some_apart e
  person_kept at (Some label) None e = refl
  person_kept at (Some label) (Some properties) e = some_apart e

  book_number : (at : List ℕ) (named : Option PolicyBook) (old : Option Book) → number_in (book_after t at named old) ≡ number_in old
  book_number at None None = refl
  book_number at None (Some book) = refl
  book_number at (Some named) None = refl
  book_number at (Some named) (Some book) = refl

  book_kept : (at : List ℕ) (named : Option PolicyBook) (old : Option Book) → option_map properties_of (book_after t at named old) ≡ None → option_map properties_of old ≡ None
  book_kept at None None e = refl
  book_kept at None (Some book) e = some_apart e
  book_kept at (Some named) None e = refl
  book_kept at (Some named) (Some book) e = some_apart e

  book_card : (at : List ℕ) (named : Option PolicyBook) (old : Option Book) (c : List ℕ)
      → option_and_then (λ (k : Book). card_in k c) (book_after t at named old) ≡ option_and_then (λ (k : Book). card_in k c) old
  book_card at None None c = refl
  book_card at None (Some book) c = refl
  book_card at (Some named) None c = ap (option_map _) (get-empty name_cmp c)
  book_card at (Some named) (Some book) c = refl

  abbrev left_by : List ℕ → Book → Option ℕ
  left_by name k = unless_mapped (get k.cards name) (get k.changes.last name)

  book_removed : (at : List ℕ) (named : Option PolicyBook) (old : Option Book) (name : List ℕ)
      → option_and_then (left_by name) (book_after t at named old) ≡ option_and_then (left_by name) old
  book_removed at None None name = refl
  book_removed at None (Some book) name = refl
  book_removed at (Some named) None name = ap (λ r. unless_mapped r (get (new_book None).changes.last name)) (get-empty name_cmp name) ∙ get-empty name_cmp name
  book_removed at (Some named) (Some book) name = refl

  pub removed_stay : (b name : List ℕ) → removed_at N b name ≡ removed_at o b name
  removed_stay b name = ap (option_and_then (left_by name)) (book_there t o b) ∙ book_removed (book_path b) (get t.books b) (get o.books b) name

  number_stays : (p : Path) → number_at N p ≡ number_at o p
  number_stays path.Root = refl
  number_stays path.People = refl
  number_stays path.Groups = refl
  number_stays path.Books = refl
  number_stays (path.Person n) = refl
  number_stays (path.Group n) = refl
  number_stays (path.Book b) = ap number_in (book_there t o b) ∙ book_number (book_path b) (get t.books b) (get o.books b)
  number_stays (path.Card b c) = refl

  -- where no place is kept then, the resource is as it was
  pub stays_without : (p : Path) → properties_at N p ≡ None → resource_at N p ≡ resource_at o p
  stays_without path.Root is = some_apart is
  stays_without path.People is = some_apart is
  stays_without path.Groups is = some_apart is
  stays_without path.Books is = some_apart is
  stays_without (path.Person n) is =
      ap (option_map (properties_resource (kind_of (path.Person n)) 0)) (is ∙ sym (person_kept (person_path n) (get t.persons n) (get o.persons n) (sym (person_there t o n) ∙ is)))
  stays_without (path.Group n) is =
      ap (option_map (properties_resource (kind_of (path.Group n)) 0)) (is ∙ sym (person_kept (group_path n) (get t.groups n) (get o.groups n) (sym (group_there t o n) ∙ is)))
  stays_without (path.Book b) is =
      let before : option_map properties_of (get o.books b) ≡ None =
      book_kept (book_path b) (get t.books b) (get o.books b) (ap (option_map properties_of) (sym (book_there t o b)) ∙ is) in
      (none_told N (path.Book b) is (λ a c e. cc)).0 ∙ sym (none_told o (path.Book b) before (λ a c e. cc)).0
  stays_without (path.Card b c) is = ap (option_and_then (λ (k : Book). card_in k c)) (book_there t o b) ∙ book_card (book_path b) (get t.books b) (get o.books b) c

  -- a group that was there is there
  pub group_stays : (n : List ℕ) → get o.groups n ≢ None → get N.groups n ≢ None
  group_stays n there gone = there (person_kept (group_path n) (get t.groups n) (get o.groups n) (sym (group_there t o n) ∙ gone))

-- ---- what is written at a path

-- what is chosen of compared places has paths, and whatever is not chosen is needless
pub record AreChosen (old new : Office) (Needless : Option Properties → Properties → Type 0) (chosen : List Compared) : Type 0 where
  pub compared : AllByRecursion (IsCompared old new) chosen
  pub named : AllByRecursion (λ (c : Compared). IsPath c.path) chosen
  pub all : (p : Path) (properties : Properties) → properties_at new p ≡ Some properties
      → Has chosen (record { path = p; old = properties_at old p; new = properties }) ⊎ Needless (properties_at old p) properties

module _ (old new : Office) (p : Path) (is_path : IsPath p) where
  abbrev at : List ℕ
  at = path_text p

  -- the one place that is compared at the path
  here : (c : Compared) → IsCompared old new c → IsPath c.path → at ≡ path_text c.path → (p ≡ c.path) × (properties_at new p ≡ Some c.new)
  here c compared named is = let one : p ≡ c.path = one_text p c.path is_path named is in (one, ap (properties_at new) one ∙ compared.0)

  -- where the new Office keeps nothing, nothing is written
  module _ (none : properties_at new p ≡ None) where
    elsewhere : (c : Compared) → IsCompared old new c → IsPath c.path → same at (path_text c.path) ≡ false
    elsewhere c compared named = apart at (path_text c.path) (λ is. some_apart (sym (here c compared named is).1 ∙ none))

    no_place : (chosen : List Compared) → AllByRecursion (IsCompared old new) chosen → AllByRecursion (λ (c : Compared). IsPath c.path) chosen
        → AllByRecursion (λ (c : Compared). (r : Option Resource) → place_at c.path c.new at r ≡ r) chosen
    no_place [] compared named = tt
    no_place (c ∷ cs) compared named =
        ((λ r. ap (λ b. cond b (Some (placed_on c.path c.new r)) r) (elsewhere c compared.0 named.0)), no_place cs compared.1 named.1)

    no_list : (chosen : List Compared) → AllByRecursion (IsCompared old new) chosen → AllByRecursion (λ (c : Compared). IsPath c.path) chosen
        → AllByRecursion (λ (c : Compared). (r : Option Resource) → list_at c.path c.new at r ≡ r) chosen
    no_list [] compared named = tt
    no_list (c ∷ cs) compared named =
        ((λ r. ap (λ b. cond b (option_map (relisted c.new) r) r) (elsewhere c compared.0 named.0)), no_list cs compared.1 named.1)

    pub nothing_written : (places lists : List Compared) → AreChosen old new HasPlace places → AreChosen old new HasLists lists → (r : Option Resource) → each_list_at lists at (each_place_at places at r) ≡ r
    nothing_written places lists ps ls r =
        ap (each_list_at lists at) (turned_stays _ places (no_place places ps.compared ps.named) r) ∙ turned_stays _ lists (no_list lists ls.compared ls.named) r

  -- where it keeps a place
  module _ (properties : Properties) (kept : properties_at new p ≡ Some properties) where
    abbrev chosen_here : Compared
    chosen_here = record { path = p; old = properties_at old p; new = properties }

    abbrev Placed : Option Resource → Option Resource
    Placed r = Some (placed_on p properties r)

    placed_twice : (r : Option Resource) → Placed (Placed r) ≡ Placed r
    placed_twice None = refl
    placed_twice (Some r) = refl

    relisted_twice : (r : Option Resource) → option_map (relisted properties) (option_map (relisted properties) r) ≡ option_map (relisted properties) r
    relisted_twice None = refl
    relisted_twice (Some r) = refl

    same_place : (c : Compared) → IsCompared old new c → IsPath c.path → at ≡ path_text c.path → (p ≡ c.path) × (properties ≡ c.new)
    same_place c compared named is = let h = here c compared named is in (h.0, same_Some _ _ (sym kept ∙ h.1))

    place_step : (c : Compared) → IsCompared old new c → IsPath c.path → ((r : Option Resource) → place_at c.path c.new at r ≡ r) ⊎ ((r : Option Resource) → place_at c.path c.new at r ≡ Placed r)
    place_step c compared named = by_names at (path_text c.path) (λ b. ((r : Option Resource) → cond b (Some (placed_on c.path c.new r)) r ≡ r) ⊎ ((r : Option Resource) → cond b (Some (placed_on c.path c.new r)) r ≡ Placed r))
        (λ is. let h = same_place c compared named is in inr (λ r. λ i. Some (placed_on (sym h.0 i) (sym h.1 i) r)))
        (λ _. inl (λ r. refl))

    list_step : (c : Compared) → IsCompared old new c → IsPath c.path → ((r : Option Resource) → list_at c.path c.new at r ≡ r) ⊎ ((r : Option Resource) → list_at c.path c.new at r ≡ option_map (relisted properties) r)
    list_step c compared named = by_names at (path_text c.path) (λ b. ((r : Option Resource) → cond b (option_map (relisted c.new) r) r ≡ r) ⊎ ((r : Option Resource) → cond b (option_map (relisted c.new) r) r ≡ option_map (relisted properties) r))
        (λ is. let h = same_place c compared named is in inr (λ r. λ i. option_map (relisted (sym h.1 i)) r))
        (λ _. inl (λ r. refl))

    place_steps : (chosen : List Compared) → AllByRecursion (IsCompared old new) chosen → AllByRecursion (λ (c : Compared). IsPath c.path) chosen
        → AllByRecursion (λ (c : Compared). ((r : Option Resource) → place_at c.path c.new at r ≡ r) ⊎ ((r : Option Resource) → place_at c.path c.new at r ≡ Placed r)) chosen
    place_steps [] compared named = tt
    place_steps (c ∷ cs) compared named = (place_step c compared.0 named.0, place_steps cs compared.1 named.1)

    list_steps : (chosen : List Compared) → AllByRecursion (IsCompared old new) chosen → AllByRecursion (λ (c : Compared). IsPath c.path) chosen
        → AllByRecursion (λ (c : Compared). ((r : Option Resource) → list_at c.path c.new at r ≡ r) ⊎ ((r : Option Resource) → list_at c.path c.new at r ≡ option_map (relisted properties) r)) chosen
    list_steps [] compared named = tt
    list_steps (c ∷ cs) compared named = (list_step c compared.0 named.0, list_steps cs compared.1 named.1)

    place_made : (r : Option Resource) → place_at p properties at r ≡ Placed r
    place_made r = ap (λ b. cond b (Placed r) r) (same_itself at)

    list_made : (r : Option Resource) → list_at p properties at r ≡ option_map (relisted properties) r
    list_made r = ap (λ b. cond b (option_map (relisted properties) r) r) (same_itself at)

    -- the owner and the label are those, whether they were written or there
    pub place_is : (places : List Compared) → AreChosen old new HasPlace places → (r : Option Resource) → (HasPlace (properties_at old p) properties → r ≡ Placed r) → each_place_at places at r ≡ Placed r
    place_is places ps r there = elim (ps.all p properties kept) [
      | inl chosen ↦ turned_made _ Placed placed_twice places (place_steps places ps.compared ps.named) chosen_here chosen place_made r
      | inr has ↦ elim (turned_either _ Placed placed_twice places (place_steps places ps.compared ps.named) r) [ inl stays ↦ stays ∙ there has | inr made ↦ made ]
    ]

    pub lists_are : (lists : List Compared) → AreChosen old new HasLists lists → (r : Option Resource) → (HasLists (properties_at old p) properties → r ≡ option_map (relisted properties) r)
        → each_list_at lists at r ≡ option_map (relisted properties) r
    lists_are lists ls r there = elim (ls.all p properties kept) [
      | inl chosen ↦ turned_made _ (option_map (relisted properties)) relisted_twice lists (list_steps lists ls.compared ls.named) chosen_here chosen list_made r
      | inr has ↦ elim (turned_either _ (option_map (relisted properties)) relisted_twice lists (list_steps lists ls.compared ls.named) r) [ inl stays ↦ stays ∙ there has | inr made ↦ made ]
    ]

-- ---- at each path there is what the Office has that took over the policy

module _ (t : PolicyTables) (o : Office) (places lists : List Compared) (ps : AreChosen (bare o) (bare (taken_over t o)) HasPlace places) (ls : AreChosen (bare o) (bare (taken_over t o)) HasLists lists) (p : Path) (is_path : IsPath p) where
  abbrev written : Option Resource → Option Resource
  written r = each_list_at lists (path_text p) (each_place_at places (path_text p) r)

  module _ (properties : Properties) (kept : properties_at (taken_over t o) p ≡ Some properties) where
    kept_bare : properties_at (bare (taken_over t o)) p ≡ Some properties
    kept_bare = bare_properties (taken_over t o) p ∙ kept

    no_card : (b c : List ℕ) → p ≢ path.Card b c
    no_card b c is = some_apart (sym kept ∙ ap (properties_at (taken_over t o)) is)

    -- by what was there
    written_is : (old : Option Properties) → properties_at o p ≡ old → written (resource_at o p) ≡ Some (properties_resource (kind_of p) (number_at o p) properties)
    written_is None was =
        let none = none_told o p was no_card in
        let before : properties_at (bare o) p ≡ None = bare_properties o p ∙ was in
        let first : each_place_at places (path_text p) (resource_at o p) ≡ Some (placed_on p properties None) =
        ap (each_place_at places (path_text p)) none.0 ∙ place_is (bare o) (bare (taken_over t o)) p is_path properties kept_bare places ps None (λ has. absurd (subst (λ r. HasPlace r properties) before has)) in
        ap (each_list_at lists (path_text p)) first
        ∙ lists_are (bare o) (bare (taken_over t o)) p is_path properties kept_bare lists ls (Some (placed_on p properties None))
        (λ has. let h = subst (λ r. HasLists r properties) before has in λ i. Some (record (placed_on p properties None) { protected = sym h.0 i; own = sym h.1 i }))
        ∙ ap (λ n. Some (properties_resource (kind_of p) n properties)) (sym none.1)
    written_is (Some old) was =
        let before : properties_at (bare o) p ≡ Some old = bare_properties o p ∙ was in
        let then : Resource = properties_resource (kind_of p) (number_at o p) old in
        let first : each_place_at places (path_text p) (resource_at o p) ≡ Some (placed_on p properties (Some then)) =
        ap (each_place_at places (path_text p)) (resource_told o p old was)
        ∙ place_is (bare o) (bare (taken_over t o)) p is_path properties kept_bare places ps (Some then)
        (λ has. let h = subst (λ r. HasPlace r properties) before has in λ i. Some (record then { owner = h.0 i; label = h.1 i })) in
        ap (each_list_at lists (path_text p)) first
        ∙ lists_are (bare o) (bare (taken_over t o)) p is_path properties kept_bare lists ls (Some (placed_on p properties (Some then)))
        (λ has. let h = subst (λ r. HasLists r properties) before has in λ i. Some (record (placed_on p properties (Some then)) { protected = h.0 i; own = h.1 i }))

    written_there : written (resource_at o p) ≡ resource_at (taken_over t o) p
    written_there = written_is (properties_at o p) refl
        ∙ ap (λ n. Some (properties_resource (kind_of p) n properties)) (sym (number_stays t o p)) ∙ sym (resource_told (taken_over t o) p properties kept)

  pub written_taken_over : written (resource_at o p) ≡ resource_at (taken_over t o) p
  written_taken_over = by_option (properties_at (taken_over t o) p)
      (λ none. nothing_written (bare o) (bare (taken_over t o)) p is_path (bare_properties (taken_over t o) p ∙ none) places lists ps ls (resource_at o p) ∙ sym (stays_without t o p none))
      written_there
