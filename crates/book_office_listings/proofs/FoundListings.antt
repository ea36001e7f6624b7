-- Each resource that is there has a listing, and rulings.
use Rattle.book_office_listings.proofs.Common.{◌≡◌, ℕ, Bool, true, List, [], ◌∷◌, map, is_some, Option, Some, None, option_map, refl, sym, ap, ◌∙◌, AllZip, Leaf, CircleOf, membership_cmp, Here, Office, Path, effective_at, Resource, resource_at, EffectiveEntry, IsResponse, listed_paths, bare_entries, paths_of, here_of, Find, Response, Denied, Told, Subject, Whole, Children, Extent, all_leaves}
use Rattle.std.proofs.Common.{◌⊎◌, inl, inr, false, not, unwrap_or, T, option_and_then}
use Rattle.std.specs.FinMap.{FinMap, contains_key-keys, entries, entries_sorted, from_entries, get, get-from_entries, is_sorted}
use Rattle.std.specs.FinMap.Entries.{below_all, is_some-find}
use Rattle.std.specs.FinSet.{contains-from_list, contains-items, items, same_set}
use Rattle.std.specs.List.{AllByRecursion, list_any}
use Rattle.std.specs.List.Sorted.{IsStrictlySortedBy}
use Rattle.std.specs.Ordering.{eq_by_cmp}
use Rattle.std.specs.Cmp.Lexicographic.{nat_list_cmp_total}
use Rattle.std.specs.declared.cmp.Ordering.{Ordering}
use Rattle.std.specs.declared.cmp.Ordering.TheVariants.{Less}
use Rattle.book_rights.specs.Privileges.{denied_name}
use Rattle.book_lists.proofs.Pairing.{memberships_exact, memberships_total}
use Rattle.book_lists.specs.Memberships.{Memberships, set_of}
use Rattle.book_lists.specs.declared.memberships.Membership.{Membership}
use Rattle.book_office_values.proofs.Members.{Mem, first, less, mem_get, second}
use Rattle.book_office_values.proofs.NameMapLaws.{names_apart}
use Rattle.book_office_values.specs.Names.{NamesTo}
use Rattle.book_office_values.specs.declared.offices.Book.{Book}
use Rattle.book_office_values.specs.declared.paths.Path.TheVariants as path
use Rattle.book_office.specs.Resources.{listed_cards}
use Rattle.book_office.specs.declared.nodes.Listed.{Listed}
use Rattle.book_lists_explain.proofs.FoundDecisions.{decision, found_or_not}
use Rattle.book_office_listings.proofs.OneListing.{keys_marked, marked}
use Rattle.book_office_listings.specs.Laws.{ListingsExist, RulingsExist}
use Rattle.book_office_listings.specs.Listings.{IsWhole, children_paths, subject_of}
use Rattle.book_office_listings.specs.Rulings.{AreRulingsAt, IsRuling}
use Rattle.book_office_listings.specs.Values.{value_of}
use Rattle.book_office_listings.specs.Verdicts.{IsDeniedBy, IsGrantedBy, deciding_entry}
use Rattle.book_office_listings.specs.declared.messages.Denial.{Denial}
use Rattle.book_office_listings.specs.declared.messages.Extent.TheVariants.{Resource as Alone}
use Rattle.book_office_listings.specs.declared.messages.Property.{Property}
use Rattle.book_office_listings.specs.declared.messages.Ruling.{Ruling}

-- ---- what is asked of the whole Office
all_less : {K X : Type 0} (R : K → K → Ordering) (k : K) (es : List (K × X)) → T (below_all R k es) → AllByRecursion (λ y. R k y ≡ Less) (map (λ (e : K × X). e.0) es)
all_less R k [] h = tt
all_less R k (e ∷ es) h = (less _ (first _ _ h), all_less R k es (second _ _ h))

sorted_keys : {K X : Type 0} (R : K → K → Ordering) (es : List (K × X)) → T (is_sorted R es) → IsStrictlySortedBy R (map (λ (e : K × X). e.0) es)
unfolding IsStrictlySortedBy
sorted_keys R [] h = tt
sorted_keys R (e ∷ es) h = (all_less R e.0 es (first _ _ h), sorted_keys R es (second _ _ h))

-- the pairs of a list, each once and in order
ordered_map : List Membership → FinMap membership_cmp (Unit {0})
ordered_map pairs = from_entries (marked pairs)

pub ordered : List Membership → List Membership
ordered pairs = map (λ e. e.0) (entries (ordered_map pairs))

pub ordered_pairs : (pairs : List Membership) → IsStrictlySortedBy membership_cmp (ordered pairs)
unfolding ordered
ordered_pairs pairs = sorted_keys membership_cmp (entries (ordered_map pairs)) (entries_sorted (ordered_map pairs))

has_ordered : (pairs : List Membership) (q : Membership) → list_any (eq_by_cmp membership_cmp q) (ordered pairs) ≡ list_any (eq_by_cmp membership_cmp q) pairs
unfolding ordered ordered_map
has_ordered pairs q =
    sym (contains_key-keys (ordered_map pairs) q)
    ∙ ap is_some (get-from_entries memberships_total (marked pairs) q)
    ∙ is_some-find membership_cmp q (marked pairs)
    ∙ ap (list_any (eq_by_cmp membership_cmp q)) (keys_marked pairs)

pub pairs_back : (pairs : Memberships) → set_of (ordered (items pairs)) ≡ pairs
pairs_back pairs = same_set memberships_total memberships_exact _ _ (λ q.
    contains-from_list memberships_total (ordered (items pairs)) q ∙ has_ordered (items pairs) q ∙ sym (contains-items pairs q))

whole_of : (o : Office) (asked : List Property) → (whole : Whole) × IsWhole o asked whole
whole_of o asked = (
  record { memberships = ordered (items o.pairs); epoch = o.epoch },
  record { memberships = λ _. pairs_back o.pairs; in_order = λ _. ordered_pairs (items o.pairs); epoch = λ _. refl },
)

-- ---- the response for a resource
pub granted_or_denied : (list : List EffectiveEntry) (circle : CircleOf) (here : Here) (p : Path) (set : Leaf → Bool)
    → IsGrantedBy list circle here set ⊎ ((denial : Denial) × IsDeniedBy list circle here p set denial)
granted_or_denied list circle here p set = elim (decision (bare_entries list) circle here set) [
  | inl granted ↦ inl granted
  | inr denied ↦ inr (
    record { resource = p; privilege = denied_name denied.0 set; entry = deciding_entry (paths_of list) denied.1 },
    record { leaf = denied.0; index = denied.1; resource = refl; entry = refl; privilege = refl; decided = denied.2 },
  )
]

module _ (o : Office) (circle : CircleOf) (find : Find) (whole : Whole) where
  abbrev IsThere : Path → Type 0
  IsThere q = (r : Resource) × (resource_at o q ≡ Some r)

  response_at : (q : Path) → IsThere q → (response : Response) × IsResponse find circle o whole q response
  response_at q there =
      let s : Subject = subject_of o q there.0 in
      let is : option_map (subject_of o q) (resource_at o q) ≡ Some s = ap (option_map (subject_of o q)) there.1 in
      elim (granted_or_denied (effective_at o q) circle (here_of o q) q find.needed) [
        | inl granted ↦ (
          Told q (map (value_of whole circle q s (effective_at o q)) find.properties),
          (s, is, record { path = refl; granted = granted; values = refl }),
        )
        | inr denied ↦ (Denied denied.0, (s, is, denied.1))
      ]

  responses_at : (paths : List Path) → ((q : Path) → Mem q paths → IsThere q)
      → (responses : List Response) × AllZip (IsResponse find circle o whole) paths responses
  responses_at [] there = ([], tt)
  responses_at (q ∷ qs) there =
      let one = response_at q (there q (inl refl)) in
      let rest = responses_at qs (λ x m. there x (inr m)) in
      (one.0 ∷ rest.0, (one.1, rest.1))

-- ---- the children of a resource are there
mem_mapped : {A B : Type 0} (f : A → B) (y : B) (xs : List A) → Mem y (map f xs) → (x : A) × Mem x xs × (y ≡ f x)
mem_mapped f y [] m = absurd m
mem_mapped f y (x ∷ xs) m = elim m [
  | inl is ↦ (x, inl refl, is)
  | inr later ↦ let found = mem_mapped f y xs later in (found.0, inr found.1, found.2)
]

-- a child of a list that is made of a map's entries has the path of a key
of_entries : {X : Type 0} (m : NamesTo X) (child : List ℕ × X → Listed) (at : List ℕ → Path) (q : Path)
    → Mem q (map (λ (c : Listed). at c.name) (map child (entries m))) → ((e : List ℕ × X) → (child e).name ≡ e.0)
    → (k : List ℕ) × (x : X) × (get m k ≡ Some x) × (q ≡ at k)
of_entries m child at q has named =
    let outer = mem_mapped (λ (c : Listed). at c.name) q (map child (entries m)) has in
    let inner = mem_mapped child outer.0 (entries m) outer.1 in
    (inner.0.0, inner.0.1, mem_get nat_list_cmp_total names_apart m inner.0.0 inner.0.1 inner.1, outer.2 ∙ ap (λ (c : Listed). at c.name) inner.2 ∙ ap at (named inner.0))

module _ (o : Office) where
  moved : (p q : Path) → q ≡ p → (r : Resource) → resource_at o p ≡ Some r → (r : Resource) × (resource_at o q ≡ Some r)
  moved p q is r there = (r, ap (resource_at o) is ∙ there)

  cards_there : (b : List ℕ) (found : Option Book) → get o.books b ≡ found → (q : Path)
      → Mem q (map (λ (c : Listed). path.Card b c.name) (unwrap_or (option_map listed_cards found) [])) → (r : Resource) × (resource_at o q ≡ Some r)
  cards_there b None is q has = absurd has
  cards_there b (Some book) is q has =
      let at = of_entries book.cards _ (path.Card b) q has (λ e. refl) in
      moved (path.Card b at.0) q at.3 _ (ap (option_and_then _) is ∙ ap (option_map _) at.2)

  children_there : (p q : Path) → Mem q (children_paths o p) → (r : Resource) × (resource_at o q ≡ Some r)
  children_there path.Root q has = elim has [
    | inl is ↦ moved path.Books q is _ refl
    | inr others ↦ elim others [
      | inl is ↦ moved path.Groups q is _ refl
      | inr last ↦ elim last [
        | inl is ↦ moved path.People q is _ refl
        | inr never ↦ absurd never
      ]
    ]
  ]
  children_there path.People q has = let at = of_entries o.persons _ path.Person q has (λ e. refl) in moved (path.Person at.0) q at.3 _ (ap (option_map _) at.2)
  children_there path.Groups q has = let at = of_entries o.groups _ path.Group q has (λ e. refl) in moved (path.Group at.0) q at.3 _ (ap (option_map _) at.2)
  children_there path.Books q has = let at = of_entries o.books _ path.Book q has (λ e. refl) in moved (path.Book at.0) q at.3 _ (ap (option_map _) at.2)
  children_there (path.Person n) q has = absurd has
  children_there (path.Group n) q has = absurd has
  children_there (path.Book b) q has = cards_there b (get o.books b) refl q has
  children_there (path.Card b c) q has = absurd has

  listed_there : (p : Path) (extent : Extent) → (r : Resource) × (resource_at o p ≡ Some r)
      → (q : Path) → Mem q (listed_paths o p extent) → (r : Resource) × (resource_at o q ≡ Some r)
  listed_there p Alone there q has = elim has [ inl is ↦ moved p q is there.0 there.1 | inr never ↦ absurd never ]
  listed_there p Children there q has = elim has [ inl is ↦ moved p q is there.0 there.1 | inr child ↦ children_there p q child ]

some_there : {A : Type 0} (found : Option A) → is_some found ≡ true → (x : A) × (found ≡ Some x)
some_there None is = absurd cc
some_there (Some x) is = (x, refl)

pub listings_exist : ListingsExist
listings_exist o circle find p is =
    let whole = whole_of o find.properties in
    let told = responses_at o circle find whole.0 (listed_paths o p find.extent) (listed_there o p find.extent (some_there (resource_at o p) is)) in
    (told.0, (whole.0, whole.1, told.1))

-- ---- the rulings at a path
ruling_of : (list : List EffectiveEntry) (circle : CircleOf) (here : Here) (leaf : Leaf) → (ruling : Ruling) × IsRuling list circle here leaf ruling
ruling_of list circle here leaf = elim (found_or_not circle here (bare_entries list) leaf) [
  | inl g ↦ (
    record { leaf = leaf; entry = deciding_entry (paths_of list) (Some g.0); grant = not g.1.deny },
    record { index = Some g.0; leaf_is = refl; entry = refl; decided = (g.1, g.2, refl) },
  )
  | inr none ↦ (record { leaf = leaf; entry = None; grant = false }, record { index = None; leaf_is = refl; entry = refl; decided = (none, refl) })
]

rulings_of : (list : List EffectiveEntry) (circle : CircleOf) (here : Here) (leaves : List Leaf) → (rulings : List Ruling) × AllZip (IsRuling list circle here) leaves rulings
rulings_of list circle here [] = ([], tt)
rulings_of list circle here (leaf ∷ leaves) =
    let one = ruling_of list circle here leaf in
    let rest = rulings_of list circle here leaves in
    (one.0 ∷ rest.0, (one.1, rest.1))

pub rulings_exist : RulingsExist
rulings_exist o circle p = there (resource_at o p) refl
  where
    there : (found : Option Resource) → resource_at o p ≡ found → (rulings : Option (List Ruling)) × AreRulingsAt o circle p rulings
    there None is = (None, is)
    there (Some r) is = let all = rulings_of (effective_at o p) circle (here_of o p) all_leaves in (Some all.0, (ap is_some is, all.1))
