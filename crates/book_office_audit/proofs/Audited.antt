-- An audit tells each resource.
use Rattle.book_office_audit.proofs.Common.{◌≡◌, ℕ, List, [], ◌∷◌, ◌++◌, map, codes, refl, sym, ap, ◌∙◌, nat_list_cmp_total, empty, flat_map, names_apart, NamesTo, Office, Block, block_of, gathered, level_block, shelf_blocks, shelf_of, Shelf}
use Rattle.std.proofs.Common.{◌≢◌, ◌⊎◌, inl, inr, cond, Option, Some, None, option_map, option_and_then, unwrap_or, subst}
use Rattle.std.specs.FinMap.{entries, get, get-empty, insert}
use Rattle.std.proofs.lemmas.Option.{same_Some}
use Rattle.book_lists.specs.Names.{name_cmp}
use Rattle.book_office.proofs.StandingResources.{resources_stand_in_place}
use Rattle.book_office.specs.Resources.{Resource, resource_at, properties_resource, book_resource, card_resource, card_in, number_of, as_listed, listed_cards, listed_homes, listed_principals, listed_books}
use Rattle.book_office_values.proofs.Members.{Mem, mem_map, mem_get, get_mem}
use Rattle.book_office_values.proofs.NameMapLaws.{by_same, put_at, same_itself}
use Rattle.book_office_values.proofs.OneName.{some_apart}
use Rattle.book_office_values.proofs.Spelling.{one_text}
use Rattle.book_office_values.specs.Paths.{IsPath, path_text, book_path}
use Rattle.book_office_values.specs.declared.offices.Book.{Book}
use Rattle.book_office_values.specs.declared.offices.Properties.{Properties}
use Rattle.book_office_values.specs.declared.offices.StoredCard.{StoredCard}
use Rattle.book_office_values.specs.declared.paths.Kind.TheVariants as kind
use Rattle.book_office_values.specs.declared.paths.Path.{Path}
use Rattle.book_office_values.specs.declared.paths.Path.TheVariants as path
use Rattle.book_office_audit.specs.Audits.{blocks_of, contents_of, top_of}
use Rattle.book_office_audit.specs.Laws.{lines_at, AuditsTellEveryResource}

-- ---- elements
mem_left : {A : Type 0} (x : A) (xs ys : List A) → Mem x xs → Mem x (xs ++ ys)
mem_left x [] ys m = absurd m
mem_left x (y ∷ xs) ys (inl e) = inl e
mem_left x (y ∷ xs) ys (inr m) = inr (mem_left x xs ys m)

mem_right : {A : Type 0} (x : A) (xs ys : List A) → Mem x ys → Mem x (xs ++ ys)
mem_right x [] ys m = m
mem_right x (y ∷ xs) ys m = inr (mem_right x xs ys m)

mem_split : {A : Type 0} (x : A) (xs ys : List A) → Mem x (xs ++ ys) → Mem x xs ⊎ Mem x ys
mem_split x [] ys m = inr m
mem_split x (y ∷ xs) ys (inl e) = inl (inl e)
mem_split x (y ∷ xs) ys (inr m) = elim (mem_split x xs ys m) [ inl h ↦ inl (inr h) | inr h ↦ inr h ]

mem_of_map : {A B : Type 0} (f : A → B) (y : B) (xs : List A) → Mem y (map f xs) → (x : A) × Mem x xs × (y ≡ f x)
mem_of_map f y [] m = absurd m
mem_of_map f y (x ∷ xs) (inl e) = (x, inl refl, e)
mem_of_map f y (x ∷ xs) (inr m) = let h = mem_of_map f y xs m in (h.0, inr h.1, h.2)

mem_of_flat : {A B : Type 0} (f : A → List B) (y : B) (xs : List A) → Mem y (flat_map f xs) → (x : A) × Mem x xs × Mem y (f x)
mem_of_flat f y [] m = absurd m
mem_of_flat f y (x ∷ xs) m = elim (mem_split y (f x) (flat_map f xs) m) [
  | inl h ↦ (x, inl refl, h)
  | inr h ↦ let r = mem_of_flat f y xs h in (r.0, inr r.1, r.2)
]

mem_flat : {A B : Type 0} (f : A → List B) (y : B) (x : A) (xs : List A) → Mem x xs → Mem y (f x) → Mem y (flat_map f xs)
mem_flat f y x [] m h = absurd m
mem_flat f y x (z ∷ xs) (inl e) h = mem_left y (f z) (flat_map f xs) (subst (λ a. Mem y (f a)) e h)
mem_flat f y x (z ∷ xs) (inr m) h = mem_right y (f z) (flat_map f xs) (mem_flat f y x xs m h)

-- ---- what is gathered
found : (m : NamesTo (List ℕ)) (bs : List Block) (k v : List ℕ) → get (gathered m bs) k ≡ Some v → (get m k ≡ Some v) ⊎ Mem (k, v) bs
found m [] k v e = inl e
found m (b ∷ bs) k v e = elim (found (insert m b.0 b.1) bs k v e) [
  | inl h ↦ by_same k b.0 (λ t. cond t (Some b.1) (get m k) ≡ Some v → (get m k ≡ Some v) ⊎ Mem (k, v) (b ∷ bs))
      (λ here is. inr (inl (λ i. (here i, sym (same_Some _ _ is) i)))) (λ is. inl is) (sym (put_at m b.0 b.1 k) ∙ h)
  | inr h ↦ inr (inr h)
]

stays : (m : NamesTo (List ℕ)) (bs : List Block) (k v : List ℕ) → get m k ≡ Some v → (w : List ℕ) × (get (gathered m bs) k ≡ Some w)
stays m [] k v e = (v, e)
stays m (b ∷ bs) k v e =
    let h : (w : List ℕ) × (get (insert m b.0 b.1) k ≡ Some w) =
    subst (λ r. (w : List ℕ) × (r ≡ Some w)) (sym (put_at m b.0 b.1 k)) (by_same k b.0 (λ t. (w : List ℕ) × (cond t (Some b.1) (get m k) ≡ Some w)) (λ here. (b.1, refl)) (v, e)) in
    stays (insert m b.0 b.1) bs k h.0 h.1

there : (m : NamesTo (List ℕ)) (bs : List Block) (k v : List ℕ) → Mem (k, v) bs → (w : List ℕ) × (get (gathered m bs) k ≡ Some w)
there m [] k v h = absurd h
there m (b ∷ bs) k v (inl e) =
    stays (insert m b.0 b.1) bs k b.1
    (ap (get (insert m b.0 b.1)) (ap (λ (p : Block). p.0) e) ∙ put_at m b.0 b.1 b.0 ∙ ap (λ t. cond t (Some b.1) (get m b.0)) (same_itself b.0))
there m (b ∷ bs) k v (inr h) = there (insert m b.0 b.1) bs k v h

some_of : {A B : Type 0} (f : A → B) (r : Option A) (y : B) → option_map f r ≡ Some y → (x : A) × (r ≡ Some x) × (f x ≡ y)
some_of f None y e = some_apart (sym e)
some_of f (Some x) y e = (x, refl, same_Some _ _ e)

then_of : {A B : Type 0} (f : A → Option B) (r : Option A) (y : B) → option_and_then f r ≡ Some y → (x : A) × (r ≡ Some x) × (f x ≡ Some y)
then_of f None y e = some_apart (sym e)
then_of f (Some x) y e = (x, refl, e)

module _ (o : Office) where
  -- ---- each block is that of a resource
  abbrev IsTold : Block → Type 0
  IsTold b = (p : Path) × (r : Resource) × (resource_at o p ≡ Some r) × (b ≡ (path_text p, lines_at p r))

  home_told : (y : Block) → Mem y (map (block_of []) (listed_homes o)) → IsTold y
  home_told y (inl e) = (path.Books, properties_resource kind.Home 0 o.books_home, refl, e)
  home_told y (inr (inl e)) = (path.Groups, properties_resource kind.Home 0 o.groups_home, refl, e)
  home_told y (inr (inr (inl e))) = (path.People, properties_resource kind.Home 0 o.people, refl, e)
  home_told y (inr (inr (inr e))) = absurd e

  person_told : (y : Block) → Mem y (map (block_of (codes "/people")) (listed_principals kind.Person (entries o.persons))) → IsTold y
  person_told y m =
      let a = mem_of_map (block_of (codes "/people")) y (listed_principals kind.Person (entries o.persons)) m in
      let e = mem_of_map (λ (e : List ℕ × Properties). as_listed e.0 (properties_resource kind.Person 0 e.1)) a.0 (entries o.persons) a.1 in
      let at = mem_get nat_list_cmp_total names_apart o.persons e.0.0 e.0.1 e.1 in
      (path.Person e.0.0, properties_resource kind.Person 0 e.0.1, ap (option_map (properties_resource kind.Person 0)) at, a.2 ∙ ap (block_of (codes "/people")) e.2)

  group_told : (y : Block) → Mem y (map (block_of (codes "/groups")) (listed_principals kind.Group (entries o.groups))) → IsTold y
  group_told y m =
      let a = mem_of_map (block_of (codes "/groups")) y (listed_principals kind.Group (entries o.groups)) m in
      let e = mem_of_map (λ (e : List ℕ × Properties). as_listed e.0 (properties_resource kind.Group 0 e.1)) a.0 (entries o.groups) a.1 in
      let at = mem_get nat_list_cmp_total names_apart o.groups e.0.0 e.0.1 e.1 in
      (path.Group e.0.0, properties_resource kind.Group 0 e.0.1, ap (option_map (properties_resource kind.Group 0)) at, a.2 ∙ ap (block_of (codes "/groups")) e.2)

  book_told : (y : Block) → Mem y (map (block_of (codes "/books")) (listed_books (entries o.books))) → IsTold y
  book_told y m =
      let a = mem_of_map (block_of (codes "/books")) y (listed_books (entries o.books)) m in
      let e = mem_of_map (λ (e : List ℕ × Book). as_listed e.0 (book_resource e.1)) a.0 (entries o.books) a.1 in
      let at = mem_get nat_list_cmp_total names_apart o.books e.0.0 e.0.1 e.1 in
      (path.Book e.0.0, book_resource e.0.1, ap (option_map book_resource) at, a.2 ∙ ap (block_of (codes "/books")) e.2)

  card_told : (y : Block) → Mem y (flat_map shelf_blocks (map (shelf_of o) (listed_books (entries o.books)))) → IsTold y
  card_told y m =
      let s = mem_of_flat shelf_blocks y (map (shelf_of o) (listed_books (entries o.books))) m in
      let b = mem_of_map (shelf_of o) s.0 (listed_books (entries o.books)) s.1 in
      let e = mem_of_map (λ (e : List ℕ × Book). as_listed e.0 (book_resource e.1)) b.0 (entries o.books) b.1 in
      let n = e.0.0 in
      let book : Book = e.0.1 in
      let at = mem_get nat_list_cmp_total names_apart o.books n book e.1 in
      let shelf : s.0 ≡ record { book = book_path n; cards = listed_cards book } =
      b.2 ∙ ap (shelf_of o) e.2 ∙ ap (λ (found : Option Book). record { book = book_path n; cards = unwrap_or (option_map listed_cards found) [] }) at in
      let c = mem_of_map (block_of (book_path n)) y (listed_cards book) (subst (λ (h : Shelf). Mem y (shelf_blocks h)) shelf s.2) in
      let f = mem_of_map (λ (e : List ℕ × StoredCard). as_listed e.0 (card_resource (number_of book e.0) e.1)) c.0 (entries book.cards) c.1 in
      let got = mem_get nat_list_cmp_total names_apart book.cards f.0.0 f.0.1 f.1 in (
        path.Card n f.0.0,
        card_resource (number_of book f.0.0) f.0.1,
        ap (option_and_then (λ (book : Book). card_in book f.0.0)) at ∙ ap (option_map (card_resource (number_of book f.0.0))) got,
        c.2 ∙ ap (block_of (book_path n)) f.2,
      )

  abbrev L : List Block
  L = map (level_block (top_of o).owner) (top_of o).lists.levels

  abbrev H : List Block
  H = map (block_of []) (listed_homes o)

  abbrev P : List Block
  P = map (block_of (codes "/people")) (listed_principals kind.Person (entries o.persons))

  abbrev G : List Block
  G = map (block_of (codes "/groups")) (listed_principals kind.Group (entries o.groups))

  abbrev B : List Block
  B = map (block_of (codes "/books")) (listed_books (entries o.books))

  abbrev S : List Block
  S = flat_map shelf_blocks (map (shelf_of o) (listed_books (entries o.books)))

  all_told : (y : Block) → Mem y (blocks_of (contents_of o)) → IsTold y
  all_told y (inl e) = (path.Root, properties_resource kind.Root 0 o.root, refl, e)
  all_told y (inr m) = elim (mem_split y H (P ++ (G ++ (B ++ S))) m) [
    | inl h ↦ home_told y h
    | inr m2 ↦ elim (mem_split y P (G ++ (B ++ S)) m2) [
      | inl h ↦ person_told y h
      | inr m3 ↦ elim (mem_split y G (B ++ S) m3) [
        | inl h ↦ group_told y h
        | inr m4 ↦ elim (mem_split y B S m4) [ inl h ↦ book_told y h | inr h ↦ card_told y h ]
      ]
    ]
  ]

  -- ---- each resource has a block
  after_homes : (y : Block) → Mem y (P ++ (G ++ (B ++ S))) → Mem y (blocks_of (contents_of o))
  after_homes y h = mem_right y L (H ++ (P ++ (G ++ (B ++ S)))) (mem_right y H (P ++ (G ++ (B ++ S))) h)

  told : (p : Path) (r : Resource) → resource_at o p ≡ Some r → Mem (path_text p, lines_at p r) (blocks_of (contents_of o))
  told path.Root r e = inl (ap (λ (r : Resource). (path_text path.Root, lines_at path.Root r)) (sym (same_Some _ _ e)))
  told path.Books r e = inr (inl (ap (λ (r : Resource). (path_text path.Books, lines_at path.Books r)) (sym (same_Some _ _ e))))
  told path.Groups r e = inr (inr (inl (ap (λ (r : Resource). (path_text path.Groups, lines_at path.Groups r)) (sym (same_Some _ _ e)))))
  told path.People r e = inr (inr (inr (inl (ap (λ (r : Resource). (path_text path.People, lines_at path.People r)) (sym (same_Some _ _ e))))))
  told (path.Person n) r e =
      let x = some_of (properties_resource kind.Person 0) (get o.persons n) r e in
      let m = mem_map (λ (e : List ℕ × Properties). as_listed e.0 (properties_resource kind.Person 0 e.1)) (n, x.0) (entries o.persons) (get_mem nat_list_cmp_total names_apart o.persons n x.0 x.1) in
      let b = mem_map (block_of (codes "/people")) (as_listed n (properties_resource kind.Person 0 x.0)) (listed_principals kind.Person (entries o.persons)) m in
      subst (λ (r : Resource). Mem (path_text (path.Person n), lines_at (path.Person n) r) (blocks_of (contents_of o))) x.2
      (after_homes _ (mem_left _ P (G ++ (B ++ S)) b))
  told (path.Group n) r e =
      let x = some_of (properties_resource kind.Group 0) (get o.groups n) r e in
      let m = mem_map (λ (e : List ℕ × Properties). as_listed e.0 (properties_resource kind.Group 0 e.1)) (n, x.0) (entries o.groups) (get_mem nat_list_cmp_total names_apart o.groups n x.0 x.1) in
      let b = mem_map (block_of (codes "/groups")) (as_listed n (properties_resource kind.Group 0 x.0)) (listed_principals kind.Group (entries o.groups)) m in
      subst (λ (r : Resource). Mem (path_text (path.Group n), lines_at (path.Group n) r) (blocks_of (contents_of o))) x.2
      (after_homes _ (mem_right _ P (G ++ (B ++ S)) (mem_left _ G (B ++ S) b)))
  told (path.Book n) r e =
      let x = some_of book_resource (get o.books n) r e in
      let m = mem_map (λ (e : List ℕ × Book). as_listed e.0 (book_resource e.1)) (n, x.0) (entries o.books) (get_mem nat_list_cmp_total names_apart o.books n x.0 x.1) in
      let b = mem_map (block_of (codes "/books")) (as_listed n (book_resource x.0)) (listed_books (entries o.books)) m in
      subst (λ (r : Resource). Mem (path_text (path.Book n), lines_at (path.Book n) r) (blocks_of (contents_of o))) x.2
      (after_homes _ (mem_right _ P (G ++ (B ++ S)) (mem_right _ G (B ++ S) (mem_left _ B S b))))
  told (path.Card n c) r e =
      let x = then_of (λ (book : Book). card_in book c) (get o.books n) r e in
      let book : Book = x.0 in
      let k = some_of (card_resource (number_of book c)) (get book.cards c) r x.2 in
      let m = mem_map (λ (e : List ℕ × Book). as_listed e.0 (book_resource e.1)) (n, book) (entries o.books) (get_mem nat_list_cmp_total names_apart o.books n book x.1) in
      let s = mem_map (shelf_of o) (as_listed n (book_resource book)) (listed_books (entries o.books)) m in
      let f = mem_map (λ (e : List ℕ × StoredCard). as_listed e.0 (card_resource (number_of book e.0) e.1)) (c, k.0) (entries book.cards) (get_mem nat_list_cmp_total names_apart book.cards c k.0 k.1) in
      let b = mem_map (block_of (book_path n)) (as_listed c (card_resource (number_of book c) k.0)) (listed_cards book) f in
      let shelf : record { book = book_path n; cards = listed_cards book } ≡ shelf_of o (as_listed n (book_resource book)) =
      ap (λ (found : Option Book). record { book = book_path n; cards = unwrap_or (option_map listed_cards found) [] }) (sym x.1) in
      let y : Block = (path_text (path.Card n c), lines_at (path.Card n c) (card_resource (number_of book c) k.0)) in
      let last : Mem y S = mem_flat shelf_blocks y (shelf_of o (as_listed n (book_resource book))) (map (shelf_of o) (listed_books (entries o.books))) s
      (subst (λ (h : Shelf). Mem y (shelf_blocks h)) shelf b) in
      subst (λ (r : Resource). Mem (path_text (path.Card n c), lines_at (path.Card n c) r) (blocks_of (contents_of o))) k.2
      (after_homes y (mem_right y P (G ++ (B ++ S)) (mem_right y G (B ++ S) (mem_right y B S last))))

  -- ---- what the map has at a text
  block_at : (k w : List ℕ) → get (gathered empty (blocks_of (contents_of o))) k ≡ Some w → IsTold (k, w)
  block_at k w e = elim (found empty (blocks_of (contents_of o)) k w e) [
    | inl h ↦ some_apart (sym h ∙ get-empty name_cmp k)
    | inr h ↦ all_told (k, w) h
  ]

pub tells : AuditsTellEveryResource
tells o sound = record {
  each = λ p named. at p named (resource_at o p) refl;
  only = λ text there. only text (get m text) refl there;
}
  where
    m : NamesTo (List ℕ)
    m = gathered empty (blocks_of (contents_of o))

    same_one : (p : Path) → IsPath p → (w : List ℕ) → get m (path_text p) ≡ Some w → (r : Resource) × (resource_at o p ≡ Some r) × (w ≡ lines_at p r)
    same_one p named w e =
        let b = block_at o (path_text p) w e in
        let is : p ≡ b.0 = one_text p b.0 named (resources_stand_in_place o sound b.0 b.1 b.2).named (ap (λ (y : Block). y.0) b.3) in
        (b.1, ap (resource_at o) is ∙ b.2, ap (λ (y : Block). y.1) b.3 ∙ ap (λ q. lines_at q b.1) (sym is))

    at : (p : Path) → IsPath p → (there_is : Option Resource) → resource_at o p ≡ there_is → get m (path_text p) ≡ option_map (lines_at p) (resource_at o p)
    at p named (Some r) e =
        let w = there empty (blocks_of (contents_of o)) (path_text p) (lines_at p r) (told o p r e) in
        let s = same_one p named w.0 w.1 in
        w.1 ∙ ap Some s.2 ∙ sym (ap (option_map (lines_at p)) s.1)
    at p named None e = none (get m (path_text p)) refl ∙ sym (ap (option_map (lines_at p)) e)
      where
        none : (g : Option (List ℕ)) → get m (path_text p) ≡ g → get m (path_text p) ≡ None
        none None h = h
        none (Some w) h = let s = same_one p named w h in some_apart (sym s.1 ∙ e)

    only : (text : List ℕ) (g : Option (List ℕ)) → get m text ≡ g → get m text ≢ None → (p : Path) × IsPath p × (text ≡ path_text p)
    only text None h there = absurd (there h)
    only text (Some w) h there =
        let b = block_at o text w h in
        (b.0, (resources_stand_in_place o sound b.0 b.1 b.2).named, ap (λ (y : Block). y.0) b.3)
