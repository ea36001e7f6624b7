-- The paths of a dump stand in byte order.
use Rattle.book_dumps.proofs.Common.{◌≡◌, ◌≢◌, ◌⊎◌, inl, inr, ℕ, ◌+◌, List, [], ◌∷◌, ◌++◌, refl, sym, ap, ◌∙◌, subst, arith, append_assoc, append-nil, map, codes, length, Option, Some, None, option_map, Office, Path}
use Rattle.std.proofs.Common.{T, cond, flat_map, option_and_then, unwrap_or, Ordering, Less, Equal, Greater, get_or, length-append}
use Rattle.std.specs.Cmp.{nat_cmp_total, tied_itself}
use Rattle.std.specs.Cmp.Lexicographic.{nat_list_cmp_total, slice_cmp}
use Rattle.std.specs.FinMap.{empty, entries, entries_sorted, get, get-empty, insert, is_sorted, nat_cmp-IsAntisymmetric}
use Rattle.std.specs.FinMap.Entries.{below_all}
use Rattle.std.specs.List.{AllByRecursion}
use Rattle.std.specs.List.Sorted.{IsStrictlySortedBy}
use Rattle.std.specs.Ordering.{nat_cmp, ordering_then}
use Rattle.std.proofs.lemmas.List.{get_or_append_left, get_or_at, map-append}
use Rattle.book_lists.specs.Names.{IsName, name_cmp}
use Rattle.book_lists.specs.Principals.{path_cmp}
use Rattle.book_office.specs.Resources.{Resource, as_listed, book_resource, card_in, card_resource, children_at, listed_cards, number_of, properties_resource, resource_at}
use Rattle.book_office.specs.Sound.{IsSound}
use Rattle.book_office.specs.declared.nodes.Listed.{Listed}
use Rattle.book_office_values.proofs.Members.{first, less, mem_get, second}
use Rattle.book_office_values.proofs.NameMapLaws.{by_names, names_apart, put_at}
use Rattle.book_office_values.proofs.OneName.{some_apart}
use Rattle.book_office_values.proofs.Slashes.{no_slash}
use Rattle.book_office_values.specs.Names.{NamesTo}
use Rattle.book_office_values.specs.Paths.{path_text}
use Rattle.book_office_values.specs.declared.offices.Book.{Book}
use Rattle.book_office_values.specs.declared.offices.Properties.{Properties}
use Rattle.book_office_values.specs.declared.offices.StoredCard.{StoredCard}
use Rattle.book_office_values.specs.declared.paths.Kind.TheVariants as kind
use Rattle.book_office_values.specs.declared.paths.Path.TheVariants as path
use Rattle.book_dumps.specs.Dumps.{after_books, names_at, paths_in, paths_of, places_of, with_book, with_books}
use Rattle.book_dumps.specs.declared.places.Place.{Place}
use Rattle.book_dumps.specs.declared.places.Place.TheVariants.{Whole, Cards}
use Rattle.std.proofs.lemmas.Option.{same_Some}
use Rattle.book_dumps.proofs.Among.{Mem, mem_of_flat, mem_of_map, mem_split}

abbrev Before : List ℕ → List ℕ → Type 0
Before a b = slice_cmp nat_cmp a b ≡ Less

-- ---- texts that come one before the other
-- the first elements are the same, or decide
by_first : (x y : ℕ) (r : Ordering) (P : Type 0) → ordering_then (nat_cmp x y) r ≡ Less → (nat_cmp x y ≡ Less → P) → (x ≡ y → r ≡ Less → P) → P
by_first x y r P is lower same = go (nat_cmp x y) refl is
  where
    go : (o : Ordering) → nat_cmp x y ≡ o → ordering_then o r ≡ Less → P
    go Less e h = lower e
    go Equal e h = same (nat_cmp-IsAntisymmetric x y e) h
    go Greater e h = absurd cc

lower_first : (x y : ℕ) (r : Ordering) → nat_cmp x y ≡ Less → ordering_then (nat_cmp x y) r ≡ Less
lower_first x y r e = ap (λ o. ordering_then o r) e

same_first : (x y : ℕ) (r : Ordering) → x ≡ y → r ≡ Less → ordering_then (nat_cmp x y) r ≡ Less
same_first x y r e h = ap (λ z. ordering_then (nat_cmp x z) r) (sym e) ∙ ap (λ o. ordering_then o r) (tied_itself nat_cmp_total x) ∙ h

before_more : (a b c : List ℕ) → Before a b → Before a (b ++ c)
before_more [] [] c h = absurd cc
before_more [] (y ∷ b) c h = refl
before_more (x ∷ a) [] c h = absurd cc
before_more (x ∷ a) (y ∷ b) c h =
    by_first x y (slice_cmp nat_cmp a b) (Before (x ∷ a) (y ∷ (b ++ c))) h
    (λ lower. lower_first x y (slice_cmp nat_cmp a (b ++ c)) lower) (λ same rest. same_first x y (slice_cmp nat_cmp a (b ++ c)) same (before_more a b c rest))

before_apart : (a b c d : List ℕ) → Before a b → ((r : List ℕ) → b ≢ a ++ r) → Before (a ++ c) (b ++ d)
before_apart [] b c d h apart = absurd (apart b refl)
before_apart (x ∷ a) [] c d h apart = absurd cc
before_apart (x ∷ a) (y ∷ b) c d h apart =
    by_first x y (slice_cmp nat_cmp a b) (Before (x ∷ (a ++ c)) (y ∷ (b ++ d))) h
    (λ lower. lower_first x y (slice_cmp nat_cmp (a ++ c) (b ++ d)) lower)
    (λ same rest. same_first x y (slice_cmp nat_cmp (a ++ c) (b ++ d)) same (before_apart a b c d rest (λ r e. apart r (λ i. sym same i ∷ e i))))

before_both : (p a b : List ℕ) → Before a b → Before (p ++ a) (p ++ b)
before_both [] a b h = h
before_both (x ∷ p) a b h = same_first x x (slice_cmp nat_cmp (p ++ a) (p ++ b)) refl (before_both p a b h)

not_before_itself : (a : List ℕ) → Before a a → ⊥
not_before_itself a h = absurd (let e = tied_itself nat_list_cmp_total a in cc)

-- ---- lists that rise
abbrev Rises : List (List ℕ) → Type 0
Rises [] = Unit {0}
Rises (t ∷ ts) = ((u : List ℕ) → Mem u ts → Before t u) × Rises ts

rises_both : (ts us : List (List ℕ)) → Rises ts → Rises us → ((t u : List ℕ) → Mem t ts → Mem u us → Before t u) → Rises (ts ++ us)
rises_both [] us a b h = b
rises_both (t ∷ ts) us a b h = (
  λ u m. elim (mem_split u ts us m) [ inl k ↦ a.0 u k | inr k ↦ h t u (inl refl) k ],
  rises_both ts us a.1 b (λ v u k l. h v u (inr k) l),
)

all_below : (t : List ℕ) (ts : List (List ℕ)) → ((u : List ℕ) → Mem u ts → Before t u) → AllByRecursion (λ u. path_cmp t u ≡ Less) ts
all_below t [] h = tt
all_below t (u ∷ ts) h = (h u (inl refl), all_below t ts (λ v m. h v (inr m)))

rises_sorted : (ts : List (List ℕ)) → Rises ts → IsStrictlySortedBy path_cmp ts
unfolding IsStrictlySortedBy
rises_sorted [] h = tt
rises_sorted (t ∷ ts) h = (all_below t ts h.0, rises_sorted ts h.1)

-- ---- lists that are made of the entries of a map
module _ {X : Type 0} where
  below_entry : (k : List ℕ) (es : List (List ℕ × X)) → T (below_all name_cmp k es) → (e : List ℕ × X) → Mem e es → Before k e.0
  below_entry k [] h e m = absurd m
  below_entry k (f ∷ es) h e (inl is) = subst (λ (g : List ℕ × X). Before k g.0) (sym is) (less _ (first _ _ h))
  below_entry k (f ∷ es) h e (inr m) = below_entry k es (second _ _ h) e m

  -- what is made of each entry rises, and comes before what is made of the later ones
  flat_rises : (f : List ℕ × X → List (List ℕ)) (Q : List ℕ × X → Type 0) → ((e : List ℕ × X) → Q e → Rises (f e))
      → ((e g : List ℕ × X) → Q e → Q g → Before e.0 g.0 → (t u : List ℕ) → Mem t (f e) → Mem u (f g) → Before t u)
      → (es : List (List ℕ × X)) → T (is_sorted name_cmp es) → ((e : List ℕ × X) → Mem e es → Q e) → Rises (flat_map f es)
  flat_rises f Q one two [] s q = tt
  flat_rises f Q one two (e ∷ es) s q =
      rises_both (f e) (flat_map f es) (one e (q e (inl refl))) (flat_rises f Q one two es (second _ _ s) (λ g m. q g (inr m)))
      (λ t u m n. let g = mem_of_flat f u es n in
      two e g.0 (q e (inl refl)) (q g.0 (inr g.1)) (below_entry e.0 es (first _ _ s) g.0 g.1) t u m g.2)

  -- one text of each entry
  each_rises : (f : List ℕ × X → List ℕ) → ((e g : List ℕ × X) → Before e.0 g.0 → Before (f e) (f g)) → (es : List (List ℕ × X)) → T (is_sorted name_cmp es) → Rises (map f es)
  each_rises f two [] s = tt
  each_rises f two (e ∷ es) s = (
    λ u m. let g = mem_of_map f u es m in subst (Before (f e)) (sym g.2) (two e g.0 (below_entry e.0 es (first _ _ s) g.0 g.1)),
    each_rises f two es (second _ _ s),
  )

-- ---- where a book and its cards stand
abbrev IsAt : (List ℕ → Type 0) → List ℕ × Place → Type 0
IsAt Q (k, Whole b) = (k ≡ b) × Q b
IsAt Q (k, Cards b) = (k ≡ b ++ codes "/") × Q b

abbrev AreAt : (List ℕ → Type 0) → NamesTo Place → Type 0
AreAt Q m = (k : List ℕ) (v : Place) → get m k ≡ Some v → IsAt Q (k, v)

at_more : (Q : List ℕ → Type 0) (m : NamesTo Place) (k : List ℕ) (v : Place) → IsAt Q (k, v) → AreAt Q m → AreAt Q (insert m k v)
at_more Q m k v is are q w at =
    by_names q k (λ b. cond b (Some v) (get m q) ≡ Some w → IsAt Q (q, w)) (λ here e. subst (IsAt Q) (λ i. (sym here i, same_Some v w e i)) is) (λ _ e. are q w e) (sym (put_at m k v q) ∙ at)

at_all : (Q : List ℕ → Type 0) (bs : List (List ℕ)) (m : NamesTo Place) → ((b : List ℕ) → Mem b bs → Q b) → AreAt Q m → AreAt Q (with_books m bs)
at_all Q [] m named are = are
at_all Q (b ∷ bs) m named are =
    at_all Q bs (with_book m b) (λ x k. named x (inr k))
    (at_more Q (insert m b (Whole b)) (b ++ codes "/") (Cards b) (refl, named b (inl refl)) (at_more Q m b (Whole b) (refl, named b (inl refl)) are))

-- a name does not go on with a slash
no_more : (b c r : List ℕ) → IsName c → c ≡ b ++ 47 ∷ r → ⊥
no_more b c r named e =
    no_slash c named (length b) (omega (arith, ap length e, length-append b (47 ∷ r))) (ap (λ t. get_or t (length b) 0) e ∙ get_or_at b 47 r 0 (length b) refl)

regroup : (b r : List ℕ) → (b ++ codes "/") ++ r ≡ b ++ 47 ∷ r
regroup b r = append_assoc b (codes "/") r

-- nor do a name and a slash with those of another
no_more_slash : (b c r : List ℕ) → IsName c → Before (b ++ codes "/") (c ++ codes "/") → c ++ codes "/" ≡ b ++ 47 ∷ r → ⊥
no_more_slash b c [] named before e = not_before_itself (b ++ codes "/") (subst (Before (b ++ codes "/")) e before)
no_more_slash b c (x ∷ r) named before e =
    let long : length c + 1 ≡ length b + (length r + 2) = sym (length-append c (codes "/")) ∙ ap length e ∙ length-append b (47 ∷ x ∷ r) ∙ omega arith in
    no_slash c named (length b) (omega (arith, long))
    (sym (get_or_append_left c (codes "/") 0 (length b) (omega (arith, long))) ∙ ap (λ t. get_or t (length b) 0) e ∙ get_or_at b 47 (x ∷ r) 0 (length b) refl)

-- ---- the texts of the children of a resource
fused : {X : Type 0} (g : List ℕ × X → Listed) (h : List ℕ → Path) (es : List (List ℕ × X))
    → map path_text (map h (map (λ (child : Listed). child.name) (map g es))) ≡ map (λ (e : List ℕ × X). path_text (h (g e).name)) es
fused g h [] = refl
fused g h (e ∷ es) = ap (λ rest. path_text (h (g e).name) ∷ rest) (fused g h es)

of_texts : {A : Type 0} (g : A → Path) (u : List ℕ) (xs : List A) → Mem u (map path_text (map g xs)) → (x : A) × (u ≡ path_text (g x))
of_texts g u xs m =
    let p = mem_of_map path_text u (map g xs) m in
    let x = mem_of_map g p.0 xs p.1 in (x.0, p.2 ∙ ap path_text x.2)

module _ (o : Office) (sound : IsSound o) where
  -- the books that are there
  abbrev Named : List ℕ → Type 0
  Named b = Mem b (names_at o path.Books)

  abbrev At : List ℕ × Place → Type 0
  At e = IsAt Named e

  book_there : (b : List ℕ) → Named b → (book : Book) × (get o.books b ≡ Some book)
  book_there b m =
      let child = mem_of_map (λ (child : Listed). child.name) b (children_at o path.Books) m in
      let e = mem_of_map (λ (e : List ℕ × Book). as_listed e.0 (book_resource e.1)) child.0 (entries o.books) child.1 in
      (e.0.1, ap (get o.books) (child.2 ∙ ap (λ (l : Listed). l.name) e.2) ∙ mem_get nat_list_cmp_total names_apart o.books e.0.0 e.0.1 e.1)

  book_named : (b : List ℕ) → Named b → IsName b
  book_named b m = let h = book_there b m in (sound.books b h.0 h.1).0

  abbrev texts_in : List ℕ × Place → List (List ℕ)
  texts_in e = map path_text (paths_in o e.1)

  -- each text of a place goes on where the place is
  goes_on : (e : List ℕ × Place) → At e → (t : List ℕ) → Mem t (texts_in e) → (c : List ℕ) × (t ≡ codes "/books/" ++ (e.0 ++ c))
  goes_on (k, Whole b) at t (inl e) = ([], e ∙ ap (λ x. codes "/books/" ++ x) (sym at.0 ∙ sym (append-nil k)))
  goes_on (k, Whole b) at t (inr m) = absurd m
  goes_on (k, Cards b) at t m =
      let c = of_texts (path.Card b) t (names_at o (path.Book b)) m in
      (c.0, c.1 ∙ ap (λ x. codes "/books/" ++ (x ++ c.0)) (sym at.0))

  whole_text : (k b : List ℕ) → At (k, Whole b) → (t : List ℕ) → Mem t (texts_in (k, Whole b)) → t ≡ codes "/books/" ++ k
  whole_text k b at t (inl e) = e ∙ ap (λ x. codes "/books/" ++ x) (sym at.0)
  whole_text k b at t (inr m) = absurd m

  -- the key of a later place does not go on from that of cards
  later : (k b : List ℕ) (g : List ℕ × Place) → At (k, Cards b) → At g → Before k g.0 → (r : List ℕ) → g.0 ≢ k ++ r
  later k b (l, Whole c) at at' h r e = no_more b c r (book_named c at'.1) (sym at'.0 ∙ e ∙ ap (λ x. x ++ r) at.0 ∙ regroup b r)
  later k b (l, Cards c) at at' h r e =
      no_more_slash b c r (book_named c at'.1) (subst (λ x. Before x (c ++ codes "/")) at.0 (subst (Before k) at'.0 h)) (sym at'.0 ∙ e ∙ ap (λ x. x ++ r) at.0 ∙ regroup b r)

  places_apart : (e g : List ℕ × Place) → At e → At g → Before e.0 g.0 → (t u : List ℕ) → Mem t (texts_in e) → Mem u (texts_in g) → Before t u
  places_apart (k, Whole b) g at at' h t u m n =
      let d = goes_on g at' u n in
      subst (λ x. Before x u) (sym (whole_text k b at t m)) (subst (Before (codes "/books/" ++ k)) (sym d.1) (before_more k g.0 d.0 h))
  places_apart (k, Cards b) g at at' h t u m n =
      let c = goes_on (k, Cards b) at t m in
      let d = goes_on g at' u n in
      subst (λ x. Before x u) (sym c.1) (subst (Before (codes "/books/" ++ (k ++ c.0))) (sym d.1) (before_apart k g.0 c.0 d.0 h (later k b g at at' h)))

  cards_rise : (b : List ℕ) (found : Option Book) → Rises (map path_text (map (path.Card b) (map (λ (child : Listed). child.name) (unwrap_or (option_map listed_cards found) []))))
  cards_rise b None = tt
  cards_rise b (Some book) =
      subst Rises (sym (fused (λ (e : List ℕ × StoredCard). as_listed e.0 (card_resource (number_of book e.0) e.1)) (path.Card b) (entries book.cards)))
      (each_rises (λ (e : List ℕ × StoredCard). path_text (path.Card b e.0)) (λ e g h. before_both ((codes "/books/" ++ b) ++ codes "/") e.0 g.0 h) (entries book.cards) (entries_sorted book.cards))

  place_rises : (e : List ℕ × Place) → Rises (texts_in e)
  place_rises (k, Whole b) = (λ u m. absurd m, tt)
  place_rises (k, Cards b) = cards_rise b (get o.books b)

  abbrev all_places : NamesTo Place
  all_places = with_books empty (names_at o path.Books)

  are_at : (e : List ℕ × Place) → Mem e (entries all_places) → At e
  are_at e m =
      at_all Named (names_at o path.Books) empty (λ b m. m) (λ k v at. absurd (some_apart (sym at ∙ get-empty name_cmp k))) e.0 e.1
      (mem_get nat_list_cmp_total names_apart all_places e.0 e.1 m)

  abbrev shelf_texts : List (List ℕ)
  shelf_texts = flat_map texts_in (entries all_places)

  shelves_rise : Rises shelf_texts
  shelves_rise = flat_rises texts_in At (λ e _. place_rises e) places_apart (entries all_places) (entries_sorted all_places) are_at

  shelf_text : (t : List ℕ) → Mem t shelf_texts → (x : List ℕ) × (t ≡ codes "/books/" ++ x)
  shelf_text t m =
      let e = mem_of_flat texts_in t (entries all_places) m in
      let c = goes_on e.0 (are_at e.0 e.1) t e.2 in (e.0.0 ++ c.0, c.1)

  -- ---- groups and persons
  abbrev group_texts : List (List ℕ)
  group_texts = map path_text (map path.Group (names_at o path.Groups))

  abbrev person_texts : List (List ℕ)
  person_texts = map path_text (map path.Person (names_at o path.People))

  groups_rise : Rises group_texts
  groups_rise =
      subst Rises (sym (fused (λ (e : List ℕ × Properties). as_listed e.0 (properties_resource kind.Group 0 e.1)) path.Group (entries o.groups)))
      (each_rises (λ (e : List ℕ × Properties). path_text (path.Group e.0)) (λ e g h. h) (entries o.groups) (entries_sorted o.groups))

  persons_rise : Rises person_texts
  persons_rise =
      subst Rises (sym (fused (λ (e : List ℕ × Properties). as_listed e.0 (properties_resource kind.Person 0 e.1)) path.Person (entries o.persons)))
      (each_rises (λ (e : List ℕ × Properties). path_text (path.Person e.0)) (λ e g h. h) (entries o.persons) (entries_sorted o.persons))

  abbrev people_texts : List (List ℕ)
  people_texts = codes "/people" ∷ person_texts

  people_rise : Rises people_texts
  people_rise = (λ u m. let x = of_texts path.Person u (names_at o path.People) m in subst (Before (codes "/people")) (sym x.1) refl, persons_rise)

  -- what comes from the home of the persons on
  in_people : (u : List ℕ) → Mem u people_texts → (x : List ℕ) × (u ≡ codes "/people" ++ x)
  in_people u (inl e) = ([], e)
  in_people u (inr m) = let x = of_texts path.Person u (names_at o path.People) m in (codes "/" ++ x.0, x.1)

  principals_rise : Rises (group_texts ++ people_texts)
  principals_rise = rises_both group_texts people_texts groups_rise people_rise (λ t u m n.
      let x = of_texts path.Group t (names_at o path.Groups) m in
      let y = in_people u n in
      subst (λ z. Before z u) (sym x.1) (subst (Before (path_text (path.Group x.0))) (sym y.1) refl))

  abbrev after_texts : List (List ℕ)
  after_texts = codes "/groups" ∷ (group_texts ++ people_texts)

  after_rise : Rises after_texts
  after_rise = (
    λ u m. elim (mem_split u group_texts people_texts m) [
      | inl h ↦ let x = of_texts path.Group u (names_at o path.Groups) h in subst (Before (codes "/groups")) (sym x.1) refl
      | inr h ↦ let y = in_people u h in subst (Before (codes "/groups")) (sym y.1) refl
    ],
    principals_rise,
  )

  -- what comes after the books begins with a slash and a later letter
  in_after : (u : List ℕ) → Mem u after_texts → ((x : List ℕ) × (u ≡ codes "/groups" ++ x)) ⊎ ((x : List ℕ) × (u ≡ codes "/people" ++ x))
  in_after u (inl e) = inl ([], e)
  in_after u (inr m) = elim (mem_split u group_texts people_texts m) [
    | inl h ↦ let x = of_texts path.Group u (names_at o path.Groups) h in inl (codes "/" ++ x.0, x.1)
    | inr h ↦ inr (in_people u h)
  ]

  below_after : (t : List ℕ) → ((x : List ℕ) → Before t (codes "/groups" ++ x)) → ((x : List ℕ) → Before t (codes "/people" ++ x)) → (u : List ℕ) → Mem u after_texts → Before t u
  below_after t groups people u m = elim (in_after u m) [
    | inl h ↦ subst (Before t) (sym h.1) (groups h.0)
    | inr h ↦ subst (Before t) (sym h.1) (people h.0)
  ]

  abbrev books_texts : List (List ℕ)
  books_texts = shelf_texts ++ after_texts

  books_rise : Rises books_texts
  books_rise = rises_both shelf_texts after_texts shelves_rise after_rise (λ t u m n.
      let x = shelf_text t m in
      subst (λ z. Before z u) (sym x.1) (below_after (codes "/books/" ++ x.0) (λ y. refl) (λ y. refl) u n))

  below_books : (t : List ℕ) → ((x : List ℕ) → Before t (codes "/books/" ++ x)) → ((x : List ℕ) → Before t (codes "/groups" ++ x)) → ((x : List ℕ) → Before t (codes "/people" ++ x)) → (u : List ℕ) → Mem u books_texts → Before t u
  below_books t books groups people u m = elim (mem_split u shelf_texts after_texts m) [
    | inl h ↦ let x = shelf_text u h in subst (Before t) (sym x.1) (books x.0)
    | inr h ↦ below_after t groups people u h
  ]

  all_rise : Rises (codes "/" ∷ codes "/books" ∷ books_texts)
  all_rise = (
    λ u m. elim m [
      | inl e ↦ subst (Before (codes "/")) (sym e) refl
      | inr h ↦ below_books (codes "/") (λ x. refl) (λ x. refl) (λ x. refl) u h
    ],
    (λ u m. below_books (codes "/books") (λ x. refl) (λ x. refl) (λ x. refl) u m, books_rise),
  )

  places_flat : (es : List (List ℕ × Place)) → map path_text (flat_map (paths_in o) (map (λ e. e.1) es)) ≡ flat_map texts_in es
  places_flat [] = refl
  places_flat (e ∷ es) = map-append path_text (paths_in o e.1) (flat_map (paths_in o) (map (λ e. e.1) es)) ∙ ap (λ rest. texts_in e ++ rest) (places_flat es)

  texts_are : map path_text (paths_of o) ≡ codes "/" ∷ codes "/books" ∷ books_texts
  texts_are =
      let groups = map path.Group (names_at o path.Groups) in
      let people = path.People ∷ map path.Person (names_at o path.People) in
      let after : map path_text (after_books o) ≡ after_texts = ap (λ rest. codes "/groups" ∷ rest) (map-append path_text groups people) in
      ap (λ rest. codes "/" ∷ codes "/books" ∷ rest)
      (map-append path_text (flat_map (paths_in o) (places_of o)) (after_books o) ∙ (λ i. places_flat (entries all_places) i ++ after i))

  pub paths_rise : IsStrictlySortedBy path_cmp (map path_text (paths_of o))
  paths_rise = subst (IsStrictlySortedBy path_cmp) (sym texts_are) (rises_sorted _ all_rise)

  -- ---- nothing else is told
  abbrev IsThere : Path → Type 0
  IsThere p = (r : Resource) × (resource_at o p ≡ Some r)

  person_there : (n : List ℕ) → Mem n (names_at o path.People) → IsThere (path.Person n)
  person_there n m =
      let child = mem_of_map (λ (child : Listed). child.name) n (children_at o path.People) m in
      let e = mem_of_map (λ (e : List ℕ × Properties). as_listed e.0 (properties_resource kind.Person 0 e.1)) child.0 (entries o.persons) child.1 in
      let at = ap (get o.persons) (child.2 ∙ ap (λ (l : Listed). l.name) e.2) ∙ mem_get nat_list_cmp_total names_apart o.persons e.0.0 e.0.1 e.1 in
      (properties_resource kind.Person 0 e.0.1, ap (option_map (properties_resource kind.Person 0)) at)

  group_there : (n : List ℕ) → Mem n (names_at o path.Groups) → IsThere (path.Group n)
  group_there n m =
      let child = mem_of_map (λ (child : Listed). child.name) n (children_at o path.Groups) m in
      let e = mem_of_map (λ (e : List ℕ × Properties). as_listed e.0 (properties_resource kind.Group 0 e.1)) child.0 (entries o.groups) child.1 in
      let at = ap (get o.groups) (child.2 ∙ ap (λ (l : Listed). l.name) e.2) ∙ mem_get nat_list_cmp_total names_apart o.groups e.0.0 e.0.1 e.1 in
      (properties_resource kind.Group 0 e.0.1, ap (option_map (properties_resource kind.Group 0)) at)

  card_there : (b c : List ℕ) (found : Option Book) → get o.books b ≡ found → Mem c (map (λ (child : Listed). child.name) (unwrap_or (option_map listed_cards found) [])) → IsThere (path.Card b c)
  card_there b c None at m = absurd m
  card_there b c (Some book) at m =
      let child = mem_of_map (λ (child : Listed). child.name) c (listed_cards book) m in
      let e = mem_of_map (λ (e : List ℕ × StoredCard). as_listed e.0 (card_resource (number_of book e.0) e.1)) child.0 (entries book.cards) child.1 in
      let got = ap (get book.cards) (child.2 ∙ ap (λ (l : Listed). l.name) e.2) ∙ mem_get nat_list_cmp_total names_apart book.cards e.0.0 e.0.1 e.1 in
      (card_resource (number_of book c) e.0.1, ap (option_and_then (λ (book : Book). card_in book c)) at ∙ ap (option_map (card_resource (number_of book c))) got)

  place_there : (v : Place) → ((k : List ℕ) × At (k, v)) → (p : Path) → Mem p (paths_in o v) → IsThere p
  place_there (Whole b) h p (inl e) = let book = book_there b h.1.1 in subst IsThere (sym e) (book_resource book.0, ap (option_map book_resource) book.1)
  place_there (Whole b) h p (inr m) = absurd m
  place_there (Cards b) h p m =
      let c = mem_of_map (path.Card b) p (names_at o (path.Book b)) m in
      subst IsThere (sym c.2) (card_there b c.0 (get o.books b) refl c.1)

  pub path_there : (p : Path) → Mem p (paths_of o) → IsThere p
  path_there p (inl e) = subst IsThere (sym e) (properties_resource kind.Root 0 o.root, refl)
  path_there p (inr (inl e)) = subst IsThere (sym e) (properties_resource kind.Home 0 o.books_home, refl)
  path_there p (inr (inr m)) = elim (mem_split p (flat_map (paths_in o) (places_of o)) (after_books o) m) [
    | inl h ↦
        let v = mem_of_flat (paths_in o) p (places_of o) h in
        let e = mem_of_map (λ (e : List ℕ × Place). e.1) v.0 (entries all_places) v.1 in
        place_there v.0 (e.0.0, subst (λ w. At (e.0.0, w)) (sym e.2) (are_at e.0 e.1)) p v.2
    | inr h ↦ after_there p h
  ]
    where
      after_there : (p : Path) → Mem p (after_books o) → IsThere p
      after_there p (inl e) = subst IsThere (sym e) (properties_resource kind.Home 0 o.groups_home, refl)
      after_there p (inr m) = elim (mem_split p (map path.Group (names_at o path.Groups)) (path.People ∷ map path.Person (names_at o path.People)) m) [
        | inl h ↦ let n = mem_of_map path.Group p (names_at o path.Groups) h in subst IsThere (sym n.2) (group_there n.0 n.1)
        | inr (inl e) ↦ subst IsThere (sym e) (properties_resource kind.Home 0 o.people, refl)
        | inr (inr h) ↦ let n = mem_of_map path.Person p (names_at o path.People) h in subst IsThere (sym n.2) (person_there n.0 n.1)
      ]
