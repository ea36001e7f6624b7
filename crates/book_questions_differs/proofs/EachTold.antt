-- Each resource of two Offices is told, once.
use Rattle.book_questions_differs.proofs.Common.{◌≡◌, ◌++◌, ◌∷◌, ◌∙◌, [], ℕ, Bool, true, false, List, Option, Some, None, ap, empty, gathered, map, nat_list_cmp_total, names_apart, refl, subst, sym, Block, NamesTo, Office}
use Rattle.std.proofs.Common.{◌≢◌, ◌⊎◌, Contains, cond, filter, inl, inr, is_some, not, option_map}
use Rattle.std.specs.List.{count_by}
use Rattle.std.specs.FinMap.{entries, get, get-empty, insert}
use Rattle.std.proofs.lemmas.Bool.{false≢true}
use Rattle.std.proofs.lemmas.Option.{same_Some}
use Rattle.book_lists.specs.Names.{name_cmp}
use Rattle.book_office.proofs.StandingResources.{resources_stand_in_place}
use Rattle.book_office.specs.Resources.{Resource, as_listed, book_resource, children_at, node_of, properties_resource, resource_at}
use Rattle.book_office.specs.Sound.{IsSound}
use Rattle.book_office.specs.declared.nodes.Listed.{Listed}
use Rattle.book_office_values.proofs.Members.{get_mem, mem_get}
use Rattle.book_office_values.proofs.NameMapLaws.{by_same, put_at, same_itself}
use Rattle.book_office_values.proofs.OneName.{some_apart}
use Rattle.book_office_values.proofs.Spelling.{one_text}
use Rattle.book_office_values.specs.Paths.{IsPath, card_path, path_text}
use Rattle.book_office_values.specs.declared.offices.Book.{Book}
use Rattle.book_office_values.specs.declared.offices.Properties.{Properties}
use Rattle.book_office_values.specs.declared.paths.Kind.TheVariants as kind
use Rattle.book_office_values.specs.declared.paths.Path.{Path}
use Rattle.book_office_values.specs.declared.paths.Path.TheVariants as path
use Rattle.book_questions_rights.proofs.Elements.{Mem, contains_of, mem_flat, mem_left, mem_map, mem_of, mem_of_flat, mem_of_map, mem_right, mem_split}
use Rattle.book_questions_rights.specs.Places.{asked_below, cards_of, child_of, in_home, is_itself}
use Rattle.book_questions_differs.specs.Differences.{blocks_at, blocks_of}
use Rattle.book_questions_differs.specs.Laws.{EachIsTold, IsInEither, classes_at}
use Rattle.book_questions_differs.specs.Lines.{class_block, own_block, spot_with}
use Rattle.book_questions_differs.specs.Pairs.{PairClass, are_alike, classes_of, paired}
use Rattle.book_questions_differs.specs.Places.{is_missing, paths_of_either, side_at}
use Rattle.book_questions_differs.specs.declared.pairs.CardPair.{CardPair}
use Rattle.book_questions_differs.specs.declared.parties.Party.{Party}
use Rattle.book_questions_differs.specs.declared.places.Spot.{Spot}
use Rattle.book_questions_differs.proofs.Classes.{pairs_have_one_class}
use Rattle.book_questions_differs.proofs.Holding.{book_there}
use Rattle.book_questions_differs.proofs.Pairing.{none_paired, of_paired, pair_at, pairs_at}

-- ---- what is gathered
pub found : (m : NamesTo (List ℕ)) (bs : List Block) (k v : List ℕ) → get (gathered m bs) k ≡ Some v → (get m k ≡ Some v) ⊎ Mem (k, v) bs
found m [] k v e = inl e
found m (b ∷ bs) k v e = elim (found (insert m b.0 b.1) bs k v e) [
  | inl h ↦ by_same k b.0 (λ t. cond t (Some b.1) (get m k) ≡ Some v → (get m k ≡ Some v) ⊎ Mem (k, v) (b ∷ bs))
      (λ here is. inr (inl (λ i. (here i, sym (same_Some _ _ is) i)))) (λ is. inl is) (sym (put_at m b.0 b.1 k) ∙ h)
  | inr h ↦ inr (inr h)
]

stays : (m : NamesTo (List ℕ)) (bs : List Block) (k v : List ℕ) → get m k ≡ Some v → (w : List ℕ) × (get (gathered m bs) k ≡ Some w)
stays m [] k v e = (v, e)
stays m (b ∷ bs) k v e =
    let h : (w : List ℕ) × (get (insert m b.0 b.1) k ≡ Some w) =
    subst (λ r. (w : List ℕ) × (r ≡ Some w)) (sym (put_at m b.0 b.1 k)) (by_same k b.0 (λ t. (w : List ℕ) × (cond t (Some b.1) (get m k) ≡ Some w)) (λ here. (b.1, refl)) (v, e)) in
    stays (insert m b.0 b.1) bs k h.0 h.1

pub there : (m : NamesTo (List ℕ)) (bs : List Block) (b : Block) → Mem b bs → (w : List ℕ) × (get (gathered m bs) b.0 ≡ Some w)
there m [] b h = absurd h
there m (c ∷ bs) b (inl e) =
    stays (insert m c.0 c.1) bs b.0 c.1
    (ap (get (insert m c.0 c.1)) (ap (λ (p : Block). p.0) e) ∙ put_at m c.0 c.1 c.0 ∙ ap (λ t. cond t (Some c.1) (get m c.0)) (same_itself c.0))
there m (c ∷ bs) b (inr h) = there (insert m c.0 c.1) bs b h

-- ---- what passes a test
mem_filter : {A : Type 0} (test : A → Bool) (x : A) (xs : List A) → Mem x xs → test x ≡ true → Mem x (filter test xs)
mem_filter test x [] m t = absurd m
mem_filter test x (y ∷ ys) (inl e) t = subst (λ b. Mem x (cond b (y ∷ filter test ys) (filter test ys))) (sym (sym (ap test e) ∙ t)) (inl e)
mem_filter test x (y ∷ ys) (inr m) t =
    elim (test y) as (λ b. Mem x (cond b (y ∷ filter test ys) (filter test ys))) [ true ↦ inr (mem_filter test x ys m t) | false ↦ mem_filter test x ys m t ]

filter_mem : {A : Type 0} (test : A → Bool) (x : A) (xs : List A) → Mem x (filter test xs) → Mem x xs
filter_mem test x [] m = absurd m
filter_mem test x (y ∷ ys) m = elim (test y) as (λ b. Mem x (cond b (y ∷ filter test ys) (filter test ys)) → Mem x (y ∷ ys)) [
  | true ↦ λ k. elim k [ inl e ↦ inl e | inr r ↦ inr (filter_mem test x ys r) ]
  | false ↦ λ k. inr (filter_mem test x ys k)
] m

-- ---- the resources of one Office
some_is : {A : Type 0} (x : A) (y : Option A) → y ≡ Some x → y ≢ None
some_is x y is none = let clash : Some x ≡ None = sym is ∙ none in cc

module _ (o : Office) where
  -- what is asked about is no card, and is there
  abbrev IsAsked : Path → Type 0
  IsAsked q = (is_itself q ≡ true) × (resource_at o q ≢ None)

  in_people : (q : Path) → Mem q (in_home o path.People) → IsAsked q
  in_people q (inl e) = subst IsAsked (sym e) (refl, some_is _ _ refl)
  in_people q (inr m) =
      let a = mem_of_map (λ (child : Listed). child_of path.People child.name) q (children_at o path.People) m in
      let e = mem_of_map (λ (e : List ℕ × Properties). as_listed e.0 (properties_resource kind.Person 0 e.1)) a.0 (entries o.persons) a.1 in
      let at = mem_get nat_list_cmp_total names_apart o.persons e.0.0 e.0.1 e.1 in
      subst IsAsked (sym (a.2 ∙ ap (λ (child : Listed). path.Person child.name) e.2)) (refl, some_is _ _ (ap (option_map (properties_resource kind.Person 0)) at))

  in_groups : (q : Path) → Mem q (in_home o path.Groups) → IsAsked q
  in_groups q (inl e) = subst IsAsked (sym e) (refl, some_is _ _ refl)
  in_groups q (inr m) =
      let a = mem_of_map (λ (child : Listed). child_of path.Groups child.name) q (children_at o path.Groups) m in
      let e = mem_of_map (λ (e : List ℕ × Properties). as_listed e.0 (properties_resource kind.Group 0 e.1)) a.0 (entries o.groups) a.1 in
      let at = mem_get nat_list_cmp_total names_apart o.groups e.0.0 e.0.1 e.1 in
      subst IsAsked (sym (a.2 ∙ ap (λ (child : Listed). path.Group child.name) e.2)) (refl, some_is _ _ (ap (option_map (properties_resource kind.Group 0)) at))

  in_books : (q : Path) → Mem q (in_home o path.Books) → IsAsked q
  in_books q (inl e) = subst IsAsked (sym e) (refl, some_is _ _ refl)
  in_books q (inr m) =
      let a = mem_of_map (λ (child : Listed). child_of path.Books child.name) q (children_at o path.Books) m in
      let e = mem_of_map (λ (e : List ℕ × Book). as_listed e.0 (book_resource e.1)) a.0 (entries o.books) a.1 in
      let at = mem_get nat_list_cmp_total names_apart o.books e.0.0 e.0.1 e.1 in
      subst IsAsked (sym (a.2 ∙ ap (λ (child : Listed). path.Book child.name) e.2)) (refl, some_is _ _ (ap (option_map book_resource) at))

  asked : (q : Path) → Mem q (asked_below o path.Root) → IsAsked q
  asked q (inl e) = subst IsAsked (sym e) (refl, some_is _ _ refl)
  asked q (inr m) = elim (mem_split q (in_home o path.People) (in_home o path.Groups ++ in_home o path.Books) m) [
    | inl h ↦ in_people q h
    | inr n ↦ elim (mem_split q (in_home o path.Groups) (in_home o path.Books) n) [ inl h ↦ in_groups q h | inr h ↦ in_books q h ]
  ]

  -- each resource that is no card is asked about
  people_first : (q : Path) → Mem q (in_home o path.People) → Mem q (asked_below o path.Root)
  people_first q m = inr (mem_left q (in_home o path.People) (in_home o path.Groups ++ in_home o path.Books) m)

  groups_next : (q : Path) → Mem q (in_home o path.Groups) → Mem q (asked_below o path.Root)
  groups_next q m = inr (mem_right q (in_home o path.People) (in_home o path.Groups ++ in_home o path.Books) (mem_left q (in_home o path.Groups) (in_home o path.Books) m))

  books_last : (q : Path) → Mem q (in_home o path.Books) → Mem q (asked_below o path.Root)
  books_last q m = inr (mem_right q (in_home o path.People) (in_home o path.Groups ++ in_home o path.Books) (mem_right q (in_home o path.Groups) (in_home o path.Books) m))

  is_asked : (q : Path) → is_itself q ≡ true → resource_at o q ≢ None → Mem q (asked_below o path.Root)
  is_asked path.Root is h = inl refl
  is_asked path.People is h = people_first path.People (inl refl)
  is_asked path.Groups is h = groups_next path.Groups (inl refl)
  is_asked path.Books is h = books_last path.Books (inl refl)
  is_asked (path.Person n) is h = people_first (path.Person n) (go (get o.persons n) refl h)
    where
      go : (x : Option Properties) → get o.persons n ≡ x → option_map (properties_resource kind.Person 0) x ≢ None → Mem (path.Person n) (in_home o path.People)
      go None at k = absurd (k refl)
      go (Some x) at k = inr (mem_map (λ (child : Listed). child_of path.People child.name) (as_listed n (properties_resource kind.Person 0 x)) (children_at o path.People)
          (mem_map (λ (e : List ℕ × Properties). as_listed e.0 (properties_resource kind.Person 0 e.1)) (n, x) (entries o.persons) (get_mem nat_list_cmp_total names_apart o.persons n x at)))
  is_asked (path.Group n) is h = groups_next (path.Group n) (go (get o.groups n) refl h)
    where
      go : (x : Option Properties) → get o.groups n ≡ x → option_map (properties_resource kind.Group 0) x ≢ None → Mem (path.Group n) (in_home o path.Groups)
      go None at k = absurd (k refl)
      go (Some x) at k = inr (mem_map (λ (child : Listed). child_of path.Groups child.name) (as_listed n (properties_resource kind.Group 0 x)) (children_at o path.Groups)
          (mem_map (λ (e : List ℕ × Properties). as_listed e.0 (properties_resource kind.Group 0 e.1)) (n, x) (entries o.groups) (get_mem nat_list_cmp_total names_apart o.groups n x at)))
  is_asked (path.Book b) is h = books_last (path.Book b) (go (get o.books b) refl h)
    where
      go : (x : Option Book) → get o.books b ≡ x → option_map book_resource x ≢ None → Mem (path.Book b) (in_home o path.Books)
      go None at k = absurd (k refl)
      go (Some x) at k = inr (mem_map (λ (child : Listed). child_of path.Books child.name) (as_listed b (book_resource x)) (children_at o path.Books)
          (mem_map (λ (e : List ℕ × Book). as_listed e.0 (book_resource e.1)) (b, x) (entries o.books) (get_mem nat_list_cmp_total names_apart o.books b x at)))
  is_asked (path.Card b c) is h = absurd (false≢true is)

-- ---- the resources of two Offices
module _ (o p : Office) where
  abbrev all : List Path
  all = paths_of_either o p

  pub in_either : (q : Path) → Mem q all → (is_itself q ≡ true) × IsInEither o p q
  in_either q m = elim (mem_split q (asked_below o path.Root) (filter (is_missing o) (asked_below p path.Root)) m) [
    | inl h ↦ let k = asked o q h in (k.0, inl k.1)
    | inr h ↦ let k = asked p q (filter_mem (is_missing o) q (asked_below p path.Root) h) in (k.0, inr k.1)
  ]

  pub either_in : (q : Path) → is_itself q ≡ true → IsInEither o p q → Mem q all
  either_in q is h = go (resource_at o q) refl h
    where
      go : (r : Option Resource) → resource_at o q ≡ r → IsInEither o p q → Mem q all
      go (Some r) at k = mem_left q (asked_below o path.Root) (filter (is_missing o) (asked_below p path.Root)) (is_asked o q is (some_is r _ at))
      go None at k = mem_right q (asked_below o path.Root) (filter (is_missing o) (asked_below p path.Root)) (elim k [
        | inl h ↦ absurd (h at)
        | inr h ↦ mem_filter (is_missing o) q (asked_below p path.Root) (is_asked p q is h) (ap (λ found. not (is_some (option_map node_of found))) at)
      ])

  -- the book of a card that is in one of them is in one of them
  book_in : (b c : List ℕ) → IsInEither o p (path.Card b c) → IsInEither o p (path.Book b)
  book_in b c (inl h) = inl (go (resource_at o (path.Card b c)) refl h)
    where
      go : (r : Option Resource) → resource_at o (path.Card b c) ≡ r → r ≢ None → resource_at o (path.Book b) ≢ None
      go None at k = absurd (k refl)
      go (Some r) at k = book_there o b c r at
  book_in b c (inr h) = inr (go (resource_at p (path.Card b c)) refl h)
    where
      go : (r : Option Resource) → resource_at p (path.Card b c) ≡ r → r ≢ None → resource_at p (path.Book b) ≢ None
      go None at k = absurd (k refl)
      go (Some r) at k = book_there p b c r at

  pub named_in_either : IsSound o → IsSound p → (q : Path) → IsInEither o p q → IsPath q
  named_in_either sound_o sound_p q (inl h) = go (resource_at o q) refl h
    where
      go : (r : Option Resource) → resource_at o q ≡ r → r ≢ None → IsPath q
      go None at k = absurd (k refl)
      go (Some r) at k = (resources_stand_in_place o sound_o q r at).named
  named_in_either sound_o sound_p q (inr h) = go (resource_at p q) refl h
    where
      go : (r : Option Resource) → resource_at p q ≡ r → r ≢ None → IsPath q
      go None at k = absurd (k refl)
      go (Some r) at k = (resources_stand_in_place p sound_p q r at).named

  -- the card of a class is in one of the Offices
  pub class_of : (b : List ℕ) (class : PairClass) → Mem class (classes_at o p b) → (class.pair ≡ pair_at o p b class.pair.name) × IsInEither o p (path.Card b class.pair.name)
  class_of b class m =
      of_paired o p b class.pair (mem_of class.pair (pairs_at o p b) ((pairs_have_one_class (pairs_at o p b)).there class (contains_of class (classes_at o p b) m)))

  module _ (parties : List Party) (sound_o : IsSound o) (sound_p : IsSound p) where
    abbrev spot : Path → Spot
    spot at = spot_with at (side_at o at) (side_at p at)

    abbrev blocks : List Block
    blocks = blocks_of o p parties all

    -- a block is that of a resource, or of a class
    abbrev IsOwn : Block → Type 0
    IsOwn y = (q : Path) × (is_itself q ≡ true) × IsInEither o p q × (y ≡ own_block parties (spot q))

    abbrev IsOfClass : Block → Type 0
    IsOfClass y = (b : List ℕ) × (class : PairClass) × Mem class (classes_at o p b) × (y ≡ class_block parties (spot (path.Book b)) class)

    no_class : (y : Block) (q : Path) → cards_of o q ≡ [] → cards_of p q ≡ [] → Mem y (map (class_block parties (spot q)) (classes_of (paired (cards_of o q) (cards_of p q)))) → IsOfClass y
    no_class y q was is m =
        let none : classes_of (paired (cards_of o q) (cards_of p q)) ≡ [] = (λ i. classes_of (paired (was i) (is i))) ∙ ap classes_of none_paired in
        absurd (subst (λ (k : List PairClass). Mem y (map (class_block parties (spot q)) k)) none m)

    class_told : (q : Path) (y : Block) → Mem y (map (class_block parties (spot q)) (classes_of (paired (cards_of o q) (cards_of p q)))) → is_itself q ≡ true → IsOfClass y
    class_told path.Root y m is = no_class y path.Root refl refl m
    class_told path.People y m is = no_class y path.People refl refl m
    class_told path.Groups y m is = no_class y path.Groups refl refl m
    class_told path.Books y m is = no_class y path.Books refl refl m
    class_told (path.Person n) y m is = no_class y (path.Person n) refl refl m
    class_told (path.Group n) y m is = no_class y (path.Group n) refl refl m
    class_told (path.Book b) y m is =
        let k = mem_of_map (class_block parties (spot (path.Book b))) y (classes_at o p b) m in
        (b, k.0, k.1, k.2)
    class_told (path.Card b c) y m is = absurd (false≢true is)

    each_told : (y : Block) → Mem y blocks → IsOwn y ⊎ IsOfClass y
    each_told y m =
        let k = mem_of_flat (blocks_at o p parties) y all m in
        let e = in_either k.0 k.1 in
        elim k.2 [ inl is ↦ inl (k.0, e.0, e.1, is) | inr h ↦ inr (class_told k.0 y h e.0) ]

    -- ---- one block has a key
    apart : (q : Path) (b c : List ℕ) → is_itself q ≡ true → q ≡ path.Card b c → ⊥
    apart q b c is e = false≢true (sym (ap is_itself e) ∙ is)

    same_class : (b b2 : List ℕ) (k l : PairClass) → Mem k (classes_at o p b) → Mem l (classes_at o p b2)
        → path.Card b k.pair.name ≡ path.Card b2 l.pair.name → class_block parties (spot (path.Book b)) k ≡ class_block parties (spot (path.Book b2)) l
    same_class b b2 k l m n e =
        let same_b : b2 ≡ b = cc in
        let same_c : k.pair.name ≡ l.pair.name = cc in
        let n2 : Mem l (classes_at o p b) = subst (λ x. Mem l (classes_at o p x)) same_b n in
        let one = pairs_have_one_class (pairs_at o p b) in
        let same_pair : k.pair ≡ l.pair = (class_of b k m).0 ∙ ap (pair_at o p b) same_c ∙ sym (class_of b l n2).0 in
        let same_count : k.count ≡ l.count =
        one.counted k (contains_of k (classes_at o p b) m) ∙ ap (λ (c : CardPair). count_by (are_alike c) (pairs_at o p b)) same_pair ∙ sym (one.counted l (contains_of l (classes_at o p b) n2)) in
        λ i. class_block parties (spot (path.Book (sym same_b i))) (record { pair = same_pair i; count = same_count i })

    one_block : (y z : Block) → IsOwn y ⊎ IsOfClass y → IsOwn z ⊎ IsOfClass z → y.0 ≡ z.0 → y ≡ z
    one_block y z (inl (q, a, m, is)) (inl (r, c, n, also)) e =
        let keys : path_text q ≡ path_text r = ap (λ (x : Block). x.0) (sym is) ∙ e ∙ ap (λ (x : Block). x.0) also in
        is ∙ ap (λ x. own_block parties (spot x)) (one_text q r (named_in_either sound_o sound_p q m) (named_in_either sound_o sound_p r n) keys) ∙ sym also
    one_block y z (inl (q, a, m, is)) (inr (b, k, n, also)) e =
        let keys : path_text q ≡ path_text (path.Card b k.pair.name) = ap (λ (x : Block). x.0) (sym is) ∙ e ∙ ap (λ (x : Block). x.0) also in
        absurd (apart q b k.pair.name a (one_text q (path.Card b k.pair.name) (named_in_either sound_o sound_p q m) (named_in_either sound_o sound_p (path.Card b k.pair.name) (class_of b k n).1) keys))
    one_block y z (inr (b, k, n, also)) (inl (q, a, m, is)) e =
        let keys : path_text q ≡ path_text (path.Card b k.pair.name) = ap (λ (x : Block). x.0) (sym is) ∙ sym e ∙ ap (λ (x : Block). x.0) also in
        absurd (apart q b k.pair.name a (one_text q (path.Card b k.pair.name) (named_in_either sound_o sound_p q m) (named_in_either sound_o sound_p (path.Card b k.pair.name) (class_of b k n).1) keys))
    one_block y z (inr (b, k, n, is)) (inr (b2, l, n2, also)) e =
        let keys : path_text (path.Card b k.pair.name) ≡ path_text (path.Card b2 l.pair.name) = ap (λ (x : Block). x.0) (sym is) ∙ e ∙ ap (λ (x : Block). x.0) also in
        let same = one_text (path.Card b k.pair.name) (path.Card b2 l.pair.name) (named_in_either sound_o sound_p (path.Card b k.pair.name) (class_of b k n).1) (named_in_either sound_o sound_p (path.Card b2 l.pair.name) (class_of b2 l n2).1) keys in
        is ∙ same_class b b2 k l n n2 same ∙ sym also

    -- ---- what the map has at a key
    has : (y : Block) → Mem y blocks → get (gathered empty blocks) y.0 ≡ Some y.1
    has y m =
        let w = there empty blocks y m in
        w.1 ∙ elim (found empty blocks y.0 w.0 w.1) [
          | inl h ↦ some_apart (sym h ∙ get-empty name_cmp y.0)
          | inr h ↦ ap (λ (x : Block). Some x.1) (one_block (y.0, w.0) y (each_told (y.0, w.0) h) (each_told y m) refl)
        ]

    own_told : (q : Path) → is_itself q ≡ true → IsInEither o p q → get (gathered empty blocks) (path_text q) ≡ Some (own_block parties (spot q)).1
    own_told q is h = has (own_block parties (spot q)) (mem_flat (blocks_at o p parties) (own_block parties (spot q)) q all (either_in q is h) (inl refl))

    class_has : (b : List ℕ) (class : PairClass) → Mem class (classes_at o p b)
        → get (gathered empty blocks) (card_path b class.pair.name) ≡ Some (class_block parties (spot (path.Book b)) class).1
    class_has b class m =
        let y : Block = class_block parties (spot (path.Book b)) class in
        let h = book_in b class.pair.name (class_of b class m).1 in
        has y (mem_flat (blocks_at o p parties) y (path.Book b) all (either_in (path.Book b) refl h) (inr (mem_map (class_block parties (spot (path.Book b))) class (classes_at o p b) m)))

    abbrev IsTold : List ℕ → Type 0
    IsTold text = ((at : Path) × (is_itself at ≡ true) × IsInEither o p at × (text ≡ path_text at))
        ⊎ ((b : List ℕ) × (class : PairClass) × Contains (classes_at o p b) class × (text ≡ card_path b class.pair.name))

    only : (text : List ℕ) (g : Option (List ℕ)) → get (gathered empty blocks) text ≡ g → g ≢ None → IsTold text
    only text None h some = absurd (some refl)
    only text (Some w) h some = elim (found empty blocks text w h) [
      | inl none ↦ some_apart (sym none ∙ get-empty name_cmp text)
      | inr m ↦ elim (each_told (text, w) m) [
        | inl own ↦ inl (own.0, own.1, own.2, ap (λ (x : Block). x.0) own.3)
        | inr k ↦ inr (k.0, k.1, contains_of k.1 (classes_at o p k.0) k.2, ap (λ (x : Block). x.0) k.3)
      ]
    ]

pub each_is_told : EachIsTold
each_is_told o p parties sound_o sound_p = record {
  resources = λ at is h. own_told o p parties sound_o sound_p at is h;
  classes = λ b class among. class_has o p parties sound_o sound_p b class (mem_of class (classes_at o p b) among);
  only = λ text some. only o p parties sound_o sound_p text _ refl some;
}
