-- Each resource is told, once.
use Rattle.book_questions_rights.proofs.Common.{◌≡◌, ◌++◌, ◌∷◌, ◌∙◌, [], ℕ, true, false, List, Option, Some, None, ap, empty, flat_map, gathered, map, nat_list_cmp_total, names_apart, refl, subst, sym, Block, NamesTo, Office}
use Rattle.std.proofs.Common.{◌≢◌, ◌⊎◌, Contains, cond, inl, inr, option_and_then, option_map, unwrap_or}
use Rattle.std.specs.List.{count_by}
use Rattle.std.specs.FinMap.{entries, get, get-empty, insert}
use Rattle.std.proofs.lemmas.Bool.{false≢true}
use Rattle.std.proofs.lemmas.Option.{same_Some}
use Rattle.book_lists.specs.Names.{name_cmp}
use Rattle.book_office.proofs.StandingResources.{resources_stand_in_place}
use Rattle.book_office.specs.Resources.{Resource, as_listed, book_resource, card_in, card_resource, children_at, listed_cards, number_of, properties_resource, resource_at}
use Rattle.book_office.specs.Sound.{IsSound}
use Rattle.book_office.specs.declared.nodes.Listed.{Listed}
use Rattle.book_office_values.proofs.Members.{mem_get}
use Rattle.book_office_values.proofs.NameMapLaws.{by_same, put_at, same_itself}
use Rattle.book_office_values.proofs.OneName.{some_apart}
use Rattle.book_office_values.proofs.Spelling.{one_text}
use Rattle.book_office_values.specs.Paths.{IsPath, card_path, path_text}
use Rattle.book_office_values.specs.declared.offices.Book.{Book}
use Rattle.book_office_values.specs.declared.offices.Properties.{Properties}
use Rattle.book_office_values.specs.declared.offices.StoredCard.{StoredCard}
use Rattle.book_office_values.specs.declared.paths.Kind.TheVariants as kind
use Rattle.book_office_values.specs.declared.paths.Path.{Path}
use Rattle.book_office_values.specs.declared.paths.Path.TheVariants as path
use Rattle.book_questions_rights.specs.EqualCards.{Class, classes_of, is_alike}
use Rattle.book_questions_rights.specs.Laws.{EachIsTold}
use Rattle.book_questions_rights.specs.Lines.{card_blocks, class_block, class_blocks, own_block, own_blocks, place_blocks}
use Rattle.book_questions_rights.specs.Places.{asked_below, cards_of, child_of, in_home, is_itself, place_of, place_path}
use Rattle.book_questions_rights.specs.declared.askers.Asker.{Asker}
use Rattle.book_questions_rights.proofs.Classes.{cards_have_one_class}
use Rattle.book_questions_rights.proofs.Elements.{Mem, contains_of, mem_flat, mem_map, mem_of, mem_of_flat, mem_of_map, mem_right, mem_split}

-- ---- what is gathered
pub found : (m : NamesTo (List ℕ)) (bs : List Block) (k v : List ℕ) → get (gathered m bs) k ≡ Some v → (get m k ≡ Some v) ⊎ Mem (k, v) bs
found m [] k v e = inl e
found m (b ∷ bs) k v e = elim (found (insert m b.0 b.1) bs k v e) [
  | inl h ↦ by_same k b.0 (λ t. cond t (Some b.1) (get m k) ≡ Some v → (get m k ≡ Some v) ⊎ Mem (k, v) (b ∷ bs))
      (λ here is. inr (inl (λ i. (here i, sym (same_Some _ _ is) i)))) (λ is. inl is) (sym (put_at m b.0 b.1 k) ∙ h)
  | inr h ↦ inr (inr h)
]

stays : (m : NamesTo (List ℕ)) (bs : List Block) (k v : List ℕ) → get m k ≡ Some v → (w : List ℕ) × (get (gathered m bs) k ≡ Some w)
stays m [] k v e = (v, e)
stays m (b ∷ bs) k v e =
    let h : (w : List ℕ) × (get (insert m b.0 b.1) k ≡ Some w) =
    subst (λ r. (w : List ℕ) × (r ≡ Some w)) (sym (put_at m b.0 b.1 k)) (by_same k b.0 (λ t. (w : List ℕ) × (cond t (Some b.1) (get m k) ≡ Some w)) (λ here. (b.1, refl)) (v, e)) in
    stays (insert m b.0 b.1) bs k h.0 h.1

pub there : (m : NamesTo (List ℕ)) (bs : List Block) (b : Block) → Mem b bs → (w : List ℕ) × (get (gathered m bs) b.0 ≡ Some w)
there m [] b h = absurd h
there m (c ∷ bs) b (inl e) =
    stays (insert m c.0 c.1) bs b.0 c.1
    (ap (get (insert m c.0 c.1)) (ap (λ (p : Block). p.0) e) ∙ put_at m c.0 c.1 c.0 ∙ ap (λ t. cond t (Some c.1) (get m c.0)) (same_itself c.0))
there m (c ∷ bs) b (inr h) = there (insert m c.0 c.1) bs b h

-- ---- resources
module _ (o : Office) where
  some_at : {A : Type 0} (found : Option A) → found ≢ None → (x : A) × (found ≡ Some x)
  some_at None h = absurd (h refl)
  some_at (Some x) h = (x, refl)

  -- what is asked about is no card, and is there
  abbrev IsAsked : Path → Type 0
  IsAsked q = (is_itself q ≡ true) × ((r : Resource) × (resource_at o q ≡ Some r))

  in_people : (q : Path) → Mem q (in_home o path.People) → IsAsked q
  in_people q (inl e) = subst IsAsked (sym e) (refl, (properties_resource kind.Home 0 o.people, refl))
  in_people q (inr m) =
      let a = mem_of_map (λ (child : Listed). child_of path.People child.name) q (children_at o path.People) m in
      let e = mem_of_map (λ (e : List ℕ × Properties). as_listed e.0 (properties_resource kind.Person 0 e.1)) a.0 (entries o.persons) a.1 in
      let at = mem_get nat_list_cmp_total names_apart o.persons e.0.0 e.0.1 e.1 in
      subst IsAsked (sym (a.2 ∙ ap (λ (child : Listed). path.Person child.name) e.2)) (refl, (properties_resource kind.Person 0 e.0.1, ap (option_map (properties_resource kind.Person 0)) at))

  in_groups : (q : Path) → Mem q (in_home o path.Groups) → IsAsked q
  in_groups q (inl e) = subst IsAsked (sym e) (refl, (properties_resource kind.Home 0 o.groups_home, refl))
  in_groups q (inr m) =
      let a = mem_of_map (λ (child : Listed). child_of path.Groups child.name) q (children_at o path.Groups) m in
      let e = mem_of_map (λ (e : List ℕ × Properties). as_listed e.0 (properties_resource kind.Group 0 e.1)) a.0 (entries o.groups) a.1 in
      let at = mem_get nat_list_cmp_total names_apart o.groups e.0.0 e.0.1 e.1 in
      subst IsAsked (sym (a.2 ∙ ap (λ (child : Listed). path.Group child.name) e.2)) (refl, (properties_resource kind.Group 0 e.0.1, ap (option_map (properties_resource kind.Group 0)) at))

  in_books : (q : Path) → Mem q (in_home o path.Books) → IsAsked q
  in_books q (inl e) = subst IsAsked (sym e) (refl, (properties_resource kind.Home 0 o.books_home, refl))
  in_books q (inr m) =
      let a = mem_of_map (λ (child : Listed). child_of path.Books child.name) q (children_at o path.Books) m in
      let e = mem_of_map (λ (e : List ℕ × Book). as_listed e.0 (book_resource e.1)) a.0 (entries o.books) a.1 in
      let at = mem_get nat_list_cmp_total names_apart o.books e.0.0 e.0.1 e.1 in
      subst IsAsked (sym (a.2 ∙ ap (λ (child : Listed). path.Book child.name) e.2)) (refl, (book_resource e.0.1, ap (option_map book_resource) at))

  alone : (p q : Path) → is_itself p ≡ true → resource_at o p ≢ None → Mem q (p ∷ []) → IsAsked q
  alone p q itself mapped (inl e) = subst IsAsked (sym e) (itself, some_at (resource_at o p) mapped)
  alone p q itself mapped (inr m) = absurd m

  asked : (p q : Path) → is_itself p ≡ true → resource_at o p ≢ None → Mem q (asked_below o p) → IsAsked q
  asked path.Root q itself mapped (inl e) = subst IsAsked (sym e) (refl, (properties_resource kind.Root 0 o.root, refl))
  asked path.Root q itself mapped (inr m) = elim (mem_split q (in_home o path.People) (in_home o path.Groups ++ in_home o path.Books) m) [
    | inl h ↦ in_people q h
    | inr n ↦ elim (mem_split q (in_home o path.Groups) (in_home o path.Books) n) [ inl h ↦ in_groups q h | inr h ↦ in_books q h ]
  ]
  asked path.People q itself mapped m = in_people q m
  asked path.Groups q itself mapped m = in_groups q m
  asked path.Books q itself mapped m = in_books q m
  asked (path.Person n) q itself mapped m = alone (path.Person n) q itself mapped m
  asked (path.Group n) q itself mapped m = alone (path.Group n) q itself mapped m
  asked (path.Book b) q itself mapped m = alone (path.Book b) q itself mapped m
  asked (path.Card b c) q itself mapped m = absurd (false≢true itself)

  at_itself : (q : Path) → is_itself q ≡ true → place_path q ≡ q
  at_itself path.Root h = refl
  at_itself path.People h = refl
  at_itself path.Groups h = refl
  at_itself path.Books h = refl
  at_itself (path.Person n) h = refl
  at_itself (path.Group n) h = refl
  at_itself (path.Book b) h = refl
  at_itself (path.Card b c) h = absurd (false≢true h)

  -- a card of a book is what the Office has at its path
  pub card_there : (b : List ℕ) (card : Listed) → Mem card (cards_of o (path.Book b)) → (r : Resource) × (resource_at o (path.Card b card.name) ≡ Some r) × (card ≡ as_listed card.name r)
  card_there b card m = go (get o.books b) refl m
    where
      go : (found : Option Book) → get o.books b ≡ found → Mem card (unwrap_or (option_map listed_cards found) [])
          → (r : Resource) × (resource_at o (path.Card b card.name) ≡ Some r) × (card ≡ as_listed card.name r)
      go None at m = absurd m
      go (Some book) at m =
          let e = mem_of_map (λ (e : List ℕ × StoredCard). as_listed e.0 (card_resource (number_of book e.0) e.1)) card (entries book.cards) m in
          let got = mem_get nat_list_cmp_total names_apart book.cards e.0.0 e.0.1 e.1 in
          let name : card.name ≡ e.0.0 = ap (λ (l : Listed). l.name) e.2 in
          let r : Resource = card_resource (number_of book e.0.0) e.0.1 in (
            r,
            ap (λ n. resource_at o (path.Card b n)) name ∙ ap (option_and_then (λ (k : Book). card_in k e.0.0)) at ∙ ap (option_map (card_resource (number_of book e.0.0))) got,
            e.2 ∙ ap (λ n. as_listed n r) (sym name),
          )

  module _ (askers : List Asker) (p : Path) (itself : is_itself p ≡ true) (mapped : resource_at o p ≢ None) (sound : IsSound o) where
    abbrev blocks : List Block
    blocks = flat_map (place_blocks false askers) (map (place_of o) (asked_below o p))

    -- a block is that of a resource, or of a class
    abbrev IsOwn : Block → Type 0
    IsOwn y = (q : Path) × Mem q (asked_below o p) × (y ≡ own_block askers (place_of o q))

    abbrev IsOfClass : Block → Type 0
    IsOfClass y = (b : List ℕ) × (class : Class) × Mem (path.Book b) (asked_below o p) × Mem class (classes_of (cards_of o (path.Book b)))
        × (y ≡ class_block askers (place_of o (path.Book b)) class)

    class_told : (b : List ℕ) (y : Block) → Mem (path.Book b) (asked_below o p) → Mem y (card_blocks false askers (place_of o (path.Book b))) → IsOfClass y
    class_told b y there m =
        let k = mem_of_flat (class_blocks false askers (place_of o (path.Book b))) y (classes_of (cards_of o (path.Book b))) m in
        elim k.2 [ inl e ↦ (b, k.0, there, k.1, e) | inr none ↦ absurd none ]

    place_told : (q : Path) (y : Block) → Mem q (asked_below o p) → is_itself q ≡ true → Mem y (place_blocks false askers (place_of o q)) → IsOwn y ⊎ IsOfClass y
    place_told path.Root y there is (inl e) = inl (path.Root, there, e)
    place_told path.Root y there is (inr m) = absurd m
    place_told path.People y there is (inl e) = inl (path.People, there, e)
    place_told path.People y there is (inr m) = absurd m
    place_told path.Groups y there is (inl e) = inl (path.Groups, there, e)
    place_told path.Groups y there is (inr m) = absurd m
    place_told path.Books y there is (inl e) = inl (path.Books, there, e)
    place_told path.Books y there is (inr m) = absurd m
    place_told (path.Person n) y there is (inl e) = inl (path.Person n, there, e)
    place_told (path.Person n) y there is (inr m) = absurd m
    place_told (path.Group n) y there is (inl e) = inl (path.Group n, there, e)
    place_told (path.Group n) y there is (inr m) = absurd m
    place_told (path.Book b) y there is (inl e) = inl (path.Book b, there, e)
    place_told (path.Book b) y there is (inr m) = inr (class_told b y there m)
    place_told (path.Card b c) y there is m = absurd (false≢true is)

    each_told : (y : Block) → Mem y blocks → IsOwn y ⊎ IsOfClass y
    each_told y m =
        let k = mem_of_flat (place_blocks false askers) y (map (place_of o) (asked_below o p)) m in
        let q = mem_of_map (place_of o) k.0 (asked_below o p) k.1 in
        place_told q.0 y q.1 (asked p q.0 itself mapped q.1).0 (subst (λ place. Mem y (place_blocks false askers place)) q.2 k.2)

    -- ---- one block has a key
    named : (q : Path) → Mem q (asked_below o p) → IsPath q
    named q m = let r = (asked p q itself mapped m).1 in (resources_stand_in_place o sound q r.0 r.1).named

    own_key : (q : Path) → Mem q (asked_below o p) → (own_block askers (place_of o q)).0 ≡ path_text q
    own_key q m = ap path_text (at_itself q (asked p q itself mapped m).0)

    class_named : (b : List ℕ) (class : Class) → Mem class (classes_of (cards_of o (path.Book b))) → IsPath (path.Card b class.card.name)
    class_named b class m =
        let cards = cards_of o (path.Book b) in
        let card = card_there b class.card (mem_of class.card cards ((cards_have_one_class cards).there class (contains_of class (classes_of cards) m))) in
        (resources_stand_in_place o sound (path.Card b class.card.name) card.0 card.1).named

    apart : (q : Path) (b c : List ℕ) → is_itself q ≡ true → q ≡ path.Card b c → ⊥
    apart q b c is e = false≢true (sym (ap is_itself e) ∙ is)

    same_class : (b b2 : List ℕ) (k l : Class) → Mem k (classes_of (cards_of o (path.Book b))) → Mem l (classes_of (cards_of o (path.Book b2)))
        → path.Card b k.card.name ≡ path.Card b2 l.card.name → class_block askers (place_of o (path.Book b)) k ≡ class_block askers (place_of o (path.Book b2)) l
    same_class b b2 k l m n e =
        let same_b : b2 ≡ b = cc in
        let same_c : l.card.name ≡ k.card.name = cc in
        let cards = cards_of o (path.Book b) in
        let n2 : Mem l (classes_of cards) = subst (λ x. Mem l (classes_of (cards_of o (path.Book x)))) same_b n in
        let one = cards_have_one_class cards in
        let first = card_there b k.card (mem_of k.card cards (one.there k (contains_of k (classes_of cards) m))) in
        let last = card_there b l.card (mem_of l.card cards (one.there l (contains_of l (classes_of cards) n2))) in
        let same_r : last.0 ≡ first.0 = same_Some _ _ (sym last.1 ∙ ap (λ c. resource_at o (path.Card b c)) same_c ∙ first.1) in
        let same_card : l.card ≡ k.card = last.2 ∙ (λ i. as_listed (same_c i) (same_r i)) ∙ sym first.2 in
        let same_count : l.count ≡ k.count =
        one.counted l (contains_of l (classes_of cards) n2) ∙ ap (λ (c : Listed). count_by (is_alike c) cards) same_card ∙ sym (one.counted k (contains_of k (classes_of cards) m)) in
        λ i. class_block askers (place_of o (path.Book (sym same_b i))) (record { card = sym same_card i; count = sym same_count i })

    one_block : (y z : Block) → IsOwn y ⊎ IsOfClass y → IsOwn z ⊎ IsOfClass z → y.0 ≡ z.0 → y ≡ z
    one_block y z (inl (q, m, is)) (inl (r, n, also)) e =
        let keys : path_text q ≡ path_text r = sym (own_key q m) ∙ ap (λ (x : Block). x.0) (sym is) ∙ e ∙ ap (λ (x : Block). x.0) also ∙ own_key r n in
        is ∙ ap (λ x. own_block askers (place_of o x)) (one_text q r (named q m) (named r n) keys) ∙ sym also
    one_block y z (inl (q, m, is)) (inr (b, k, n, among, also)) e =
        let keys : path_text q ≡ path_text (path.Card b k.card.name) = sym (own_key q m) ∙ ap (λ (x : Block). x.0) (sym is) ∙ e ∙ ap (λ (x : Block). x.0) also in
        absurd (apart q b k.card.name (asked p q itself mapped m).0 (one_text q (path.Card b k.card.name) (named q m) (class_named b k among) keys))
    one_block y z (inr (b, k, n, among, also)) (inl (q, m, is)) e =
        let keys : path_text q ≡ path_text (path.Card b k.card.name) = sym (own_key q m) ∙ ap (λ (x : Block). x.0) (sym is) ∙ sym e ∙ ap (λ (x : Block). x.0) also in
        absurd (apart q b k.card.name (asked p q itself mapped m).0 (one_text q (path.Card b k.card.name) (named q m) (class_named b k among) keys))
    one_block y z (inr (b, k, n, among, is)) (inr (b2, l, n2, among2, also)) e =
        let keys : path_text (path.Card b k.card.name) ≡ path_text (path.Card b2 l.card.name) = ap (λ (x : Block). x.0) (sym is) ∙ e ∙ ap (λ (x : Block). x.0) also in
        is ∙ same_class b b2 k l among among2 (one_text (path.Card b k.card.name) (path.Card b2 l.card.name) (class_named b k among) (class_named b2 l among2) keys) ∙ sym also

    -- ---- what the map has at a key
    has : (y : Block) → Mem y blocks → get (gathered empty blocks) y.0 ≡ Some y.1
    has y m =
        let w = there empty blocks y m in
        w.1 ∙ elim (found empty blocks y.0 w.0 w.1) [
          | inl h ↦ some_apart (sym h ∙ get-empty name_cmp y.0)
          | inr h ↦ ap (λ (x : Block). Some x.1) (one_block (y.0, w.0) y (each_told (y.0, w.0) h) (each_told y m) refl)
        ]

    own_there : (q : Path) → Mem q (asked_below o p) → is_itself q ≡ true → Mem (own_block askers (place_of o q)) (place_blocks false askers (place_of o q))
    own_there path.Root m is = inl refl
    own_there path.People m is = inl refl
    own_there path.Groups m is = inl refl
    own_there path.Books m is = inl refl
    own_there (path.Person n) m is = inl refl
    own_there (path.Group n) m is = inl refl
    own_there (path.Book b) m is = inl refl
    own_there (path.Card b c) m is = absurd (false≢true is)

    among : (q : Path) (y : Block) → Mem q (asked_below o p) → Mem y (place_blocks false askers (place_of o q)) → Mem y blocks
    among q y m h = mem_flat (place_blocks false askers) y (place_of o q) (map (place_of o) (asked_below o p)) (mem_map (place_of o) q (asked_below o p) m) h

    only : (text : List ℕ) (g : Option (List ℕ)) → get (gathered empty blocks) text ≡ g → g ≢ None → ((q : Path) × Contains (asked_below o p) q × (text ≡ path_text q))
        ⊎ ((b : List ℕ) × (class : Class) × Contains (asked_below o p) (path.Book b) × Contains (classes_of (cards_of o (path.Book b))) class × (text ≡ card_path b class.card.name))
    only text None h some = absurd (some refl)
    only text (Some w) h some = elim (found empty blocks text w h) [
      | inl none ↦ some_apart (sym none ∙ get-empty name_cmp text)
      | inr m ↦ elim (each_told (text, w) m) [
        | inl own ↦ inl (own.0, contains_of own.0 (asked_below o p) own.1, ap (λ (x : Block). x.0) own.2 ∙ own_key own.0 own.1)
        | inr k ↦ inr (k.0, k.1, contains_of (path.Book k.0) (asked_below o p) k.2, contains_of k.1 (classes_of (cards_of o (path.Book k.0))) k.3, ap (λ (x : Block). x.0) k.4)
      ]
    ]

pub each_is_told : EachIsTold
each_is_told o askers p sound itself mapped = record {
  resources = λ q there.
      let m = mem_of q (asked_below o p) there in
      let is = (asked o p q itself mapped m).0 in
      ap (get (gathered empty (blocks o askers p itself mapped sound))) (sym (own_key o askers p itself mapped sound q m))
      ∙ has o askers p itself mapped sound (own_block askers (place_of o q)) (among o askers p itself mapped sound q _ m (own_there o askers p itself mapped sound q m is));
  classes = λ b class there k.
      let m = mem_of (path.Book b) (asked_below o p) there in
      let c = mem_of class (classes_of (cards_of o (path.Book b))) k in
      has o askers p itself mapped sound (class_block askers (place_of o (path.Book b)) class)
      (among o askers p itself mapped sound (path.Book b) _ m
      (mem_right _ (own_blocks false askers (place_of o (path.Book b))) (card_blocks false askers (place_of o (path.Book b)))
      (mem_flat (class_blocks false askers (place_of o (path.Book b))) _ class (classes_of (cards_of o (path.Book b))) c (inl refl))));
  only = λ text some. only o askers p itself mapped sound text _ refl some;
}
