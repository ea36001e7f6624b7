-- An audit of a part tells each resource at a path and below it, and nothing else.
use Rattle.book_questions_audit.proofs.Common.{◌≡◌, ◌++◌, ◌∷◌, ◌∙◌, [], ℕ, Bool, true, false, List, Option, Some, None, ap, empty, flat_map, gathered, map, nat_list_cmp_total, names_apart, refl, subst, sym, Block, NamesTo, Office}
use Rattle.std.proofs.Common.{◌≢◌, cond, filter, inl, inr, option_and_then, option_map, unwrap_or}
use Rattle.std.specs.FinMap.{entries, get, get-empty}
use Rattle.std.specs.Prelude.{if◌then◌else◌}
use Rattle.std.proofs.lemmas.Bool.{false≢true}
use Rattle.std.proofs.lemmas.Option.{same_Some}
use Rattle.std.proofs.lemmas.Slice.Eq.{bytes_eq-Decides}
use Rattle.book_lists.specs.Names.{name_cmp}
use Rattle.book_office.proofs.StandingResources.{resources_stand_in_place}
use Rattle.book_office.specs.Levels.{own_at, protected_at}
use Rattle.book_office.specs.Resources.{Resource, as_listed, book_resource, card_in, card_resource, children_at, listed_cards, node_at, node_of, number_of, properties_resource, resource_at}
use Rattle.book_office.specs.Sound.{IsSound}
use Rattle.book_office.specs.declared.nodes.Listed.{Listed}
use Rattle.book_office_audit.proofs.Audited.{tells}
use Rattle.book_office_audit.specs.Audits.{blocks_of, contents_of}
use Rattle.book_office_values.proofs.Members.{get_mem, mem_get}
use Rattle.book_office_values.proofs.OneName.{some_apart}
use Rattle.book_office_values.proofs.Spelling.{one_text}
use Rattle.book_office_values.specs.Paths.{IsPath, levels, path_text}
use Rattle.book_office_values.specs.declared.offices.Book.{Book}
use Rattle.book_office_values.specs.declared.offices.Properties.{Properties}
use Rattle.book_office_values.specs.declared.offices.StoredCard.{StoredCard}
use Rattle.book_office_values.specs.declared.paths.Kind.TheVariants as kind
use Rattle.book_office_values.specs.declared.paths.Path.{Path}
use Rattle.book_office_values.specs.declared.paths.Path.TheVariants as path
use Rattle.book_questions_rights.proofs.EachTold.{card_there, found, there}
use Rattle.book_questions_rights.proofs.Elements.{Mem, contains_of, mem_flat, mem_left, mem_map, mem_of, mem_of_flat, mem_of_map, mem_right, mem_split}
use Rattle.book_questions_rights.specs.Places.{asked_below, cards_of, child_of, in_home, is_itself, is_named}
use Rattle.book_questions_audit.specs.Laws.{IsPart, PartsAreOfTheAudit, PartsTellEveryResource, is_wanted, lines_at}
use Rattle.book_questions_audit.specs.Lines.{card_blocks, has_entries, part_blocks, told_lines}
use Rattle.book_questions_audit.specs.Parts.{label_in, owner_in, part_of}
use Rattle.book_questions_audit.specs.declared.parts.Wanted.{Wanted}

-- ---- what a filter keeps
module _ {A : Type 0} (test : A → Bool) where
  filter_tells : (x : A) (xs : List A) → Mem x (filter test xs) → Mem x xs × (test x ≡ true)
  filter_tells x [] m = absurd m
  filter_tells x (y ∷ ys) m =
      elim (test y) as (λ b. test y ≡ b → Mem x (cond b (y ∷ filter test ys) (filter test ys)) → Mem x (y ∷ ys) × (test x ≡ true)) [
        | true ↦ λ t h. elim h [ inl e ↦ (inl e, ap test e ∙ t) | inr r ↦ let k = filter_tells x ys r in (inr k.0, k.1) ]
        | false ↦ λ _ h. let k = filter_tells x ys h in (inr k.0, k.1)
      ] refl m

  filter_holds : (x : A) (xs : List A) → test x ≡ true → Mem x xs → Mem x (filter test xs)
  filter_holds x [] t m = absurd m
  filter_holds x (y ∷ ys) t m =
      elim (test y) as (λ b. test y ≡ b → Mem x (cond b (y ∷ filter test ys) (filter test ys))) [
        | true ↦ λ _. elim m [ inl e ↦ inl e | inr r ↦ inr (filter_holds x ys t r) ]
        | false ↦ λ n. elim m [ inl e ↦ absurd (false≢true (sym n ∙ ap test (sym e) ∙ t)) | inr r ↦ filter_holds x ys t r ]
      ] refl

some_of : {A B : Type 0} (f : A → B) (r : Option A) (y : B) → option_map f r ≡ Some y → (x : A) × (r ≡ Some x) × (f x ≡ y)
some_of f None y e = some_apart (sym e)
some_of f (Some x) y e = (x, refl, same_Some _ _ e)

then_of : {A B : Type 0} (f : A → Option B) (r : Option A) (y : B) → option_and_then f r ≡ Some y → (x : A) × (r ≡ Some x) × (f x ≡ Some y)
then_of f None y e = some_apart (sym e)
then_of f (Some x) y e = (x, refl, e)

some_at : {A : Type 0} (r : Option A) → r ≢ None → (x : A) × (r ≡ Some x)
some_at None h = absurd (h refl)
some_at (Some x) h = (x, refl)

module _ (o : Office) where
  -- ---- what is asked about stands at the path or below it
  abbrev IsBelow : Path → Path → Type 0
  IsBelow p q = Mem p (levels q) × ((r : Resource) × (resource_at o q ≡ Some r))

  in_people : (p q : Path) → Mem p (levels path.People) → Mem q (in_home o path.People) → IsBelow p q
  in_people p q top (inl e) = subst (IsBelow p) (sym e) (top, (properties_resource kind.Home 0 o.people, refl))
  in_people p q top (inr m) =
      let a = mem_of_map (λ (child : Listed). child_of path.People child.name) q (children_at o path.People) m in
      let e = mem_of_map (λ (e : List ℕ × Properties). as_listed e.0 (properties_resource kind.Person 0 e.1)) a.0 (entries o.persons) a.1 in
      let at = mem_get nat_list_cmp_total names_apart o.persons e.0.0 e.0.1 e.1 in
      subst (IsBelow p) (sym (a.2 ∙ ap (λ (child : Listed). path.Person child.name) e.2))
      (inr top, (properties_resource kind.Person 0 e.0.1, ap (option_map (properties_resource kind.Person 0)) at))

  in_groups : (p q : Path) → Mem p (levels path.Groups) → Mem q (in_home o path.Groups) → IsBelow p q
  in_groups p q top (inl e) = subst (IsBelow p) (sym e) (top, (properties_resource kind.Home 0 o.groups_home, refl))
  in_groups p q top (inr m) =
      let a = mem_of_map (λ (child : Listed). child_of path.Groups child.name) q (children_at o path.Groups) m in
      let e = mem_of_map (λ (e : List ℕ × Properties). as_listed e.0 (properties_resource kind.Group 0 e.1)) a.0 (entries o.groups) a.1 in
      let at = mem_get nat_list_cmp_total names_apart o.groups e.0.0 e.0.1 e.1 in
      subst (IsBelow p) (sym (a.2 ∙ ap (λ (child : Listed). path.Group child.name) e.2))
      (inr top, (properties_resource kind.Group 0 e.0.1, ap (option_map (properties_resource kind.Group 0)) at))

  in_books : (p q : Path) → Mem p (levels path.Books) → Mem q (in_home o path.Books) → IsBelow p q
  in_books p q top (inl e) = subst (IsBelow p) (sym e) (top, (properties_resource kind.Home 0 o.books_home, refl))
  in_books p q top (inr m) =
      let a = mem_of_map (λ (child : Listed). child_of path.Books child.name) q (children_at o path.Books) m in
      let e = mem_of_map (λ (e : List ℕ × Book). as_listed e.0 (book_resource e.1)) a.0 (entries o.books) a.1 in
      let at = mem_get nat_list_cmp_total names_apart o.books e.0.0 e.0.1 e.1 in
      subst (IsBelow p) (sym (a.2 ∙ ap (λ (child : Listed). path.Book child.name) e.2))
      (inr top, (book_resource e.0.1, ap (option_map book_resource) at))

  alone : (p q : Path) → Mem p (levels p) → resource_at o p ≢ None → Mem q (p ∷ []) → IsBelow p q
  alone p q top mapped (inl e) = subst (IsBelow p) (sym e) (top, some_at (resource_at o p) mapped)
  alone p q top mapped (inr m) = absurd m

  asked : (p q : Path) → resource_at o p ≢ None → Mem q (asked_below o p) → IsBelow p q
  asked path.Root q mapped (inl e) = subst (IsBelow path.Root) (sym e) (inl refl, (properties_resource kind.Root 0 o.root, refl))
  asked path.Root q mapped (inr m) = elim (mem_split q (in_home o path.People) (in_home o path.Groups ++ in_home o path.Books) m) [
    | inl h ↦ in_people path.Root q (inr (inl refl)) h
    | inr n ↦ elim (mem_split q (in_home o path.Groups) (in_home o path.Books) n) [
      | inl h ↦ in_groups path.Root q (inr (inl refl)) h
      | inr h ↦ in_books path.Root q (inr (inl refl)) h
    ]
  ]
  asked path.People q mapped m = in_people path.People q (inl refl) m
  asked path.Groups q mapped m = in_groups path.Groups q (inl refl) m
  asked path.Books q mapped m = in_books path.Books q (inl refl) m
  asked (path.Person n) q mapped m = alone (path.Person n) q (inl refl) mapped m
  asked (path.Group n) q mapped m = alone (path.Group n) q (inl refl) mapped m
  asked (path.Book b) q mapped m = alone (path.Book b) q (inl refl) mapped m
  asked (path.Card b c) q mapped m = alone (path.Card b c) q (inl refl) mapped m

  -- ---- each resource at the path or below it is asked about, a card with its book or by itself
  among_people : (q p : Path) → Mem q (in_home o path.People) → Mem p (levels path.People) → Mem q (asked_below o p)
  among_people q p m (inl e) = subst (λ x. Mem q (asked_below o x)) (sym e) m
  among_people q p m (inr (inl e)) = subst (λ x. Mem q (asked_below o x)) (sym e) (inr (mem_left q (in_home o path.People) (in_home o path.Groups ++ in_home o path.Books) m))
  among_people q p m (inr (inr n)) = absurd n

  among_groups : (q p : Path) → Mem q (in_home o path.Groups) → Mem p (levels path.Groups) → Mem q (asked_below o p)
  among_groups q p m (inl e) = subst (λ x. Mem q (asked_below o x)) (sym e) m
  among_groups q p m (inr (inl e)) =
      subst (λ x. Mem q (asked_below o x)) (sym e)
      (inr (mem_right q (in_home o path.People) (in_home o path.Groups ++ in_home o path.Books) (mem_left q (in_home o path.Groups) (in_home o path.Books) m)))
  among_groups q p m (inr (inr n)) = absurd n

  among_books : (q p : Path) → Mem q (in_home o path.Books) → Mem p (levels path.Books) → Mem q (asked_below o p)
  among_books q p m (inl e) = subst (λ x. Mem q (asked_below o x)) (sym e) m
  among_books q p m (inr (inl e)) =
      subst (λ x. Mem q (asked_below o x)) (sym e)
      (inr (mem_right q (in_home o path.People) (in_home o path.Groups ++ in_home o path.Books) (mem_right q (in_home o path.Groups) (in_home o path.Books) m)))
  among_books q p m (inr (inr n)) = absurd n

  itself_asked : (q : Path) (r : Resource) → is_itself q ≡ true → resource_at o q ≡ Some r → (p : Path) → Mem p (levels q) → Mem q (asked_below o p)
  itself_asked path.Root r is e p (inl h) = subst (λ x. Mem path.Root (asked_below o x)) (sym h) (inl refl)
  itself_asked path.Root r is e p (inr n) = absurd n
  itself_asked path.People r is e p m = among_people path.People p (inl refl) m
  itself_asked path.Groups r is e p m = among_groups path.Groups p (inl refl) m
  itself_asked path.Books r is e p m = among_books path.Books p (inl refl) m
  itself_asked (path.Person n) r is e p (inl h) = subst (λ x. Mem (path.Person n) (asked_below o x)) (sym h) (inl refl)
  itself_asked (path.Person n) r is e p (inr m) =
      let x = some_of (properties_resource kind.Person 0) (get o.persons n) r e in
      let k = mem_map (λ (e : List ℕ × Properties). as_listed e.0 (properties_resource kind.Person 0 e.1)) (n, x.0) (entries o.persons) (get_mem nat_list_cmp_total names_apart o.persons n x.0 x.1) in
      among_people (path.Person n) p (inr (mem_map (λ (child : Listed). child_of path.People child.name) (as_listed n (properties_resource kind.Person 0 x.0)) (children_at o path.People) k)) m
  itself_asked (path.Group n) r is e p (inl h) = subst (λ x. Mem (path.Group n) (asked_below o x)) (sym h) (inl refl)
  itself_asked (path.Group n) r is e p (inr m) =
      let x = some_of (properties_resource kind.Group 0) (get o.groups n) r e in
      let k = mem_map (λ (e : List ℕ × Properties). as_listed e.0 (properties_resource kind.Group 0 e.1)) (n, x.0) (entries o.groups) (get_mem nat_list_cmp_total names_apart o.groups n x.0 x.1) in
      among_groups (path.Group n) p (inr (mem_map (λ (child : Listed). child_of path.Groups child.name) (as_listed n (properties_resource kind.Group 0 x.0)) (children_at o path.Groups) k)) m
  itself_asked (path.Book b) r is e p (inl h) = subst (λ x. Mem (path.Book b) (asked_below o x)) (sym h) (inl refl)
  itself_asked (path.Book b) r is e p (inr m) =
      let x = some_of book_resource (get o.books b) r e in
      let k = mem_map (λ (e : List ℕ × Book). as_listed e.0 (book_resource e.1)) (b, x.0) (entries o.books) (get_mem nat_list_cmp_total names_apart o.books b x.0 x.1) in
      among_books (path.Book b) p (inr (mem_map (λ (child : Listed). child_of path.Books child.name) (as_listed b (book_resource x.0)) (children_at o path.Books) k)) m
  itself_asked (path.Card b c) r is e p m = absurd (false≢true is)

  -- a card is listed in its book
  card_listed : (b c : List ℕ) (r : Resource) → resource_at o (path.Card b c) ≡ Some r → Mem (as_listed c r) (cards_of o (path.Book b)) × ((k : Resource) × (resource_at o (path.Book b) ≡ Some k))
  card_listed b c r e =
      let x = then_of (λ (book : Book). card_in book c) (get o.books b) r e in
      let book : Book = x.0 in
      let k = some_of (card_resource (number_of book c)) (get book.cards c) r x.2 in
      let m = mem_map (λ (e : List ℕ × StoredCard). as_listed e.0 (card_resource (number_of book e.0) e.1)) (c, k.0) (entries book.cards) (get_mem nat_list_cmp_total names_apart book.cards c k.0 k.1) in (
        subst (λ (found : Option Book). Mem (as_listed c r) (unwrap_or (option_map listed_cards found) [])) (sym x.1)
            (subst (λ (s : Resource). Mem (as_listed c s) (listed_cards book)) k.2 m),
        (book_resource book, ap (option_map book_resource) x.1),
      )

  module _ (wanted : Wanted) where
    -- ---- the block of a resource
    abbrev block_at : Path → Resource → Block
    block_at q r = (path_text q, lines_at wanted q r)

    abbrev own_told : Path → Block
    own_told q = (path_text q, told_lines wanted.labels (path_text q) (owner_in (node_at o q)) (label_in (node_at o q)) (protected_at o q) (own_at o q))

    own_is : (q : Path) (r : Resource) → resource_at o q ≡ Some r → own_told q ≡ block_at q r
    own_is q r e = ap (λ (found : Option Resource). (
      path_text q,
      told_lines wanted.labels (path_text q) (owner_in (option_map node_of found)) (label_in (option_map node_of found))
          (unwrap_or (option_map (λ (r : Resource). r.protected) found) []) (unwrap_or (option_map (λ (r : Resource). r.own) found) []),
    )) e

    card_is : (b : List ℕ) (card : Listed) (r : Resource) → card ≡ as_listed card.name r
        → (path_text (path.Card b card.name), told_lines wanted.labels (path_text (path.Card b card.name)) card.owner card.label card.protected card.own) ≡ block_at (path.Card b card.name) r
    card_is b card r e = ap (λ (l : Listed). (path_text (path.Card b card.name), told_lines wanted.labels (path_text (path.Card b card.name)) l.owner l.label l.protected l.own)) e

    module _ (p : Path) where
      abbrev blocks : List Block
      blocks = flat_map (part_blocks wanted) (map (part_of o) (asked_below o p))

      -- a block is that of a resource at the path or below it, which is wanted
      pub record IsTold (y : Block) : Type 0 where
        q : Path
        r : Resource
        below : Mem p (levels q)
        at : resource_at o q ≡ Some r
        told : is_wanted wanted q r ≡ true
        is : y ≡ block_at q r

      own_block_told : (q : Path) (y : Block) → is_itself q ≡ true → IsBelow p q → y ≡ own_told q → IsTold y
      own_block_told q y is below e = record {
        q = q;
        r = below.1.0;
        below = below.0;
        at = below.1.1;
        told = ap (λ t. cond t true (cond wanted.listed (has_entries below.1.0.own) true)) is;
        is = e ∙ own_is q below.1.0 below.1.1;
      }

      card_told : (b : List ℕ) (card : Listed) (y : Block) → Mem card (cards_of o (path.Book b)) → Mem p (levels (path.Card b card.name))
          → Mem y (card_blocks wanted (part_of o (path.Book b)) card) → IsTold y
      card_told b card y listed below m =
          let k = card_there o b card listed in
          let own : card.own ≡ k.0.own = ap (λ (l : Listed). l.own) k.2 in
          elim (cond wanted.listed (has_entries card.own) true) as (λ t. cond wanted.listed (has_entries card.own) true ≡ t
          → Mem y (if t then (path_text (path.Card b card.name), told_lines wanted.labels (path_text (path.Card b card.name)) card.owner card.label card.protected card.own) ∷ [] else []) → IsTold y) [
            | true ↦ λ w h. elim h [
              | inl e ↦ record {
                q = path.Card b card.name;
                r = k.0;
                below = below;
                at = k.1;
                told = ap (λ es. cond wanted.listed (has_entries es) true) (sym own) ∙ w;
                is = e ∙ card_is b card k.0 k.2;
              }
              | inr n ↦ absurd n
            ]
            | false ↦ λ _ h. absurd h
          ] refl m

      part_told : (q : Path) (y : Block) → IsBelow p q → Mem q (asked_below o p) → Mem y (part_blocks wanted (part_of o q)) → IsTold y
      part_told path.Root y below at (inl e) = own_block_told path.Root y refl below e
      part_told path.Root y below at (inr m) = absurd m
      part_told path.People y below at (inl e) = own_block_told path.People y refl below e
      part_told path.People y below at (inr m) = absurd m
      part_told path.Groups y below at (inl e) = own_block_told path.Groups y refl below e
      part_told path.Groups y below at (inr m) = absurd m
      part_told path.Books y below at (inl e) = own_block_told path.Books y refl below e
      part_told path.Books y below at (inr m) = absurd m
      part_told (path.Person n) y below at (inl e) = own_block_told (path.Person n) y refl below e
      part_told (path.Person n) y below at (inr m) = absurd m
      part_told (path.Group n) y below at (inl e) = own_block_told (path.Group n) y refl below e
      part_told (path.Group n) y below at (inr m) = absurd m
      part_told (path.Book b) y below at (inl e) = own_block_told (path.Book b) y refl below e
      part_told (path.Book b) y below at (inr m) =
          let k = mem_of_flat (card_blocks wanted (part_of o (path.Book b))) y (cards_of o (path.Book b)) m in
          card_told b k.0 y k.1 (inr below.0) k.2
      part_told (path.Card b c) y below at m =
          let k = mem_of_flat (card_blocks wanted (part_of o (path.Card b c))) y (cards_of o (path.Card b c)) m in
          let kept = filter_tells (is_named c) k.0 (children_at o (path.Book b)) k.1 in
          let name : k.0.name ≡ c = (bytes_eq-Decides k.0.name c).0 kept.1 in
          card_told b k.0 y kept.0 (subst (λ n. Mem p (levels (path.Card b n))) (sym name) below.0) k.2

      each_told : resource_at o p ≢ None → (y : Block) → Mem y blocks → IsTold y
      each_told mapped y m =
          let k = mem_of_flat (part_blocks wanted) y (map (part_of o) (asked_below o p)) m in
          let q = mem_of_map (part_of o) k.0 (asked_below o p) k.1 in
          part_told q.0 y (asked p q.0 mapped q.1) q.1 (subst (λ part. Mem y (part_blocks wanted part)) q.2 k.2)

      -- ---- each such resource has its block
      own_there : (q : Path) → is_itself q ≡ true → Mem (own_told q) (part_blocks wanted (part_of o q))
      own_there path.Root is = inl refl
      own_there path.People is = inl refl
      own_there path.Groups is = inl refl
      own_there path.Books is = inl refl
      own_there (path.Person n) is = inl refl
      own_there (path.Group n) is = inl refl
      own_there (path.Book b) is = inl refl
      own_there (path.Card b c) is = absurd (false≢true is)

      among : (q : Path) (y : Block) → Mem q (asked_below o p) → Mem y (part_blocks wanted (part_of o q)) → Mem y blocks
      among q y m h = mem_flat (part_blocks wanted) y (part_of o q) (map (part_of o) (asked_below o p)) (mem_map (part_of o) q (asked_below o p) m) h

      itself_told : (q : Path) (r : Resource) → is_itself q ≡ true → resource_at o q ≡ Some r → Mem p (levels q) → Mem (block_at q r) blocks
      itself_told q r is at below = among q (block_at q r) (itself_asked q r is at p below) (subst (λ y. Mem y (part_blocks wanted (part_of o q))) (own_is q r at) (own_there q is))

      card_among : (b c : List ℕ) (r : Resource) → resource_at o (path.Card b c) ≡ Some r → Mem p (levels (path.Card b c))
          → cond wanted.listed (has_entries r.own) true ≡ true → Mem (block_at (path.Card b c) r) blocks
      card_among b c r at below w = go below
        where
          listed : Mem (as_listed c r) (cards_of o (path.Book b)) × ((k : Resource) × (resource_at o (path.Book b) ≡ Some k))
          listed = card_listed b c r at

          block : Mem (block_at (path.Card b c) r) (card_blocks wanted (part_of o (path.Book b)) (as_listed c r))
          block = subst (λ t. Mem (block_at (path.Card b c) r) (if t then block_at (path.Card b c) r ∷ [] else [])) (sym w) (inl refl)

          go : Mem p (levels (path.Card b c)) → Mem (block_at (path.Card b c) r) blocks
          go (inl e) =
              among (path.Card b c) (block_at (path.Card b c) r) (subst (λ x. Mem (path.Card b c) (asked_below o x)) (sym e) (inl refl))
              (mem_flat (card_blocks wanted (part_of o (path.Card b c))) (block_at (path.Card b c) r) (as_listed c r) (cards_of o (path.Card b c))
              (filter_holds (is_named c) (as_listed c r) (children_at o (path.Book b)) ((bytes_eq-Decides c c).1 refl) listed.0) block)
          go (inr m) =
              among (path.Book b) (block_at (path.Card b c) r) (itself_asked (path.Book b) listed.1.0 refl listed.1.1 p m)
              (inr (mem_flat (card_blocks wanted (part_of o (path.Book b))) (block_at (path.Card b c) r) (as_listed c r) (cards_of o (path.Book b)) listed.0 block))

      told_there : (q : Path) (r : Resource) → resource_at o q ≡ Some r → Mem p (levels q) → is_wanted wanted q r ≡ true → Mem (block_at q r) blocks
      told_there path.Root r at below w = itself_told path.Root r refl at below
      told_there path.People r at below w = itself_told path.People r refl at below
      told_there path.Groups r at below w = itself_told path.Groups r refl at below
      told_there path.Books r at below w = itself_told path.Books r refl at below
      told_there (path.Person n) r at below w = itself_told (path.Person n) r refl at below
      told_there (path.Group n) r at below w = itself_told (path.Group n) r refl at below
      told_there (path.Book b) r at below w = itself_told (path.Book b) r refl at below
      told_there (path.Card b c) r at below w = card_among b c r at below w

      -- ---- what the map has at a text
      module _ (sound : IsSound o) (mapped : resource_at o p ≢ None) where
        abbrev told : NamesTo (List ℕ)
        told = gathered empty blocks

        told_at : (k w : List ℕ) → get told k ≡ Some w → IsTold (k, w)
        told_at k w e = elim (found empty blocks k w e) [
          | inl h ↦ some_apart (sym h ∙ get-empty name_cmp k)
          | inr h ↦ each_told mapped (k, w) h
        ]

        named : (q : Path) (r : Resource) → resource_at o q ≡ Some r → IsPath q
        named q r at = (resources_stand_in_place o sound q r at).named

        -- at the text of the path of a resource are its lines
        same_one : (q : Path) (r : Resource) → resource_at o q ≡ Some r → (w : List ℕ) → get told (path_text q) ≡ Some w → (is_wanted wanted q r ≡ true) × (w ≡ lines_at wanted q r)
        same_one q r at w e =
            let t = told_at (path_text q) w e in
            let same : t.q ≡ q = one_text t.q q (named t.q t.r t.at) (named q r at) (sym (ap (λ (y : Block). y.0) t.is)) in
            let one : t.r ≡ r = same_Some _ _ (sym t.at ∙ ap (resource_at o) same ∙ at) in
            ((λ i. is_wanted wanted (sym same i) (sym one i)) ∙ t.told, ap (λ (y : Block). y.1) t.is ∙ (λ i. lines_at wanted (same i) (one i)))

        each_is : (q : Path) (r : Resource) → Mem p (levels q) → resource_at o q ≡ Some r
            → get told (path_text q) ≡ (if is_wanted wanted q r then Some (lines_at wanted q r) else None)
        each_is q r below at =
            elim (is_wanted wanted q r) as (λ t. is_wanted wanted q r ≡ t → get told (path_text q) ≡ (if t then Some (lines_at wanted q r) else None)) [
              | true ↦ λ w. let g = there empty blocks (block_at q r) (told_there q r at below w) in g.1 ∙ ap (λ l. Some l) (same_one q r at g.0 g.1).1
              | false ↦ λ w. none w (get told (path_text q)) refl
            ] refl
          where
            none : is_wanted wanted q r ≡ false → (g : Option (List ℕ)) → get told (path_text q) ≡ g → get told (path_text q) ≡ None
            none w None e = e
            none w (Some l) e = absurd (false≢true (sym w ∙ (same_one q r at l e).0))

        only : (text : List ℕ) (g : Option (List ℕ)) → get told text ≡ g → get told text ≢ None → (q : Path) × (r : Resource) × IsPart o p q r × (text ≡ path_text q)
        only text None e some = absurd (some e)
        only text (Some w) e some =
            let t = told_at text w e in
            (t.q, t.r, record { below = contains_of p (levels t.q) t.below; there = t.at }, ap (λ (y : Block). y.0) t.is)

pub parts_told : PartsTellEveryResource
parts_told o wanted p sound mapped = record {
  each = λ q r is. each_is o wanted p sound mapped q r (mem_of p (levels q) is.below) is.there;
  only = λ text some. only o wanted p sound mapped text _ refl some;
}

pub parts_of_audit : PartsAreOfTheAudit
parts_of_audit o wanted p text lines sound mapped plain e =
    let t = told_at o wanted p sound mapped text lines e in
    let whole = (tells o sound).each t.q (named o wanted p sound mapped t.q t.r t.at) in
    let is : lines ≡ told_lines false (path_text t.q) t.r.owner t.r.label t.r.protected t.r.own =
    ap (λ (y : Block). y.1) t.is ∙ ap (λ b. told_lines b (path_text t.q) t.r.owner t.r.label t.r.protected t.r.own) plain in
    ap (get (gathered empty (blocks_of (contents_of o)))) (ap (λ (y : Block). y.0) t.is) ∙ whole ∙ ap (option_map (λ (r : Resource). told_lines false (path_text t.q) r.owner r.label r.protected r.own)) t.at
    ∙ ap (λ l. Some l) (sym is)
