-- The cards of a book in two Offices, each at its name.
use Rattle.book_questions_differs.proofs.Common.{◌≡◌, ◌∙◌, ◌∷◌, [], ℕ, List, Option, Some, None, ap, empty, map, nat_list_cmp_total, names_apart, refl, subst, sym, NamesTo, Office}
use Rattle.std.proofs.Common.{◌≢◌, ◌⊎◌, ◌&&◌, T, cond, inl, inr, option_and_then, option_map, unwrap_or}
use Rattle.std.specs.Ordering.{is_lt}
use Rattle.std.specs.FinMap.{entries, entries_sorted, find, get, get-empty, get-entries, insert, is_sorted, remove}
use Rattle.std.specs.FinMap.Entries.{below_all}
use Rattle.std.specs.declared.cmp.Ordering.TheVariants.{Less, Equal}
use Rattle.book_lists.specs.Names.{name_cmp}
use Rattle.book_office.specs.Resources.{as_listed, card_in, card_resource, listed_cards, number_of, resource_at}
use Rattle.book_office.specs.declared.nodes.Listed.{Listed}
use Rattle.book_office_values.proofs.Members.{find_mem, first, get_mem, less, mem_get, second}
use Rattle.book_office_values.proofs.NameMapLaws.{by_names, by_same, put_at, removed_at, same_itself, tied}
use Rattle.book_office_values.specs.declared.offices.Book.{Book}
use Rattle.book_office_values.specs.declared.offices.StoredCard.{StoredCard}
use Rattle.book_office_values.specs.declared.paths.Path.TheVariants as path
use Rattle.book_questions_rights.proofs.Elements.{Mem, mem_map, mem_of_map}
use Rattle.book_questions_rights.specs.Places.{cards_of}
use Rattle.book_questions_differs.specs.Pairs.{only_after, paired, pairs_with, with_cards}
use Rattle.book_questions_differs.specs.declared.pairs.CardPair.{CardPair}

-- cards with their names as keys
abbrev keyed : List Listed → List (List ℕ × Listed)
keyed cards = map (λ (card : Listed). (card.name, card)) cards

-- the first card of a name
abbrev named : List ℕ → List Listed → Option Listed
named q cards = find name_cmp q (keyed cards)

-- the names rise
abbrev Rise : List Listed → Type 0
Rise cards = T (is_sorted name_cmp (keyed cards))

-- a name that is below all is below each
below_mem : (x : List ℕ) (es : List (List ℕ × Listed)) (k : List ℕ) (card : Listed) → T (below_all name_cmp x es) → Mem (k, card) es → name_cmp x k ≡ Less
below_mem x [] k card h m = absurd m
below_mem x (e ∷ es) k card h m = elim m [
  | inl is ↦ subst (λ y. name_cmp x y ≡ Less) (sym (ap (λ (p : List ℕ × Listed). p.0) is)) (less _ (first _ _ h))
  | inr r ↦ below_mem x es k card (second _ _ h) r
]

-- a name that is below all is none of them
not_below : (q : List ℕ) (cards : List Listed) → T (below_all name_cmp q (keyed cards)) → named q cards ≡ None
not_below q cards below = go (named q cards) refl
  where
    go : (found : Option Listed) → named q cards ≡ found → found ≡ None
    go None e = refl
    go (Some card) e =
        let lower : name_cmp q q ≡ Less = below_mem q (keyed cards) q card below (find_mem nat_list_cmp_total names_apart (keyed cards) q card e) in
        let tie : name_cmp q q ≡ Equal = tied _ (same_itself q) in
        let clash : Less ≡ Equal = sym lower ∙ tie in
        absurd cc

-- ---- a map with cards, each at its name
or_else : Option Listed → Option Listed → Option Listed
or_else None y = y
or_else (Some x) y = Some x

or_none : (x : Option Listed) → or_else x None ≡ x
unfolding or_else
or_none None = refl
or_none (Some x) = refl

in_map : (m : NamesTo Listed) (cards : List Listed) → Rise cards → (q : List ℕ) → get (with_cards m cards) q ≡ or_else (named q cards) (get m q)
unfolding or_else
in_map m [] rise q = refl
in_map m (card ∷ cards) rise q =
    in_map (insert m card.name card) cards (second _ _ rise) q
    ∙ ap (or_else (named q cards)) (put_at m card.name card q)
    ∙ by_same q card.name (λ b. or_else (named q cards) (cond b (Some card) (get m q)) ≡ or_else (cond b (Some card) (named q cards)) (get m q))
    (λ is. ap (λ x. or_else x (Some card)) (ap (λ n. named n cards) is ∙ not_below card.name cards (first _ _ rise))) refl

in_others : (cards : List Listed) → Rise cards → (q : List ℕ) → get (with_cards empty cards) q ≡ named q cards
in_others cards rise q = in_map empty cards rise q ∙ ap (or_else (named q cards)) (get-empty name_cmp q) ∙ or_none (named q cards)

-- ---- the pairs
-- a name of either list has its pair
pair_there : (others : NamesTo Listed) (cards : List Listed) (q : List ℕ) → (named q cards ≢ None) ⊎ (get others q ≢ None)
    → Mem (record { name = q; before = named q cards; after = get others q }) (pairs_with others cards)
pair_there others [] q (inl h) = absurd (h refl)
pair_there others [] q (inr h) = go (get others q) refl h
  where
    go : (y : Option Listed) → get others q ≡ y → y ≢ None → Mem (record { name = q; before = None; after = y }) (map only_after (entries others))
    go None at h = absurd (h refl)
    go (Some card) at h = mem_map only_after (q, card) (entries others) (get_mem nat_list_cmp_total names_apart others q card at)
pair_there others (card ∷ cards) q h =
    by_names q card.name (λ b. (cond b (Some card) (named q cards) ≢ None) ⊎ (get others q ≢ None)
    → Mem (record { name = q; before = cond b (Some card) (named q cards); after = get others q }) (pairs_with others (card ∷ cards)))
    (λ is k. inl (λ i. record { name = is i; before = Some card; after = get others (is i) }))
    (λ apart k. inr (
    let left : get (remove others card.name) q ≡ get others q =
    removed_at others card.name q ∙ by_names q card.name (λ b. cond b None (get others q) ≡ get others q) (λ is. absurd (apart is)) (λ _. refl) in
    let some : (named q cards ≢ None) ⊎ (get (remove others card.name) q ≢ None) = elim k [ inl a ↦ inl a | inr b ↦ inr (λ e. b (sym left ∙ e)) ] in
    subst (λ y. Mem (record { name = q; before = named q cards; after = y }) (pairs_with (remove others card.name) cards)) left
    (pair_there (remove others card.name) cards q some)
    )) h

-- each pair is that of its name
abbrev IsPairOf : NamesTo Listed → List Listed → CardPair → Type 0
IsPairOf others cards pair = (pair.before ≡ named pair.name cards) × (pair.after ≡ get others pair.name)
    × ((named pair.name cards ≢ None) ⊎ (get others pair.name ≢ None))

some_is : {A : Type 0} (x : A) (y : Option A) → Some x ≡ y → y ≢ None
some_is x y is none = let clash : Some x ≡ None = is ∙ none in cc

pair_is : (others : NamesTo Listed) (cards : List Listed) → Rise cards → (pair : CardPair) → Mem pair (pairs_with others cards) → IsPairOf others cards pair
pair_is others [] rise pair m =
    let e = mem_of_map only_after pair (entries others) m in
    let at : get others e.0.0 ≡ Some e.0.1 = mem_get nat_list_cmp_total names_apart others e.0.0 e.0.1 e.1 in
    subst (IsPairOf others []) (sym e.2) (refl, sym at, inr (some_is e.0.1 _ (sym at)))
pair_is others (card ∷ cards) rise pair (inl e) =
    let here : Some card ≡ named card.name (card ∷ cards) = ap (λ b. cond b (Some card) (named card.name cards)) (sym (same_itself card.name)) in
    subst (IsPairOf others (card ∷ cards)) (sym e) (here, refl, inl (some_is card _ here))
pair_is others (card ∷ cards) rise pair (inr m) =
    let k = pair_is (remove others card.name) cards (second _ _ rise) pair m in
    let apart : pair.name ≡ card.name → ⊥ = λ is. elim k.2 [
      | inl some ↦ some (ap (λ n. named n cards) is ∙ not_below card.name cards (first _ _ rise))
      | inr some ↦ some (ap (get (remove others card.name)) is ∙ removed_at others card.name card.name ∙ ap (λ b. cond b None (get others card.name)) (same_itself card.name))
    ] in
    let left : get (remove others card.name) pair.name ≡ get others pair.name =
    removed_at others card.name pair.name ∙ by_names pair.name card.name (λ b. cond b None (get others pair.name) ≡ get others pair.name) (λ is. absurd (apart is)) (λ _. refl) in
    let later : named pair.name (card ∷ cards) ≡ named pair.name cards =
    by_names pair.name card.name (λ b. cond b (Some card) (named pair.name cards) ≡ named pair.name cards) (λ is. absurd (apart is)) (λ _. refl) in
    let some : (named pair.name (card ∷ cards) ≢ None) ⊎ (get others pair.name ≢ None) = elim k.2 [ inl a ↦ inl (λ e. a (sym later ∙ e)) | inr b ↦ inr (λ e. b (left ∙ e)) ] in
    (k.0 ∙ sym later, k.1 ∙ left, some)

-- ---- the cards of a book
module _ (book : Book) where
  abbrev seen : List ℕ × StoredCard → Listed
  seen e = as_listed e.0 (card_resource (number_of book e.0) e.1)

  below_same : (x : List ℕ) (es : List (List ℕ × StoredCard)) → below_all name_cmp x (keyed (map seen es)) ≡ below_all name_cmp x es
  below_same x [] = refl
  below_same x (e ∷ es) = ap (λ b. is_lt (name_cmp x e.0) && b) (below_same x es)

  sorted_same : (es : List (List ℕ × StoredCard)) → is_sorted name_cmp (keyed (map seen es)) ≡ is_sorted name_cmp es
  sorted_same [] = refl
  sorted_same (e ∷ es) = λ i. below_same e.0 es i && sorted_same es i

  named_seen : (q : List ℕ) (es : List (List ℕ × StoredCard))
      → named q (map seen es) ≡ option_map (λ (card : StoredCard). as_listed q (card_resource (number_of book q) card)) (find name_cmp q es)
  named_seen q [] = refl
  named_seen q (e ∷ es) =
      by_same q e.0 (λ b. cond b (Some (seen e)) (named q (map seen es))
      ≡ option_map (λ (card : StoredCard). as_listed q (card_resource (number_of book q) card)) (cond b (Some e.1) (find name_cmp q es)))
      (λ is. ap (λ n. Some (as_listed n (card_resource (number_of book n) e.1))) (sym is)) (named_seen q es)

  twice : (q : List ℕ) (found : Option StoredCard)
      → option_map (λ (card : StoredCard). as_listed q (card_resource (number_of book q) card)) found ≡ option_map (as_listed q) (option_map (card_resource (number_of book q)) found)
  twice q None = refl
  twice q (Some card) = refl

  named_in : (q : List ℕ) → named q (listed_cards book) ≡ option_map (as_listed q) (card_in book q)
  named_in q =
      named_seen q (entries book.cards)
      ∙ ap (option_map (λ (card : StoredCard). as_listed q (card_resource (number_of book q) card))) (sym (get-entries book.cards q))
      ∙ twice q (get book.cards q)

  rise_in : Rise (listed_cards book)
  rise_in = subst T (sym (sorted_same (entries book.cards))) (entries_sorted book.cards)

module _ (o : Office) (b : List ℕ) where
  rise_at : Rise (cards_of o (path.Book b))
  rise_at = go (get o.books b)
    where
      go : (found : Option Book) → Rise (unwrap_or (option_map listed_cards found) [])
      go None = tt
      go (Some book) = rise_in book

  -- the card of a name is what the Office has at its path
  card_seen : (q : List ℕ) → named q (cards_of o (path.Book b)) ≡ option_map (as_listed q) (resource_at o (path.Card b q))
  card_seen q = go (get o.books b)
    where
      go : (found : Option Book) → named q (unwrap_or (option_map listed_cards found) []) ≡ option_map (as_listed q) (option_and_then (λ (book : Book). card_in book q) found)
      go None = refl
      go (Some book) = named_in book q

-- ---- two Offices
some_mapped : {A B : Type 0} (f : A → B) (x : Option A) → x ≢ None → option_map f x ≢ None
some_mapped f None h = absurd (h refl)
some_mapped f (Some x) h = λ e. cc

none_mapped : {A B : Type 0} (f : A → B) (x : Option A) → option_map f x ≢ None → x ≢ None
none_mapped f None h = absurd (h refl)
none_mapped f (Some x) h = λ e. cc

module _ (o p : Office) (b : List ℕ) where
  -- a card of both, as it is
  abbrev pub pair_at : List ℕ → CardPair
  pair_at c = record {
    name = c;
    before = option_map (as_listed c) (resource_at o (path.Card b c));
    after = option_map (as_listed c) (resource_at p (path.Card b c));
  }

  abbrev pub pairs_at : List CardPair
  pairs_at = paired (cards_of o (path.Book b)) (cards_of p (path.Book b))

  abbrev others : NamesTo Listed
  others = with_cards empty (cards_of p (path.Book b))

  after_is : (c : List ℕ) → get others c ≡ option_map (as_listed c) (resource_at p (path.Card b c))
  after_is c = in_others (cards_of p (path.Book b)) (rise_at p b) c ∙ card_seen p b c

  pub in_paired : (c : List ℕ) → (resource_at o (path.Card b c) ≢ None) ⊎ (resource_at p (path.Card b c) ≢ None) → Mem (pair_at c) pairs_at
  in_paired c h =
      let some : (named c (cards_of o (path.Book b)) ≢ None) ⊎ (get others c ≢ None) = elim h [
        | inl a ↦ inl (λ e. some_mapped (as_listed c) _ a (sym (card_seen o b c) ∙ e))
        | inr a ↦ inr (λ e. some_mapped (as_listed c) _ a (sym (after_is c) ∙ e))
      ] in
      let same : record { name = c; before = named c (cards_of o (path.Book b)); after = get others c } ≡ pair_at c =
      λ i. record { name = c; before = card_seen o b c i; after = after_is c i } in
      subst (λ pair. Mem pair pairs_at) same (pair_there others (cards_of o (path.Book b)) c some)

  pub of_paired : (pair : CardPair) → Mem pair pairs_at
      → (pair ≡ pair_at pair.name) × ((resource_at o (path.Card b pair.name) ≢ None) ⊎ (resource_at p (path.Card b pair.name) ≢ None))
  of_paired pair m =
      let k = pair_is others (cards_of o (path.Book b)) (rise_at o b) pair m in
      let was : pair.before ≡ option_map (as_listed pair.name) (resource_at o (path.Card b pair.name)) = k.0 ∙ card_seen o b pair.name in
      let is : pair.after ≡ option_map (as_listed pair.name) (resource_at p (path.Card b pair.name)) = k.1 ∙ after_is pair.name in (
        λ i. record { name = pair.name; before = was i; after = is i },
        elim k.2 [
          | inl a ↦ inl (none_mapped (as_listed pair.name) _ (λ e. a (card_seen o b pair.name ∙ e)))
          | inr a ↦ inr (none_mapped (as_listed pair.name) _ (λ e. a (after_is pair.name ∙ e)))
        ],
      )

-- where there are no cards there is no pair
no_entries : entries (empty {X = Listed} {R = name_cmp}) ≡ []
no_entries = go (entries (empty {X = Listed} {R = name_cmp})) refl
  where
    go : (es : List (List ℕ × Listed)) → entries (empty {X = Listed} {R = name_cmp}) ≡ es → es ≡ []
    go [] is = refl
    go (e ∷ es) is =
        let at : get (empty {X = Listed} {R = name_cmp}) e.0 ≡ Some e.1 = mem_get nat_list_cmp_total names_apart empty e.0 e.1 (subst (Mem e) (sym is) (inl refl)) in
        let clash : None ≡ Some e.1 = sym (get-empty name_cmp e.0) ∙ at in
        absurd cc

pub none_paired : paired [] [] ≡ []
none_paired = ap (map only_after) no_entries
