-- A book that has had fewer changes than it may have cards has fewer cards: each took a number of its own.
use Rattle.book_machine.proofs.Common.{◌≡◌, ◌≢◌, ◌||◌, inl, inr, ℕ, ◌<◌, ◌≤◌, true, false, List, [], ◌∷◌, map, Option, Some, None, option_map, unwrap_or, refl, sym, ap, ◌∙◌, subst, nat_lt, arith, lt-ltb, get, len, entries, MAX_CARDS, name_cmp, NamesTo, Book, Office, StoredCard, book_resource, count_at, node_at, node_of, IsSound, Node}
use Rattle.std.proofs.Common.{◌-◌, T}
use Rattle.std.proofs.Math.Dec.{eqb}
use Rattle.std.proofs.lemmas.Bool.Decides.{eqb_tells}
use Rattle.std.proofs.lemmas.Cmp.{nat_list_cmp_total}
use Rattle.std.proofs.lemmas.List.{length-map}
use Rattle.std.proofs.lemmas.Map.Keys.{IsDistinct-cons}
use Rattle.std.proofs.lemmas.Map.Steps.{length-le_from_distinct_below}
use Rattle.std.specs.List.{AllByRecursion, IsDistinct, list_any}
use Rattle.std.specs.FinMap.{entries_sorted, is_sorted, len-entries}
use Rattle.std.specs.FinMap.Entries.{below_all}
use Rattle.std.specs.Ordering.{ordering_reverse}
use Rattle.std.specs.Prelude.{IsSomeAnd}
use Rattle.std.specs.declared.cmp.Ordering.TheVariants.{Less, Greater}
use Rattle.book_office_values.specs.declared.paths.Path.TheVariants as path
use Rattle.book_office_values.proofs.Members.{Mem, first, less, mem_get, second}
use Rattle.std.specs.FinMap.{slice_cmp-IsAntisymmetric, nat_cmp-IsAntisymmetric}
use Rattle.book_machine.proofs.FittingPlans.{count_of_book}

some_of : (found : Option ℕ) → found ≢ None → (n : ℕ) × (found ≡ Some n)
some_of None some = absurd (some refl)
some_of (Some n) some = (n, refl)

not_below_itself : (name : List ℕ) → name_cmp name name ≢ Less
not_below_itself name below =
    let turned : name_cmp name name ≡ ordering_reverse (name_cmp name name) = nat_list_cmp_total.antisymm name name in
    let e : Less ≡ Greater = sym below ∙ turned ∙ ap ordering_reverse below in
    absurd cc

module _ (last : NamesTo ℕ) (n : ℕ) (within : (name : List ℕ) (m : ℕ) → get last name ≡ Some m → (1 ≤ m) × (m ≤ n))
    (different : (a b : List ℕ) (m : ℕ) → get last a ≡ Some m → get last b ≡ Some m → a ≡ b) where
  -- the number of a name's last change, from 0 on
  abbrev place : List ℕ → ℕ
  place name = unwrap_or (get last name) 0 - 1

  abbrev Entries : Type 0
  Entries = List (List ℕ × StoredCard)

  abbrev places : Entries → List ℕ
  places es = map (λ e. place e.0) es

  -- each name has a last change
  abbrev AllChanged : Entries → Type 0
  AllChanged es = (name : List ℕ) (card : StoredCard) → Mem (name, card) es → get last name ≢ None

  place_of : (name : List ℕ) (m : ℕ) → get last name ≡ Some m → place name ≡ m - 1
  place_of name m is = ap (λ found. unwrap_or found 0 - 1) is

  below : (name : List ℕ) → get last name ≢ None → place name < n
  below name some =
      let (m, is) = some_of (get last name) some in
      let (least, most) = within name m is in
      let at = place_of name m is in
      omega arith

  apart : (a b : List ℕ) → get last a ≢ None → get last b ≢ None → name_cmp a b ≡ Less → eqb (place a) (place b) ≡ false
  apart a b some_a some_b rises = elim (eqb_tells (place a) (place b)) [
    | inr differ ↦ differ.0
    | inl tie ↦
        let (m, is_a) = some_of (get last a) some_a in
        let (l, is_b) = some_of (get last b) some_b in
        let same : m ≡ l =
        let within_a = within a m is_a in
        let within_b = within b l is_b in
        let at_a = place_of a m is_a in
        let at_b = place_of b l is_b in
        let e = tie.1 in
        omega (arith, within_a.0, within_b.0, at_a, at_b, e) in
        absurd (not_below_itself a (subst (λ x. name_cmp a x ≡ Less) (sym (different a b m is_a (is_b ∙ ap Some (sym same)))) rises))
  ]

  apart_from : (name : List ℕ) (es : Entries) → get last name ≢ None → T (below_all name_cmp name es) → AllChanged es
      → AllByRecursion (λ y. eqb (place name) y ≡ false) (places es)
  apart_from name [] some rising changed = tt
  apart_from name (e ∷ es) some rising changed =
      (apart name e.0 some (changed e.0 e.1 (inl refl)) (less _ (first _ _ rising)), apart_from name es some (second _ _ rising) (λ x card m. changed x card (inr m)))

  distinct : (es : Entries) → T (is_sorted name_cmp es) → AllChanged es → IsDistinct eqb (places es)
  unfolding IsDistinct
  distinct [] sorted changed = tt
  distinct (e ∷ es) sorted changed =
      IsDistinct-cons eqb (place e.0) (places es) (apart_from e.0 es (changed e.0 e.1 (inl refl)) (first _ _ sorted) (λ x card m. changed x card (inr m)))
      (distinct es (second _ _ sorted) (λ x card m. changed x card (inr m)))

  all_below : (es : Entries) → AllChanged es → (q : ℕ) → list_any (eqb q) (places es) ≡ true → q < n
  all_below [] changed q e = absurd cc
  all_below (e ∷ es) changed q found = elim (eqb_tells q (place e.0)) [
    | inl tie ↦ subst (λ x. x < n) (sym tie.1) (below e.0 (changed e.0 e.1 (inl refl)))
    | inr differ ↦ all_below es (λ x card m. changed x card (inr m)) q (ap (λ b. b || list_any (eqb q) (places es)) (sym differ.0) ∙ found)
  ]

  few : (cards : NamesTo StoredCard) → ((name : List ℕ) (card : StoredCard) → get cards name ≡ Some card → get last name ≢ None) → len cards ≤ n
  few cards changed =
      let all : AllChanged (entries cards) = λ name card m. changed name card (mem_get nat_list_cmp_total (slice_cmp-IsAntisymmetric nat_cmp-IsAntisymmetric) cards name card m) in
      let h = length-le_from_distinct_below (places (entries cards)) n (distinct (entries cards) (entries_sorted cards) all) (all_below (entries cards) all) in
      subst (λ k. k ≤ n) (length-map (entries cards) (λ e. place e.0) ∙ sym (len-entries cards)) h

-- the cards of a sound book are no more than its changes
pub few_cards : (o : Office) → IsSound o → (b : List ℕ) (node : Option Node) → node ≡ node_at o (path.Book b)
    → IsSomeAnd node (λ (n : Node). n.number < MAX_CARDS) → nat_lt (count_at o (path.Book b)) MAX_CARDS ≡ true
few_cards o sound b node is young = by_found (get o.books b) refl
  where
    by_found : (found : Option Book) → get o.books b ≡ found → nat_lt (count_at o (path.Book b)) MAX_CARDS ≡ true
    by_found None none =
        let at : node ≡ None = is ∙ ap (λ r. option_map node_of (option_map book_resource r)) none in
        absurd (subst (λ x. IsSomeAnd x (λ (n : Node). n.number < MAX_CARDS)) at young)
    by_found (Some book) some =
        let at : node ≡ Some (node_of (book_resource book)) = is ∙ ap (λ r. option_map node_of (option_map book_resource r)) some in
        let low : book.changes.number < MAX_CARDS = subst (λ x. IsSomeAnd x (λ (n : Node). n.number < MAX_CARDS)) at young in
        let book_sound = (sound.books b book some).1 in
        let h : len book.cards ≤ book.changes.number = few book.changes.last book.changes.number book_sound.within book_sound.different book.cards book_sound.changed in
        let count : count_at o (path.Book b) ≡ len book.cards = count_of_book o b book some in
        lt-ltb _ _ (omega (arith, h, low, count))
