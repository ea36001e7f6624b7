-- What is told of rows with their lists.
use Rattle.book_tables.proofs.Common.{◌≡◌, arith, ℕ, ℤ, List, [], ◌∷◌, ◌++◌, map, codes, Option, Some, None, option_map, unwrap_or, refl, sym, ap, subst, ◌∙◌, IsPermutation, Int, id_in, Database, Row, State, same_Some, Changed, Listed, rowid, some_apart, rows_of, IsBook, Looks, is_under, ShowsListing, child_shown, ShowsChanges, card_shown, removed_shown, row_at, DoNotFall, child_among}
use Rattle.std.proofs.lemmas.List.Sorted.{length_permutation, IsPermutation-refl, IsPermutation-trans}
use Rattle.book_tables_rows.specs.declared.nodes.FoundNode.{FoundNode}
use Rattle.book_tables_rows.specs.Lists as lists
use Rattle.book_tables_rows.specs.Lists.{AreFirst, ShowsFirst, ShowsChildren, ShowsChildEntries, changed_number_place, removed_number_place}
use Rattle.book_tables_rows.specs.Nodes.{Finds, Told, told, told_of}
use Rattle.book_tables.specs.Children.{ShowsChildrenOf}
use Rattle.book_tables.specs.LastChanges.{AreCardChangesAt, ShowsCardChanges, AreChangesAt, ShowsCards}
use Rattle.book_tables.proofs.ChildShares.{do_not_fall, shares_are}

-- no row has the path
pub none_changed : (s : State) (path : List ℕ) (number : ℕ) (at_most : Option ℕ) (found : Option FoundNode) → found ≡ None → Finds s path (option_map told found) → ShowsChanges s path number at_most []
none_changed s path number at_most found is finds = (finds.0, λ book. go book (row_at (rows_of s.now.trees) path) refl)
  where
    go : IsBook s.now → (r : Option Row) → row_at (rows_of s.now.trees) path ≡ r → AreChangesAt (rows_of s.now.trees) path number at_most [] r
    go book None e = refl
    go book (Some node) e = some_apart (sym (ap (option_map told_of) e) ∙ sym (finds.1 book) ∙ ap (option_map told) is)

module _ (old first second third : State) (path front : List ℕ) (number : ℕ) (at_most : Option ℕ) (f : FoundNode) (found : Option FoundNode) (is : found ≡ Some f) (finds : Finds old path (option_map told found))
    (look : Looks old first) (look_on : Looks first second) (look_last : Looks second third) (cards names : List Row)
    (shows_cards : ShowsFirst first at_most changed_number_place (lists.changed_rows f.id number) cards) (shows_names : ShowsFirst second at_most removed_number_place (lists.gone_after f.id number) names)
    (front_is : front ≡ path ++ codes "/") (shown changes : List Changed) (are_shown : ShowsCards third f.id number front cards shown) (changes_are : changes ≡ shown ++ map removed_shown names) where
  at_node : IsBook old.now → (r : Option Row) → row_at (rows_of old.now.trees) path ≡ r → AreChangesAt (rows_of old.now.trees) path number at_most changes r
  at_node book None e = some_apart (sym (ap (option_map told) is) ∙ finds.1 book ∙ ap (option_map told_of) e)
  at_node book (Some node) e =
      let same : told f ≡ told_of node = same_Some _ _ (sym (ap (option_map told) is) ∙ finds.1 book ∙ ap (option_map told_of) e) in
      let id : f.id ≡ id_in (rowid node) = ap (λ (t : Told). t.id) same in
      let rows = rows_of old.now.trees in
      let e1 : first.now ≡ old.now = look.same book in
      let b1 : IsBook first.now = subst IsBook (sym e1) book in
      let e2 : second.now ≡ old.now = look_on.same b1 ∙ e1 in
      let b2 : IsBook second.now = subst IsBook (sym e2) book in
      let e3 : third.now ≡ old.now = look_last.same b2 ∙ e2 in
      let b3 : IsBook third.now = subst IsBook (sym e3) book in
      let in_cards : AreFirst at_most changed_number_place (lists.changed_rows (id_in (rowid node)) number rows) cards =
      subst (λ k. AreFirst at_most changed_number_place (lists.changed_rows k number rows) cards) id
      (subst (λ (d : Database). AreFirst at_most changed_number_place (lists.changed_rows f.id number (rows_of d.trees)) cards) e1 (shows_cards.1 b1)) in
      let in_names : AreFirst at_most removed_number_place (lists.gone_after (id_in (rowid node)) number rows) names =
      subst (λ k. AreFirst at_most removed_number_place (lists.gone_after k number rows) names) id
      (subst (λ (d : Database). AreFirst at_most removed_number_place (lists.gone_after f.id number (rows_of d.trees)) names) e2 (shows_names.1 b2)) in
      let in_third : AreFirst at_most changed_number_place (lists.changed_rows f.id number (rows_of third.now.trees)) cards =
      subst (λ (d : Database). AreFirst at_most changed_number_place (lists.changed_rows f.id number (rows_of d.trees)) cards) (e1 ∙ sym e3) (shows_cards.1 b1) in
      let all : changes ≡ map (card_shown rows (path ++ codes "/")) cards ++ map removed_shown names =
      changes_are ∙ ap (λ l. l ++ map removed_shown names) (are_shown b3 at_most in_third ∙ ap (λ (d : Database). map (card_shown (rows_of d.trees) front) cards) e3 ∙ ap (λ t. map (card_shown rows t) cards) front_is) in
      record {
        cards = cards;
        names = names;
        first_cards = in_cards;
        first_names = in_names;
        same = subst (IsPermutation (map (card_shown rows (path ++ codes "/")) cards ++ map removed_shown names)) (sym all) (IsPermutation-refl _);
      }

  pub all_changed : ShowsChanges old path number at_most changes
  all_changed = (finds.0, λ book. at_node book (row_at (rows_of old.now.trees) path) refl)

pub nothing : (changes : List Changed) → IsPermutation [] changes → changes ≡ []
nothing [] same = refl
nothing (c ∷ changes) same = absurd (omega (arith, length_permutation [] (c ∷ changes) same))

-- the order in which changes are shown is free
pub in_any_order : (s : State) (path : List ℕ) (number : ℕ) (at_most : Option ℕ) (changes ordered : List Changed) → ShowsChanges s path number at_most changes → IsPermutation changes ordered → ShowsChanges s path number at_most ordered
in_any_order s path number at_most changes ordered shows same = (shows.0, λ book. go (row_at (rows_of s.now.trees) path) (shows.1 book))
  where
    go : (r : Option Row) → AreChangesAt (rows_of s.now.trees) path number at_most changes r → AreChangesAt (rows_of s.now.trees) path number at_most ordered r
    go None none = nothing ordered (subst (λ l. IsPermutation l ordered) none same)
    go (Some node) are = record { cards = are.cards; names = are.names; first_cards = are.first_cards; first_names = are.first_names; same = IsPermutation-trans _ _ _ are.same same }

-- ---- changes of cards alone

pub no_cards_changed : (s : State) (path : List ℕ) (number : ℕ) (at_most : Option ℕ) (found : Option FoundNode) → found ≡ None → Finds s path (option_map told found) → ShowsCardChanges s path number at_most []
no_cards_changed s path number at_most found is finds = (finds.0, λ book. go book (row_at (rows_of s.now.trees) path) refl)
  where
    go : IsBook s.now → (r : Option Row) → row_at (rows_of s.now.trees) path ≡ r → AreCardChangesAt (rows_of s.now.trees) path number at_most [] r
    go book None e = refl
    go book (Some node) e = some_apart (sym (ap (option_map told_of) e) ∙ sym (finds.1 book) ∙ ap (option_map told) is)

module _ (old first second : State) (path front : List ℕ) (number : ℕ) (at_most : Option ℕ) (f : FoundNode) (found : Option FoundNode) (is : found ≡ Some f) (finds : Finds old path (option_map told found))
    (look : Looks old first) (look_on : Looks first second) (cards : List Row) (shows_cards : ShowsFirst first at_most changed_number_place (lists.changed_rows f.id number) cards)
    (front_is : front ≡ path ++ codes "/") (changes : List Changed) (are_shown : ShowsCards second f.id number front cards changes) where
  cards_at_node : IsBook old.now → (r : Option Row) → row_at (rows_of old.now.trees) path ≡ r → AreCardChangesAt (rows_of old.now.trees) path number at_most changes r
  cards_at_node book None e = some_apart (sym (ap (option_map told) is) ∙ finds.1 book ∙ ap (option_map told_of) e)
  cards_at_node book (Some node) e =
      let same : told f ≡ told_of node = same_Some _ _ (sym (ap (option_map told) is) ∙ finds.1 book ∙ ap (option_map told_of) e) in
      let id : f.id ≡ id_in (rowid node) = ap (λ (t : Told). t.id) same in
      let rows = rows_of old.now.trees in
      let e1 : first.now ≡ old.now = look.same book in
      let b1 : IsBook first.now = subst IsBook (sym e1) book in
      let e2 : second.now ≡ old.now = look_on.same b1 ∙ e1 in
      let b2 : IsBook second.now = subst IsBook (sym e2) book in
      let in_cards : AreFirst at_most changed_number_place (lists.changed_rows (id_in (rowid node)) number rows) cards =
      subst (λ k. AreFirst at_most changed_number_place (lists.changed_rows k number rows) cards) id
      (subst (λ (d : Database). AreFirst at_most changed_number_place (lists.changed_rows f.id number (rows_of d.trees)) cards) e1 (shows_cards.1 b1)) in
      let in_second : AreFirst at_most changed_number_place (lists.changed_rows f.id number (rows_of second.now.trees)) cards =
      subst (λ (d : Database). AreFirst at_most changed_number_place (lists.changed_rows f.id number (rows_of d.trees)) cards) (e1 ∙ sym e2) (shows_cards.1 b1) in
      let all : changes ≡ map (card_shown rows (path ++ codes "/")) cards =
      are_shown b2 at_most in_second ∙ ap (λ (d : Database). map (card_shown (rows_of d.trees) front) cards) e2 ∙ ap (λ t. map (card_shown rows t) cards) front_is in
      record {
        cards = cards;
        first_cards = in_cards;
        same = subst (IsPermutation (map (card_shown rows (path ++ codes "/")) cards)) (sym all) (IsPermutation-refl _);
      }

  pub all_cards_changed : ShowsCardChanges old path number at_most changes
  all_cards_changed = (finds.0, λ book. cards_at_node book (row_at (rows_of old.now.trees) path) refl)

pub cards_in_any_order : (s : State) (path : List ℕ) (number : ℕ) (at_most : Option ℕ) (changes ordered : List Changed) → ShowsCardChanges s path number at_most changes → IsPermutation changes ordered
    → ShowsCardChanges s path number at_most ordered
cards_in_any_order s path number at_most changes ordered shows same = (shows.0, λ book. go (row_at (rows_of s.now.trees) path) (shows.1 book))
  where
    go : (r : Option Row) → AreCardChangesAt (rows_of s.now.trees) path number at_most changes r → AreCardChangesAt (rows_of s.now.trees) path number at_most ordered r
    go None none = nothing ordered (subst (λ l. IsPermutation l ordered) none same)
    go (Some node) are = record { cards = are.cards; first_cards = are.first_cards; same = IsPermutation-trans _ _ _ are.same same }

-- ---- children

pub none_listed : (s : State) (path front : List ℕ) (found : Option FoundNode) → found ≡ None → Finds s path (option_map told found) → ShowsListing s path front []
none_listed s path front found is finds = (finds.0, λ book. go book (row_at (rows_of s.now.trees) path) refl)
  where
    go : IsBook s.now → (r : Option Row) → row_at (rows_of s.now.trees) path ≡ r
        → [] ≡ unwrap_or (option_map (λ node. map (child_shown (rows_of s.now.trees) front) (lists.children_of (id_in (rowid node)) (rows_of s.now.trees))) r) []
    go book None e = refl
    go book (Some node) e = some_apart (sym (ap (option_map told_of) e) ∙ sym (finds.1 book) ∙ ap (option_map told) is)

-- with the lists that are told of all of them
pub children_joined : (s : State) (id : ℤ) (front : List ℕ) (rows entries : List Row) (children : List Listed) → ShowsChildEntries s id entries → (DoNotFall entries → children ≡ map (child_among entries front) rows)
    → ShowsChildrenOf s id front rows children
children_joined s id front rows entries children shows joined book rows_are =
    let entries_are = shows.1 book in
    joined (subst DoNotFall (sym entries_are) (do_not_fall s.now book (is_under (Int id)))) ∙ (λ i. map (child_among (entries_are i) front) (rows_are i)) ∙ shares_are s.now book id front
    ∙ ap (map (child_shown (rows_of s.now.trees) front)) (sym rows_are)

module _ (old first second : State) (path front : List ℕ) (f : FoundNode) (found : Option FoundNode) (is : found ≡ Some f) (finds : Finds old path (option_map told found)) (look : Looks old first) (look_on : Looks first second)
    (rows : List Row) (shows : ShowsChildren first f.id rows) (children : List Listed) (are : ShowsChildrenOf second f.id front rows children) where
  listed_at : IsBook old.now → (r : Option Row) → row_at (rows_of old.now.trees) path ≡ r
      → children ≡ unwrap_or (option_map (λ node. map (child_shown (rows_of old.now.trees) front) (lists.children_of (id_in (rowid node)) (rows_of old.now.trees))) r) []
  listed_at book None e = some_apart (sym (ap (option_map told) is) ∙ finds.1 book ∙ ap (option_map told_of) e)
  listed_at book (Some node) e =
      let same : told f ≡ told_of node = same_Some _ _ (sym (ap (option_map told) is) ∙ finds.1 book ∙ ap (option_map told_of) e) in
      let id : f.id ≡ id_in (rowid node) = ap (λ (t : Told). t.id) same in
      let e1 : first.now ≡ old.now = look.same book in
      let b1 : IsBook first.now = subst IsBook (sym e1) book in
      let e2 : second.now ≡ old.now = look_on.same b1 ∙ e1 in
      let b2 : IsBook second.now = subst IsBook (sym e2) book in
      let rows_are : rows ≡ lists.children_of f.id (rows_of old.now.trees) = shows.1 b1 ∙ ap (λ (d : Database). lists.children_of f.id (rows_of d.trees)) e1 in
      are b2 (rows_are ∙ ap (λ (d : Database). lists.children_of f.id (rows_of d.trees)) (sym e2))
      ∙ ap (λ (d : Database). map (child_shown (rows_of d.trees) front) rows) e2
      ∙ ap (map (child_shown (rows_of old.now.trees) front)) (rows_are ∙ ap (λ k. lists.children_of k (rows_of old.now.trees)) id)

  pub all_listed : ShowsListing old path front children
  all_listed = (finds.0, λ book. listed_at book (row_at (rows_of old.now.trees) path) refl)
