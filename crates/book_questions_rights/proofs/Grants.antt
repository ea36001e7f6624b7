-- What the lines tell is what the decision grants.
use Rattle.book_questions_rights.proofs.Common.{◌≡◌, ◌++◌, ◌∷◌, ◌∙◌, [], ℕ, Bool, true, false, List, Option, Some, None, refl, ap, sym, subst, flat_map, Office}
use Rattle.std.proofs.Common.{◌↔◌, Contains, option_and_then, option_map, unwrap_or}
use Rattle.std.proofs.lemmas.Bool.{false≢true}
use Rattle.std.proofs.lemmas.List.{map-append}
use Rattle.std.proofs.lemmas.Bool.Decides.{Decides-eqb}
use Rattle.std.specs.FinMap.{entries, get}
use Rattle.std.specs.Cmp.Lexicographic.{nat_list_cmp_total}
use Rattle.book_rights.specs.Leaves.{only, place_of as rank_of}
use Rattle.book_rights.specs.Privileges.{contained}
use Rattle.book_rights.specs.declared.privileges.Leaf.{Leaf}
use Rattle.book_rights.specs.declared.privileges.Privilege.TheVariants.{One}
use Rattle.book_lists.proofs.FirstFound.{grants_tells}
use Rattle.book_lists.proofs.OneOutcome.{leaf_at, leaf_at-place_of}
use Rattle.book_lists.specs.Circles.{CircleOf}
use Rattle.book_lists.specs.Decisions.{IsAllowed, Grants, bears, denying}
use Rattle.book_lists.specs.declared.entries.Entry.{Entry}
use Rattle.book_lists.specs.declared.entries.Here.{Here}
use Rattle.book_office.specs.InForce.{in_force, list_in, lists_in}
use Rattle.book_office.specs.Levels.{effective_at, effective_of, lists_at, own_at, protected_at}
use Rattle.book_office.specs.Resources.{Resource, as_listed, card_in, card_resource, children_at, listed_cards, number_of}
use Rattle.book_office.specs.declared.nodes.EffectiveEntry.{EffectiveEntry}
use Rattle.book_office.specs.declared.nodes.Level.{Level}
use Rattle.book_office.specs.declared.nodes.Listed.{Listed}
use Rattle.book_office_values.proofs.Members.{get_mem}
use Rattle.book_office_values.proofs.NameMapLaws.{names_apart}
use Rattle.book_office_values.specs.declared.offices.Book.{Book}
use Rattle.book_office_values.specs.declared.offices.StoredCard.{StoredCard}
use Rattle.book_office_values.specs.declared.paths.Path.{Path}
use Rattle.book_office_values.specs.declared.paths.Path.TheVariants as path
use Rattle.book_office_listings.proofs.InTurn.{entries_standing}
use Rattle.book_office_listings.specs.Scanning.{standing_in}
use Rattle.book_office_listings.specs.Verdicts.{IsGrantedAt, bare_entries, here_of}
use Rattle.book_questions_rights.specs.EqualCards.{Class, IsAlike, classes_of}
use Rattle.book_questions_rights.specs.Laws.{ClassesTellTheGrants, IsOfClass, LinesTellTheGrants}
use Rattle.book_questions_rights.specs.Lines.{card_entries, card_here, granted_by}
use Rattle.book_questions_rights.specs.Places.{cards_of, place_of}
use Rattle.book_questions_rights.proofs.Classes.{cards_have_one_class}
use Rattle.book_questions_rights.proofs.Elements.{Mem, contains_of, mem_map}

-- ---- the entries in force, with and without where they stand
entries_of_lists : (b : Bool) (levels : List Level) → bare_entries (flat_map (standing_in b) levels) ≡ lists_in b levels
entries_of_lists b [] = refl
entries_of_lists b (level ∷ levels) =
    map-append (λ (e : EffectiveEntry). e.entry) (standing_in b level) (flat_map (standing_in b) levels)
    ∙ (λ i. entries_standing level.path b (list_in b level) i ++ entries_of_lists b levels i)

entries_in_force : (levels : List Level) → bare_entries (effective_of levels) ≡ in_force levels
entries_in_force levels =
    map-append (λ (e : EffectiveEntry). e.entry) (flat_map (standing_in true) levels) (flat_map (standing_in false) levels)
    ∙ (λ i. entries_of_lists true levels i ++ entries_of_lists false levels i)

-- ---- one leaf as a need
only_itself : (leaf : Leaf) → only leaf leaf ≡ true
only_itself leaf = (Decides-eqb (rank_of leaf) (rank_of leaf)).1 refl

only_that : (leaf other : Leaf) → only leaf other ≡ true → other ≡ leaf
only_that leaf other h = sym (leaf_at-place_of other) ∙ ap leaf_at ((Decides-eqb (rank_of other) (rank_of leaf)).0 h) ∙ leaf_at-place_of leaf

module _ (entries : List Entry) (circle : CircleOf) (here : Here) (leaf : Leaf) where
  held : (granted_by entries circle here leaf ≡ true) ↔ IsAllowed entries circle here (contained (One leaf))
  held =
      let tells = grants_tells (bears circle here) denying entries leaf in (
        λ h other is. subst (λ (l : Leaf). Grants entries circle here l) (sym (only_that leaf other is)) (tells.0 h),
        λ allowed. tells.1 (allowed leaf (only_itself leaf)),
      )

-- what is held by a list and an owner that are those of a resource is what is granted there
held_at : (o : Office) (circle : CircleOf) (p : Path) (leaf : Leaf) (entries : List Entry) (here : Here) → entries ≡ bare_entries (effective_at o p) → here ≡ here_of o p
    → (granted_by entries circle here leaf ≡ true) ↔ IsGrantedAt o circle p (contained (One leaf))
held_at o circle p leaf entries here same_entries same_here =
    subst (λ (h : Here). (granted_by entries circle here leaf ≡ true) ↔ IsAllowed (bare_entries (effective_at o p)) circle h (contained (One leaf))) same_here
    (subst (λ (es : List Entry). (granted_by entries circle here leaf ≡ true) ↔ IsAllowed es circle here (contained (One leaf))) same_entries
    (held entries circle here leaf))

pub lines_tell : LinesTellTheGrants
lines_tell o path.Root circle leaf is = held_at o circle path.Root leaf _ _ (sym (entries_in_force (lists_at o path.Root).levels)) refl
lines_tell o path.People circle leaf is = held_at o circle path.People leaf _ _ (sym (entries_in_force (lists_at o path.People).levels)) refl
lines_tell o path.Groups circle leaf is = held_at o circle path.Groups leaf _ _ (sym (entries_in_force (lists_at o path.Groups).levels)) refl
lines_tell o path.Books circle leaf is = held_at o circle path.Books leaf _ _ (sym (entries_in_force (lists_at o path.Books).levels)) refl
lines_tell o (path.Person n) circle leaf is = held_at o circle (path.Person n) leaf _ _ (sym (entries_in_force (lists_at o (path.Person n)).levels)) refl
lines_tell o (path.Group n) circle leaf is = held_at o circle (path.Group n) leaf _ _ (sym (entries_in_force (lists_at o (path.Group n)).levels)) refl
lines_tell o (path.Book b) circle leaf is = held_at o circle (path.Book b) leaf _ _ (sym (entries_in_force (lists_at o (path.Book b)).levels)) refl
lines_tell o (path.Card b c) circle leaf is = absurd (false≢true is)

-- ---- cards
-- a card that is there is one of the children of its book, as it is listed
listed : (o : Office) (b c : List ℕ) (r : Resource) (found : Option Book) → get o.books b ≡ found
    → option_and_then (λ (book : Book). card_in book c) found ≡ Some r → Mem (as_listed c r) (unwrap_or (option_map listed_cards found) [])
listed o b c r None at e = absurd cc
listed o b c r (Some book) at e = go (get book.cards c) refl e
  where
    go : (card : Option StoredCard) → get book.cards c ≡ card → option_map (card_resource (number_of book c)) card ≡ Some r → Mem (as_listed c r) (listed_cards book)
    go None there is = absurd cc
    go (Some card) there is =
        let same : card_resource (number_of book c) card ≡ r = cc in
        subst (λ (x : Resource). Mem (as_listed c x) (listed_cards book)) same
        (mem_map (λ (e : List ℕ × StoredCard). as_listed e.0 (card_resource (number_of book e.0) e.1)) (c, card) (entries book.cards)
        (get_mem nat_list_cmp_total names_apart book.cards c card there))

-- the protected list of a card is empty
unprotected : (o : Office) (b c : List ℕ) (r : Resource) (found : Option Book) → option_and_then (λ (book : Book). card_in book c) found ≡ Some r → r.protected ≡ []
unprotected o b c r None e = absurd cc
unprotected o b c r (Some book) e = go (get book.cards c) e
  where
    go : (card : Option StoredCard) → option_map (card_resource (number_of book c)) card ≡ Some r → r.protected ≡ []
    go None is = absurd cc
    go (Some card) is = let same : card_resource (number_of book c) card ≡ r = cc in subst (λ (x : Resource). x.protected ≡ []) same refl

pub classes_tell : ClassesTellTheGrants
classes_tell o b c r at = go (cards_have_one_class (cards_of o (path.Book b))).each
  where
    go : ((card : Listed) → Contains (cards_of o (path.Book b)) card → (class : Class) × Contains (classes_of (cards_of o (path.Book b))) class × IsAlike card class.card)
        → (class : Class) × Contains (classes_of (cards_of o (path.Book b))) class × IsOfClass class r
        × ((circle : CircleOf) (leaf : Leaf)
        → (granted_by (card_entries (place_of o (path.Book b)) class.card) circle (card_here class.card) leaf ≡ true) ↔ IsGrantedAt o circle (path.Card b c) (contained (One leaf)))
    go each =
        let card : Listed = as_listed c r in
        let found = each card (contains_of card (children_at o (path.Book b)) (listed o b c r (get o.books b) refl at)) in
        let class : Class = found.0 in
        let alike : IsAlike card class.card = found.2 in
        let own : class.card.own ≡ r.own = sym alike.own in
        let owner : class.card.owner ≡ r.owner = sym alike.owner in (
          class,
          found.1,
          record { owner = owner; own = own },
          λ circle leaf.
              let here : card_here class.card ≡ here_of o (path.Card b c) = λ i. record {
                owner = (owner ∙ sym (ap (λ (found : Option Resource). option_and_then (λ (x : Resource). x.owner) found) at)) i;
                principal = None;
              } in
              let bare : [] ≡ protected_at o (path.Card b c) =
              sym (ap (λ (found : Option Resource). unwrap_or (option_map (λ (x : Resource). x.protected) found) []) at ∙ unprotected o b c r (get o.books b) at) in
              let kept : class.card.own ≡ own_at o (path.Card b c) =
              own ∙ sym (ap (λ (found : Option Resource). unwrap_or (option_map (λ (x : Resource). x.own) found) []) at) in
              let same : card_entries (place_of o (path.Book b)) class.card ≡ in_force (lists_at o (path.Card b c)).levels =
              λ i. (bare i ++ lists_in true (lists_at o (path.Book b)).levels) ++ (kept i ++ lists_in false (lists_at o (path.Book b)).levels) in
              held_at o circle (path.Card b c) leaf (card_entries (place_of o (path.Book b)) class.card) (card_here class.card)
              (same ∙ sym (entries_in_force (lists_at o (path.Card b c)).levels)) here,
        )
