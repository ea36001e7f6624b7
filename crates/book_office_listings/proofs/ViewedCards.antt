-- The cards of a view are those that may be read.
use Rattle.book_office_listings.proofs.Common.{◌≡◌, ℕ, true, false, Bool, List, Some, None, option_map, refl, sym, ap, ◌∙◌, subst, Leaf, CircleOf, Grants, Office, effective_at, Resource, bare_entries, here_of}
use Rattle.std.proofs.Common.{option_and_then}
use Rattle.std.proofs.lemmas.Bool.{and_from, and_parts, eqb-true, eq-eqb}
use Rattle.std.specs.Prelude.{if◌then◌else◌}
use Rattle.std.specs.FinMap.{get}
use Rattle.book_rights.specs.Leaves.{each_leaf, only, place_of}
use Rattle.book_lists.proofs.OneOutcome.{leaf_at, leaf_at-place_of}
use Rattle.book_rights.specs.Privileges.{is_read}
use Rattle.book_rights.specs.declared.privileges.Leaf.TheVariants.{ReadNames, ReadTexts}
use Rattle.book_office_values.specs.declared.offices.Book.{Book}
use Rattle.book_office_values.specs.declared.offices.StoredCard.{StoredCard}
use Rattle.book_office_values.specs.declared.paths.Path.TheVariants as path
use Rattle.book_office.specs.Resources.{card_in, card_resource, number_of}
use Rattle.book_office.specs.OwnLists.{entries_in_force}
use Rattle.book_office.specs.declared.nodes.EffectiveEntry.{EffectiveEntry}
use Rattle.book_office_sync.specs.Copies.{grants, here_of_card}
use Rattle.book_office_sync.specs.Granted.{text_at, text_in}
use Rattle.book_office_listings.specs.Laws.{TextsAreToldWhereGranted, ViewsHaveWhatMayBeRead}
use Rattle.book_office_listings.specs.Verdicts.{principal_of}
use Rattle.book_office_listings.proofs.ToldValues.{told_privileges}

-- what entries ask of a card is what they ask of its path
card_here : (o : Office) (b c : List ℕ) (book : Book) (card : StoredCard) → get o.books b ≡ Some book → get book.cards c ≡ Some card → here_of o (path.Card b c) ≡ here_of_card card
card_here o b c book card at_book at_card =
    let owner : option_and_then (λ (r : Resource). r.owner) (option_and_then (λ (x : Book). card_in x c) (get o.books b)) ≡ card.owner =
    ap (λ found. option_and_then (λ (r : Resource). r.owner) (option_and_then (λ (x : Book). card_in x c) found)) at_book
    ∙ ap (λ found. option_and_then (λ (r : Resource). r.owner) (option_map (card_resource (number_of book c)) found)) at_card in
    ap (λ owned. record { owner = owned; principal = principal_of (path.Card b c) }) owner

-- what is told of a card by its leaves, at the card and at its path
module _ (o : Office) (circle : CircleOf) (b c : List ℕ) (book : Book) (card : StoredCard) (at_book : get o.books b ≡ Some book) (at_card : get book.cards c ≡ Some card) where
  abbrev list : List EffectiveEntry
  list = effective_at o (path.Card b c)

  same_here : here_of o (path.Card b c) ≡ here_of_card card
  same_here = card_here o b c book card at_book at_card

  by_list : (leaf : Leaf) → grants (bare_entries list) circle (here_of_card card) leaf ≡ true → Grants (bare_entries list) circle (here_of o (path.Card b c)) leaf
  by_list leaf reads = subst (λ h. Grants (bare_entries list) circle h leaf) (sym same_here) ((told_privileges list circle (here_of_card card) leaf).0 reads)

  from_list : (leaf : Leaf) → Grants (bare_entries list) circle (here_of o (path.Card b c)) leaf → grants (bare_entries list) circle (here_of_card card) leaf ≡ true
  from_list leaf granted = (told_privileges list circle (here_of_card card) leaf).1 (subst (λ h. Grants (bare_entries list) circle h leaf) same_here granted)

pub views_have_what_may_be_read : ViewsHaveWhatMayBeRead
views_have_what_may_be_read o circle b c book card at_book at_card =
    let told = by_list o circle b c book card at_book at_card in
    let from = from_list o circle b c book card at_book at_card in (
      λ reads leaf is.
          let both = and_parts _ _ reads in
          each_leaf (λ l. is_read l ≡ true → Grants (bare_entries (effective_at o (path.Card b c))) circle (here_of o (path.Card b c)) l) (λ _. told ReadTexts both.0)
          (λ e. absurd cc) (λ e. absurd cc) (λ e. absurd cc) (λ e. absurd cc) (λ e. absurd cc) (λ e. absurd cc) (λ e. absurd cc)
          (λ _. told ReadNames both.1) leaf is,
      λ granted. and_from _ _ (from ReadTexts (granted ReadTexts cc)) (from ReadNames (granted ReadNames cc)),
    )

-- the one leaf of a set of one
only_itself : (one leaf : Leaf) → only one leaf ≡ true → leaf ≡ one
only_itself one leaf is =
    let same : place_of leaf ≡ place_of one = eqb-true (place_of leaf) (place_of one) is in
    sym (leaf_at-place_of leaf) ∙ ap leaf_at same ∙ leaf_at-place_of one

-- a text that is told only where a test holds
told_if : (test : Bool) (text : List ℕ) → (if test then Some text else None) ≡ Some text → test ≡ true
told_if true text is = refl
told_if false text is = absurd cc

pub texts_are_told_where_granted : TextsAreToldWhereGranted
texts_are_told_where_granted o circle b c leaf book card at_book at_card =
    let by = by_list o circle b c book card at_book at_card in
    let from = from_list o circle b c book card at_book at_card in
    let test = grants (bare_entries (effective_at o (path.Card b c))) circle (here_of_card card) leaf in
    let is : text_at o circle b leaf c ≡ (if test then Some card.text else None) =
    ap (λ found. option_and_then (text_in o circle b c leaf) found) at_book
    ∙ ap (λ found. option_and_then (λ (k : StoredCard). if grants (entries_in_force o (path.Card b c)) circle (here_of_card k) leaf then Some k.text else None) found) at_card in (
      λ told l member.
          let granted = by leaf (told_if test card.text (sym is ∙ told)) in
          subst (λ m. Grants (bare_entries (effective_at o (path.Card b c))) circle (here_of o (path.Card b c)) m) (sym (only_itself leaf l member)) granted,
      λ granted.
          let reads = from leaf (granted leaf (eq-eqb (place_of leaf) (place_of leaf) refl)) in
          is ∙ ap (λ t. if t then Some card.text else None) reads,
    )
