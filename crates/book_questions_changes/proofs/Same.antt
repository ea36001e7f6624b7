-- Nothing is told of a path exactly where both Offices have the same there.
use Rattle.book_questions_changes.proofs.Common.{◌≡◌, ◌++◌, ◌∷◌, ◌∙◌, [], ℕ, Bool, true, false, List, Option, Some, None, ap, codes, map, refl, sym, Office}
use Rattle.std.proofs.Common.{◌⊎◌, ◌&&◌, inl, inr, option_map, unwrap_or}
use Rattle.std.specs.Prelude.{if◌then◌else◌}
use Rattle.std.proofs.lemmas.Slice.Eq.{bytes_eq-Decides}
use Rattle.std.specs.Bool.{Decides}
use Rattle.book_lists.specs.declared.entries.Entry.{Entry}
use Rattle.book_office.specs.InForce.{list_in}
use Rattle.book_office.specs.Levels.{level_at, lists_at}
use Rattle.book_office.specs.Resources.{Resource, node_of, resource_at}
use Rattle.book_office.specs.declared.nodes.Listed.{Listed}
use Rattle.book_office_audit.specs.EntryLines.{entry_line}
use Rattle.book_office_listings.specs.Verdicts.{here_of}
use Rattle.book_office_values.specs.Paths.{path_text}
use Rattle.book_office_values.specs.declared.paths.Kind.TheVariants as kind
use Rattle.book_office_values.specs.declared.paths.Path.{Path}
use Rattle.book_office_values.specs.declared.paths.Path.TheVariants as path
use Rattle.book_questions_rights.proofs.Alike.{alike_decides}
use Rattle.book_questions_rights.specs.EqualCards.{same_list, same_owner}
use Rattle.book_questions_differs.specs.Places.{found_at, found_with}
use Rattle.book_questions_differs.specs.declared.places.Found.{Found}
use Rattle.book_questions_differs.specs.declared.places.Spot.{Spot}
use Rattle.book_questions_changes.specs.Facts.{changed, first_list, label_changes, label_lines, list_changes, list_lines, owner_changes, owner_lines, same_labels, same_lists, same_owners, signed, spot_changes}
use Rattle.book_questions_changes.specs.Laws.{IsEqualIn}
use Rattle.book_questions_changes.proofs.Texts.{parts_nothing}

-- ---- the tests
card_with : Option (List ℕ) → List Entry → Listed
card_with owner own = record { name = []; kind = kind.Card; owner = owner; label = []; number = 0; protected = []; own = own }

and_true : (a : Bool) → (a && true) ≡ a
and_true true = refl
and_true false = refl

pub owners_decide : (a b : Option (List ℕ)) → Decides (same_owner a b) (a ≡ b)
unfolding card_with
owners_decide a b =
    let d = alike_decides (card_with a []) (card_with b []) in (
      λ h. (d.0 (and_true (same_owner a b) ∙ h)).owner,
      λ e. sym (and_true (same_owner a b)) ∙ d.1 (record { owner = e; own = refl }),
    )

pub lists_decide : (xs ys : List Entry) → Decides (same_list xs ys) (xs ≡ ys)
unfolding card_with
lists_decide xs ys =
    let d = alike_decides (card_with None xs) (card_with None ys) in (
      λ h. (d.0 h).own,
      λ e. d.1 (record { owner = refl; own = e }),
    )

-- ---- changes that tell nothing
minus_nothing : (lines : List (List ℕ)) → signed (codes "- ") lines ≡ [] → lines ≡ []
minus_nothing [] e = refl
minus_nothing (line ∷ lines) e = absurd cc

plus_nothing : (lines : List (List ℕ)) → signed (codes "+ ") lines ≡ [] → lines ≡ []
plus_nothing [] e = refl
plus_nothing (line ∷ lines) e = absurd cc

unchanged : (same : Bool) (before after : List (List ℕ)) → changed same before after ≡ [] → (same ≡ true) ⊎ ((before ≡ []) × (after ≡ []))
unchanged true before after e = inl refl
unchanged false before after e =
    let k = parts_nothing (signed (codes "- ") before) (signed (codes "+ ") after) e in
    inr (minus_nothing before k.0, plus_nothing after k.1)

as_same : (same : Bool) (before after : List (List ℕ)) → same ≡ true → changed same before after ≡ []
as_same same before after e = ap (λ (b : Bool). if b then [] else signed (codes "- ") before ++ signed (codes "+ ") after) e

-- ---- a resource in two Offices
abbrev pub AreSame : Option Found → Option Found → Type 0
AreSame None None = Unit {0}
AreSame None (Some after) = ⊥
AreSame (Some before) None = ⊥
AreSame (Some before) (Some after) = (before.node.owner ≡ after.node.owner) × (before.node.label ≡ after.node.label)
    × (first_list true before.lists.levels ≡ first_list true after.lists.levels) × (first_list false before.lists.levels ≡ first_list false after.lists.levels)

no_lines : (protected : Bool) (at : List ℕ) (es : List Entry) → map (λ (entry : Entry). at ++ entry_line protected entry) es ≡ [] → es ≡ []
no_lines protected at [] e = refl
no_lines protected at (x ∷ es) e = absurd cc

list_same : (protected : Bool) (at : List ℕ) (xs ys : List Entry)
    → changed (same_list xs ys) (map (λ (entry : Entry). at ++ entry_line protected entry) xs) (map (λ (entry : Entry). at ++ entry_line protected entry) ys) ≡ [] → xs ≡ ys
list_same protected at xs ys e = elim (unchanged (same_list xs ys) _ _ e) [
  | inl same ↦ (lists_decide xs ys).0 same
  | inr none ↦ no_lines protected at xs none.0 ∙ sym (no_lines protected at ys none.1)
]

module _ (at : Path) where
  abbrev spot : Option Found → Option Found → Spot
  spot before after = record { path = at; before = before; after = after }

  pub nothing_told : (before after : Option Found) → spot_changes (spot before after) ≡ [] → AreSame before after
  nothing_told None None e = tt
  nothing_told None (Some after) e = absurd cc
  nothing_told (Some before) None e = absurd cc
  nothing_told (Some before) (Some after) e =
      let x : Option Found = Some before in
      let y : Option Found = Some after in
      let first = parts_nothing (owner_changes (spot x y)) (label_changes (spot x y) ++ (list_changes (spot x y) true ++ list_changes (spot x y) false)) e in
      let second = parts_nothing (label_changes (spot x y)) (list_changes (spot x y) true ++ list_changes (spot x y) false) first.1 in
      let third = parts_nothing (list_changes (spot x y) true) (list_changes (spot x y) false) second.1 in
      let owner : before.node.owner ≡ after.node.owner = elim (unchanged (same_owners before after) (owner_lines (path_text at) x) (owner_lines (path_text at) y) first.0) [
        | inl same ↦ (owners_decide before.node.owner after.node.owner).0 same
        | inr none ↦ let clash = none.0 in absurd cc
      ] in
      let label : before.node.label ≡ after.node.label = elim (unchanged (same_labels before after) (label_lines (path_text at) x) (label_lines (path_text at) y) second.0) [
        | inl same ↦ (bytes_eq-Decides before.node.label after.node.label).0 same
        | inr none ↦ let clash = none.0 in absurd cc
      ] in (
        owner,
        label,
        list_same true (path_text at) (first_list true before.lists.levels) (first_list true after.lists.levels) third.0,
        list_same false (path_text at) (first_list false before.lists.levels) (first_list false after.lists.levels) third.1,
      )

  pub told_nothing_of : (before after : Option Found) → AreSame before after → spot_changes (spot before after) ≡ []
  told_nothing_of None None same = refl
  told_nothing_of None (Some after) same = absurd same
  told_nothing_of (Some before) None same = absurd same
  told_nothing_of (Some before) (Some after) same =
      let x : Option Found = Some before in
      let y : Option Found = Some after in
      let owner : owner_changes (spot x y) ≡ [] = as_same (same_owners before after) (owner_lines (path_text at) x) (owner_lines (path_text at) y) ((owners_decide before.node.owner after.node.owner).1 same.0) in
      let label : label_changes (spot x y) ≡ [] = as_same (same_labels before after) (label_lines (path_text at) x) (label_lines (path_text at) y) ((bytes_eq-Decides before.node.label after.node.label).1 same.1) in
      let first : list_changes (spot x y) true ≡ [] =
      as_same (same_lists true before after) (list_lines true (path_text at) x) (list_lines true (path_text at) y) ((lists_decide (first_list true before.lists.levels) (first_list true after.lists.levels)).1 same.2) in
      let last : list_changes (spot x y) false ≡ [] =
      as_same (same_lists false before after) (list_lines false (path_text at) x) (list_lines false (path_text at) y) ((lists_decide (first_list false before.lists.levels) (first_list false after.lists.levels)).1 same.3) in
      λ i. owner i ++ (label i ++ (first i ++ last i))

-- ---- by the resources
-- the first of the lists in force is the one that stands there
first_is : (o : Office) (at : Path) (protected : Bool) → first_list protected (lists_at o at).levels ≡ list_in protected (level_at o at)
first_is o path.Root protected = refl
first_is o path.People protected = refl
first_is o path.Groups protected = refl
first_is o path.Books protected = refl
first_is o (path.Person n) protected = refl
first_is o (path.Group n) protected = refl
first_is o (path.Book b) protected = refl
first_is o (path.Card b c) protected = refl

protected_is : (o : Office) (at : Path) (r : Resource) → resource_at o at ≡ Some r → first_list true (lists_at o at).levels ≡ r.protected
protected_is o at r e = first_is o at true ∙ ap (λ (found : Option Resource). unwrap_or (option_map (λ (x : Resource). x.protected) found) []) e

own_is : (o : Office) (at : Path) (r : Resource) → resource_at o at ≡ Some r → first_list false (lists_at o at).levels ≡ r.own
own_is o at r e = first_is o at false ∙ ap (λ (found : Option Resource). unwrap_or (option_map (λ (x : Resource). x.own) found) []) e

pub equal_in : (o p : Office) (at : Path) → AreSame (found_at o at) (found_at p at) → IsEqualIn (resource_at o at) (resource_at p at)
equal_in o p at same = go (resource_at o at) (resource_at p at) refl refl same
  where
    go : (r s : Option Resource) → resource_at o at ≡ r → resource_at p at ≡ s
        → AreSame (option_map (found_with (here_of o at) (lists_at o at)) (option_map node_of r)) (option_map (found_with (here_of p at) (lists_at p at)) (option_map node_of s)) → IsEqualIn r s
    go None None was is same = tt
    go None (Some s) was is same = absurd same
    go (Some r) None was is same = absurd same
    go (Some r) (Some s) was is same = (
      same.0,
      same.1,
      sym (protected_is o at r was) ∙ same.2 ∙ protected_is p at s is,
      sym (own_is o at r was) ∙ same.3 ∙ own_is p at s is,
    )

pub same_of : (o p : Office) (at : Path) → IsEqualIn (resource_at o at) (resource_at p at) → AreSame (found_at o at) (found_at p at)
same_of o p at equal = go (resource_at o at) (resource_at p at) refl refl equal
  where
    go : (r s : Option Resource) → resource_at o at ≡ r → resource_at p at ≡ s → IsEqualIn r s
        → AreSame (option_map (found_with (here_of o at) (lists_at o at)) (option_map node_of r)) (option_map (found_with (here_of p at) (lists_at p at)) (option_map node_of s))
    go None None was is equal = tt
    go None (Some s) was is equal = absurd equal
    go (Some r) None was is equal = absurd equal
    go (Some r) (Some s) was is equal = (
      equal.0,
      equal.1,
      protected_is o at r was ∙ equal.2 ∙ sym (protected_is p at s is),
      own_is o at r was ∙ equal.3 ∙ sym (own_is p at s is),
    )
