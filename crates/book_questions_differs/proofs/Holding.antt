-- What the lines tell is what the decisions grant.
use Rattle.book_questions_differs.proofs.Common.{◌≡◌, ◌++◌, ◌∙◌, ◌∷◌, [], ℕ, Bool, true, false, List, Option, Some, None, refl, ap, sym, subst, flat_map, Office}
use Rattle.std.proofs.Common.{◌≢◌, ◌↔◌, ◌&&◌, not, option_and_then, option_map, unwrap_or}
use Rattle.std.proofs.lemmas.Bool.{false≢true}
use Rattle.std.proofs.lemmas.List.{map-append}
use Rattle.std.proofs.lemmas.Bool.Decides.{Decides-eqb}
use Rattle.std.specs.FinMap.{get}
use Rattle.book_rights.specs.Leaves.{only, place_of as rank_of}
use Rattle.book_rights.specs.Privileges.{contained}
use Rattle.book_rights.specs.declared.privileges.Leaf.{Leaf}
use Rattle.book_rights.specs.declared.privileges.Privilege.TheVariants.{One}
use Rattle.book_lists.proofs.FirstFound.{grants_tells}
use Rattle.book_lists.proofs.OneOutcome.{leaf_at, leaf_at-place_of, one_circle}
use Rattle.book_lists.specs.Circles.{CircleOf}
use Rattle.book_lists.specs.Decisions.{IsAllowed, Grants, bears, denying}
use Rattle.book_lists.specs.declared.entries.Entry.{Entry}
use Rattle.book_lists.specs.declared.entries.Here.{Here}
use Rattle.book_office.specs.InForce.{in_force, list_in, lists_in}
use Rattle.book_office.specs.Levels.{effective_at, effective_of, lists_at, own_at, protected_at}
use Rattle.book_office.specs.Resources.{Resource, as_listed, book_resource, card_in, card_resource, node_of, number_of, resource_at}
use Rattle.book_office.specs.declared.nodes.EffectiveEntry.{EffectiveEntry}
use Rattle.book_office.specs.declared.nodes.Level.{Level}
use Rattle.book_office.specs.declared.nodes.Listed.{Listed}
use Rattle.book_office_values.specs.declared.offices.Book.{Book}
use Rattle.book_office_values.specs.declared.offices.StoredCard.{StoredCard}
use Rattle.book_office_values.specs.declared.paths.Path.{Path}
use Rattle.book_office_values.specs.declared.paths.Path.TheVariants as path
use Rattle.book_office_listings.proofs.InTurn.{entries_standing}
use Rattle.book_office_listings.specs.Scanning.{standing_in}
use Rattle.book_office_listings.specs.Verdicts.{IsGrantedAt, bare_entries, here_of}
use Rattle.book_questions_rights.proofs.Elements.{contains_of}
use Rattle.book_questions_rights.specs.Lines.{granted_by}
use Rattle.book_questions_differs.specs.Forces.{card_force_in, force_in, force_of, held}
use Rattle.book_questions_differs.specs.Laws.{ClassesTellWhatDiffers, Holds, IsSeen, LinesTellWhatDiffers, TellsWhatDiffers}
use Rattle.book_questions_differs.specs.Pairs.{AreAlike, IsAlikeIn, PairClass}
use Rattle.book_questions_differs.specs.Parties.{IsCircleIn, caller_named}
use Rattle.book_questions_differs.specs.Places.{found_at, found_with}
use Rattle.book_questions_differs.specs.declared.forces.Force.{Force}
use Rattle.book_questions_differs.proofs.Classes.{pairs_have_one_class}
use Rattle.book_questions_differs.proofs.Pairing.{in_paired, pair_at, pairs_at}

-- ---- the entries in force, with and without where they stand
entries_of_lists : (b : Bool) (levels : List Level) → bare_entries (flat_map (standing_in b) levels) ≡ lists_in b levels
entries_of_lists b [] = refl
entries_of_lists b (level ∷ levels) =
    map-append (λ (e : EffectiveEntry). e.entry) (standing_in b level) (flat_map (standing_in b) levels)
    ∙ (λ i. entries_standing level.path b (list_in b level) i ++ entries_of_lists b levels i)

entries_in_force : (levels : List Level) → bare_entries (effective_of levels) ≡ in_force levels
entries_in_force levels =
    map-append (λ (e : EffectiveEntry). e.entry) (flat_map (standing_in true) levels) (flat_map (standing_in false) levels)
    ∙ (λ i. entries_of_lists true levels i ++ entries_of_lists false levels i)

-- ---- one leaf as a need
only_itself : (leaf : Leaf) → only leaf leaf ≡ true
only_itself leaf = (Decides-eqb (rank_of leaf) (rank_of leaf)).1 refl

only_that : (leaf other : Leaf) → only leaf other ≡ true → other ≡ leaf
only_that leaf other h = sym (leaf_at-place_of other) ∙ ap leaf_at ((Decides-eqb (rank_of other) (rank_of leaf)).0 h) ∙ leaf_at-place_of leaf

granted_tells : (entries : List Entry) (circle : CircleOf) (here : Here) (leaf : Leaf)
    → (granted_by entries circle here leaf ≡ true) ↔ IsAllowed entries circle here (contained (One leaf))
granted_tells entries circle here leaf =
    let tells = grants_tells (bears circle here) denying entries leaf in (
      λ h other is. subst (λ (l : Leaf). Grants entries circle here l) (sym (only_that leaf other is)) (tells.0 h),
      λ allowed. tells.1 (allowed leaf (only_itself leaf)),
    )

-- ---- one Office
-- what is in force at a path
abbrev pub IsForceAt : Office → Path → Option Force → Type 0
IsForceAt o at None = resource_at o at ≡ None
IsForceAt o at (Some force) = (resource_at o at ≢ None) × (force.entries ≡ bare_entries (effective_at o at)) × (force.here ≡ here_of o at)

pub held_tells : (o : Office) (name : Option (List ℕ)) (at : Path) (leaf : Leaf) (force : Option Force) (circle : Option CircleOf) → IsForceAt o at force → IsCircleIn o name circle
    → (held force circle leaf ≡ true) ↔ Holds o name at leaf
held_tells o name at leaf None circle f k = (λ e. absurd (false≢true e), λ h. absurd (h.mapped f))
held_tells o name at leaf (Some force) None f k = (λ e. absurd (false≢true e), λ h. absurd (false≢true (sym k ∙ h.asked)))
held_tells o name at leaf (Some force) (Some circle) f k =
    let tells = granted_tells force.entries circle force.here leaf in (
      λ e. record {
        asked = k.0;
        mapped = f.0;
        circle = circle;
        is_circle = k.1;
        granted = subst (λ (h : Here). IsAllowed (bare_entries (effective_at o at)) circle h (contained (One leaf))) f.2
            (subst (λ (es : List Entry). IsAllowed es circle force.here (contained (One leaf))) f.1 (tells.0 e));
      },
      λ h. tells.1
          (subst (λ (es : List Entry). IsAllowed es circle force.here (contained (One leaf))) (sym f.1)
          (subst (λ (r : Here). IsAllowed (bare_entries (effective_at o at)) circle r (contained (One leaf))) (sym f.2)
          (subst (λ (c : CircleOf). IsGrantedAt o c at (contained (One leaf))) (one_circle o.pairs (caller_named name) h.circle circle h.is_circle k.1) h.granted))),
    )

-- ---- two Offices
-- the one and not the other
one_only : (a b : Bool) (A B : Type 0) → (a ≡ true) ↔ A → (b ≡ true) ↔ B → ((a && not b) ≡ true) ↔ (A × (B → ⊥))
one_only true true A B f g = (λ e. absurd (false≢true e), λ h. absurd (h.1 (g.0 refl)))
one_only true false A B f g = (λ e. (f.0 refl, λ y. false≢true (g.1 y)), λ h. refl)
one_only false b A B f g = (λ e. absurd (false≢true e), λ h. absurd (false≢true (f.1 h.0)))

differing : (o p : Office) (at : Path) (before after : Option Force) → IsForceAt o at before → IsForceAt p at after → TellsWhatDiffers o p at before after
differing o p at before after was is = record {
  lost = λ name party leaf known. one_only _ _ _ _ (held_tells o name at leaf before party.before was known.before) (held_tells p name at leaf after party.after is known.after);
  gained = λ name party leaf known. one_only _ _ _ _ (held_tells p name at leaf after party.after is known.after) (held_tells o name at leaf before party.before was known.before);
}

-- ---- at a resource that is no card
pub force_at : (o : Office) (at : Path) → IsForceAt o at (force_in (found_at o at))
force_at o at = go (resource_at o at) refl
  where
    go : (r : Option Resource) → resource_at o at ≡ r → IsForceAt o at (option_map force_of (option_map (found_with (here_of o at) (lists_at o at)) (option_map node_of r)))
    go None e = e
    go (Some r) e = (λ none. let clash : Some r ≡ None = sym e ∙ none in cc, sym (entries_in_force (lists_at o at).levels), refl)

pub lines_tell : LinesTellWhatDiffers
lines_tell o p at is = differing o p at (force_in (found_at o at)) (force_in (found_at p at)) (force_at o at) (force_at p at)

-- ---- at a card
module _ (o : Office) (b c : List ℕ) where
  -- the book of a card that is there
  pub book_there : (r : Resource) → resource_at o (path.Card b c) ≡ Some r → resource_at o (path.Book b) ≢ None
  book_there r at = go (get o.books b) refl
    where
      go : (found : Option Book) → get o.books b ≡ found → resource_at o (path.Book b) ≢ None
      go None is = λ _. let clash : None ≡ Some r = sym (ap (option_and_then (λ (book : Book). card_in book c)) is) ∙ at in absurd cc
      go (Some book) is = λ none. let clash : Some (book_resource book) ≡ None = sym (ap (option_map book_resource) is) ∙ none in cc

  -- the protected list of a card is empty
  unprotected : (r : Resource) (found : Option Book) → option_and_then (λ (book : Book). card_in book c) found ≡ Some r → r.protected ≡ []
  unprotected r None e = absurd cc
  unprotected r (Some book) e = go (get book.cards c) e
    where
      go : (card : Option StoredCard) → option_map (card_resource (number_of book c)) card ≡ Some r → r.protected ≡ []
      go None is = absurd cc
      go (Some card) is = let same : card_resource (number_of book c) card ≡ r = cc in subst (λ (x : Resource). x.protected ≡ []) same refl

  pub card_force_at : (card : Option Listed) → IsSeen card (resource_at o (path.Card b c)) → IsForceAt o (path.Card b c) (card_force_in (found_at o (path.Book b)) card)
  card_force_at card seen = go (resource_at o (path.Card b c)) (resource_at o (path.Book b)) card refl refl seen
    where
      go : (r : Option Resource) (book : Option Resource) (card : Option Listed) → resource_at o (path.Card b c) ≡ r → resource_at o (path.Book b) ≡ book → IsSeen card r
          → IsForceAt o (path.Card b c) (card_force_in (option_map (found_with (here_of o (path.Book b)) (lists_at o (path.Book b))) (option_map node_of book)) card)
      go None None None at is seen = at
      go None (Some book) None at is seen = at
      go None book (Some card) at is seen = absurd seen
      go (Some r) book None at is seen = absurd seen
      go (Some r) None (Some card) at is seen = absurd (book_there r at is)
      go (Some r) (Some book) (Some card) at is seen =
          let bare : [] ≡ protected_at o (path.Card b c) =
          sym (ap (λ (found : Option Resource). unwrap_or (option_map (λ (x : Resource). x.protected) found) []) at ∙ unprotected r (get o.books b) at) in
          let kept : card.own ≡ own_at o (path.Card b c) =
          seen.1 ∙ sym (ap (λ (found : Option Resource). unwrap_or (option_map (λ (x : Resource). x.own) found) []) at) in
          let same : lists_in true (lists_at o (path.Book b)).levels ++ (card.own ++ lists_in false (lists_at o (path.Book b)).levels) ≡ in_force (lists_at o (path.Card b c)).levels =
          λ i. (bare i ++ lists_in true (lists_at o (path.Book b)).levels) ++ (kept i ++ lists_in false (lists_at o (path.Book b)).levels) in (
            λ none. let clash : Some r ≡ None = sym at ∙ none in cc,
            same ∙ sym (entries_in_force (lists_at o (path.Card b c)).levels),
            λ i. record { owner = (seen.0 ∙ sym (ap (λ (found : Option Resource). option_and_then (λ (x : Resource). x.owner) found) at)) i; principal = None },
          )

-- a card that is like what an Office has at a path is as the resource there
seen_as : (c : List ℕ) (r : Option Resource) (card : Option Listed) → IsAlikeIn (option_map (as_listed c) r) card → IsSeen card r
seen_as c None None h = tt
seen_as c None (Some card) h = absurd h
seen_as c (Some r) None h = absurd h
seen_as c (Some r) (Some card) h = (sym h.owner, sym h.own)

pub classes_tell : ClassesTellWhatDiffers
classes_tell o p b c there =
    let found = (pairs_have_one_class (pairs_at o p b)).each (pair_at o p b c) (contains_of (pair_at o p b c) (pairs_at o p b) (in_paired o p b c there)) in
    let class : PairClass = found.0 in
    let alike : AreAlike (pair_at o p b c) class.pair = found.2 in
    let was : IsSeen class.pair.before (resource_at o (path.Card b c)) = seen_as c (resource_at o (path.Card b c)) class.pair.before alike.before in
    let is : IsSeen class.pair.after (resource_at p (path.Card b c)) = seen_as c (resource_at p (path.Card b c)) class.pair.after alike.after in (
      class,
      record {
        among = found.1;
        before = was;
        after = is;
        differing = differing o p (path.Card b c) (card_force_in (found_at o (path.Book b)) class.pair.before) (card_force_in (found_at p (path.Book b)) class.pair.after)
            (card_force_at o b c class.pair.before was) (card_force_at p b c class.pair.after is);
      },
    )
