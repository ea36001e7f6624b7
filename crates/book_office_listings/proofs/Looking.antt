-- What the deciders of the leaves tell of rulings.
use Rattle.book_office_listings.proofs.Common.{◌≡◌, ℕ, Bool, true, false, List, [], ◌∷◌, Option, Some, None, refl, sym, ap, ◌∙◌, Leaf, CircleOf, bears, Grants, Entry, Here, bare_entries, read_by, EffectiveEntry, AllZip}
use Rattle.std.proofs.Common.{◌↔◌, not}
use Rattle.std.proofs.lemmas.Bool.{both_ways, not-true}
use Rattle.book_lists.specs.Decisions.{denying}
use Rattle.book_lists.proofs.FirstBearings.{one_decider}
use Rattle.book_rights.specs.Leaves.{every_leaf}
use Rattle.book_lists.specs.Deciders.{told_decider}
use Rattle.book_lists.specs.declared.deciders.Deciders.{Deciders}
use Rattle.book_lists.proofs.ToldDeciders.{told_one, untold_one}
use Rattle.book_office_listings.specs.Rulings.{IsDecidedBy, IsRuling, RulingsAreTheGrants}
use Rattle.book_office_listings.specs.Scanning.{IsRuledBy, IsWalk}
use Rattle.book_office_listings.specs.declared.messages.Ruling.{Ruling}

module _ (list : List EffectiveEntry) (circle : CircleOf) (here : Here) (leaf : Leaf) where
  pub ruled_by : (i : ℕ) (deny : Bool) → Some (record { index = i; deny = deny }) ≡ told_decider (read_by circle here (bare_entries list)) leaf
      → IsDecidedBy list circle here leaf (Some i) (not deny)
  ruled_by i deny is = let told = told_one circle here leaf (bare_entries list) i deny is in (told.0, told.1, ap not told.2)

  pub ruled_by_none : None ≡ told_decider (read_by circle here (bare_entries list)) leaf → IsDecidedBy list circle here leaf None false
  ruled_by_none is = (untold_one circle here leaf (bare_entries list) is, refl)

-- the rulings of a walk for every leaf
pub ruled_all : (list : List EffectiveEntry) (circle : CircleOf) (here : Here) (deciders : Deciders) → IsWalk list circle here every_leaf deciders
    → (leaves : List Leaf) (rulings : List Ruling) → AllZip (IsRuledBy list deciders) leaves rulings → AllZip (IsRuling list circle here) leaves rulings
ruled_all list circle here deciders walked [] [] told = tt
ruled_all list circle here deciders walked [] (r ∷ rs) told = absurd told
ruled_all list circle here deciders walked (l ∷ ls) [] told = absurd told
ruled_all list circle here deciders walked (l ∷ ls) (r ∷ rs) told = (told.0.rules circle here walked, ruled_all list circle here deciders walked ls rs told.1)

pub rulings_grant : RulingsAreTheGrants
rulings_grant list circle here leaf ruling r = go r.index r.decided
  where
    go : (index : Option ℕ) → IsDecidedBy list circle here leaf index ruling.grant → (ruling.grant ≡ true) ↔ Grants (bare_entries list) circle here leaf
    go None d = (
      λ yes. absurd (both_ways _ d.1 yes),
      λ g. absurd (d.0 g.0 g.1 g.2),
    )
    go (Some i) d = (
      λ yes. (i, d.0, d.1, not-true d.0.deny (sym d.2 ∙ yes)),
      λ g. d.2 ∙ ap (λ (e : Entry). not e.deny) (one_decider (bears circle here) denying (bare_entries list) leaf i g.0 d.0 g.1 d.1 g.2) ∙ ap not g.3,
    )
