-- Adopting a policy: which Offices it leaves as they are, and what is known of the others before they are written.
use Rattle.book_tables.proofs.Common.{◌≡◌, Bool, true, false, not, List, refl, sym, ap, subst, ◌∙◌, true≢false, PolicyTables, Office, taken_over, adoption_of, bare, Adopt, apply, Place, Joined, AreDifferences}
use Rattle.book_office_adopting.specs.Sameness.{same_office}
use Rattle.book_office_adopting.specs.declared.adopting.Adoption.{Adoption}
use Rattle.book_office_adopting.proofs.Adoptions.{adopting_nothing}
use Rattle.book_office_adopting.proofs.BareAdoption.{adoption_told, bare_over}
use Rattle.book_office_adopting.proofs.Samenesses.{same_office_is, office_itself}
use Rattle.book_tables_rows.specs.Adopting.{Listed, adopting}
use Rattle.book_tables_rows.specs.Writes.{Pair}
use Rattle.book_tables.specs.Reach.{Renews}
use Rattle.book_tables.proofs.AdoptedRows.{adoption_gives, adoption_reaches}
use Rattle.book_tables.proofs.ReadActing.{GivesKnown}

module _ (t : PolicyTables) where
  -- it changes, and these are what differs
  abbrev pub Changes : List Place → List Listed → List Joined → List Pair → List Pair → Office → Type 0
  Changes places lists groups gone come o =
      (taken_over t o ≡ o → ⊥) × AreDifferences (bare o) (bare (taken_over t o)) places lists groups × Renews (bare o).pairs (bare (taken_over t o)).pairs gone come

  pub adopts_policy : (places : List Place) (lists : List Listed) (groups : List Joined) (gone come : List Pair)
      → GivesKnown (Adopt t) (adopting places lists groups gone come) (Changes places lists groups gone come)
  adopts_policy places lists groups gone come = record {
    fits = λ rows o given. record { meta = (o.epoch, given.gives.meta) };
    gives = λ rows after o given known made. adoption_gives t rows after o given known.0 places lists groups known.1 gone come made;
    reach = λ rows after o given known made holds. adoption_reaches t rows after o known.0 places lists groups gone come known.2 made holds;
  }

  -- ---- what the Office without cards tells

  module _ (o office : Office) (bare_is : office ≡ bare o) where
    changed_is : (adoption_of t office).changed ≡ not (same_office o (taken_over t o))
    changed_is = ap (λ (a : Adoption). a.changed) (ap (adoption_of t) bare_is ∙ adoption_told t o)

    pub told_stays : (adoption_of t office).changed ≡ false → apply o (Adopt t) ≡ o
    told_stays unchanged = adopting_nothing t o (go (same_office o (taken_over t o)) refl (sym changed_is ∙ unchanged))
      where
        go : (b : Bool) → same_office o (taken_over t o) ≡ b → not b ≡ false → taken_over t o ≡ o
        go true same e = sym (same_office_is o (taken_over t o) same)
        go false same e = absurd (true≢false e)

    pub told_changes : (adoption_of t office).changed ≡ true → (places : List Place) (lists : List Listed) (groups : List Joined) (gone come : List Pair)
        → AreDifferences office (bare (taken_over t office)) places lists groups → Renews office.pairs (bare (taken_over t office)).pairs gone come → Changes places lists groups gone come o
    told_changes changed places lists groups gone come differ renews = (
      (λ stays. true≢false (sym changed ∙ changed_is ∙ ap not (ap (same_office o) stays ∙ office_itself o))),
      subst (λ p. AreDifferences (bare o) p places lists groups) (ap (λ p. bare (taken_over t p)) bare_is ∙ bare_over t o)
          (subst (λ p. AreDifferences p (bare (taken_over t office)) places lists groups) bare_is differ),
      subst (λ (p : Office). Renews (bare o).pairs p.pairs gone come) (ap (λ p. bare (taken_over t p)) bare_is ∙ bare_over t o)
          (subst (λ (p : Office). Renews p.pairs (bare (taken_over t office)).pairs gone come) bare_is renews),
    )
