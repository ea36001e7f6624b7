-- What is left of the levels above a resource, with its own lists, applies as the effective list does.
use Rattle.book_office_listings.proofs.Common.{◌≡◌, ℕ, ◌+◌, ◌<◌, Bool, true, false, List, [], ◌∷◌, ◌++◌, length, get_or, take, sym, ap, ◌∙◌, subst, append-nil, flat_map, CircleOf, effective_of, EffectiveEntry, Level, standing_in, AppliesAs, entries_of_levels, bare_entries}
use Rattle.std.proofs.lemmas.List.{map-append}
use Rattle.book_office.specs.InForce.{list_in}
use Rattle.book_office_sync.specs.Sifting.{applied}
use Rattle.book_office_sync.proofs.AppliedEntries.{applied_both}
use Rattle.book_office_listings.specs.Sifting.{IsSifted}
use Rattle.book_office_listings.specs.declared.sifting.Sifted.{Sifted}
use Rattle.book_office_listings.proofs.InTurn.{entries_standing, entries_more, levels_more, four_parts, protected_of, own_of}

pub listed_more : (b : Bool) (levels : List Level) (i : ℕ) (level : Level) → i < length levels → level ≡ get_or levels i level
    → entries_of_levels b (take i levels) ++ list_in b level ≡ entries_of_levels b (take (i + 1) levels)
listed_more b levels i level within at =
    entries_more level.path b (flat_map (standing_in b) (take i levels)) (list_in b level)
    ∙ ap bare_entries (levels_more b levels i level within at [])

pub entries_both : (xs ys : List EffectiveEntry) → bare_entries (xs ++ ys) ≡ bare_entries xs ++ bare_entries ys
entries_both xs ys = map-append (λ (e : EffectiveEntry). e.entry) xs ys

module _ (own : Level) (above : List Level) where
  listed_alone : (b : Bool) → list_in b own ≡ entries_of_levels b (own ∷ [])
  listed_alone b = sym (ap bare_entries (append-nil (standing_in b own)) ∙ entries_standing own.path b (list_in b own))

  listed_parts : ((entries_of_levels true (own ∷ []) ++ entries_of_levels true above) ++ entries_of_levels false (own ∷ [])) ++ entries_of_levels false above
      ≡ bare_entries (effective_of (own ∷ above))
  listed_parts =
      let first = protected_of (own ∷ []) in
      let second = protected_of above in
      let third = own_of (own ∷ []) in
      let fourth = own_of above in
      sym (
      entries_both ((first ++ second) ++ third) fourth
      ∙ ap (λ es. es ++ bare_entries fourth) (entries_both (first ++ second) third ∙ ap (λ es. es ++ bare_entries third) (entries_both first second))
      )
      ∙ ap bare_entries (four_parts (own ∷ []) above)

  pub sifted_as : (circle : CircleOf) (sifted : Sifted) → IsSifted circle above sifted
      → AppliesAs circle (bare_entries (effective_of (own ∷ above))) (((own.protected ++ sifted.protected) ++ own.own) ++ sifted.own)
  sifted_as circle sifted is =
      subst (λ es. AppliesAs circle es (((own.protected ++ sifted.protected) ++ own.own) ++ sifted.own)) listed_parts
      (applied_both circle ((entries_of_levels true (own ∷ []) ++ entries_of_levels true above) ++ entries_of_levels false (own ∷ [])) ((own.protected ++ sifted.protected) ++ own.own)
      (entries_of_levels false above) sifted.own
      (applied_both circle (entries_of_levels true (own ∷ []) ++ entries_of_levels true above) (own.protected ++ sifted.protected) (entries_of_levels false (own ∷ [])) own.own
      (applied_both circle (entries_of_levels true (own ∷ [])) own.protected (entries_of_levels true above) sifted.protected
      (λ here. ap (applied circle here) (listed_alone true)) is.protected)
      (λ here. ap (applied circle here) (listed_alone false)))
      is.own)
