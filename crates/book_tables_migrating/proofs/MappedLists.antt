-- The entries in force in an Office whose entries were changed.
use Rattle.std.proofs.Common.{◌≡◌, Bool, true, false, List, [], ◌∷◌, ◌++◌, map, Option, Some, None, option_map, unwrap_or, refl, sym, ap, ◌∙◌}
use Rattle.book_lists.specs.declared.entries.Entry.{Entry}
use Rattle.book_office_values.specs.declared.offices.Office.{Office}
use Rattle.book_office_values.specs.declared.paths.Path.{Path}
use Rattle.book_office_values.specs.Paths.{levels}
use Rattle.book_office.specs.InForce.{list_in, lists_in, in_force_at}
use Rattle.std.specs.List.{flat_map}
use Rattle.book_office.specs.Levels.{level_at, effective_at, own_entries, protected_entries, standing_at}
use Rattle.book_office.specs.declared.nodes.EffectiveEntry.{EffectiveEntry}
use Rattle.book_office.specs.Resources.{Resource, resource_at}
use Rattle.book_tables_migrating.specs.Widen.{office_with}
use Rattle.book_tables_migrating.proofs.MappedOffices.{resource_with, resource_mapped}

map_append : {A B : Type 0} (f : A → B) (xs ys : List A) → map f (xs ++ ys) ≡ map f xs ++ map f ys
map_append f [] ys = refl
map_append f (x ∷ xs) ys = ap (λ l. f x ∷ l) (map_append f xs ys)

module _ (change : Entry → Entry) (o : Office) where
  protected_of : (found : Option Resource) → unwrap_or (option_map (λ (r : Resource). r.protected) (option_map (resource_with change) found)) [] ≡ map change (unwrap_or (option_map (λ (r : Resource). r.protected) found) [])
  protected_of None = refl
  protected_of (Some r) = refl

  own_of : (found : Option Resource) → unwrap_or (option_map (λ (r : Resource). r.own) (option_map (resource_with change) found)) [] ≡ map change (unwrap_or (option_map (λ (r : Resource). r.own) found) [])
  own_of None = refl
  own_of (Some r) = refl

  level_mapped : (protected : Bool) (p : Path) → list_in protected (level_at (office_with change o) p) ≡ map change (list_in protected (level_at o p))
  level_mapped true p = ap (λ found. unwrap_or (option_map (λ (r : Resource). r.protected) found) []) (resource_mapped change o p) ∙ protected_of (resource_at o p)
  level_mapped false p = ap (λ found. unwrap_or (option_map (λ (r : Resource). r.own) found) []) (resource_mapped change o p) ∙ own_of (resource_at o p)

  lists_mapped : (protected : Bool) (ps : List Path) → lists_in protected (map (level_at (office_with change o)) ps) ≡ map change (lists_in protected (map (level_at o) ps))
  lists_mapped protected [] = refl
  lists_mapped protected (p ∷ ps) =
      (λ i. level_mapped protected p i ++ lists_mapped protected ps i)
      ∙ sym (map_append change (list_in protected (level_at o p)) (lists_in protected (map (level_at o) ps)))

  pub in_force_mapped : (p : Path) → in_force_at (office_with change o) p ≡ map change (in_force_at o p)
  in_force_mapped p =
      (λ i. lists_mapped true (levels p) i ++ lists_mapped false (levels p) i)
      ∙ sym (map_append change (lists_in true (map (level_at o) (levels p))) (lists_in false (map (level_at o) (levels p))))

  -- each entry stands where it stood
  abbrev changed : EffectiveEntry → EffectiveEntry
  changed e = record e { entry = change e.entry }

  stands_changed : (p : Path) (protected : Bool) (entries : List Entry) → map (standing_at p protected) (map change entries) ≡ map changed (map (standing_at p protected) entries)
  stands_changed p protected [] = refl
  stands_changed p protected (e ∷ es) = ap (λ l. standing_at p protected (change e) ∷ l) (stands_changed p protected es)

  standing : Bool → Office → List Path → List EffectiveEntry
  standing protected office ps = flat_map (λ p. map (standing_at p protected) (list_in protected (level_at office p))) ps

  standing_changed : (protected : Bool) (ps : List Path) → standing protected (office_with change o) ps ≡ map changed (standing protected o ps)
  unfolding standing
  standing_changed protected [] = refl
  standing_changed protected (p ∷ ps) =
      (λ i. (ap (map (standing_at p protected)) (level_mapped protected p) ∙ stands_changed p protected (list_in protected (level_at o p))) i ++ standing_changed protected ps i)
      ∙ sym (map_append changed (map (standing_at p protected) (list_in protected (level_at o p))) (standing protected o ps))

  -- an effective list by its paths
  protected_standing : (office : Office) (ps : List Path) → flat_map protected_entries (map (level_at office) ps) ≡ standing true office ps
  unfolding standing
  protected_standing office [] = refl
  protected_standing office (p ∷ ps) = ap (λ l. protected_entries (level_at office p) ++ l) (protected_standing office ps)

  own_standing : (office : Office) (ps : List Path) → flat_map own_entries (map (level_at office) ps) ≡ standing false office ps
  unfolding standing
  own_standing office [] = refl
  own_standing office (p ∷ ps) = ap (λ l. own_entries (level_at office p) ++ l) (own_standing office ps)

  effective_is : (office : Office) (p : Path) → effective_at office p ≡ standing true office (levels p) ++ standing false office (levels p)
  effective_is office p = λ i. protected_standing office (levels p) i ++ own_standing office (levels p) i

  pub effective_mapped : (p : Path) → effective_at (office_with change o) p ≡ map changed (effective_at o p)
  effective_mapped p =
      effective_is (office_with change o) p
      ∙ (λ i. standing_changed true (levels p) i ++ standing_changed false (levels p) i)
      ∙ sym (map_append changed (standing true o (levels p)) (standing false o (levels p)))
      ∙ ap (map changed) (sym (effective_is o p))
