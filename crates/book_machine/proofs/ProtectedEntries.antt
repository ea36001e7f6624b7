-- The protected entries of levels, with and without the paths where they stand.
use Rattle.book_machine.proofs.Common.{◌≡◌, Bool, true, List, [], ◌∷◌, ◌++◌, map, refl, sym, ap, ◌∙◌, flat_map, Entry, EffectiveEntry, Level, Path}
use Rattle.std.proofs.lemmas.List.{map-append}
use Rattle.book_office.specs.Levels.{standing_at, protected_entries}

entries_standing : (p : Path) (is_protected : Bool) (list : List Entry) → list ≡ map (λ (e : EffectiveEntry). e.entry) (map (standing_at p is_protected) list)
entries_standing p is_protected [] = refl
entries_standing p is_protected (e ∷ list) = ap (λ rest. e ∷ rest) (entries_standing p is_protected list)

pub protected_of_levels : (levels : List Level) → flat_map (λ (level : Level). level.protected) levels ≡ map (λ (e : EffectiveEntry). e.entry) (flat_map protected_entries levels)
protected_of_levels [] = refl
protected_of_levels (level ∷ levels) =
    (λ i. entries_standing level.path true level.protected i ++ protected_of_levels levels i)
    ∙ sym (map-append (λ (e : EffectiveEntry). e.entry) (protected_entries level) (flat_map protected_entries levels))
