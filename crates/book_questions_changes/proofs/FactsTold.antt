-- No resource is told exactly where both Offices have the same at each path that is no card's.
use Rattle.book_questions_changes.proofs.Common.{◌≡◌, ◌∙◌, [], true, List, Option, Some, None, ap, empty, gathered, map, refl, subst, sym, Block, Office}
use Rattle.std.proofs.Common.{◌≢◌, inl, inr}
use Rattle.std.specs.FinMap.{get, get-empty}
use Rattle.book_lists.specs.Names.{name_cmp}
use Rattle.book_office.specs.Resources.{Resource, resource_at}
use Rattle.book_office.specs.Sound.{IsSound}
use Rattle.book_office_values.proofs.OneName.{some_apart}
use Rattle.book_office_values.proofs.Spelling.{one_text}
use Rattle.book_office_values.specs.Paths.{path_text}
use Rattle.book_office_values.specs.declared.paths.Path.{Path}
use Rattle.book_questions_rights.proofs.Elements.{mem_map, mem_of_map}
use Rattle.book_questions_rights.specs.Places.{is_itself}
use Rattle.book_questions_differs.proofs.EachTold.{either_in, found, in_either, named_in_either, there}
use Rattle.book_questions_differs.specs.Laws.{IsInEither}
use Rattle.book_questions_differs.specs.Places.{found_at, paths_of_either}
use Rattle.book_questions_changes.specs.Changes.{facts_text, spot_at}
use Rattle.book_questions_changes.specs.Facts.{spot_block, spot_changes}
use Rattle.book_questions_changes.specs.Laws.{IsEqualIn}
use Rattle.book_questions_changes.proofs.Same.{AreSame, equal_in, nothing_told, same_of, told_nothing_of}
use Rattle.book_questions_changes.proofs.Texts.{tells_nothing, told_nothing}

module _ (o p : Office) where
  abbrev block : Path → Block
  block at = spot_block (spot_at o p at)

  abbrev blocks : List Block
  blocks = map block (paths_of_either o p)

  -- ---- where nothing is told, everything is the same
  module _ (sound_o : IsSound o) (sound_p : IsSound p) where
    -- a path of either has its own block
    has : (q : Path) → is_itself q ≡ true → IsInEither o p q → get (gathered empty blocks) (path_text q) ≡ Some (spot_changes (spot_at o p q))
    has q is h =
        let w = there empty blocks (block q) (mem_map block q (paths_of_either o p) (either_in o p q is h)) in
        w.1 ∙ elim (found empty blocks (path_text q) w.0 w.1) [
          | inl none ↦ some_apart (sym none ∙ get-empty name_cmp (path_text q))
          | inr m ↦
              let k = mem_of_map block (path_text q, w.0) (paths_of_either o p) m in
              let keys : path_text q ≡ path_text k.0 = ap (λ (b : Block). b.0) k.2 in
              let e = in_either o p k.0 k.1 in
              let same : q ≡ k.0 = one_text q k.0 (named_in_either o p sound_o sound_p q h) (named_in_either o p sound_o sound_p k.0 e.1) keys in
              ap Some (ap (λ (b : Block). b.1) k.2 ∙ ap (λ x. spot_changes (spot_at o p x)) (sym same))
        ]

    same_in : facts_text o p ≡ [] → (q : Path) → is_itself q ≡ true → IsInEither o p q → AreSame (found_at o q) (found_at p q)
    same_in nothing q is h = nothing_told q (found_at o q) (found_at p q) (told_nothing blocks (path_text q) (spot_changes (spot_at o p q)) nothing (has q is h))

    some_is : (x : Resource) (y : Option Resource) → y ≡ Some x → y ≢ None
    some_is x y e none = let clash : Some x ≡ None = sym e ∙ none in cc

    pub equal_at : facts_text o p ≡ [] → (q : Path) → is_itself q ≡ true → IsEqualIn (resource_at o q) (resource_at p q)
    equal_at nothing q is = go (resource_at o q) (resource_at p q) refl refl
      where
        go : (r s : Option Resource) → resource_at o q ≡ r → resource_at p q ≡ s → IsEqualIn (resource_at o q) (resource_at p q)
        go None None was is_p = subst (λ r. IsEqualIn r (resource_at p q)) (sym was) (subst (IsEqualIn None) (sym is_p) tt)
        go (Some r) s was is_p = equal_in o p q (same_in nothing q is (inl (some_is r (resource_at o q) was)))
        go None (Some s) was is_p = equal_in o p q (same_in nothing q is (inr (some_is s (resource_at p q) is_p)))

  -- ---- and the other way round
  pub no_facts : ((q : Path) → is_itself q ≡ true → IsEqualIn (resource_at o q) (resource_at p q)) → facts_text o p ≡ []
  no_facts equal = tells_nothing blocks (λ y m.
      let k = mem_of_map block y (paths_of_either o p) m in
      ap (λ (b : Block). b.1) k.2 ∙ told_nothing_of k.0 (found_at o k.0) (found_at p k.0) (same_of o p k.0 (equal k.0 (in_either o p k.0 k.1).0)))
