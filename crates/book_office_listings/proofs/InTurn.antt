-- Lists that stand one after the other: their entries, and where these stand.
use Rattle.book_office_listings.proofs.Common.{◌≡◌, ℕ, zero, suc, ◌+◌, ◌<◌, Bool, true, false, List, [], ◌∷◌, ◌++◌, length, get_or, take, drop, map, slice_get, Some, refl, sym, ap, ◌∙◌, append_assoc, append-nil, arith, flat_map, take_more, flat_map_more, CircleOf, read_by, Entry, Here, Path, effective_of, standing_at, EffectiveEntry, Level, standing_in, bare_entries, paths_of}
use Rattle.std.proofs.lemmas.List.{map-append, drop_more}
use Rattle.std.proofs.lemmas.Grind.{flat_map-append}
use Rattle.book_lists.proofs.OneReader.{read_append}

-- ---- one list, which stands at a path
module _ (p : Path) (b : Bool) where
  pub entries_standing : (list : List Entry) → bare_entries (map (standing_at p b) list) ≡ list
  entries_standing [] = refl
  entries_standing (e ∷ es) = ap (λ r. e ∷ r) (entries_standing es)

  -- the entries before it, and those of the list
  pub entries_more : (before : List EffectiveEntry) (list : List Entry) → bare_entries before ++ list ≡ bare_entries (before ++ map (standing_at p b) list)
  entries_more before list =
      ap (λ es. bare_entries before ++ es) (sym (entries_standing list))
      ∙ sym (map-append (λ (e : EffectiveEntry). e.entry) before (map (standing_at p b) list))

  pub read_standing : (circle : CircleOf) (here : Here) (before : List EffectiveEntry) (list : List Entry)
      → read_by circle here (bare_entries before) ++ read_by circle here list ≡ read_by circle here (bare_entries (before ++ map (standing_at p b) list))
  read_standing circle here before list = sym (read_append circle here (bare_entries before) list) ∙ ap (read_by circle here) (entries_more before list)

  -- an index in the list is at its path, and one past it is counted on from there
  pub place_here : (list : List Entry) (after : List EffectiveEntry) (i : ℕ) → i < length list → slice_get (paths_of (map (standing_at p b) list ++ after)) i ≡ Some p
  place_here [] after i lt = absurd (omega (arith, lt))
  place_here (e ∷ es) after zero lt = refl
  place_here (e ∷ es) after (suc i) lt = place_here es after i (omega (arith, lt))

  pub place_past : (list : List Entry) (after : List EffectiveEntry) (i j : ℕ) → i ≡ length list + j
      → slice_get (paths_of (map (standing_at p b) list ++ after)) i ≡ slice_get (paths_of after) j
  place_past [] after i j is = ap (slice_get (paths_of after)) (omega (arith, is))
  place_past (e ∷ es) after zero j is = absurd (omega (arith, is))
  place_past (e ∷ es) after (suc i) j is = place_past es after i j (omega (arith, is))

-- ---- the protected or the own lists of levels, as a loop goes over them
module _ (b : Bool) (levels : List Level) (i : ℕ) (level : Level) (within : i < length levels) (at : level ≡ get_or levels i level) where
  pub levels_more : (before : List EffectiveEntry)
      → (before ++ flat_map (standing_in b) (take i levels)) ++ standing_in b level ≡ before ++ flat_map (standing_in b) (take (i + 1) levels)
  levels_more before =
      flat_map_more (standing_in b) before (take i levels) level
      ∙ ap (λ ls. before ++ flat_map (standing_in b) ls) (ap (λ l. take i levels ++ l ∷ []) at ∙ sym (take_more levels i level within))

  pub levels_left : (after : List EffectiveEntry)
      → flat_map (standing_in b) (drop i levels) ++ after ≡ standing_in b level ++ (flat_map (standing_in b) (drop (i + 1) levels) ++ after)
  levels_left after =
      ap (λ ls. flat_map (standing_in b) ls ++ after) (drop_more levels i level within ∙ ap (λ l. l ∷ drop (i + 1) levels) (sym at))
      ∙ append_assoc (standing_in b level) (flat_map (standing_in b) (drop (i + 1) levels)) after

-- ---- the four parts of an effective list
abbrev pub protected_of : List Level → List EffectiveEntry
protected_of levels = flat_map (standing_in true) levels

abbrev pub own_of : List Level → List EffectiveEntry
own_of levels = flat_map (standing_in false) levels

module _ (own above : List Level) where
  pub four_parts : ((protected_of own ++ protected_of above) ++ own_of own) ++ own_of above ≡ effective_of (own ++ above)
  four_parts =
      append_assoc (protected_of own ++ protected_of above) (own_of own) (own_of above)
      ∙ (λ k. sym (flat_map-append (standing_in true) own above) k ++ sym (flat_map-append (standing_in false) own above) k)

  pub parts_after : protected_of own ++ (protected_of above ++ (own_of own ++ (own_of above ++ []))) ≡ effective_of (own ++ above)
  parts_after =
      ap (λ r. protected_of own ++ (protected_of above ++ (own_of own ++ r))) (append-nil (own_of above))
      ∙ sym (append_assoc (protected_of own) (protected_of above) (own_of own ++ own_of above))
      ∙ sym (append_assoc (protected_of own ++ protected_of above) (own_of own) (own_of above))
      ∙ four_parts
