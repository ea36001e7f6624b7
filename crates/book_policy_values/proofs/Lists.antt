-- The lists of a policy's entries by the text of the path where they stand.
use Rattle.book_policy_values.proofs.Common.{◌≡◌, ℕ, ◌+◌, ◌≤◌, List, [], ◌∷◌, ◌++◌, Bool, true, false, cond, length, map, Some, unwrap_or, refl, sym, ap, ◌∙◌, arith, All, All-nil, All-cons, All-head, All-tail, get, empty, Entry, NamesTo, entry_of, with_entries, EntriesFit}
use Rattle.std.proofs.Common.{◌<◌, not, ◌&&◌, filter, length-append}
use Rattle.std.proofs.lemmas.List.{append_assoc, append-nil}
use Rattle.std.proofs.lemmas.Map.Text.{is_eq-slice_cmp}
use Rattle.std.specs.FinMap.{get-empty}
use Rattle.std.specs.Str.{bytes_eq}
use Rattle.book_lists.specs.Names.{name_cmp}
use Rattle.book_limits.specs.declared.TheConstants.{MAX_ENTRIES}
use Rattle.book_policy_values.specs.declared.parts.EntryPart.{EntryPart}
use Rattle.book_policy_values.specs.declared.parts.PolicyEntry.{PolicyEntry}
use Rattle.book_policy_values.specs.Policies.{entries_at, stands_at, list_at, AreListed}
use Rattle.book_policy_values.specs.Reading.{pushed_at, with_entry, HasRoom}
use Rattle.book_office_values.proofs.NameMapLaws.{put_at}
use Rattle.book_lists.proofs.Pairing.{same_path, path_itself}

-- one entry more at a text
list_pushed : (m : NamesTo (List Entry)) (at : List ℕ) (entry : Entry) (q : List ℕ) → list_at (pushed_at m at entry) q ≡ list_at m q ++ cond (bytes_eq q at) (entry ∷ []) []
list_pushed m at entry q =
    ap (λ r. unwrap_or r []) (put_at m at (list_at m at ++ entry ∷ []) q ∙ ap (λ b. cond b (Some (list_at m at ++ entry ∷ [])) (get m q)) (is_eq-slice_cmp q at))
    ∙ by_same_text
  where
    by_same_text : unwrap_or (cond (bytes_eq q at) (Some (list_at m at ++ entry ∷ [])) (get m q)) [] ≡ list_at m q ++ cond (bytes_eq q at) (entry ∷ []) []
    by_same_text = elim (bytes_eq q at) as (λ b. bytes_eq q at ≡ b → unwrap_or (cond b (Some (list_at m at ++ entry ∷ [])) (get m q)) [] ≡ list_at m q ++ cond b (entry ∷ []) []) [
      | true ↦ λ is. ap (λ t. list_at m t ++ entry ∷ []) (sym (same_path q at is))
      | false ↦ λ _. sym (append-nil (list_at m q))
    ] refl

list_with : (b : Bool) (m : NamesTo (List Entry)) (e : PolicyEntry) (q : List ℕ) → list_at (with_entry b m e) q ≡ list_at m q ++ cond (stands_at b q e) (e.entry ∷ []) []
list_with true m e q = elim e.protected as (λ p. list_at (cond p (pushed_at m e.at e.entry) m) q ≡ list_at m q ++ cond (p && bytes_eq q e.at) (e.entry ∷ []) []) [
  | true ↦ list_pushed m e.at e.entry q
  | false ↦ sym (append-nil (list_at m q))
]
list_with false m e q = elim e.protected as (λ p. list_at (cond p m (pushed_at m e.at e.entry)) q ≡ list_at m q ++ cond (not p && bytes_eq q e.at) (e.entry ∷ []) []) [
  | true ↦ sym (append-nil (list_at m q))
  | false ↦ list_pushed m e.at e.entry q
]

pub lists_with : (b : Bool) (m : NamesTo (List Entry)) (es : List PolicyEntry) (q : List ℕ) → list_at (with_entries b m es) q ≡ list_at m q ++ entries_at b q es
lists_with b m [] q = sym (append-nil (list_at m q))
lists_with b m (e ∷ es) q =
    lists_with b (with_entry b m e) es q ∙ ap (λ xs. xs ++ entries_at b q es) (list_with b m e q)
    ∙ append_assoc (list_at m q) (cond (stands_at b q e) (e.entry ∷ []) []) (entries_at b q es)
    ∙ ap (λ xs. list_at m q ++ xs) (joined (stands_at b q e))
  where
    joined : (t : Bool) → cond t (e.entry ∷ []) [] ++ entries_at b q es ≡ map (λ (x : PolicyEntry). x.entry) (cond t (e ∷ filter (stands_at b q) es) (filter (stands_at b q) es))
    joined true = refl
    joined false = refl

pub are_listed : (es : List PolicyEntry) → AreListed es (with_entries true empty es) (with_entries false empty es)
are_listed es = record {
  protected_lists = λ at. lists_with true empty es at ∙ ap (λ r. unwrap_or r [] ++ entries_at true at es) (get-empty name_cmp at);
  own_lists = λ at. lists_with false empty es at ∙ ap (λ r. unwrap_or r [] ++ entries_at false at es) (get-empty name_cmp at);
}

-- ---- room for each entry

abbrev pub AreShort : NamesTo (List Entry) → Type 0
AreShort m = (q : List ℕ) → length (list_at m q) ≤ MAX_ENTRIES

pushed_short : (m : NamesTo (List Entry)) (at : List ℕ) (entry : Entry) → AreShort m → length (list_at m at) < MAX_ENTRIES → AreShort (pushed_at m at entry)
pushed_short m at entry short room q =
    rw (list_pushed m at entry q) (elim (bytes_eq q at) as (λ b. bytes_eq q at ≡ b → length (list_at m q ++ cond b (entry ∷ []) []) ≤ MAX_ENTRIES) [
      | true ↦ λ is. rw (same_path q at is) (omega (arith, length-append (list_at m at) (entry ∷ []), room))
      | false ↦ λ _. rw (append-nil (list_at m q)) (short q)
    ] refl)

module _ (Fits : EntryPart → Type 0) where
  pub all_fit : (protected own : NamesTo (List Entry)) (es : List EntryPart) → EntriesFit Fits protected own es → All Fits es
  all_fit protected own [] h = All-nil Fits
  all_fit protected own (e ∷ es) h = All-cons Fits e es h.0 (all_fit (with_entry true protected (entry_of e)) (with_entry false own (entry_of e)) es h.2)

  step_short : (protected own : NamesTo (List Entry)) (e : PolicyEntry) → AreShort protected → AreShort own → HasRoom protected own e
      → AreShort (with_entry true protected e) × AreShort (with_entry false own e)
  step_short protected own e p o room =
      elim e.protected as (λ b. length (list_at (cond b protected own) e.at) < MAX_ENTRIES
      → AreShort (cond b (pushed_at protected e.at e.entry) protected) × AreShort (cond b own (pushed_at own e.at e.entry))) [
        | true ↦ λ r. (pushed_short protected e.at e.entry p r, o)
        | false ↦ λ r. (p, pushed_short own e.at e.entry o r)
      ] room

  pub lists_short : (protected own : NamesTo (List Entry)) (es : List EntryPart) → AreShort protected → AreShort own → EntriesFit Fits protected own es
      → AreShort (with_entries true protected (map entry_of es)) × AreShort (with_entries false own (map entry_of es))
  lists_short protected own [] p o h = (p, o)
  lists_short protected own (e ∷ es) p o h =
      let both = step_short protected own (entry_of e) p o h.1 in
      lists_short (with_entry true protected (entry_of e)) (with_entry false own (entry_of e)) es both.0 both.1 h.2

  -- a list that ends short had room
  had_room : (protected own : NamesTo (List Entry)) (e : PolicyEntry) (es : List PolicyEntry)
      → AreShort (with_entries true protected (e ∷ es)) → AreShort (with_entries false own (e ∷ es)) → HasRoom protected own e
  had_room protected own e es p o =
      elim e.protected as (λ b. e.protected ≡ b → length (list_at (cond b protected own) e.at) < MAX_ENTRIES) [
        | true ↦ λ is. let q = p e.at in
            let all = ap length (lists_with true protected (e ∷ es) e.at) in
            let has : stands_at true e.at e ≡ true = ap (λ b. b && bytes_eq e.at e.at) is ∙ path_itself e.at in
            let more : length (entries_at true e.at (e ∷ es)) ≡ 1 + length (entries_at true e.at es) = rw has (omega arith) in
            omega (arith, q, all, more, length-append (list_at protected e.at) (entries_at true e.at (e ∷ es)))
        | false ↦ λ is. let q = o e.at in
            let all = ap length (lists_with false own (e ∷ es) e.at) in
            let has : stands_at false e.at e ≡ true = ap (λ b. not b && bytes_eq e.at e.at) is ∙ path_itself e.at in
            let more : length (entries_at false e.at (e ∷ es)) ≡ 1 + length (entries_at false e.at es) = rw has (omega arith) in
            omega (arith, q, all, more, length-append (list_at own e.at) (entries_at false e.at (e ∷ es)))
      ] refl

  pub entries_fit : (protected own : NamesTo (List Entry)) (es : List EntryPart) → All Fits es
      → AreShort (with_entries true protected (map entry_of es)) → AreShort (with_entries false own (map entry_of es)) → EntriesFit Fits protected own es
  entries_fit protected own [] fits p o = tt
  entries_fit protected own (e ∷ es) fits p o =
      (All-head Fits e es fits, had_room protected own (entry_of e) (map entry_of es) p o, entries_fit (with_entry true protected (entry_of e)) (with_entry false own (entry_of e)) es (All-tail Fits e es fits) p o)
