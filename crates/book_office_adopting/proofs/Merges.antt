-- What maps answer whose values were merged with those of another map, or changed by their names.
use Rattle.book_office_adopting.proofs.Common.{◌≡◌, ℕ, List, [], ◌∷◌, cond, Option, Some, None, option_map, refl, sym, ap, ◌∙◌, nat_list_cmp_total, get, entries, NamesTo, same}
use Rattle.std.proofs.Common.{map}
use Rattle.std.specs.FinMap.{find, get-entries, get-from_entries}
use Rattle.book_lists.specs.Names.{name_cmp}
use Rattle.book_office_values.proofs.NameMapLaws.{by_same, put_at}
use Rattle.book_office_adopting.specs.Adopting.{merged_into, merged, mapped}

-- what stands at a name after a merge
abbrev pub made_of : {A V : Type 0} → (A → Option V → V) → Option A → Option V → Option V
made_of make None old = old
made_of make (Some x) old = Some (make x old)

module _ {A V : Type 0} (make : A → Option V → V) (m : NamesTo V) where
  get_into : (es : List (List ℕ × A)) (q : List ℕ) → get (merged_into make m es) q ≡ made_of make (find name_cmp q es) (get m q)
  get_into [] q = refl
  get_into (e ∷ es) q =
      put_at (merged_into make m es) e.0 (make e.1 (get m e.0)) q ∙ ap (cond (same q e.0) (Some (make e.1 (get m e.0)))) (get_into es q)
      ∙ by_same q e.0 (λ b. cond b (Some (make e.1 (get m e.0))) (made_of make (find name_cmp q es) (get m q)) ≡ made_of make (cond b (Some e.1) (find name_cmp q es)) (get m q))
      (λ is. ap (λ n. Some (make e.1 (get m n))) (sym is)) refl

  pub get_merged : (named : NamesTo A) (q : List ℕ) → get (merged make named m) q ≡ made_of make (get named q) (get m q)
  get_merged named q = get_into (entries named) q ∙ ap (λ r. made_of make r (get m q)) (sym (get-entries named q))

module _ {V : Type 0} (change : List ℕ → V → V) where
  find_mapped : (es : List (List ℕ × V)) (q : List ℕ) → find name_cmp q (map (λ e. (e.0, change e.0 e.1)) es) ≡ option_map (change q) (find name_cmp q es)
  find_mapped [] q = refl
  find_mapped (e ∷ es) q =
      ap (cond (same q e.0) (Some (change e.0 e.1))) (find_mapped es q)
      ∙ by_same q e.0 (λ b. cond b (Some (change e.0 e.1)) (option_map (change q) (find name_cmp q es)) ≡ option_map (change q) (cond b (Some e.1) (find name_cmp q es)))
      (λ is. ap (λ n. Some (change n e.1)) (sym is)) refl

  pub get_mapped : (m : NamesTo V) (q : List ℕ) → get (mapped change m) q ≡ option_map (change q) (get m q)
  get_mapped m q =
      get-from_entries nat_list_cmp_total (map (λ e. (e.0, change e.0 e.1)) (entries m)) q ∙ find_mapped (entries m) q
      ∙ ap (option_map (change q)) (sym (get-entries m q))
