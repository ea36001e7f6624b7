-- A tree map of std, against the finite map of its entries.
use Rattle.book_office_values.proofs.Common.{◌≡◌, Bool, true, false, cond, List, [], ◌∷◌, length, Option, Some, None, refl, sym, ap, ◌∙◌, subst, eq_by_cmp_equiv, ◌&&◌, Ordering, Less, is_lt, get, insert, remove, find, entries, len, get-insert, get-remove, same_map, IsAntisymmetric}
use Rattle.std.specs.Cmp.{IsTotalOrder}
use lib.Dec.{T}
use Rattle.std.specs.Option.{option_map, IsSome, OnSome}
use Rattle.std.specs.List.{AllByRecursion, AllZip}
use Rattle.std.specs.Map.{lookup, keys_of}
use Rattle.std.specs.BTreeMap.{is_at}
use Rattle.std.specs.List.Sorted.{IsStrictlySortedBy}
use Rattle.std.specs.FinMap.{from_entries, is_sorted, from_sorted, entries-from_sorted, len-entries, get-from_sorted, get-from_entries}
use Rattle.std.specs.FinMap.Entries.{below_all}

both_true : (a b : Bool) → T a → T b → T (a && b)
both_true true b p q = q
both_true false b p q = p

-- copies have the keys of their sources
pub same_keys : {K V : Type 0} (D : V → V → Type 0) (es fs : List (K × V)) → AllZip (λ p q. (q.0 ≡ p.0) × D p.1 q.1) es fs → keys_of fs ≡ keys_of es
same_keys D [] [] h = refl
same_keys D [] (f ∷ fs) h = absurd h
same_keys D (e ∷ es) [] h = absurd h
same_keys D (e ∷ es) (f ∷ fs) h = λ i. h.0.0 i ∷ same_keys D es fs h.1 i

module _ {K V : Type 0} (R : K → K → Ordering) where
  find_lookup : (es : List (K × V)) (q : K) → find R q es ≡ lookup (is_at (R q)) es
  find_lookup [] q = refl
  find_lookup (e ∷ es) q = ap (cond (is_at (R q) e.0) (Some e.1)) (find_lookup es q)

  all_below : (k : K) (es : List (K × V)) → AllByRecursion (λ y. R k y ≡ Less) (keys_of es) → T (below_all R k es)
  all_below k [] h = tt
  all_below k (e ∷ es) h = subst (λ r. T (is_lt r && below_all R k es)) (sym h.0) (all_below k es h.1)

  all_sorted : (es : List (K × V)) → IsStrictlySortedBy R (keys_of es) → T (is_sorted R es)
  unfolding IsStrictlySortedBy
  all_sorted [] h = tt
  all_sorted (e ∷ es) h = both_true _ _ (all_below e.0 es h.0) (all_sorted es h.1)

module _ {K V : Type 0} {R : K → K → Ordering} (o : IsTotalOrder R) where
  -- what the map of the entries has at a key
  pub get_tree : (es : List (K × V)) (q : K) → get (from_entries {R = R} es) q ≡ lookup (is_at (R q)) es
  get_tree es q = get-from_entries o es q ∙ find_lookup R es q

module _ {K V : Type 0} {R : K → K → Ordering} (o : IsTotalOrder R) (apart : IsAntisymmetric R) where
  -- entries that differ at one key make maps that differ there
  pub put_tree : (es fs : List (K × V)) (k : K) (v : V) → ((q : K) → lookup (is_at (R q)) fs ≡ cond (is_at (R k) q) (Some v) (lookup (is_at (R q)) es)) → from_entries {R = R} fs ≡ insert (from_entries es) k v
  put_tree es fs k v h = same_map o apart _ _ (λ q.
      get_tree o fs q ∙ h q ∙ ap (λ b. cond b (Some v) (lookup (is_at (R q)) es)) ((eq_by_cmp_equiv o).symm k q)
      ∙ sym (get-insert o (from_entries es) k v q ∙ ap (cond (is_at (R q) k) (Some v)) (get_tree o es q)))

  -- the same, where the key is taken away
  pub drop_tree : (es fs : List (K × V)) (k : K) → ((q : K) → lookup (is_at (R q)) fs ≡ cond (is_at (R k) q) None (lookup (is_at (R q)) es)) → from_entries {R = R} fs ≡ remove (from_entries es) k
  drop_tree es fs k h = same_map o apart _ _ (λ q.
      get_tree o fs q ∙ h q ∙ ap (λ b. cond b None (lookup (is_at (R q)) es)) ((eq_by_cmp_equiv o).symm k q)
      ∙ sym (get-remove o (from_entries es) k q ∙ ap (cond (is_at (R q) k) None) (get_tree o es q)))

  -- entries in order are those of their map
  pub entries_tree : (es : List (K × V)) → IsStrictlySortedBy R (keys_of es) → entries (from_entries {R = R} es) ≡ es
  entries_tree es h =
      let same : from_entries {R = R} es ≡ from_sorted es = same_map o apart _ _ (λ q. get-from_entries o es q ∙ sym (get-from_sorted R es q (all_sorted R es h))) in
      ap entries same ∙ entries-from_sorted R es (all_sorted R es h)

  pub len_tree : (es : List (K × V)) → IsStrictlySortedBy R (keys_of es) → len (from_entries {R = R} es) ≡ length es
  len_tree es h = len-entries _ ∙ ap length (entries_tree es h)

  -- a value that is lent and then left changed
  pub lent_tree : {B : Type 0} (r : Option B) (read : B → V) (es fs : List (K × V)) (k : K) (w : V)
      → option_map read r ≡ lookup (is_at (R k)) es
      → (IsSome (lookup (is_at (R k)) es) → (q : K) → lookup (is_at (R q)) fs ≡ cond (is_at (R k) q) (Some w) (lookup (is_at (R q)) es))
      → OnSome r (from_entries {R = R} fs ≡ insert (from_entries es) k w)
  lent_tree None read es fs k w e h = tt
  lent_tree (Some x) read es fs k w e h = put_tree es fs k w (h (subst IsSome e refl))
