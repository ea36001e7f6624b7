-- Sets of paths.
use Rattle.book_lists.proofs.Common.{◌≡◌, ℕ, Bool, true, false, cond, not, IsTrue, List, [], ◌∷◌, ◌||◌, ◌∙◌, refl, sym, ap, ◌+◌, length, arith, same_set, list_any, Less, is_at, path_cmp, nat_cmp, is_eq, eq_by_cmp, slice_cmp, nat_list_cmp_total, nat_list_eq_equiv, is_eq-slice_cmp, has_path, false≢true}
use Rattle.std.specs.FinSet.{contains, insert, from_list, contains-empty, contains-insert, contains-from_list, len, len-empty, len-insert, IsAntisymmetric, slice_cmp-IsAntisymmetric, nat_cmp-IsAntisymmetric}
use Rattle.std.specs.List.{AllByRecursion}
use Rattle.std.specs.List.Sorted.{IsStrictlySortedBy}
use Rattle.std.proofs.lemmas.Map.Keys.{sorted_head, sorted_tail}
use Rattle.std.specs.Cmp.{eq_by_cmp_equiv}
use Rattle.std.proofs.lemmas.Slice.Eq.{bytes_eq-Decides}

-- a path is in the set of the list's paths exactly where one of the list equals it
pub contains-from_paths : (ps : List (List ℕ)) (q : List ℕ) → contains {R = slice_cmp nat_cmp} (from_list ps) q ≡ has_path ps q
contains-from_paths [] q = contains-empty (slice_cmp nat_cmp) q
contains-from_paths (p ∷ ps) q =
    contains-insert nat_list_cmp_total _ p q ∙ (λ i. (is_eq-slice_cmp q p ∙ nat_list_eq_equiv.symm q p) i || contains-from_paths ps q i)

pub paths_exact : IsAntisymmetric path_cmp
paths_exact = slice_cmp-IsAntisymmetric nat_cmp-IsAntisymmetric

-- keys that differ from others by one path make the set with that path
pub updated_is_insert : (old new : List (List ℕ)) (k : List ℕ) → ((q : List ℕ) → list_any (is_at (path_cmp q)) new ≡ cond (is_at (path_cmp k) q) true (list_any (is_at (path_cmp q)) old)) → from_list {R = path_cmp} new ≡ insert (from_list old) k
updated_is_insert old new k h = same_set nat_list_cmp_total paths_exact _ _ (λ q.
    contains-from_list nat_list_cmp_total new q ∙ h q ∙ or_of (is_at (path_cmp k) q) (list_any (is_at (path_cmp q)) old)
    ∙ (λ i. (eq_by_cmp_equiv nat_list_cmp_total).symm k q i || sym (contains-from_list nat_list_cmp_total old q) i)
    ∙ sym (contains-insert nat_list_cmp_total (from_list old) k q))
  where
    or_of : (a b : Bool) → cond a true b ≡ (a || b)
    or_of true b = refl
    or_of false b = refl

absent : (k : List ℕ) (ks : List (List ℕ)) → AllByRecursion (λ y. path_cmp k y ≡ Less) ks → list_any (eq_by_cmp path_cmp k) ks ≡ false
absent k [] h = refl
absent k (x ∷ xs) h = (λ i. is_eq (h.0 i) || absent k xs h.1 i)

-- rising paths are each once in their set
pub len-from_keys : (ks : List (List ℕ)) → IsStrictlySortedBy path_cmp ks → len (from_list {R = path_cmp} ks) ≡ length ks
len-from_keys [] h = len-empty path_cmp
len-from_keys (k ∷ ks) h =
    let ih = len-from_keys ks (sorted_tail path_cmp k ks h) in
    let new : contains (from_list {R = path_cmp} ks) k ≡ false = contains-from_list nat_list_cmp_total ks k ∙ absent k ks (sorted_head path_cmp k ks h) in
    let step : len (from_list {R = path_cmp} (k ∷ ks)) ≡ len (from_list {R = path_cmp} ks) + 1 =
    len-insert nat_list_cmp_total (from_list ks) k ∙ ap (λ b. cond b (len (from_list {R = path_cmp} ks)) (len (from_list {R = path_cmp} ks) + 1)) new in
    omega (arith, ih, step)

neither : (b : Bool) → IsTrue (not b) → IsTrue b → ⊥
neither true h k = false≢true h
neither false h k = false≢true k

-- where a test for no path fails, there is one
pub not_empty : (ks : List (List ℕ)) (b : Bool) → (length ks ≡ 0 → IsTrue b) → IsTrue (not b) → (q : List ℕ) × (contains {R = path_cmp} (from_list ks) q ≡ true)
not_empty [] b tests is = absurd (neither b is (tests refl))
not_empty (k ∷ ks) b tests is = (k, contains-from_paths (k ∷ ks) k ∙ (λ i. (bytes_eq-Decides k k).1 refl i || has_path ks k))

pub none_in : (ks : List (List ℕ)) → length ks ≡ 0 → (q : List ℕ) → contains {R = path_cmp} (from_list ks) q ≡ false
none_in [] e q = contains-empty path_cmp q
none_in (k ∷ ks) e q = absurd (omega (arith, e))
