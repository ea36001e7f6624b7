-- The entries of a map by number that are above a number.
use Rattle.book_office_values.proofs.Common.{◌≡◌, ℕ, ◌<◌, ◌≤◌, true, false, cond, ◌&&◌, List, [], ◌∷◌, filter, nat_lt, refl, sym, arith, Ordering, Less, Equal, Greater, is_lt}
use Rattle.std.specs.declared.ops.Bound.TheVariants.{Excluded, Unbounded}
use Rattle.std.specs.BTreeMap.Range.{range_contains}
use Rattle.std.specs.Cmp.{ranked}
use Rattle.std.specs.Ordering.{nat_cmp}
use Rattle.std.proofs.lemmas.Bool.Decides.{nat_tests}

pub above : (a b : ℕ) → a < b → nat_lt a b ≡ true
above a b h = grind (arith, nat_tests)

not_above : (a b : ℕ) → b ≤ a → nat_lt a b ≡ false
not_above a b h = grind (arith, nat_tests)

by_rank : (a b : ℕ) (r : Ordering) → r ≡ nat_cmp a b → (is_lt r && true) ≡ nat_lt a b
by_rank a b Less e = sym (above a b (ranked a b Less e))
by_rank a b Equal e = sym (not_above a b (let h = ranked a b Equal e in omega arith))
by_rank a b Greater e = sym (not_above a b (let h = ranked a b Greater e in omega arith))

pub above_entries : {V : Type 0} (n : ℕ) (es : List (ℕ × V)) → filter (λ (e : ℕ × V). range_contains nat_cmp (Excluded n) Unbounded e.0) es ≡ filter (λ (e : ℕ × V). nat_lt n e.0) es
above_entries n [] = refl
above_entries n (e ∷ es) = λ i. cond (by_rank n e.0 (nat_cmp n e.0) refl i) (e ∷ above_entries n es i) (above_entries n es i)
