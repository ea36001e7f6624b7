-- A counter that gains one at each item that passes a test is the number of those items.
use Rattle.std.proofs.Common.{◌≡◌, ℕ, ◌+◌, min, Bool, true, false, cond, List, [], ◌∷◌, fold, count_by, arith, refl, sym, ap, ◌∙◌, subst}
use Rattle.std.proofs.lemmas.List.Sums.{sum_by-cons}
use Rattle.book_desk_metrics.specs.Counting.{held, one_more}
use Rattle.book_desk_metrics.specs.Timing.{more_if}

held_over : (most a n : ℕ) → min (min (a + 1) most + n) most ≡ min (a + (1 + n)) most
held_over most a n = grind arith

more_held : (b : Bool) (a n : ℕ) → held (more_if b a + n) ≡ held (a + (cond b 1 0 + n))
more_held true a n = held_over _ a n
more_held false a n = ap held (omega arith)

more_stays : (b : Bool) (a : ℕ) → held a ≡ a → held (more_if b a) ≡ more_if b a
more_stays true a h = grind arith
more_stays false a h = h

module _ {S X : Type 0} (step : S → X → S) (read : S → ℕ) (p : X → Bool) (Room : S → Type 0)
    (keeps : (s : S) (x : X) → Room s → Room (step s x))
    (steps : (s : S) (x : X) → Room s → read (step s x) ≡ more_if (p x) (read s)) where
  number_from : (xs : List X) (s : S) → Room s → held (read s) ≡ read s → read (fold step s xs) ≡ held (read s + count_by p xs)
  number_from [] s room h = sym h ∙ ap held (omega arith)
  number_from (x ∷ xs) s room h =
      let stays : held (read (step s x)) ≡ read (step s x) = subst (λ n. held n ≡ n) (sym (steps s x room)) (more_stays (p x) (read s) h) in
      number_from xs (step s x) (keeps s x room) stays
      ∙ ap (λ n. held (n + count_by p xs)) (steps s x room)
      ∙ more_held (p x) (read s) (count_by p xs)
      ∙ ap (λ n. held (read s + n)) (sym (sum_by-cons (λ (y : X). cond (p y) 1 0) x xs))

  pub number_of : (xs : List X) (s : S) → Room s → read s ≡ 0 → read (fold step s xs) ≡ held (count_by p xs)
  number_of xs s room zero =
      number_from xs s room (ap held zero ∙ sym zero) ∙ ap (λ n. held (n + count_by p xs)) zero ∙ ap held (omega arith)
