-- Parts of lists.
use Rattle.book_dumps.proofs.Common.{◌≡◌, ℕ, ◌+◌, List, ◌++◌, take, drop, sym, ap, ◌∙◌, arith}
use Rattle.std.proofs.lemmas.List.{drop-take, take-take, take-append-drop}

-- some elements, and the next ones
pub take_further : (xs : List ℕ) (i n : ℕ) → take i xs ++ take n (drop i xs) ≡ take (i + n) xs
take_further xs i n =
    ap (λ (t : List ℕ). take i xs ++ t) (sym (drop-take i n xs))
    ∙ ap (λ (t : List ℕ). t ++ drop i (take (i + n) xs)) (sym (take-take i (i + n) xs (omega arith)))
    ∙ take-append-drop i (take (i + n) xs)
