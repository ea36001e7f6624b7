-- What is written of a text.
use Rattle.std.proofs.Common.{◌≡◌, ℕ, ◌+◌, List, [], ◌++◌, take, drop, Option, Some, None, refl, sym, ap, ◌∙◌, append_assoc, append-nil, arith}
use Rattle.std.proofs.lemmas.List.{drop-take, take-append-drop, take-take}
use Rattle.std.specs.Io.KnownBytes.{Appends, Keeps}
use Rattle.book_log_service.specs.Kept.{AppendsFront, Grows}

pub Appends-then : (u v w : Option (List ℕ)) (a b : List ℕ) → Appends u v a → Appends v w b → Appends u w (a ++ b)
Appends-then None v w a b x y = tt
Appends-then (Some xs) None w a b x y = absurd x
Appends-then (Some xs) (Some ys) None a b x y = y
Appends-then (Some xs) (Some ys) (Some zs) a b x y = y ∙ ap (λ (t : List ℕ). t ++ b) x ∙ append_assoc xs a b

pub Appends-kept : (u v w : Option (List ℕ)) (a : List ℕ) → Appends u v a → Keeps v w → Appends u w a
Appends-kept None v w a x y = tt
Appends-kept (Some xs) None w a x y = absurd x
Appends-kept (Some xs) (Some ys) None a x y = absurd y
Appends-kept (Some xs) (Some ys) (Some zs) a x y = y ∙ x

pub take_further : (xs : List ℕ) (i n : ℕ) → take i xs ++ take n (drop i xs) ≡ take (i + n) xs
take_further xs i n =
    ap (λ (t : List ℕ). take i xs ++ t) (sym (drop-take i n xs))
    ∙ ap (λ (t : List ℕ). t ++ drop i (take (i + n) xs)) (sym (take-take i (i + n) xs (omega arith)))
    ∙ take-append-drop i (take (i + n) xs)

Appends-none : (held : Option (List ℕ)) → Appends held held []
Appends-none None = tt
Appends-none (Some xs) = sym (append-nil xs)

-- nothing is written
pub front_none : (held : Option (List ℕ)) (text : List ℕ) → AppendsFront held held text
front_none held text = ([], text, refl, Appends-none held)

pub grows_none : (held : Option (List ℕ)) → Grows held held
grows_none held = ([], Appends-none held)

-- a front of a text is written
pub grows_front : (old new : Option (List ℕ)) (text : List ℕ) → AppendsFront old new text → Grows old new
grows_front old new text a = (a.0, a.3)
