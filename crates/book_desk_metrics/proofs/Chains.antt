-- Texts that are added one after the other.
use Rattle.std.proofs.Common.{◌≡◌, ℕ, ◌+◌, ◌<◌, ◌≤◌, List, [], ◌∷◌, ◌++◌, length, take, get_or, arith, refl, sym, ap, ◌∙◌, append_assoc}
use Rattle.std.proofs.lemmas.List.{take_more, flat_map_more}
use Rattle.std.specs.List.{flat_map}

-- two texts
pub chained : (old a b x y : List ℕ) → x ≡ old ++ a → y ≡ x ++ b → y ≡ old ++ (a ++ b)
chained old a b x y e f = f ∙ ap (λ t. t ++ b) e ∙ append_assoc old a b

-- one more text of a list
pub one_more_text : {X : Type 0} (f : X → List ℕ) (old now new : List ℕ) (xs : List X) (i : ℕ) (x : X) → i < length xs
    → now ≡ old ++ flat_map f (take i xs) → new ≡ now ++ f (get_or xs i x) → new ≡ old ++ flat_map f (take (i + 1) xs)
one_more_text f old now new xs i x below e g =
    g ∙ ap (λ t. t ++ f (get_or xs i x)) e ∙ flat_map_more f old (take i xs) (get_or xs i x)
    ∙ ap (λ ys. old ++ flat_map f ys) (sym (take_more xs i x below))

-- four texts
pub chained_four : (old a b c d w x y z : List ℕ) → w ≡ old ++ a → x ≡ w ++ b → y ≡ x ++ c → z ≡ y ++ d → z ≡ old ++ (a ++ (b ++ (c ++ d)))
chained_four old a b c d w x y z e f g h =
    chained old a (b ++ (c ++ d)) w z e (chained w b (c ++ d) x z f (chained x c d y z g h))
