-- Faults that are told, and their connections.
use Rattle.std.proofs.Common.{◌≡◌, ℕ, ◌+◌, true, false, if◌then◌else◌, List, [], ◌∷◌, ◌++◌, Option, Some, None, refl, ap, subst, ◌∙◌, append-nil, arith}
use Rattle.book_wire_serving.specs.declared.faults.StreamFault.{StreamFault}
use Rattle.book_desk_loop.specs.Serving.{ToldFault, AreTold, is_number, told_of, count_if_none, count_unopened}
use Rattle.book_desk_connections.proofs.Histories.{same, differs}

pub told_twice : {F : Type 0} (tells : F → StreamFault → F → Type 0) (a b c : F) (xs ys : List ToldFault)
    → AreTold tells a xs b → AreTold tells b ys c → AreTold tells a (xs ++ ys) c
told_twice {F} tells a b c [] ys x y = (let P : F → Type 0 = λ t. AreTold tells t ys c in subst P x y)
told_twice {F} tells a b c (failed ∷ xs) ys x y = (x.0, x.1, told_twice tells x.0 b c xs ys x.2 y)

told_append : (k : ℕ) (xs ys : List ToldFault) → told_of k (xs ++ ys) ≡ told_of k xs ++ told_of k ys
told_append k [] ys = refl
told_append k (x ∷ xs) ys =
    elim (is_number k x.number) as (λ t. (if t then x.fault ∷ told_of k (xs ++ ys) else told_of k (xs ++ ys)) ≡ (if t then x.fault ∷ told_of k xs else told_of k xs) ++ told_of k ys) [
      | true ↦ ap (λ (t : List StreamFault). x.fault ∷ t) (told_append k xs ys)
      | false ↦ told_append k xs ys
    ]

-- one fault, of the connection of that number, or of none
abbrev pub one_told : Option ℕ → StreamFault → List ToldFault
one_told number fault = record { number = number; fault = fault } ∷ []

one_here : (k : ℕ) (fault : StreamFault) → told_of k (one_told (Some k) fault) ≡ fault ∷ []
one_here k fault = rw (same k) refl

one_there : (j k : ℕ) (fault : StreamFault) → (j ≡ k → ⊥) → told_of j (one_told (Some k) fault) ≡ []
one_there j k fault far = rw (differs j k far) refl

-- one more is told, of this one
pub told_here : (k : ℕ) (before : List ToldFault) (fault : StreamFault) → told_of k before ≡ []
    → told_of k (before ++ one_told (Some k) fault) ≡ fault ∷ []
told_here k before fault none =
    told_append k before (one_told (Some k) fault) ∙ ap (λ (t : List StreamFault). t ++ told_of k (one_told (Some k) fault)) none ∙ one_here k fault

-- of another
pub told_there : (j k : ℕ) (before : List ToldFault) (fault : StreamFault) → (j ≡ k → ⊥)
    → told_of j (before ++ one_told (Some k) fault) ≡ told_of j before
told_there j k before fault far =
    told_append j before (one_told (Some k) fault) ∙ ap (λ (t : List StreamFault). told_of j before ++ t) (one_there j k fault far) ∙ append-nil (told_of j before)

-- of none
pub told_elsewhere : (j : ℕ) (before : List ToldFault) (fault : StreamFault) → told_of j (before ++ one_told None fault) ≡ told_of j before
told_elsewhere j before fault = told_append j before (one_told None fault) ∙ append-nil (told_of j before)

unopened_append : (xs ys : List ToldFault) → count_unopened (xs ++ ys) ≡ count_unopened xs + count_unopened ys
unopened_append [] ys = omega arith
unopened_append (x ∷ xs) ys = (let more = unopened_append xs ys in omega (arith, more))

pub unopened_one : (before : List ToldFault) (number : Option ℕ) (fault : StreamFault)
    → count_unopened (before ++ one_told number fault) ≡ count_unopened before + count_if_none number
unopened_one before number fault = (let more = unopened_append before (one_told number fault) in omega (arith, more))
