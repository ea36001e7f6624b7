-- The first so many items of a list, told one by one.
use Rattle.book_office_values.proofs.Common.{◌≡◌, ℕ, ◌≤◌, List, [], ◌++◌, length, true, Option, Some, None, refl, sym, ap, ◌∙◌, arith}
use Rattle.std.proofs.lemmas.Bool.Decides.{nat_tests}
use Rattle.std.proofs.lemmas.List.{append-nil, take_all, take_at}
use Rattle.book_office_values.specs.Changes.{first_of, is_full}

-- so many items are at most as many as are to be told
abbrev pub IsWithin : Option ℕ → ℕ → Type 0
IsWithin None n = Unit {0}
IsWithin (Some most) n = n ≤ most

first_within : {A : Type 0} (most : Option ℕ) (xs : List A) → IsWithin most (length xs) → first_of most xs ≡ xs
first_within None xs h = refl
first_within (Some most) xs h = take_all most xs h

first_full : {A : Type 0} (most : Option ℕ) (xs ys : List A) → IsWithin most (length xs) → is_full most (length xs) ≡ true → first_of most (xs ++ ys) ≡ xs
first_full None xs ys h e = absurd cc
first_full (Some most) xs ys h e = take_at xs ys most (grind (arith, nat_tests))

-- where nothing is left to tell, and where as many are told as are to be
pub told_all : {A : Type 0} (most : Option ℕ) (told rest whole : List A) → IsWithin most (length told) → rest ≡ [] → told ++ rest ≡ whole → told ≡ first_of most whole
told_all most told rest whole h over e = sym (first_within most told h) ∙ ap (first_of most) (sym (append-nil told) ∙ ap (λ l. told ++ l) (sym over) ∙ e)

pub told_full : {A : Type 0} (most : Option ℕ) (told rest whole : List A) → IsWithin most (length told) → is_full most (length told) ≡ true → told ++ rest ≡ whole → told ≡ first_of most whole
told_full most told rest whole h full e = sym (first_full most told rest h full) ∙ ap (first_of most) e
