-- A report cut from items that are enough is that of all items.
use Rattle.book_office_sync.proofs.Common.{◌≡◌, ◌⊎◌, ℕ, ◌<◌, ◌≤◌, inl, inr, zero, suc, List, [], ◌∷◌, ◌++◌, map, length, drop, true, Option, Some, None, refl, sym, ap, ◌∙◌, subst, arith, nat_lt, if◌then◌else◌, nat_tests, Change, Item, Token}
use Rattle.std.proofs.Common.{◌+◌, take}
use Rattle.book_office_values.specs.Changes.{first_of}
use Rattle.book_office.proofs.FirstOf.{first_map}
use Rattle.book_office_sync.specs.Copies.{is_cut, last_number}
use Rattle.book_office_sync.specs.Limits.{IsEnough, AreEnough, last_told, told_report}
use Rattle.book_office_sync.specs.declared.messages.Report.{Report}

-- ---- lists
pub take_parts : {A : Type 0} (n : ℕ) (xs : List A) → xs ≡ take n xs ++ drop n xs
take_parts zero xs = refl
take_parts (suc n) [] = refl
take_parts (suc n) (x ∷ xs) = ap (λ l. x ∷ l) (take_parts n xs)

pub map_parts : {A B : Type 0} (f : A → B) (xs ys : List A) → map f (xs ++ ys) ≡ map f xs ++ map f ys
map_parts f [] ys = refl
map_parts f (x ∷ xs) ys = ap (λ l. f x ∷ l) (map_parts f xs ys)

length_map : {A B : Type 0} (f : A → B) (xs : List A) → length (map f xs) ≡ length xs
length_map f [] = refl
length_map f (x ∷ xs) = ap suc (length_map f xs)

-- a list that is longer than so many begins with them, whatever follows
take_front : {A : Type 0} (n : ℕ) (xs ys : List A) → n ≤ length xs → take n (xs ++ ys) ≡ take n xs
take_front zero xs ys h = refl
take_front (suc n) [] ys h = absurd (omega (arith, h))
take_front (suc n) (x ∷ xs) ys h = ap (λ l. x ∷ l) (take_front n xs ys (omega (arith, h)))

longer : {A : Type 0} (xs ys : List A) → length xs ≤ length (xs ++ ys)
longer [] ys = omega arith
longer (x ∷ xs) ys = let h = longer xs ys in omega (arith, h)

pub none_after : {A : Type 0} (xs : List A) → xs ++ [] ≡ xs
none_after [] = refl
none_after (x ∷ xs) = ap (λ l. x ∷ l) (none_after xs)

above : (a b : ℕ) → a < b → nat_lt a b ≡ true
above a b h = grind (arith, nat_tests)

-- ---- enough items
same_first : (most : ℕ) (all items : List Item) → IsEnough most all items → take most items ≡ take most all
same_first most all items e = go e.enough
  where
    go : (most < length items) ⊎ (e.rest ≡ []) → take most items ≡ take most all
    go (inl more) = sym (ap (take most) e.parts ∙ take_front most items e.rest (omega (arith, more)))
    go (inr none) = sym (ap (take most) (e.parts ∙ ap (λ r. items ++ r) none ∙ none_after items))

same_cut : (most : ℕ) (all items : List Item) → IsEnough most all items → nat_lt most (length items) ≡ nat_lt most (length all)
same_cut most all items e = go e.enough
  where
    go : (most < length items) ⊎ (e.rest ≡ []) → nat_lt most (length items) ≡ nat_lt most (length all)
    go (inl more) =
        let long : length items ≤ length all = subst (λ l. length items ≤ length l) (sym e.parts) (longer items e.rest) in
        above most (length items) more ∙ sym (above most (length all) (omega (arith, more, long)))
    go (inr none) = sym (ap (λ l. nat_lt most (length l)) (e.parts ∙ ap (λ r. items ++ r) none ∙ none_after items))

pub last_same : (f : Change → Item) → ((c : Change) → (f c).number ≡ c.0) → (n : ℕ) (cs : List Change) → last_told n (map f cs) ≡ last_number n cs
last_same f numbered n [] = refl
last_same f numbered n (c ∷ cs) = ap (λ m. last_told m (map f cs)) (numbered c) ∙ last_same f numbered c.0 cs

-- what the report has of the changes
abbrev of_changes : (Change → Item) → ℕ → Option ℕ → List Change → Token → Report
of_changes f start limit cs place = record {
  items = map f (first_of limit cs);
  truncated = is_cut limit cs;
  token = record { book = place.book; epoch = place.epoch; number = if is_cut limit cs then last_number start (first_of limit cs) else place.number };
}

pub told_is : (f : Change → Item) → ((c : Change) → (f c).number ≡ c.0) → (start : ℕ) (limit : Option ℕ) (items : List Item) (cs : List Change) (place : Token) → AreEnough limit (map f cs) items
    → told_report start limit items place ≡ of_changes f start limit cs place
told_is f numbered start None items cs place e = ap (λ l. told_report start None l place) e
told_is f numbered start (Some most) items cs place e =
    let first : take most items ≡ map f (take most cs) = same_first most (map f cs) items e ∙ sym (first_map f (Some most) cs) in
    let cut : nat_lt most (length items) ≡ nat_lt most (length cs) = same_cut most (map f cs) items e ∙ ap (nat_lt most) (length_map f cs) in
    let last : last_told start (take most items) ≡ last_number start (take most cs) = ap (last_told start) first ∙ last_same f numbered start (take most cs) in
    λ i. record {
      items = first i;
      truncated = cut i;
      token = record { book = place.book; epoch = place.epoch; number = if cut i then last i else place.number };
    }
