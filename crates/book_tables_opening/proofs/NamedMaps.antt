-- Finite maps from names that are built of a list: an element is put over the map of those behind it.
use Rattle.book_tables_opening.proofs.Common.{◌≡◌, inr, ℕ, suc, ◌≤◌, Bool, true, false, cond, List, [], ◌∷◌, length, filter, find, Option, Some, None, is_some, option_map, refl, sym, ap, ◌∙◌, true≢false, arith, get, empty, len, option_or, Has, name_cmp, NamesTo, same, is_same, by_names, found_has}
use Rattle.std.specs.FinMap.{insert, len-empty}
use Rattle.book_office_values.proofs.NameMapLaws.{put_at, len_put}

abbrev pub is_named : List ℕ → Option (List ℕ) → Bool
is_named q None = false
is_named q (Some name) = same q name

pub named_is : (q : List ℕ) (name : Option (List ℕ)) → is_named q name ≡ true → name ≡ Some q
named_is q None h = absurd (true≢false (sym h))
named_is q (Some name) h = ap Some (sym (is_same q name h))

module _ {X : Type 0} (name_of : X → Option (List ℕ)) where
  abbrev pub first_named : List ℕ → List X → Option X
  first_named q xs = find (λ x. is_named q (name_of x)) xs

  -- the first element with a name has it
  pub first_has : (q : List ℕ) (xs : List X) (x : X) → first_named q xs ≡ Some x → Has xs x × (name_of x ≡ Some q)
  first_has q xs x h = let found = found_has (λ y. is_named q (name_of y)) xs x h in (found.0, named_is q (name_of x) found.1)

module _ {X V : Type 0} (name_of : X → Option (List ℕ)) (value : List ℕ → X → V) where
  abbrev put_named : Option (List ℕ) → X → NamesTo V → NamesTo V
  put_named None x m = m
  put_named (Some name) x m = insert m name (value name x)

  -- the elements that have names, over a map
  abbrev pub named_over : NamesTo V → List X → NamesTo V
  named_over base [] = base
  named_over base (x ∷ xs) = put_named (name_of x) x (named_over base xs)

  -- it has at a name the value of the first element with this name, and else what was there
  pub got_named : (base : NamesTo V) (q : List ℕ) (xs : List X) → get (named_over base xs) q ≡ option_or (option_map (value q) (first_named name_of q xs)) (get base q)
  got_named base q [] = refl
  got_named base q (x ∷ xs) = in_head (name_of x) (got_named base q xs)
    where
      in_head : (n : Option (List ℕ)) → get (named_over base xs) q ≡ option_or (option_map (value q) (first_named name_of q xs)) (get base q)
          → get (put_named n x (named_over base xs)) q ≡ option_or (option_map (value q) (cond (is_named q n) (Some x) (first_named name_of q xs))) (get base q)
      in_head None more = more
      in_head (Some name) more =
          put_at (named_over base xs) name (value name x) q
          ∙ by_names q name (λ b. cond b (Some (value name x)) (get (named_over base xs) q) ≡ option_or (option_map (value q) (cond b (Some x) (first_named name_of q xs))) (get base q))
          (λ is. ap (λ k. Some (value k x)) (sym is)) (λ _. more)

  -- it has no more than there are elements with names
  pub few_named : (xs : List X) → len (named_over empty xs) ≤ length (filter (λ x. is_some (name_of x)) xs)
  few_named [] = omega (arith, len-empty name_cmp V)
  few_named (x ∷ xs) = in_head (name_of x) (few_named xs)
    where
      in_head : (n : Option (List ℕ)) → len (named_over empty xs) ≤ length (filter (λ y. is_some (name_of y)) xs)
          → len (put_named n x (named_over empty xs)) ≤ length (cond (is_some n) (x ∷ filter (λ y. is_some (name_of y)) xs) (filter (λ y. is_some (name_of y)) xs))
      in_head None more = more
      in_head (Some name) more = len_put (named_over empty xs) name (value name x) (suc (length (filter (λ y. is_some (name_of y)) xs))) (inr (omega (arith, more)))
