-- One byte more of an input of which a bounded front is kept, and its end.
use Rattle.book_desk_app.proofs.Common.{◌≡◌, ℕ, List, [], ◌∷◌, ◌++◌, length, Option, Some, IfSome, arith, sym, ap, subst, ◌∙◌, Consumes, HasKept}
use Rattle.std.proofs.Common.{◌+◌, ◌≤◌, ◌<◌, take, min, None}
use Rattle.std.specs.Io.KnownBytes.{IsAtEnd}
use Rattle.std.proofs.lemmas.List.{append-nil, length-append, length-take, take_all, take-append-le}
use Rattle.book_desk_app.specs.ShortTexts.{HasTaken}
use Rattle.book_desk_app.specs.declared.short_texts.TextTest.{TextTest}
use Rattle.std.proofs.KnownBytes.{Consumes-trans}

pub consumed_all : (a b : Option (List ℕ)) (xs : List ℕ) → Consumes a b xs → IsAtEnd b → IfSome a (λ input. xs ≡ input)
consumed_all None b xs p e = tt
consumed_all (Some whole) None xs p e = absurd p
consumed_all (Some whole) (Some bs) xs p e = sym (p ∙ ap (λ t. xs ++ t) e ∙ append-nil xs)

module _ (most : ℕ) (taken : List ℕ) (byte : ℕ) where
  -- a front that is short is all, and grows
  short_front : (kept : List ℕ) → kept ≡ take (most + 1) taken → length kept ≤ most → kept ++ byte ∷ [] ≡ take (most + 1) (taken ++ byte ∷ [])
  short_front kept is few =
      let n : length kept ≡ min (most + 1) (length taken) = ap length is ∙ length-take (most + 1) taken in
      let all : kept ≡ taken = is ∙ take_all (most + 1) taken (omega (arith, n)) in
      ap (λ t. t ++ byte ∷ []) all ∙ sym (take_all (most + 1) (taken ++ byte ∷ []) (rw (length-append taken (byte ∷ [])) (omega (arith, n))))

  -- one that is not stays
  long_front : (kept : List ℕ) → kept ≡ take (most + 1) taken → most < length kept → kept ≡ take (most + 1) (taken ++ byte ∷ [])
  long_front kept is many =
      let n : length kept ≡ min (most + 1) (length taken) = ap length is ∙ length-take (most + 1) taken in
      is ∙ sym (take-append-le (most + 1) taken (byte ∷ []) (omega (arith, n)))

module _ (most : ℕ) (before now after : Option (List ℕ)) (test new : TextTest) (kept : List ℕ) (byte : ℕ)
    (has : HasKept most before now test kept) (read : Consumes now after (byte ∷ [])) (more : (taken : List ℕ) → HasTaken test taken → HasTaken new (taken ++ byte ∷ [])) where
  pub kept_more : length kept ≤ most → HasKept most before after new (kept ++ byte ∷ [])
  kept_more few = record {
    taken = has.taken ++ byte ∷ [];
    consumed = Consumes-trans before now after has.taken (byte ∷ []) has.consumed read;
    tested = more has.taken has.tested;
    front = short_front most has.taken byte kept has.front few;
  }

  pub kept_still : most < length kept → HasKept most before after new kept
  kept_still many = record {
    taken = has.taken ++ byte ∷ [];
    consumed = Consumes-trans before now after has.taken (byte ∷ []) has.consumed read;
    tested = more has.taken has.tested;
    front = long_front most has.taken byte kept has.front many;
  }

at_input : (P : List ℕ → Type 0) (before : Option (List ℕ)) (xs : List ℕ) → IfSome before (λ input. xs ≡ input) → P xs → IfSome before P
at_input P None xs e p = tt
at_input P (Some input) xs e p = subst P e p

-- at the end of the input
module _ (most : ℕ) (before now : Option (List ℕ)) (test : TextTest) (kept : List ℕ) (has : HasKept most before now test kept) (end : IsAtEnd now) where
  front_length : length kept ≡ min (most + 1) (length has.taken)
  front_length = ap length has.front ∙ length-take (most + 1) has.taken

  -- what holds of a short front holds of the input
  pub of_front : (P : List ℕ → Type 0) → length kept ≤ most → P kept → IfSome before P
  of_front P few p =
      let n = front_length in
      let all : kept ≡ has.taken = has.front ∙ take_all (most + 1) has.taken (omega (arith, n)) in
      at_input P before has.taken (consumed_all before now has.taken has.consumed end) (subst P all p)

  -- what holds of all that was taken holds of the input
  pub of_taken : (P : List ℕ → Type 0) → P has.taken → IfSome before P
  of_taken P p = at_input P before has.taken (consumed_all before now has.taken has.consumed end) p

  pub is_longer : most < length kept → most < length has.taken
  is_longer many = let n = front_length in omega (arith, n)
