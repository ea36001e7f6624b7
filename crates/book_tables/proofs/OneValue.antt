-- A column has one value: two that it has are equal.
use Rattle.book_tables.proofs.Common.{◌≡◌, ◌≢◌, ℕ, ℤ, Bool, true, false, List, [], ◌∷◌, refl, sym, ◌∙◌, true≢false, false_from_ne_true, Value, Int, Text, Row, is_same, has}
use Rattle.sqlite_value.specs.Keys.{plain}
use Rattle.sqlite_value.proofs.KeyLemmas.{first_key-plain}
use Rattle.sqlite_schema.specs.Rules.{agree}
use Rattle.sqlite_rules.proofs.KeyLemmas.{agree_back, agree_chain}
use Rattle.book_tables.proofs.Looking.{has_text, same_ints}

module _ (place : ℕ) (row : Row) where
  both_equal : (a b : Value) → has place a row ≡ true → has place b row ≡ true → has 0 b (a ∷ []) ≡ true
  both_equal a b p q = go (has 0 b (a ∷ [])) refl
    where
      go : (t : Bool) → has 0 b (a ∷ []) ≡ t → t ≡ true
      go true e = refl
      go false e =
          let first : agree plain (place ∷ []) row (0 ∷ []) (a ∷ []) ≡ true = rw (first_key-plain, p) refl in
          let second : agree plain (place ∷ []) row (0 ∷ []) (b ∷ []) ≡ true = rw (first_key-plain, q) refl in
          let chain : agree plain (0 ∷ []) (a ∷ []) (0 ∷ []) (b ∷ []) ≡ true =
          agree_chain plain (0 ∷ []) (place ∷ []) (0 ∷ []) (a ∷ []) row (b ∷ []) (agree_back plain (place ∷ []) (0 ∷ []) row (a ∷ []) first) second in
          absurd (true≢false (rw (first_key-plain, e) at (sym chain)))

  pub one_number : (a b : ℤ) → a ≢ b → has place (Int a) row ≡ true → has place (Int b) row ≡ false
  one_number a b apart p = false_from_ne_true (has place (Int b) row) (λ q. apart (same_ints 0 (Int a ∷ []) a b refl (both_equal (Int a) (Int b) p q)))

  pub one_text : (a b : List ℕ) → a ≢ b → has place (Text a) row ≡ true → has place (Text b) row ≡ false
  one_text a b apart p = false_from_ne_true (has place (Text b) row) (λ q. apart (is_same a b (sym (has_text 0 (Text a ∷ []) a b refl) ∙ both_equal (Text a) (Text b) p q)))
