-- Unescaping, an escape at a time.
use Rattle.book_cards.proofs.Common.{◌≡◌, ◌≢◌, ℕ, ◌<◌, false, cond, Some, None, List, [], ◌∷◌, ◌++◌, length, get_or, refl, ap, ◌∙◌, arith, eqb, unescaped, slice_get}
use Rattle.book_cards.specs.Escaping.{escaped, or_kept}
use Rattle.book_cards.proofs.Folds.{Lacks, lacks_from_reads}

keep : (a : ℕ) (rest : List ℕ) → eqb a 92 ≡ false → unescaped (a ∷ rest) ≡ a ∷ unescaped rest
keep a [] e = refl
keep a (b ∷ rest) e = ap (λ t. cond t (or_kept (escaped b) (unescaped (b ∷ rest)) (unescaped rest)) (a ∷ unescaped (b ∷ rest))) e

no_backslash : (x : List ℕ) → Lacks 92 x → unescaped x ≡ x
no_backslash [] h = refl
no_backslash (a ∷ x) h = keep a x h.0 ∙ ap (λ t. a ∷ t) (no_backslash x h.1)

skip : (x y : List ℕ) → Lacks 92 x → unescaped (x ++ y) ≡ x ++ unescaped y
skip [] y h = refl
skip (a ∷ x) y h = keep a (x ++ y) h.0 ∙ ap (λ t. a ∷ t) (skip x y h.1)

stays : (y : List ℕ) → ((b : ℕ) (rest : List ℕ) → y ≡ b ∷ rest → escaped b ≡ None) → unescaped (92 ∷ y) ≡ 92 ∷ unescaped y
stays [] h = refl
stays (b ∷ y) h = ap (λ t. or_kept t (unescaped (b ∷ y)) (unescaped y)) (h b y refl)

pub at_escape : (rest before after behind : List ℕ) (meaning : ℕ) → rest ≡ before ++ 92 ∷ after → ((i : ℕ) → i < length before → get_or before i 0 ≢ 92)
    → (b : ℕ) × (after ≡ b ∷ behind) × (escaped b ≡ Some meaning) → unescaped rest ≡ before ++ (meaning ∷ unescaped behind)
at_escape rest before after behind meaning split lacks is =
    ap unescaped (split ∙ ap (λ t. before ++ 92 ∷ t) is.1) ∙ skip before (92 ∷ is.0 ∷ behind) (lacks_from_reads 92 before lacks)
    ∙ ap (λ t. before ++ or_kept t (unescaped (is.0 ∷ behind)) (unescaped behind)) is.2

pub at_backslash : (rest before after : List ℕ) → rest ≡ before ++ 92 ∷ after → ((i : ℕ) → i < length before → get_or before i 0 ≢ 92)
    → ((b : ℕ) (more : List ℕ) → after ≡ b ∷ more → escaped b ≡ None) → unescaped rest ≡ before ++ (92 ∷ unescaped after)
at_backslash rest before after split lacks none =
    ap unescaped split ∙ skip before (92 ∷ after) (lacks_from_reads 92 before lacks) ∙ ap (λ t. before ++ t) (stays after none)

pub at_end : (rest : List ℕ) → ((i : ℕ) → i < length rest → get_or rest i 0 ≢ 92) → unescaped rest ≡ rest
at_end rest lacks = no_backslash rest (lacks_from_reads 92 rest lacks)

-- what an escape stands for is ASCII
pub meaning_small : (b m : ℕ) → escaped b ≡ Some m → m < 128
meaning_small b m e = grind arith

-- and so is the byte that is escaped
pub escape_small : (b m : ℕ) → escaped b ≡ Some m → b < 128
escape_small b m e = grind arith

pub first_byte : (xs : List ℕ) (b : ℕ) → Some b ≡ slice_get xs 0 → (0 < length xs) × (get_or xs 0 0 ≡ b)
first_byte [] b e = cc
first_byte (x ∷ xs) b e = (omega arith, cc)
