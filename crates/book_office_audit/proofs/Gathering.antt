-- Blocks that are gathered in turn.
use Rattle.book_office_audit.proofs.Common.{◌≡◌, ℕ, List, [], ◌∷◌, ◌++◌, refl, ap, ◌∙◌, NamesTo, Block, gathered}
use Rattle.std.specs.FinMap.{insert}

pub gathered_both : (m : NamesTo (List ℕ)) (xs ys : List Block) → gathered (gathered m xs) ys ≡ gathered m (xs ++ ys)
gathered_both m [] ys = refl
gathered_both m (x ∷ xs) ys = gathered_both (insert m x.0 x.1) xs ys

-- six lists of blocks
pub gathered_all : (m a b c d e f : NamesTo (List ℕ)) (A B C D E F : List Block)
    → a ≡ gathered m A → b ≡ gathered a B → c ≡ gathered b C → d ≡ gathered c D → e ≡ gathered d E → f ≡ gathered e F
    → f ≡ gathered m (A ++ (B ++ (C ++ (D ++ (E ++ F)))))
gathered_all m a b c d e f A B C D E F p q r s t u =
    u ∙ ap (λ n. gathered n F) t ∙ gathered_both d E F
    ∙ ap (λ n. gathered n (E ++ F)) s ∙ gathered_both c D (E ++ F)
    ∙ ap (λ n. gathered n (D ++ (E ++ F))) r ∙ gathered_both b C (D ++ (E ++ F))
    ∙ ap (λ n. gathered n (C ++ (D ++ (E ++ F)))) q ∙ gathered_both a B (C ++ (D ++ (E ++ F)))
    ∙ ap (λ n. gathered n (B ++ (C ++ (D ++ (E ++ F))))) p ∙ gathered_both m A (B ++ (C ++ (D ++ (E ++ F))))
