-- The earliest of rulings, one after the other.
use Rattle.book_questions.proofs.Common.{◌≡◌, ◌++◌, ◌∷◌, ◌∙◌, [], List, Option, Some, None, ℕ, Bool, ap, refl, sym}
use Rattle.std.proofs.Common.{◌&&◌, not, filter}
use Rattle.std.proofs.lemmas.List.Elements.{filter-append}
use Rattle.book_rights.specs.declared.privileges.Leaf.{Leaf}
use Rattle.book_office_listings.specs.declared.messages.Ruling.{Ruling}
use Rattle.book_questions.specs.RulingVerdicts.{earlier, earliest, ungranted}

earliest_both : (best : Option Ruling) (xs ys : List Ruling) → earliest best (xs ++ ys) ≡ earliest (earliest best xs) ys
earliest_both best [] ys = refl
earliest_both None (r ∷ rs) ys = earliest_both (Some r) rs ys
earliest_both (Some best) (r ∷ rs) ys = earliest_both (Some (earlier best r)) rs ys

-- one ruling more
pub one_more : (set : Leaf → Bool) (xs : List Ruling) (r : Ruling) (best after : Option Ruling)
    → best ≡ earliest None (ungranted set xs) → after ≡ earliest best (ungranted set (r ∷ [])) → after ≡ earliest None (ungranted set (xs ++ r ∷ []))
one_more set xs r best after so_far next =
    next ∙ ap (λ b. earliest b (ungranted set (r ∷ []))) so_far ∙ sym (earliest_both None (ungranted set xs) (ungranted set (r ∷ [])))
    ∙ ap (earliest None) (sym (filter-append (λ (x : Ruling). set x.leaf && not x.grant) xs (r ∷ [])))
