use Rattle.book_questions_differs.proofs.Common.{◌≡◌, ◌∙◌, ◌∷◌, ℕ, List, Option, Some, None, map, subst}
use Rattle.book_questions_differs.specs.Parties.{AreParties, everybody, names_in_order}
use Rattle.book_questions_differs.proofs.ReadsOfTwo.{of_first, compared_refused, compared_then, first_failed, then_last, then_last_failed}
use Rattle.book_questions_differs.proofs.answers.read_parties.Goals as goal

pub returns-in_err-was : goal.returns-in_err-was
returns-in_err-was g c = first_failed _ _ _ _ _ _ _ c.from_residual.ensures.1 c.in_err-was.ensures

pub returns-in_err-is : goal.returns-in_err-is
returns-in_err-is g c = then_last_failed _ _ _ _ _ _ _ _ _ _ _ c.from_residual-in_err-is.ensures.1 (of_first _ _ _ _ _ c.in_ok-was.ensures) c.in_err-is.ensures

pub returns-in_err-names : goal.returns-in_err-names
returns-in_err-names g c =
    compared_refused _ _ _ _ _ _ _ _ c.from_residual-in_err-names.ensures.1 (then_last _ _ _ _ _ _ _ _ _ (of_first _ _ _ _ _ c.in_ok-was.ensures) c.in_ok-is.ensures)

pub returns : goal.returns
returns g c =
    compared_then _ _ _ _ _ _ _ _ _ _ _ (then_last _ _ _ _ _ _ _ _ _ (of_first _ _ _ _ _ c.in_ok-was.ensures) c.in_ok-is.ensures) c.parties_of.ensures
    (λ o p so tp t y u.
    let names : c.as_slice-3.result.now ≡ everybody o p =
    c.as_slice-3.ensures ∙ c.in_ok-names.ensures ∙ (λ i. None ∷ map Some (names_in_order ((c.as_slice.ensures ∙ t.0) i) ((c.as_slice-2.ensures ∙ t.1) i))) in
    subst (λ (ns : List (Option (List ℕ))). AreParties o p ns y.items) names u)
