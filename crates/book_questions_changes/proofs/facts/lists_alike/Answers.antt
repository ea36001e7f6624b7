use Rattle.book_questions_changes.proofs.Common.{◌≡◌, ◌∙◌, ap, sym}
use Rattle.std.proofs.lemmas.Bool.Decides.{same_from_decides}
use Rattle.book_questions_changes.specs.Facts.{first_list}
use Rattle.book_questions_changes.proofs.Same.{lists_decide}
use Rattle.book_questions_changes.proofs.facts.lists_alike.Goals as goal

pub returns : goal.returns
returns c =
    let list = first_list c.args.protected in
    let was : c.first_list.result.now ≡ list c.args.before.now.lists.levels = c.first_list.ensures ∙ ap list c.as_slice.ensures in
    let is : c.first_list-2.result.now ≡ list c.args.after.now.lists.levels = c.first_list-2.ensures ∙ ap list c.as_slice-2.ensures in
    same_from_decides _ _ (λ h. sym was ∙ c.same_list.ensures.0 h ∙ is, λ e. c.same_list.ensures.1 (was ∙ e ∙ sym is))
    (lists_decide (list c.args.before.now.lists.levels) (list c.args.after.now.lists.levels))
