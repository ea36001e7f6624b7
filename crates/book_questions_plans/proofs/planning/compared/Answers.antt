use Rattle.book_questions_changes.specs.Changes.{IsChanges}
use Rattle.book_questions_plans.proofs.InTurn.{compared_with}
use Rattle.book_questions_plans.proofs.planning.compared.Goals as goal

pub returns : goal.returns
returns g c = compared_with _ _ _ _ _ (λ o p text. IsChanges o p text) c.differences.ensures
