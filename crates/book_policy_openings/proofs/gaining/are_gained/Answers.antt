use Rattle.std.proofs.Common.{◌∙◌}
use Rattle.book_policy_openings.proofs.gaining.are_gained.Goals as goal

pub returns : goal.returns
returns c = λ agreed. (c.eq.ensures.same.0 agreed ∙ c.minus.ensures, (c.in-Some._least, c.in-Some.ensures.0))
