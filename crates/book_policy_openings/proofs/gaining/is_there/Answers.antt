use Rattle.std.proofs.Common.{Option, ap, sym, ◌∙◌}
use Rattle.std.specs.Prelude.{is_some}
use Rattle.book_office.specs.declared.nodes.Node.{Node}
use Rattle.book_policy_openings.proofs.gaining.is_there.Goals as goal

pub returns-clause-there : goal.returns-clause-there
returns-clause-there c = λ agreed sound. sym (ap (λ (n : Option Node). is_some n) (c.in_ok-node.ensures.node sound)) ∙ (sym c.is_some.ensures ∙ agreed)
