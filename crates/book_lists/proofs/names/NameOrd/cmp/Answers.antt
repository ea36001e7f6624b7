use Rattle.book_lists.proofs.Common.{◌∙◌}
use Rattle.std.specs.String.{string_bytes}
use Rattle.book_lists.specs.Names.{name_cmp}
use Rattle.book_lists.proofs.Fronts.{fronts_decide}
use Rattle.book_lists.proofs.names.NameOrd.cmp.Goals as goal

pub returns-then-self-other : goal.returns-then-self-other
returns-then-self-other c =
    c.cmp.ensures
    ∙ fronts_decide (string_bytes c.self.inside.text) (string_bytes c.other.inside.text) c.self.inside.front
    c.other.inside.front c.self.invariant c.other.invariant c.if-self-other.true
    ∙ (λ i. name_cmp (c.self.view_is i) (c.other.view_is i))
