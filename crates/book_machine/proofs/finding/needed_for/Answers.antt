use Rattle.book_machine.proofs.Common.{List, [], ◌∷◌, Bool, false, ap, ◌∙◌, Need, Leaf}
use Rattle.book_rights.specs.Needs.{read_and}
use Rattle.book_machine.proofs.finding.needed_for.Goals as goal

-- the set of the first need
abbrev first_set : List Need → Leaf → Bool
first_set [] leaf = false
first_set (need ∷ rest) leaf = need.set leaf

-- the first of the needs that `needs` lists has the set `read_and`
pub returns : goal.returns
returns c = ap first_set c.needs-first.ensures ∙ (λ i leaf. read_and (c.is_asked.ensures i) (c.is_asked-2.ensures i) leaf)
