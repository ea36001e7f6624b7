use Rattle.book_lists.proofs.Common.{sym, ap, ◌∙◌}
use Rattle.book_lists.proofs.KeptDeciders.{told_grant, told_denial}
use Rattle.std.proofs.Common.{slice_index_or}
use Rattle.book_lists.proofs.deciders.Deciders.decider.Goals as goal

pub returns-then-has : goal.returns-then-has
returns-then-has c need readings s wanted few =
    told_grant need readings c.args.self.now s c.args.leaf _ (ap (λ i. slice_index_or c.args.self.now.indexes i 0) c.place.ensures) wanted few (sym c.has.ensures ∙ c.if-has.true)

pub returns-then-has-2 : goal.returns-then-has-2
returns-then-has-2 c need readings s wanted few =
    told_denial need readings c.args.self.now s c.args.leaf _ (ap (λ i. slice_index_or c.args.self.now.indexes i 0) c.place.ensures) wanted few (sym c.has-2.ensures ∙ c.if-has-2.true)
