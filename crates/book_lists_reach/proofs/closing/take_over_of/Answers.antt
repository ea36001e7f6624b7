use Rattle.std.proofs.Common.{◌∙◌, sym}
use Rattle.book_lists_reach.proofs.Through.{taken_nowhere}
use Rattle.book_lists_reach.proofs.closing.take_over_of.Goals as goal

pub returns-then-not-has-clause-ok : goal.returns-then-not-has-clause-ok
returns-then-not-has-clause-ok c = taken_nowhere c.args.number c.args.rows.now.items c.args.numbers.now c.requires.numbers (sym c.has.ensures ∙ c.if-not-has.true)
