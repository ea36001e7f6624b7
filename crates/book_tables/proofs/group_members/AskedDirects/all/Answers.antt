use Rattle.book_tables.proofs.Common.{ap, [], ◌∷◌}
use Rattle.book_tables.proofs.Readings.{read_named}
use Rattle.book_tables.proofs.group_members.AskedDirects.all.Goals as goal

pub returns : goal.returns
returns g c = read_named _ _ _ _ c.pairs.result _ c.pairs.ensures.reads _ _ (ap (λ n. c.args.self.now.transaction.ghost_name ∷ n ∷ []) c.pairs.ensures.same_reference)
