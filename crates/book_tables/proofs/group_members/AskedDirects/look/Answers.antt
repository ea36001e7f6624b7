use Rattle.book_tables.proofs.Common.{ap, [], ◌∷◌}
use Rattle.book_tables.proofs.Readings.{read_named}
use Rattle.book_tables.proofs.group_members.AskedDirects.look.Goals as goal

pub returns : goal.returns
returns g c = read_named _ _ _ _ c.look.result _ c.look.ensures.reads _ _ (ap (λ n. c.args.self.now.transaction.ghost_name ∷ n ∷ []) c.look.ensures.same_reference)
