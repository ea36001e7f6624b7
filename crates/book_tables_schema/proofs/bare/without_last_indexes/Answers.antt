use Rattle.book_tables_schema.proofs.Common.{codes, ◌∙◌, IfOk-weaker}
use Rattle.std.proofs.Common.{ap}
use Rattle.book_tables_schema.specs.OwnIndexes as own
use Rattle.book_tables_schema.proofs.bare.without_last_indexes.Goals as goal

pub returns : goal.returns
returns c =
    let removed = c.in_ok-removed.ensures ∙ ap (own.without_named (codes "gone_book")) c.in_ok-entries.ensures in
    IfOk-weaker c.without_named-3.result _ _ (λ left is. is ∙ ap (own.without_named (codes "reach_grp")) removed) c.without_named-3.ensures
