use Rattle.book_tables_schema.proofs.Common.{◌∙◌, IfOk-weaker}
use Rattle.std.proofs.Common.{ap}
use Rattle.book_tables_schema.specs.OwnIndexes as own
use Rattle.book_tables_schema.proofs.bare.bared.Goals as goal

pub returns : goal.returns
returns c =
    let principals = c.in_ok-principals.ensures ∙ ap own.without_principal_indexes c.in_ok-nodes.ensures in
    IfOk-weaker c.without_last_indexes.result _ _ (λ left is. is ∙ ap own.without_last_indexes principals) c.without_last_indexes.ensures
