use Rattle.book_tables_rows.specs.Nodes.{labelling_node}
use Rattle.book_tables_rows.proofs.EditedRows.{labels_node}
use Rattle.book_tables_rows.proofs.Performing.{performs}
use Rattle.book_tables_rows.proofs.labels.label_node.Goals as goal

pub returns-clause-done : goal.returns-clause-done
returns-clause-done g c =
    let f = c.in-Some.node in
    performs _ _ _ _ (labelling_node c.args.path.now c.args.label.now) _ c.args.path.now f _ c.run_all.ensures.survives c.in_ok-node.ensures.stays c.in-Some.is c.in_ok-node.ensures.found c.run_all.ensures.done
    (λ at fits. ((tt, tt), λ _. labels_node _ _ f at c.args.label.now))
