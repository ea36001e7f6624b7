use Rattle.book_tables_rows.specs.Nodes.{labelling_card}
use Rattle.book_tables_rows.proofs.EditedRows.{labels_card}
use Rattle.book_tables_rows.proofs.Performing.{performs}
use Rattle.book_tables_rows.proofs.labels.label_card.Goals as goal

pub returns-clause-done : goal.returns-clause-done
returns-clause-done g c =
    let f = c.in-Some.book in
    performs _ _ _ _ (labelling_card c.args.book_path.now c.args.card_path.now c.args.label.now) _ c.args.book_path.now f _ c.run_all.ensures.survives c.in_ok-book.ensures.stays c.in-Some.is c.in_ok-book.ensures.found c.run_all.ensures.done
    (λ at fits. ((tt, (tt, tt)), λ _. labels_card _ _ f at c.args.card_path.now c.args.label.now))
