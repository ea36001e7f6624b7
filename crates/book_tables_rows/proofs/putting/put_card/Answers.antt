use Rattle.book_tables_rows.proofs.Common.{w64, rules, FitsSigned, to_z-of_z, option_copied}
use Rattle.book_tables_rows.specs.Nodes.{putting_card}
use Rattle.book_tables_rows.proofs.EditedRows.{puts}
use Rattle.book_tables_rows.proofs.Performing.{performs}
use Rattle.book_tables_rows.proofs.putting.put_card.Goals as goal

pub returns-clause-done : goal.returns-clause-done
returns-clause-done g c =
    let f = c.in-Some.book in
    let range : FitsSigned w64 f.id = search rules in
    performs _ _ _ _ (putting_card c.args.book_path.now c.args.card_path.now c.args.name.now (option_copied c.args.owner) c.args.text.now) _ c.args.book_path.now f _ c.run_all.ensures.survives c.in_ok-book.ensures.stays c.in-Some.is c.in_ok-book.ensures.found (rw (to_z-of_z w64 f.id range) at c.run_all.ensures.done)
    (λ at fits. ((tt, (tt, tt)), λ _. puts _ _ f at c.args.card_path.now c.args.name.now (option_copied c.args.owner) c.args.text.now))
