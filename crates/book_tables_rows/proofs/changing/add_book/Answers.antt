use Rattle.book_tables_rows.proofs.Common.{w64, rules, FitsSigned, to_z-of_z, option_copied}
use Rattle.book_tables_rows.specs.Nodes.{adding_book}
use Rattle.book_tables_rows.proofs.EditedRows.{adds_book}
use Rattle.book_tables_rows.proofs.Performing.{performs}
use Rattle.book_tables_rows.proofs.changing.add_book.Goals as goal

pub returns-clause-done : goal.returns-clause-done
returns-clause-done g c =
    let f = c.in-Some.home in
    let range : FitsSigned w64 f.id = search rules in
    performs _ _ _ _ (adding_book c.args.home_path.now c.args.path.now (option_copied c.args.owner)) _ c.args.home_path.now f _ c.run_all.ensures.survives c.in_ok-home.ensures.stays c.in-Some.is c.in_ok-home.ensures.found (rw (to_z-of_z w64 f.id range) at c.run_all.ensures.done)
    (λ at fits. ((tt, tt), λ _. adds_book _ _ f at c.args.path.now (option_copied c.args.owner)))
