use Rattle.book_tables_schema.proofs.Common.{arith, state, HasCleanDisk, on_ok, Extends, no_schema}
use Rattle.book_tables_schema.specs.Founding.{with_node, with_ace}
use Rattle.book_tables_schema.proofs.Tabling.{extends_then, adds_node, adds_ace, adds_member}
use Rattle.book_tables_schema.proofs.tables.make_first_tables.Goals as goal

pub returns-clause-done : goal.returns-clause-done
returns-clause-done g c clean inside =
    let old = state g.S.Store c.args.transaction.now.conn.now in
    let first = state g.S.Store c.run.new.transaction.conn.now in
    let second = state g.S.Store c.run-2.new.transaction.conn.now in
    let new = state g.S.Store c.run-3.new.transaction.conn.now in
    let clean_second : HasCleanDisk second = omega (arith, c.run-3.ensures.survives.clean) in
    let clean_first : HasCleanDisk first = omega (arith, c.run-2.ensures.survives.clean) in
    let nodes : Extends old first no_schema with_node = adds_node old first (c.in_ok-run.ensures.done clean_first inside) in
    let entries : Extends first second with_node with_ace = adds_ace first second (c.in_ok-run-2.ensures.done clean_second nodes.inside) in
    on_ok c.run-3.result _ _ (λ ran. extends_then old second new _ _ _ (extends_then old first second _ _ _ nodes entries) (adds_member second new ran)) (c.run-3.ensures.done clean entries.inside)
