use Rattle.book_tables_schema.proofs.Common.{codes, arith, state, HasCleanDisk, on_ok}
use Rattle.book_tables_rows.specs.Steps.{Becomes}
use Rattle.book_tables_rows.proofs.CardPuts.{becomes_then}
use Rattle.book_tables_schema.specs.Founding.{insert_home}
use Rattle.book_tables_schema.proofs.first.insert_homes.Goals as goal

pub returns-clause-done : goal.returns-clause-done
returns-clause-done g c clean inside =
    let old = state g.S.Store c.args.transaction.now.conn.now in
    let first = state g.S.Store c.insert_node.new.transaction.conn.now in
    let second = state g.S.Store c.insert_node-2.new.transaction.conn.now in
    let new = state g.S.Store c.insert_node-3.new.transaction.conn.now in
    let clean_second : HasCleanDisk second = omega (arith, c.insert_node-3.ensures.survives.clean) in
    let clean_first : HasCleanDisk first = omega (arith, c.insert_node-2.ensures.survives.clean) in
    let people : Becomes old first (insert_home (codes "/people")) = c.in_ok-insert_node.ensures.done clean_first inside in
    let groups : Becomes first second (insert_home (codes "/groups")) = c.in_ok-insert_node-2.ensures.done clean_second people.inside in
    on_ok c.insert_node-3.result _ _ (λ books. becomes_then old second new _ _ (becomes_then old first second _ _ people groups) books) (c.insert_node-3.ensures.done clean groups.inside)
