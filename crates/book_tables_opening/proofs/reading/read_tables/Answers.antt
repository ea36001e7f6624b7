use Rattle.book_tables_opening.proofs.Common.{arith, state, HasCleanDisk, looks_then}
use Rattle.book_tables_rows.proofs.Keeping.{unseen_then}
use Rattle.book_tables_opening.proofs.ReadTables.{tables_read}
use Rattle.book_tables_opening.proofs.reading.read_tables.Goals as goal

pub returns-clause-survives : goal.returns-clause-survives
returns-clause-survives g c =
    let old = state g.S.Store c.args.transaction.now.conn.now in
    let first = state g.S.Store c.textless_node_rows.new.transaction.conn.now in
    let second = state g.S.Store c.read_lists.new.transaction.conn.now in
    let new = state g.S.Store c.read_rest.new.transaction.conn.now in
    unseen_then old first new c.textless_node_rows.ensures.survives (unseen_then first second new c.read_lists.ensures.survives c.read_rest.ensures.survives)

pub returns-clause-stays : goal.returns-clause-stays
returns-clause-stays g c clean =
    let old = state g.S.Store c.args.transaction.now.conn.now in
    let first = state g.S.Store c.textless_node_rows.new.transaction.conn.now in
    let second = state g.S.Store c.read_lists.new.transaction.conn.now in
    let new = state g.S.Store c.read_rest.new.transaction.conn.now in
    let clean_second : HasCleanDisk second = omega (arith, c.read_rest.ensures.survives.clean, clean) in
    let clean_first : HasCleanDisk first = omega (arith, c.read_lists.ensures.survives.clean, clean_second) in
    looks_then old first new (c.in_ok-nodes.ensures.stays clean_first) (looks_then first second new (c.in_ok-lists.ensures.stays clean_second) (c.in_ok-rest.ensures.stays clean))

pub returns-clause-shown : goal.returns-clause-shown
returns-clause-shown g c clean =
    let old = state g.S.Store c.args.transaction.now.conn.now in
    let first = state g.S.Store c.textless_node_rows.new.transaction.conn.now in
    let second = state g.S.Store c.read_lists.new.transaction.conn.now in
    let clean_second : HasCleanDisk second = omega (arith, c.read_rest.ensures.survives.clean, clean) in
    let clean_first : HasCleanDisk first = omega (arith, c.read_lists.ensures.survives.clean, clean_second) in
    tables_read old first second c.in_ok-nodes.nodes.items c.in_ok-lists.lists.0.items c.in_ok-lists.lists.1.items c.in_ok-rest.rest.0.items c.in_ok-rest.rest.1.items
    (c.in_ok-nodes.ensures.stays clean_first) (c.in_ok-lists.ensures.stays clean_second) (c.in_ok-nodes.ensures.shown clean_first) (c.in_ok-lists.ensures.shown clean_second) (c.in_ok-rest.ensures.shown clean)
