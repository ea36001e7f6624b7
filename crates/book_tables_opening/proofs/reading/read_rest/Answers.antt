use Rattle.book_tables_opening.proofs.Common.{arith, state, HasCleanDisk, looks_then}
use Rattle.book_tables_opening.proofs.ReadTables.{rest_read}
use Rattle.book_tables_opening.proofs.reading.read_rest.Goals as goal

pub returns-clause-stays : goal.returns-clause-stays
returns-clause-stays g c clean =
    let old = state g.S.Store c.args.transaction.now.conn.now in
    let mid = state g.S.Store c.all_gone_rows.new.transaction.conn.now in
    let new = state g.S.Store c.all_meta_rows.new.transaction.conn.now in
    let clean_mid : HasCleanDisk mid = omega (arith, c.all_meta_rows.ensures.survives.clean, clean) in
    looks_then old mid new (c.in_ok-gone.ensures.stays clean_mid) (c.in_ok-meta.ensures.stays clean)

pub returns-clause-shown : goal.returns-clause-shown
returns-clause-shown g c clean =
    let old = state g.S.Store c.args.transaction.now.conn.now in
    let mid = state g.S.Store c.all_gone_rows.new.transaction.conn.now in
    let clean_mid : HasCleanDisk mid = omega (arith, c.all_meta_rows.ensures.survives.clean, clean) in
    rest_read old mid c.in_ok-gone.gone.items c.in_ok-meta.meta.items (c.in_ok-gone.ensures.stays clean_mid) (c.in_ok-gone.ensures.shown clean_mid) (c.in_ok-meta.ensures.shown clean)
