use Rattle.book_tables_opening.proofs.Common.{arith, state, HasCleanDisk, looks_then}
use Rattle.book_tables_opening.proofs.ReadTables.{lists_read}
use Rattle.book_tables_opening.proofs.reading.read_lists.Goals as goal

pub returns-clause-stays : goal.returns-clause-stays
returns-clause-stays g c clean =
    let old = state g.S.Store c.args.transaction.now.conn.now in
    let mid = state g.S.Store c.all_entry_rows.new.transaction.conn.now in
    let new = state g.S.Store c.member_rows.new.transaction.conn.now in
    let clean_mid : HasCleanDisk mid = omega (arith, c.member_rows.ensures.survives.clean, clean) in
    looks_then old mid new (c.in_ok-entries.ensures.stays clean_mid) (c.in_ok-members.ensures.stays clean)

pub returns-clause-shown : goal.returns-clause-shown
returns-clause-shown g c clean =
    let old = state g.S.Store c.args.transaction.now.conn.now in
    let mid = state g.S.Store c.all_entry_rows.new.transaction.conn.now in
    let clean_mid : HasCleanDisk mid = omega (arith, c.member_rows.ensures.survives.clean, clean) in
    lists_read old mid c.in_ok-entries.entries.items c.in_ok-members.members.items (c.in_ok-entries.ensures.stays clean_mid) (c.in_ok-entries.ensures.shown clean_mid) (c.in_ok-members.ensures.shown clean)
