use Rattle.book_tables_rows.proofs.Common.{w64, arith, to_z_pos, to_z-of_z, IfOk-weaker, state}
use Rattle.book_tables_rows.specs.Texts.{list_changed_entries}
use Rattle.book_tables_rows.proofs.Keeping.{query_keeps, looked}
use Rattle.book_tables_rows.proofs.Meanings.{list_changed_entries_plain}
use Rattle.book_tables_rows.proofs.ChildEntries.{shows_changed_entries}
use Rattle.book_tables_rows.proofs.lists.changed_entry_rows.Goals as goal

pub returns-clause-kept : goal.returns-clause-kept
returns-clause-kept g c clean inside =
    query_keeps (λ rows. rows.items) list_changed_entries _ (state g.S.Store c.args.transaction.now.conn.now) (state g.S.Store c.query_all.new.self.conn.now) c.query_all.result inside (c.query_all.ensures.ok clean) (c.query_all.ensures.err clean)

pub returns-clause-stays : goal.returns-clause-stays
returns-clause-stays g c clean =
    let old = state g.S.Store c.args.transaction.now.conn.now in
    let new = state g.S.Store c.query_all.new.self.conn.now in
    IfOk-weaker c.query_all.result _ _ (λ rows h. looked list_changed_entries list_changed_entries_plain _ old new rows.items h) (c.query_all.ensures.ok clean)

pub returns-clause-shown : goal.returns-clause-shown
returns-clause-shown g c clean =
    let old = state g.S.Store c.args.transaction.now.conn.now in
    let new = state g.S.Store c.query_all.new.self.conn.now in
    let node = to_z-of_z w64 c.args.node c.ranges.node in
    let number = to_z_pos w64 c.args.number (omega (arith, c.requires.above)) in
    let last = to_z_pos w64 c.args.last (omega (arith, c.requires.at_most)) in
    IfOk-weaker c.query_all.result _ _ (λ rows h. shows_changed_entries old new c.args.node c.args.number c.args.last rows.items (rw (c.params-to_sql.ensures, c.params-to_sql-2.ensures, c.params-to_sql-3.ensures, node, number, last) at h)) (c.query_all.ensures.ok clean)
