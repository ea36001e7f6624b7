use Rattle.book_tables_rows.proofs.Common.{map, w64, arith, rules, ap, Int, to_z-of_z, to_z_pos, state, said}
use Rattle.book_tables_rows.specs.Scripts.{Executed}
use Rattle.book_tables_rows.specs.Writes as writes
use Rattle.book_tables_rows.specs.declared.items.Items.TheVariants.{Entries}
use Rattle.book_tables_rows.proofs.InScript.{next_item, one_item}
use Rattle.book_tables_rows.proofs.Keeping.{on_ok}
use Rattle.book_tables_rows.proofs.ListSettings.{becomes_entered}
use Rattle.book_tables_rows.proofs.items.write_entry.Goals as goal

pub returns-clause-done : goal.returns-clause-done
returns-clause-done g c clean inside =
    let old = state g.S.Store c.args.transaction.now.conn.now in
    let new = state g.S.Store c.execute.new.transaction.conn.now in
    let place = c.args.place in
    let list = c.args.list in
    let item = c.index-list-place.result in
    let more = next_item list.now place item c.requires (search rules) in
    let id = to_z-of_z w64 c.args.node c.ranges.node in
    let number = to_z_pos w64 place (omega (arith, c.requires, c.well_formed)) in
    on_ok c.execute.result _ _
    (λ (e : Executed _ _ old new). one_item old new (Entries c.args.node c.args.protected list) place _ (becomes_entered old new c.args.node c.args.protected place item e.count e.ran) (λ rows. ap (λ xs. writes.insert_list (Int c.args.node) c.args.protected place (map said xs) rows) more))
    (rw (c.params-to_sql.ensures, c.params-to_sql-2.ensures, c.params-to_sql-3.ensures, c.params-to_sql-4.ensures, c.params-to_sql-5.ensures, c.params-to_sql-6.ensures, c.params-to_sql-7.ensures, c.params-to_sql-8.ensures, id, number) at (c.execute.ensures.done clean inside))
