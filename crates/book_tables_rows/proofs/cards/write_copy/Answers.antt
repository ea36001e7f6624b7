use Rattle.book_tables_rows.proofs.Common.{w64, to_z-of_z, FitsSigned, rules, arith, option_copied, Int, HasCleanDisk, state}
use Rattle.book_tables_rows.specs.Writes.{with_copy, write_copy}
use Rattle.book_tables_rows.proofs.Keeping.{on_ok}
use Rattle.book_tables_rows.proofs.CardPuts.{becomes_then, writes_new}
use Rattle.book_tables_rows.proofs.cards.write_copy.Goals as goal

pub returns-clause-done : goal.returns-clause-done
returns-clause-done g c clean inside =
    let old = state g.S.Store c.args.transaction.now.conn.now in
    let mid = state g.S.Store c.set_copy.new.transaction.conn.now in
    let next = state g.S.Store c.insert_node.new.transaction.conn.now in
    let new = state g.S.Store c.delete_gone_name.new.transaction.conn.now in
    let clean_next : HasCleanDisk next = omega (arith, c.delete_gone_name.ensures.survives.clean) in
    let clean_mid : HasCleanDisk mid = omega (arith, c.insert_node.ensures.survives.clean) in
    let wrote = c.in_ok-set_copy.ensures.done clean_mid inside in
    let range : FitsSigned w64 c.args.book = search rules in
    let id = to_z-of_z w64 c.args.book range in
    let added = rw id at (c.in_ok-insert_node.ensures.done clean_next wrote.0.inside) in
    on_ok c.delete_gone_name.result _ _ (λ w. writes_new old mid c.args.path.now (with_copy c.args.label.now c.args.text.now c.args.number)
    (λ b rows. write_copy (Int c.args.book) b c.args.path.now c.args.name.now (option_copied c.args.owner) c.args.label.now c.args.text.now c.args.number rows)
    c.in_ok-set_copy.field-0 wrote.0 wrote.1 new c.if-branch.false (becomes_then mid next new _ _ added w)) (rw id at (c.delete_gone_name.ensures.done clean added.inside))
