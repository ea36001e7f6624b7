use Rattle.book_tables_rows.proofs.Common.{arith, HasCleanDisk, state}
use Rattle.book_tables_rows.proofs.Keeping.{on_ok}
use Rattle.book_tables_rows.proofs.CardMoves.{moves}
use Rattle.book_tables_rows.proofs.moving.move_card.Goals as goal

pub returns-clause-done : goal.returns-clause-done
returns-clause-done g c clean inside =
    let old = state g.S.Store c.args.transaction.now.conn.now in
    let mid = state g.S.Store c.leave_book.new.transaction.conn.now in
    let new = state g.S.Store c.arrive_in.new.transaction.conn.now in
    let clean_mid : HasCleanDisk mid = omega (arith, c.arrive_in.ensures.survives.clean) in
    let left = c.in_ok-leave_book.ensures.done clean_mid inside in
    on_ok c.arrive_in.result _ _ (λ arrived. moves old mid new c.args.source_book.now c.args.card_path.now c.args.source_name.now c.args.target_book.now c.args.destination.now c.args.target_name.now left arrived)
    (c.arrive_in.ensures.done clean left.inside)
