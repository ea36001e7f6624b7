use Rattle.book_tables.proofs.Common.{state, IfOk-weaker}
use Rattle.book_tables.proofs.ToldRows.{cards_in_any_order}
use Rattle.book_tables.proofs.card_changes.shown_cards.Goals as goal

pub returns-clause-found : goal.returns-clause-found
returns-clause-found g c clean =
    let old = state g.S.Store c.args.transaction.now.conn.now in
    IfOk-weaker c.in_order.result _ _ (λ ordered same. cards_in_any_order old c.args.path.now c.args.number c.args.at_most c.in_ok-changes.changes.items ordered (c.in_ok-changes.ensures.shown clean) same) c.in_order.ensures.kept
