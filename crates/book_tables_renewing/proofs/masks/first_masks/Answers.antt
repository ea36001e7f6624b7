use Rattle.sqlite.specs.Held.{state}
use Rattle.book_tables_rows.proofs.Keeping.{query_keeps}
use Rattle.book_tables_renewing.specs.Renewal.{list_masks}
use Rattle.book_tables_renewing.proofs.ShownMasks.{shows_masks}
use Rattle.book_tables_renewing.proofs.masks.first_masks.Goals as goal
use Rattle.std.proofs.lemmas.Result.{IfOk-weaker}

pub returns-clause-kept : goal.returns-clause-kept
returns-clause-kept g c clean inside =
    query_keeps (λ rows. rows.items) list_masks _ (state g.S.Store c.args.transaction.now.conn.now) (state g.S.Store c.query_all.new.self.conn.now) c.query_all.result inside (c.query_all.ensures.ok clean) (c.query_all.ensures.err clean)

pub returns-clause-shown : goal.returns-clause-shown
returns-clause-shown g c clean =
    let old = state g.S.Store c.args.transaction.now.conn.now in
    let new = state g.S.Store c.query_all.new.self.conn.now in
    IfOk-weaker c.query_all.result _ _ (λ rows h. shows_masks old new rows.items h) (c.query_all.ensures.ok clean)
