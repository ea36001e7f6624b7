use Rattle.book_tables_rows.proofs.Common.{arith, state, HasCleanDisk}
use Rattle.book_tables_rows.proofs.InScript.{and_then, both_ok}
use Rattle.book_tables_rows.proofs.Keeping.{on_ok}
use Rattle.book_tables_rows.proofs.reach.renew_reach.Goals as goal

pub returns-clause-done : goal.returns-clause-done
returns-clause-done g c clean inside =
    let old = state g.S.Store c.args.transaction.now.conn.now in
    let mid = state g.S.Store c.write_items.new.transaction.conn.now in
    let new = state g.S.Store c.write_items-2.new.transaction.conn.now in
    let clean_mid : HasCleanDisk mid = omega (arith, c.write_items-2.ensures.survives.clean) in
    let first = c.in_ok-write_items.ensures.done clean_mid inside in
    let first_open = c.in_ok-write_items.ensures.open clean_mid inside in
    on_ok c.write_items-2.result _ _ (λ h. record {
      inside = h.0.inside;
      still_open = λ was. h.1 (first_open was);
      such = λ book. tt;
      rows = λ book. let x = (and_then old mid new _ _ first h.0).rows book (tt, tt) in (x.0, x.3);
    }) (both_ok c.write_items-2.result _ _ (c.write_items-2.ensures.done clean first.inside) (c.write_items-2.ensures.open clean first.inside))
