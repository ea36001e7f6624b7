use Rattle.std.proofs.Common.{arith}
use Rattle.sqlite.specs.Held.{state}
use Rattle.sqlite.specs.State.{HasCleanDisk}
use Rattle.book_tables_rows.proofs.Keeping.{on_ok}
use Rattle.book_tables_renewing.proofs.Renewals.{retabled}
use Rattle.book_tables_renewing.proofs.renewing.renew_tables.Goals as goal

pub returns-clause-done : goal.returns-clause-done
returns-clause-done g c clean inside =
    let old = state g.S.Store c.args.transaction.now.conn.now in
    let made = state g.S.Store c.make_second_table.new.transaction.conn.now in
    let reach = state g.S.Store c.make_derived.new.transaction.conn.now in
    let copied = state g.S.Store c.copy_entries.new.transaction.conn.now in
    let new = state g.S.Store c.empty_former.new.transaction.conn.now in
    let clean_copied : HasCleanDisk copied = omega (arith, c.empty_former.ensures.survives.clean) in
    let clean_reach : HasCleanDisk reach = omega (arith, c.copy_entries.ensures.survives.clean) in
    let clean_made : HasCleanDisk made = omega (arith, c.make_derived.ensures.survives.clean) in
    let renews = c.in_ok-make_second_table.ensures.renewed clean_made inside in
    let gets = c.in_ok-make_derived.ensures.got clean_reach renews.inside in
    let copies = c.in_ok-copy_entries.ensures.done clean_copied gets.inside in
    on_ok c.empty_former.result _ _ (λ empties. retabled old made reach copied new renews gets copies empties) (c.empty_former.ensures.done clean copies.inside)
