use Rattle.std.proofs.Common.{◌≡◌, length, true, false, arith, rules, sym, ap, subst, ◌∙◌}
use Rattle.std.specs.List.{list_all}
use Rattle.sqlite.specs.Held.{state}
use Rattle.sqlite.specs.Order.{column}
use Rattle.sqlite.specs.State.{HasCleanDisk}
use Rattle.book_tables_renewing.specs.Renewal.{is_first_mask, Renewed, Reversions, TellsVersion}
use Rattle.book_tables_renewing.proofs.Renewals.{masks_fail, version_fails, renewal}
use Rattle.book_tables_renewing.proofs.renewing.renew.Goals as goal

pub returns-then-not-are_first_masks-clause-told : goal.returns-then-not-are_first_masks-clause-told
returns-then-not-are_first_masks-clause-told g c clean inside =
    let old = state g.S.Store c.args.transaction.now.conn.now in
    let read = state g.S.Store c.first_masks.new.transaction.conn.now in
    let fails : list_all (λ row. is_first_mask (column row 0)) c.in_ok-masks.masks.items ≡ false =
    ap (list_all (λ row. is_first_mask (column row 0))) (sym c.deref.ensures.value) ∙ sym c.are_first_masks.ensures ∙ c.if-not-are_first_masks.true in
    masks_fail old read c.in_ok-masks.masks.items (c.in_ok-masks.ensures.shown clean) fails

pub returns-then-not-branch-clause-told : goal.returns-then-not-branch-clause-told
returns-then-not-branch-clause-told g c clean inside =
    let old = state g.S.Store c.args.transaction.now.conn.now in
    let read = state g.S.Store c.first_masks.new.transaction.conn.now in
    let tables = state g.S.Store c.renew_tables.new.transaction.conn.now in
    let new = state g.S.Store c.renew_version.new.transaction.conn.now in
    let clean_tables : HasCleanDisk tables = omega (arith, c.renew_version.ensures.survives.clean, clean) in
    let clean_read : HasCleanDisk read = omega (arith, c.renew_tables.ensures.survives.clean, clean_tables) in
    let passes : list_all (λ row. is_first_mask (column row 0)) c.in_ok-masks.masks.items ≡ true =
    ap (list_all (λ row. is_first_mask (column row 0))) (sym c.deref.ensures.value) ∙ sym c.are_first_masks.ensures ∙ c.if-not-are_first_masks.false in
    let shows = c.in_ok-masks.ensures.shown clean_read in
    let retables = c.in_ok-renew_tables.ensures.done clean_tables (shows.mode ∙ inside) in
    version_fails old read c.in_ok-masks.masks.items shows passes tables retables
    (subst (TellsVersion tables new) c.if-not-branch.true (c.in_ok-renew_version.ensures.told clean retables.inside))

pub returns-clause-told : goal.returns-clause-told
returns-clause-told g c clean inside =
    let old = state g.S.Store c.args.transaction.now.conn.now in
    let read = state g.S.Store c.first_masks.new.transaction.conn.now in
    let tables = state g.S.Store c.renew_tables.new.transaction.conn.now in
    let new = state g.S.Store c.renew_version.new.transaction.conn.now in
    let clean_tables : HasCleanDisk tables = omega (arith, c.renew_version.ensures.survives.clean, clean) in
    let clean_read : HasCleanDisk read = omega (arith, c.renew_tables.ensures.survives.clean, clean_tables) in
    let passes : list_all (λ row. is_first_mask (column row 0)) c.in_ok-masks.masks.items ≡ true =
    ap (list_all (λ row. is_first_mask (column row 0))) (sym c.deref.ensures.value) ∙ sym c.are_first_masks.ensures ∙ c.if-not-are_first_masks.false in
    let shows = c.in_ok-masks.ensures.shown clean_read in
    let retables = c.in_ok-renew_tables.ensures.done clean_tables (shows.mode ∙ inside) in
    let reversions : Reversions tables new = subst (TellsVersion tables new) c.if-not-branch.false (c.in_ok-renew_version.ensures.told clean retables.inside) in
    let many : c.len.result ≡ length c.in_ok-masks.masks.items = search rules in
    subst (Renewed old new) (sym many) (renewal old read c.in_ok-masks.masks.items shows passes tables retables new reversions)
