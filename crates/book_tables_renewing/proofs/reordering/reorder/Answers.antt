use Rattle.std.proofs.Common.{◌≡◌, ◌≢◌, [], length, true, arith, rules, sym, subst, ◌∙◌}
use Rattle.sqlite.specs.Held.{state}
use Rattle.sqlite.specs.State.{HasCleanDisk}
use Rattle.book_tables_renewing.specs.Reordering.{Reordered}
use Rattle.book_tables_renewing.proofs.Reorderings.{none_shown, not_reordered, reordered}
use Rattle.book_tables_renewing.proofs.reordering.reorder.Goals as goal

pub returns-then-not-is_empty-clause-told : goal.returns-then-not-is_empty-clause-told
returns-then-not-is_empty-clause-told g c clean inside =
    let old = state g.S.Store c.args.transaction.now.conn.now in
    let read = state g.S.Store c.first_masks.new.transaction.conn.now in
    let some : c.in_ok-former.former.items ≢ [] = search rules in
    not_reordered old read c.in_ok-former.former.items (c.in_ok-former.ensures.shown clean) some

pub returns-clause-told : goal.returns-clause-told
returns-clause-told g c clean inside =
    let old = state g.S.Store c.args.transaction.now.conn.now in
    let read = state g.S.Store c.first_masks.new.transaction.conn.now in
    let moved = state g.S.Store c.move_entries.new.transaction.conn.now in
    let dropped = state g.S.Store c.drop_former_entries.new.transaction.conn.now in
    let counted = state g.S.Store c.first_masks-2.new.transaction.conn.now in
    let new = state g.S.Store c.restore_entries.new.transaction.conn.now in
    let clean_counted : HasCleanDisk counted = omega (arith, c.restore_entries.ensures.survives.clean, clean) in
    let clean_dropped : HasCleanDisk dropped = omega (arith, c.first_masks-2.ensures.survives.clean, clean_counted) in
    let clean_moved : HasCleanDisk moved = omega (arith, c.drop_former_entries.ensures.survives.clean, clean_dropped) in
    let clean_read : HasCleanDisk read = omega (arith, c.move_entries.ensures.survives.clean, clean_moved) in
    let size : c.in_ok-former.former.len ≡ length c.in_ok-former.former.items = search rules in
    let empty : c.is_empty.result ≡ true = search rules in
    let none : c.in_ok-former.former.items ≡ [] = none_shown c.in_ok-former.former.items c.in_ok-former.former.len c.is_empty.result size c.is_empty.ensures empty in
    let shows = c.in_ok-former.ensures.shown clean_read in
    let moves = c.in_ok-move_entries.ensures.done clean_moved (shows.mode ∙ inside) in
    let drops = c.in_ok-drop_former_entries.ensures.dropped clean_dropped moves.inside in
    let counts = c.in_ok-entries.ensures.shown clean_counted in
    let restores = c.in_ok-restore_entries.ensures.done clean (counts.mode ∙ drops.inside) in
    let many : c.len.result ≡ length c.in_ok-entries.entries.items = search rules in
    subst (Reordered old new) (sym many) (reordered old read moved dropped counted new c.in_ok-former.former.items c.in_ok-entries.entries.items shows none moves drops counts restores)
