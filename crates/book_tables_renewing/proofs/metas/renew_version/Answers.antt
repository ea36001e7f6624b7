use Rattle.std.proofs.Common.{◌≡◌, true, false, arith, sym, ap, ◌∙◌}
use Rattle.sqlite.specs.Held.{state}
use Rattle.sqlite.specs.State.{HasCleanDisk}
use Rattle.book_tables_rows.specs.Steps.{Looks}
use Rattle.book_tables_renewing.specs.Renewal as renewal
use Rattle.book_tables_renewing.proofs.Renewals.{reversioned, other_version}
use Rattle.book_tables_renewing.proofs.metas.renew_version.Goals as goal

pub returns-then-not-are_first_meta-clause-told : goal.returns-then-not-are_first_meta-clause-told
returns-then-not-are_first_meta-clause-told g c clean inside =
    let old = state g.S.Store c.args.transaction.now.conn.now in
    let fails : renewal.are_first_meta c.in_ok-meta.meta.items ≡ false = ap renewal.are_first_meta (sym c.deref.ensures.value) ∙ sym c.are_first_meta.ensures ∙ c.if-not-are_first_meta.true in
    other_version old c.in_ok-meta.meta.items (c.in_ok-meta.ensures.shown clean) fails

pub returns-clause-told : goal.returns-clause-told
returns-clause-told g c clean inside =
    let old = state g.S.Store c.args.transaction.now.conn.now in
    let read = state g.S.Store c.all_meta_rows.new.transaction.conn.now in
    let new = state g.S.Store c.set_second.new.transaction.conn.now in
    let clean_read : HasCleanDisk read = omega (arith, c.set_second.ensures.survives.clean, clean) in
    let looks : Looks old read = c.in_ok-meta.ensures.stays clean_read in
    let passes : renewal.are_first_meta c.in_ok-meta.meta.items ≡ true = ap renewal.are_first_meta (sym c.deref.ensures.value) ∙ sym c.are_first_meta.ensures ∙ c.if-not-are_first_meta.false in
    reversioned old read new c.in_ok-meta.meta.items looks (c.in_ok-meta.ensures.shown clean_read) passes (c.in_ok-set_second.ensures.done clean (looks.mode ∙ inside))
