use Rattle.std.proofs.Common.{◌≡◌, None, rules, arith, subst}
use Rattle.sqlite.specs.Held.{state}
use Rattle.sqlite.specs.State.{HasCleanDisk}
use Rattle.book_tables_schema.specs.OtherReach.{DropsDerived}
use Rattle.book_tables_renewing.specs.Renewal.{Renewed, TellsRenewed}
use Rattle.book_tables_opening.specs.Reading.{TellsOffice}
use Rattle.book_tables_opening.proofs.SettledStores.{office_kept}
use Rattle.book_tables_migrating.proofs.Rewritings.{not_office, not_renewed, rewritten}
use Rattle.book_tables_migrating.proofs.migrating.rewrite.Goals as goal

pub returns-in_default-clause-told : goal.returns-in_default-clause-told
returns-in_default-clause-told g c clean inside =
    let old = state g.S.Store c.args.transaction.now.conn.now in
    let between = state g.S.Store c.drop_derived.new.transaction.conn.now in
    let mid = state g.S.Store c.renew.new.transaction.conn.now in
    let clean_between : HasCleanDisk between = omega (arith, c.renew.ensures.survives.clean, clean) in
    let drops : DropsDerived old between = c.in_ok-drop_derived.ensures.dropped clean_between inside in
    let is : c.in_ok-count.field-0 ≡ None = search rules in
    not_renewed old between drops (subst (TellsRenewed between mid) is (c.in_ok-count.ensures.told clean drops.inside))

pub returns-in_default-2-clause-told : goal.returns-in_default-2-clause-told
returns-in_default-2-clause-told g c clean inside =
    let old = state g.S.Store c.args.transaction.now.conn.now in
    let between = state g.S.Store c.drop_derived.new.transaction.conn.now in
    let mid = state g.S.Store c.renew.new.transaction.conn.now in
    let new = state g.S.Store c.settle_office.new.transaction.conn.now in
    let clean_mid : HasCleanDisk mid = omega (arith, c.settle_office.ensures.survives.clean, clean) in
    let clean_between : HasCleanDisk between = omega (arith, c.renew.ensures.survives.clean, clean_mid) in
    let drops : DropsDerived old between = c.in_ok-drop_derived.ensures.dropped clean_between inside in
    let renewed : Renewed between mid c.in-Some.count = subst (TellsRenewed between mid) c.in-Some.is (c.in_ok-count.ensures.told clean_mid drops.inside) in
    let is : c.in_ok-_written.field-0 ≡ None = search rules in
    not_office old between drops mid c.in-Some.count renewed (subst (TellsOffice mid new) is (c.in_ok-_written.ensures.told clean renewed.inside))

pub returns-clause-told : goal.returns-clause-told
returns-clause-told g c clean inside =
    let old = state g.S.Store c.args.transaction.now.conn.now in
    let between = state g.S.Store c.drop_derived.new.transaction.conn.now in
    let mid = state g.S.Store c.renew.new.transaction.conn.now in
    let new = state g.S.Store c.settle_office.new.transaction.conn.now in
    let clean_mid : HasCleanDisk mid = omega (arith, c.settle_office.ensures.survives.clean, clean) in
    let clean_between : HasCleanDisk between = omega (arith, c.renew.ensures.survives.clean, clean_mid) in
    let drops : DropsDerived old between = c.in_ok-drop_derived.ensures.dropped clean_between inside in
    let renewed : Renewed between mid c.in-Some.count = subst (TellsRenewed between mid) c.in-Some.is (c.in_ok-count.ensures.told clean_mid drops.inside) in
    rewritten old between drops mid c.in-Some.count renewed new (office_kept mid new c.in-Some-2._written (subst (TellsOffice mid new) c.in-Some-2.is (c.in_ok-_written.ensures.told clean renewed.inside)))
