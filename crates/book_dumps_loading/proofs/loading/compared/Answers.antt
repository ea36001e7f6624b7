use Rattle.std.proofs.Common.{◌≢◌, subst, sym}
use Rattle.sqlite.specs.Held.{state}
use Rattle.sqlite.specs.State.{HasCleanDisk}
use Rattle.book_dumps.specs.Dumps.{dump_text}
use Rattle.book_dumps_loading.specs.Loading.{Compares}
use Rattle.book_dumps_loading.proofs.ReadingBack.{Told, other_told, same_told}
use Rattle.book_dumps_reading.specs.Dumped.{dumped_text}
use Rattle.book_dumps_loading.proofs.loading.compared.Goals as goal

pub returns-in-Ok-true-clause-stands : goal.returns-in-Ok-true-clause-stands
returns-in-Ok-true-clause-stands g c clean =
    let old = c.args.tables in
    let new = c.is_dump_of.new.keeper in
    let text = dumped_text c.args.dumped.now in
    same_told (state g.S.Store old.connection) (state g.S.Store new.connection) old.failures new.failures text
    (subst (Told (state g.S.Store old.connection) (state g.S.Store new.connection) old.failures new.failures text) c.in-Ok-true.field-0-test c.in-Ok-true.ensures) clean

pub returns-in-Ok-false-clause-unequal : goal.returns-in-Ok-false-clause-unequal
returns-in-Ok-false-clause-unequal g c _ clean =
    let old = c.args.tables in
    let new = c.is_dump_of.new.keeper in
    let text = dumped_text c.args.dumped.now in
    let clean_new : HasCleanDisk (state g.S.Store new.connection) = subst (λ k. HasCleanDisk (state g.S.Store k)) c.release.ensures clean in
    subst (λ k. Compares (state g.S.Store old.connection) (state g.S.Store k) (λ o. dump_text o ≢ text)) (sym c.release.ensures)
    (other_told (state g.S.Store old.connection) (state g.S.Store new.connection) old.failures new.failures text
    (subst (Told (state g.S.Store old.connection) (state g.S.Store new.connection) old.failures new.failures text) c.in-Ok-false.field-0-test c.in-Ok-false.ensures) clean_new)
