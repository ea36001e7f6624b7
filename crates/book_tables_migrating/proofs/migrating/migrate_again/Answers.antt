use Rattle.std.proofs.Common.{arith, sym, subst, ◌∙◌}
use Rattle.sqlite.specs.Held.{state}
use Rattle.sqlite.specs.State.{HasCleanDisk, Survives}
use Rattle.sqlite.proofs.StateLemmas.{survives_then}
use Rattle.book_tables_rows.specs.Steps.{Stays}
use Rattle.book_tables_schema.specs.declared.layout.Generation.{Generation}
use Rattle.book_tables_migrating.specs.Migrating.{IsMigrated, MayMigrate, StandsForNoneAs, StandsMigrated, TellsMigrated}
use Rattle.book_tables_migrating.proofs.Rewritings.{widened_alone, unmigrated}
use Rattle.book_tables_migrating.proofs.migrating.migrate_again.Goals as goal

pub returns-in-Ok-Some-clause-stands : goal.returns-in-Ok-Some-clause-stands
returns-in-Ok-Some-clause-stands g c reopened clean_over =
    let old = state g.S.Store c.args.connection in
    let new = state g.S.Store c.migrate_tables.new.connection in
    let clean : HasCleanDisk new = subst (λ k. HasCleanDisk (state g.S.Store k)) c.over.ensures.connection clean_over in
    let was : HasCleanDisk old = omega (arith, clean, c.migrate_tables.ensures.left.clean) in
    let m : IsMigrated old new c.in-Ok-Some.count = subst (TellsMigrated old new) c.in-Ok-Some.field-0-is (c.in-Ok-Some.ensures.told clean) in
    let stands = widened_alone old new c.in-Ok-Some.count (reopened was).1 (g.met.S.Store.settled c.migrate_tables.new.connection.store) m in
    (was, subst (λ k. StandsMigrated old.now.trees (state g.S.Store k) c.in-Ok-Some.count) (sym c.over.ensures.connection) stands)

pub returns-in-Ok-None-clause-kept : goal.returns-in-Ok-None-clause-kept
returns-in-Ok-None-clause-kept g c reopened clean =
    let old = state g.S.Store c.args.connection in
    let mid = state g.S.Store c.migrate_tables.new.connection in
    let new = state g.S.Store c.refusal_of-fault.new.connection in
    let clean_mid : HasCleanDisk mid = omega (arith, clean, c.refusal_of-fault.ensures.survives.clean) in
    let was : HasCleanDisk old = omega (arith, clean_mid, c.migrate_tables.ensures.left.clean) in
    let both = reopened was in
    let told : Stays old mid × ((generation : Generation) → StandsForNoneAs generation old.now) = subst (TellsMigrated old mid) c.in-Ok-None.field-0-is (c.in-Ok-None.ensures.told clean_mid) in
    let stays : Stays old new = λ open_now.
    let last = c.refusal_of-fault.ensures.stays clean open_now in
    let first = told.0 last.0 in
    (first.0, last.1 ∙ first.1) in
    let survives : Survives old new (MayMigrate old) =
    survives_then old mid new (MayMigrate old) (λ _. ⊥) (MayMigrate old) (λ _ db may. may) (λ _ db none. absurd none) c.migrate_tables.ensures.left c.refusal_of-fault.ensures.survives in
    (was, unmigrated old new clean both.0 (g.met.S.Store.settled c.args.connection.store) both.1 stays survives)

pub returns-in-Err-clause-kept : goal.returns-in-Err-clause-kept
returns-in-Err-clause-kept g c reopened clean =
    let old = state g.S.Store c.args.connection in
    let new = state g.S.Store c.migrate_tables.new.connection in
    let was : HasCleanDisk old = omega (arith, clean, c.migrate_tables.ensures.left.clean) in
    let both = reopened was in
    (was, unmigrated old new clean both.0 (g.met.S.Store.settled c.args.connection.store) both.1 (c.in-Err.ensures.kept clean) c.migrate_tables.ensures.left)
