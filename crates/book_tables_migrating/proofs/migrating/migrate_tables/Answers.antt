use Rattle.std.proofs.Common.{◌≡◌, ◌≤◌, false, true, Some, None, rules, arith, refl, sym, ap, subst, IsTrue}
use Rattle.sqlite.specs.Effect.{Database}
use Rattle.sqlite.specs.Held.{state}
use Rattle.sqlite.specs.State.{State, HasCleanDisk}
use Rattle.sqlite_trees.specs.View.{doubt}
use Rattle.book_tables_rows.specs.Steps.{Stays}
use Rattle.book_tables_schema.specs.OtherReach.{IsBeside}
use Rattle.book_tables_migrating.specs.Migrating.{IsMigrated, Rewritten, StandsForNoneAs, TellsGeneration, TellsRewritten}
use Rattle.book_tables_migrating.proofs.Rewritings.{leaves_migrated, migrated, none_else, none_told, told_beside}
use Rattle.book_tables_migrating.proofs.migrating.migrate_tables.Goals as goal

pub returns-in_err-commit-clause-left : goal.returns-in_err-commit-clause-left
returns-in_err-commit-clause-left g c =
    let old = state g.S.Store c.args.connection.now in
    let begun = state g.S.Store c.transaction-transaction.result.conn.now in
    let inner = state g.S.Store c.rewrite_from.new.transaction.conn.now in
    let is : begun ≡ record old { in_transaction = true } = ap (state g.S.Store) c.transaction-transaction.ensures.begun in
    let told : TellsGeneration old.now.schema (Some c.in-Some.generation) = subst (λ s. TellsGeneration s (Some c.in-Some.generation)) c.schema.ensures.value (subst (TellsGeneration c.schema.result.now) c.in-Some.is c.in_ok-generation.ensures) in
    let schema : IsBeside c.in-Some.generation old.now.schema = told_beside old.now.schema c.in-Some.generation told in
    let left = leaves_migrated old begun inner _ c.in-Some.generation c.in-Some-2.count schema is c.rewrite_from.ensures.survives
    (λ clean inside. subst (TellsRewritten c.in-Some.generation begun inner) c.in-Some-2.is (c.in_ok-count.ensures.told clean inside)) c.commit.ensures.survives in
    search (rules, left)

pub returns-clause-told : goal.returns-clause-told
returns-clause-told g c clean =
    let old = state g.S.Store c.args.connection.now in
    let begun = state g.S.Store c.transaction-transaction.result.conn.now in
    let inner = state g.S.Store c.rewrite_from.new.transaction.conn.now in
    let new = state g.S.Store c.commit.new.self.0 in
    let is : begun ≡ record old { in_transaction = true } = ap (state g.S.Store) c.transaction-transaction.ensures.begun in
    let told : TellsGeneration old.now.schema (Some c.in-Some.generation) = subst (λ s. TellsGeneration s (Some c.in-Some.generation)) c.schema.ensures.value (subst (TellsGeneration c.schema.result.now) c.in-Some.is c.in_ok-generation.ensures) in
    let schema : IsBeside c.in-Some.generation old.now.schema = told_beside old.now.schema c.in-Some.generation told in
    let same : c.commit.new.self.0 ≡ c.connection-2-1.given.0 = search rules in
    let clean_new : HasCleanDisk new = subst (λ s. HasCleanDisk (state g.S.Store s)) (sym same) clean in
    let survived : doubt inner.is_clean ≤ doubt new.is_clean = c.commit.ensures.survives.clean in
    let clean_inner : HasCleanDisk inner = omega (arith, survived, clean_new) in
    let inside : IsTrue begun.in_transaction = ap (λ (s : State). s.in_transaction) is in
    let made : Rewritten c.in-Some.generation begun inner c.in-Some-2.count = subst (TellsRewritten c.in-Some.generation begun inner) c.in-Some-2.is (c.in_ok-count.ensures.told clean_inner inside) in
    subst (λ s. IsMigrated old (state g.S.Store s) c.in-Some-2.count) same
    (migrated old begun inner new c.in-Some.generation c.in-Some-2.count schema is made (c.in_ok-commit.ensures.ok clean_new).1)

pub returns-clause-left : goal.returns-clause-left
returns-clause-left g c =
    let old = state g.S.Store c.args.connection.now in
    let begun = state g.S.Store c.transaction-transaction.result.conn.now in
    let inner = state g.S.Store c.rewrite_from.new.transaction.conn.now in
    let is : begun ≡ record old { in_transaction = true } = ap (state g.S.Store) c.transaction-transaction.ensures.begun in
    let told : TellsGeneration old.now.schema (Some c.in-Some.generation) = subst (λ s. TellsGeneration s (Some c.in-Some.generation)) c.schema.ensures.value (subst (TellsGeneration c.schema.result.now) c.in-Some.is c.in_ok-generation.ensures) in
    let schema : IsBeside c.in-Some.generation old.now.schema = told_beside old.now.schema c.in-Some.generation told in
    let left = leaves_migrated old begun inner _ c.in-Some.generation c.in-Some-2.count schema is c.rewrite_from.ensures.survives
    (λ clean inside. subst (TellsRewritten c.in-Some.generation begun inner) c.in-Some-2.is (c.in_ok-count.ensures.told clean inside)) c.commit.ensures.survives in
    search (rules, left)

pub returns-in_default-clause-told : goal.returns-in_default-clause-told
returns-in_default-clause-told g c clean =
    let old = state g.S.Store c.args.connection.now in
    let none : c.in_ok-generation.field-0 ≡ None = search rules in
    let told : TellsGeneration old.now.schema None = subst (λ s. TellsGeneration s None) c.schema.ensures.value (subst (TellsGeneration c.schema.result.now) none c.in_ok-generation.ensures) in
    ((λ open_now. (open_now, refl)), none_told old.now told)

pub returns-in_default-2-clause-told : goal.returns-in_default-2-clause-told
returns-in_default-2-clause-told g c clean =
    let old = state g.S.Store c.args.connection.now in
    let begun = state g.S.Store c.transaction-transaction.result.conn.now in
    let inner = state g.S.Store c.rewrite_from.new.transaction.conn.now in
    let is : begun ≡ record old { in_transaction = true } = ap (state g.S.Store) c.transaction-transaction.ensures.begun in
    let now_is : begun.now ≡ old.now = ap (λ (s : State). s.now) is in
    let told : TellsGeneration old.now.schema (Some c.in-Some.generation) = subst (λ s. TellsGeneration s (Some c.in-Some.generation)) c.schema.ensures.value (subst (TellsGeneration c.schema.result.now) c.in-Some.is c.in_ok-generation.ensures) in
    let survived : doubt inner.is_clean ≤ doubt (state g.S.Store c.drop-transaction-in_default-2.new.self.0).is_clean = c.drop-transaction-in_default-2.ensures.survives.clean in
    let same : c.drop-transaction-in_default-2.new.self.0 ≡ c.connection-in_default-2-1.given.0 = search rules in
    let dropped : HasCleanDisk (state g.S.Store c.drop-transaction-in_default-2.new.self.0) = subst (λ s. HasCleanDisk (state g.S.Store s)) (sym same) clean in
    let clean_inner : HasCleanDisk inner = omega (arith, survived, dropped) in
    let inside : IsTrue begun.in_transaction = ap (λ (s : State). s.in_transaction) is in
    let stays : Stays old (state g.S.Store c.connection-in_default-2-1.given.0) = search rules in
    let none : c.in_ok-count.field-0 ≡ None = search rules in
    let foreign : StandsForNoneAs c.in-Some.generation begun.now = subst (TellsRewritten c.in-Some.generation begun inner) none (c.in_ok-count.ensures.told clean_inner inside) in
    (stays, none_else old.now c.in-Some.generation told (subst (λ (db : Database). StandsForNoneAs c.in-Some.generation db) now_is foreign))
