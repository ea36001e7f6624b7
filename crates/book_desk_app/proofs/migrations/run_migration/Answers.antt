use Rattle.std.proofs.Common.{inl, inr, refl, sym, subst}
use Rattle.std.proofs.KnownBytes.{Keeps-refl}
use Rattle.sqlite.specs.Held.{Held, state}
use Rattle.sqlite.specs.State.{HasCleanDisk}
use Rattle.book_tables_schema.specs.Reopening.{IsConnectionAnd}
use Rattle.book_tables_schema.specs.declared.reopening.Unopened.{Unopened}
use Rattle.book_tables_schema.specs.declared.reopening.Unopened.TheVariants as unopened
use Rattle.book_tables_migrating.specs.Migrating.{StandsMigrated}
use Rattle.book_desk_app.specs.Telling.{TellsFailure}
use Rattle.book_desk_app.specs.declared.failures.Failure.TheVariants.{Store}
use Rattle.book_desk_app.proofs.Ending.{silent, written}
use Rattle.book_desk_app.proofs.migrations.run_migration.Goals as goal

-- the connection, of which two things hold
connected : {S : Type 0} {P Q R : Held S → Type 0} (back : Unopened S) → ((c : Held S) → P c → Q c → R c) → IsConnectionAnd back P → IsConnectionAnd back Q → IsConnectionAnd back R
connected (unopened.Connection c) both p q = both c p q
connected (unopened.Store s) both p q = absurd p

pub returns-in-Ok-clause-runs : goal.returns-in-Ok-clause-runs
returns-in-Ok-clause-runs g c =
    inr (
      c.release.result,
      c.in-Ok.entries,
      refl,
      subst (λ back. HasCleanDisk (state g.S.Store back) → StandsMigrated (state g.S.Store c.args.store).committed.trees (state g.S.Store back) c.in-Ok.entries) (sym c.release.ensures) c.in-Ok.ensures.stands,
      written _ _ c.write_entries-outcome.result c.ended-status.result c.write_entries-outcome.ensures.written c.write_entries-outcome.ensures.failed c.ended-status.ensures.done c.ended-status.ensures.failed,
    )

pub returns-in-Ok-clause-silent : goal.returns-in-Ok-clause-silent
returns-in-Ok-clause-silent g c = silent _ _ c.write_entries-outcome.result c.ended-status.result c.ended-status.ensures.done c.ended-status.ensures.failed

pub returns-in-Err-clause-runs : goal.returns-in-Err-clause-runs
returns-in-Err-clause-runs g c =
    let held = g.E.Write.contents c.args.errors.now in
    let holds = g.E.Write.contents c.tell_line-status.new.errors in
    inl (record {
      fault = c.in-Err.fault;
      status_is = c.tell_line-status.ensures.status;
      refused = λ refused. connected c.in-Err.left (λ back none other clean. (none clean, other clean)) (c.in-Err.ensures.refused refused) (c.in-Err.ensures.other refused);
      connection = c.in-Err.ensures.kept;
      unharmed = c.in-Err.ensures.unharmed;
      silent = Keeps-refl _;
      told = subst (λ failure. TellsFailure (g.E.Lines.is_whole c.tell_line-status.new.errors) held holds (Store failure)) c.store_failure.ensures c.tell_line-status.ensures.told;
    })
