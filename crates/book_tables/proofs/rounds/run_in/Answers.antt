use Rattle.std.proofs.Common.{rules, ◌≡◌, sym}
use Rattle.sqlite.specs.Held.{state}
use Rattle.book_tables.proofs.KeptRounds.{run_by}
use Rattle.book_tables.proofs.rounds.run_in.Goals as goal

pub returns-clause-run : goal.returns-clause-run
returns-clause-run g c =
    let same : c.run_within.new.within.transaction.now ≡ c.transaction-1.given.0 = search rules in
    rw (sym same)
    (run_by g.W.Work.does (state g.S.Store c.args.transaction.now.conn.now) (state g.S.Store c.run_within.new.within.transaction.now.conn.now) c.args.failures.now c.run_within.new.within.failures
    c.run_within.new.within.spoiled c.run_within.new.within.written c.args.work.now c.run_within.new.work _ _ c.run_within.ensures.does c.run_within.ensures.falls)
