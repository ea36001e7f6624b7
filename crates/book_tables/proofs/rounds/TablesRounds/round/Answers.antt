use Rattle.book_tables.proofs.Common.{◌≡◌, true, false, rules, ap, IsTrue, state}
use Rattle.book_tables.proofs.KeptRounds.{round_undone, round_unwritten, round_committed, round_uncommitted}
use Rattle.book_tables.proofs.rounds.TablesRounds.round.Goals as goal

pub returns-then-ending : goal.returns-then-ending
returns-then-ending g c =
    let begun = c.transaction-transaction.result.conn.now in
    let mid = c.run_in-ending.new.transaction.conn.now in
    let auto : IsTrue c.is_autocommit.result = search rules in
    round_undone g.S.Store g.W.Work.does c.args.work.now c.run_in-ending.new.work c.args.self.now.connection begun mid c.drop-transaction.new.self.0 c.args.self.now.failures c.run_in-ending.new.failures
    c.run_in-ending.result.spoiled c.run_in-ending.result.written (ap (state g.S.Store) c.transaction-transaction.ensures.begun) (c.is_autocommit.ensures.settled auto) c.run_in-ending.ensures.run
    c.drop-transaction.ensures.survives c.drop-transaction.ensures.undone _

pub returns-then-not-ending : goal.returns-then-not-ending
returns-then-not-ending g c =
    let begun = c.transaction-transaction.result.conn.now in
    let mid = c.run_in-ending.new.transaction.conn.now in
    let auto : IsTrue c.is_autocommit.result = search rules in
    let good : c.run_in-ending.result.spoiled ≡ false = search rules in
    let unwritten : c.run_in-ending.result.written ≡ false = search rules in
    round_unwritten g.S.Store g.W.Work.does c.args.work.now c.run_in-ending.new.work c.args.self.now.connection begun mid c.drop-transaction-then-not-ending.new.self.0 c.args.self.now.failures c.run_in-ending.new.failures
    c.run_in-ending.result.spoiled c.run_in-ending.result.written (ap (state g.S.Store) c.transaction-transaction.ensures.begun) (c.is_autocommit.ensures.settled auto) c.run_in-ending.ensures.run
    c.drop-transaction-then-not-ending.ensures.survives c.drop-transaction-then-not-ending.ensures.undone good unwritten

pub returns-in-Ok : goal.returns-in-Ok
returns-in-Ok g c =
    let begun = c.transaction-transaction.result.conn.now in
    let mid = c.run_in-ending.new.transaction.conn.now in
    let auto : IsTrue c.is_autocommit.result = search rules in
    let good : c.run_in-ending.result.spoiled ≡ false = search rules in
    let wrote : c.run_in-ending.result.written ≡ true = search rules in
    round_committed g.S.Store g.W.Work.does c.args.work.now c.run_in-ending.new.work c.args.self.now.connection begun mid c.commit.new.self.0 c.args.self.now.failures c.run_in-ending.new.failures
    c.run_in-ending.result.spoiled c.run_in-ending.result.written (ap (state g.S.Store) c.transaction-transaction.ensures.begun) (c.is_autocommit.ensures.settled auto) c.run_in-ending.ensures.run
    c.commit.ensures.survives good wrote (g.met.S.Store.settled c.commit.new.self.0.store) (λ h. (c.in-Ok.ensures.ok h).1)

pub returns-in-Err : goal.returns-in-Err
returns-in-Err g c =
    let begun = c.transaction-transaction.result.conn.now in
    let mid = c.run_in-ending.new.transaction.conn.now in
    let auto : IsTrue c.is_autocommit.result = search rules in
    let good : c.run_in-ending.result.spoiled ≡ false = search rules in
    let wrote : c.run_in-ending.result.written ≡ true = search rules in
    round_uncommitted g.S.Store g.W.Work.does c.args.work.now c.run_in-ending.new.work c.args.self.now.connection begun mid c.commit.new.self.0 c.args.self.now.failures c.run_in-ending.new.failures
    c.run_in-ending.result.spoiled c.run_in-ending.result.written (ap (state g.S.Store) c.transaction-transaction.ensures.begun) (c.is_autocommit.ensures.settled auto) c.run_in-ending.ensures.run
    c.commit.ensures.survives good wrote c.in-Err.error c.fault_of.result c.fault_of.new.failures c.fault_of.ensures c.in-Err.ensures.err
