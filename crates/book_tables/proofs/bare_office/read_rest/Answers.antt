use Rattle.book_tables.proofs.Common.{◌≡◌, ℕ, Err, state, Inside, ReadsInside, Office, inside_of, Memberships}
use Rattle.book_tables.proofs.Readings.{then_tells, then_reads, then_fails, passed_on}
use Rattle.book_tables.proofs.bare_office.read_rest.Goals as goal

abbrev ArePairs : Office → Memberships → Type 0
ArePairs o pairs = pairs ≡ o.pairs

abbrev IsEpoch : Office → ℕ → Type 0
IsEpoch o epoch = epoch ≡ o.epoch

abbrev Rest : Office → Memberships × ℕ → Type 0
Rest o rest = rest ≡ (o.pairs, o.epoch)

pub returns-in_err-epoch-clause-reads : goal.returns-in_err-epoch-clause-reads
returns-in_err-epoch-clause-reads g c =
    let old : Inside = inside_of (state g.S.Store c.args.transaction.now.conn.now) c.args.failures.now in
    let mid : Inside = inside_of (state g.S.Store c.pairs.new.transaction.conn.now) c.pairs.new.failures in
    let new : Inside = inside_of (state g.S.Store c.epoch.new.transaction.conn.now) c.epoch.new.failures in
    let fails : ReadsInside {A = Memberships × ℕ} old new (Err c.in_err-epoch.field-0.0) Rest = then_fails old mid c.in_ok-pairs.pairs ArePairs c.in_ok-pairs.ensures.reads new c.in_err-epoch.field-0.0 IsEpoch Rest c.in_err-epoch.ensures.reads in
    passed_on old new c.in_err-epoch.field-0.0 c.from_residual-in_err-epoch.result Rest Rest c.from_residual-in_err-epoch.ensures.1 fails

pub returns-clause-reads : goal.returns-clause-reads
returns-clause-reads g c =
    let old : Inside = inside_of (state g.S.Store c.args.transaction.now.conn.now) c.args.failures.now in
    let mid : Inside = inside_of (state g.S.Store c.pairs.new.transaction.conn.now) c.pairs.new.failures in
    let new : Inside = inside_of (state g.S.Store c.epoch.new.transaction.conn.now) c.epoch.new.failures in
    then_tells old new (c.in_ok-pairs.pairs, c.in_ok-epoch.epoch) (λ o both. ArePairs o both.0 × IsEpoch o both.1)
    (then_reads old mid c.in_ok-pairs.pairs ArePairs c.in_ok-pairs.ensures.reads new c.in_ok-epoch.epoch IsEpoch c.in_ok-epoch.ensures.reads)
    (c.in_ok-pairs.pairs, c.in_ok-epoch.epoch) Rest (λ o both. λ i. (both.0 i, both.1 i))
