use Rattle.book_tables.proofs.Common.{◌≡◌, Err, state, Inside, ReadsInside, Office, inside_of, Properties}
use Rattle.book_tables.specs.BareOffice.{homes_of}
use Rattle.book_tables.specs.declared.places.Homes.{Homes}
use Rattle.book_tables.proofs.Readings.{then_tells, then_reads, then_fails, passed_on}
use Rattle.book_tables.proofs.bare_office.read_top.Goals as goal

abbrev Root : Office → Properties → Type 0
Root o root = root ≡ o.root

abbrev AreHomes : Office → Homes → Type 0
AreHomes o homes = homes ≡ homes_of o

abbrev Top : Office → Properties × Homes → Type 0
Top o top = top ≡ (o.root, homes_of o)

pub returns-in_err-homes-clause-reads : goal.returns-in_err-homes-clause-reads
returns-in_err-homes-clause-reads g c =
    let old : Inside = inside_of (state g.S.Store c.args.transaction.now.conn.now) c.args.failures.now in
    let mid : Inside = inside_of (state g.S.Store c.read_root.new.transaction.conn.now) c.read_root.new.failures in
    let new : Inside = inside_of (state g.S.Store c.read_homes.new.transaction.conn.now) c.read_homes.new.failures in
    let fails : ReadsInside {A = Properties × Homes} old new (Err c.in_err-homes.field-0.0) Top = then_fails old mid c.in_ok-root.root Root c.in_ok-root.ensures.reads new c.in_err-homes.field-0.0 AreHomes Top c.in_err-homes.ensures.reads in
    passed_on old new c.in_err-homes.field-0.0 c.from_residual-in_err-homes.result Top Top c.from_residual-in_err-homes.ensures.1 fails

pub returns-clause-reads : goal.returns-clause-reads
returns-clause-reads g c =
    let old : Inside = inside_of (state g.S.Store c.args.transaction.now.conn.now) c.args.failures.now in
    let mid : Inside = inside_of (state g.S.Store c.read_root.new.transaction.conn.now) c.read_root.new.failures in
    let new : Inside = inside_of (state g.S.Store c.read_homes.new.transaction.conn.now) c.read_homes.new.failures in
    then_tells old new (c.in_ok-root.root, c.in_ok-homes.homes) (λ o both. Root o both.0 × AreHomes o both.1)
    (then_reads old mid c.in_ok-root.root Root c.in_ok-root.ensures.reads new c.in_ok-homes.homes AreHomes c.in_ok-homes.ensures.reads)
    (c.in_ok-root.root, c.in_ok-homes.homes) Top (λ o both. λ i. (both.0 i, both.1 i))
