use Rattle.book_tables.proofs.Common.{◌≡◌, ℕ, Err, ◌∙◌, state, Inside, ReadsInside, Office, inside_of, Memberships, Properties, bare}
use Rattle.book_tables.specs.BareOffice.{homes_of, places_of, office_told}
use Rattle.book_tables.specs.declared.places.Homes.{Homes}
use Rattle.book_tables.specs.declared.places.Places.{Places}
use Rattle.book_tables.proofs.Readings.{then_tells, then_reads, then_fails, passed_on}
use Rattle.book_tables.proofs.bare_office.bare_office.Goals as goal

abbrev Top : Office → Properties × Homes → Type 0
Top o top = top ≡ (o.root, homes_of o)

abbrev All : Office → Places → Type 0
All o places = places ≡ places_of o

abbrev Rest : Office → Memberships × ℕ → Type 0
Rest o rest = rest ≡ (o.pairs, o.epoch)

abbrev Two : Office → (Properties × Homes) × Places → Type 0
Two o two = Top o two.0 × All o two.1

abbrev IsBare : Office → Office → Type 0
IsBare o office = office ≡ bare o

pub returns-in_err-places-clause-reads : goal.returns-in_err-places-clause-reads
returns-in_err-places-clause-reads g c =
    let old : Inside = inside_of (state g.S.Store c.args.transaction.now.conn.now) c.args.failures.now in
    let mid : Inside = inside_of (state g.S.Store c.read_top.new.transaction.conn.now) c.read_top.new.failures in
    let new : Inside = inside_of (state g.S.Store c.read_places.new.transaction.conn.now) c.read_places.new.failures in
    let fails : ReadsInside {A = Office} old new (Err c.in_err-places.field-0.0) IsBare = then_fails old mid c.in_ok-top.top Top c.in_ok-top.ensures.reads new c.in_err-places.field-0.0 All IsBare c.in_err-places.ensures.reads in
    passed_on old new c.in_err-places.field-0.0 c.from_residual-in_err-places.result IsBare IsBare c.from_residual-in_err-places.ensures.1 fails

pub returns-in_err-rest-clause-reads : goal.returns-in_err-rest-clause-reads
returns-in_err-rest-clause-reads g c =
    let old : Inside = inside_of (state g.S.Store c.args.transaction.now.conn.now) c.args.failures.now in
    let first : Inside = inside_of (state g.S.Store c.read_top.new.transaction.conn.now) c.read_top.new.failures in
    let second : Inside = inside_of (state g.S.Store c.read_places.new.transaction.conn.now) c.read_places.new.failures in
    let new : Inside = inside_of (state g.S.Store c.read_rest.new.transaction.conn.now) c.read_rest.new.failures in
    let both = then_reads old first c.in_ok-top.top Top c.in_ok-top.ensures.reads second c.in_ok-places.places All c.in_ok-places.ensures.reads in
    let two : (Properties × Homes) × Places = (c.in_ok-top.top, c.in_ok-places.places) in
    let fails : ReadsInside {A = Office} old new (Err c.in_err-rest.field-0.0) IsBare = then_fails old second two Two both new c.in_err-rest.field-0.0 Rest IsBare c.in_err-rest.ensures.reads in
    passed_on old new c.in_err-rest.field-0.0 c.from_residual-in_err-rest.result IsBare IsBare c.from_residual-in_err-rest.ensures.1 fails

pub returns-clause-reads : goal.returns-clause-reads
returns-clause-reads g c =
    let old : Inside = inside_of (state g.S.Store c.args.transaction.now.conn.now) c.args.failures.now in
    let first : Inside = inside_of (state g.S.Store c.read_top.new.transaction.conn.now) c.read_top.new.failures in
    let second : Inside = inside_of (state g.S.Store c.read_places.new.transaction.conn.now) c.read_places.new.failures in
    let new : Inside = inside_of (state g.S.Store c.read_rest.new.transaction.conn.now) c.read_rest.new.failures in
    let T : Office → Properties × Homes → Type 0 = λ o top. top ≡ (o.root, homes_of o) in
    let U : Office → Places → Type 0 = λ o places. places ≡ places_of o in
    let V : Office → Memberships × ℕ → Type 0 = λ o rest. rest ≡ (o.pairs, o.epoch) in
    let both = then_reads old first c.in_ok-top.top T c.in_ok-top.ensures.reads second c.in_ok-places.places U c.in_ok-places.ensures.reads in
    let all = then_reads old second (c.in_ok-top.top, c.in_ok-places.places) (λ o two. T o two.0 × U o two.1) both new c.in_ok-rest.rest V c.in_ok-rest.ensures.reads in
    then_tells old new ((c.in_ok-top.top, c.in_ok-places.places), c.in_ok-rest.rest) (λ o three. (T o three.0.0 × U o three.0.1) × V o three.1) all
    c.office_of.result (λ (o : Office) (office : Office). office ≡ bare o)
    (λ o told. c.office_of.ensures ∙ (λ i. office_told (told.0.0 i) (told.0.1 i) (told.1 i)))
