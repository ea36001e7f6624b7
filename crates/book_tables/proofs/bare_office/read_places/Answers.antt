use Rattle.book_tables.proofs.Common.{◌≡◌, Err, state, Inside, ReadsInside, Office, inside_of, NamesTo, Book, Properties, bare_books}
use Rattle.book_tables.specs.BareOffice.{places_of}
use Rattle.book_tables.specs.declared.places.Places.{Places}
use Rattle.book_tables.proofs.Readings.{then_tells, then_reads, then_fails, passed_on}
use Rattle.book_tables.proofs.bare_office.read_places.Goals as goal

abbrev Persons : Office → NamesTo Properties → Type 0
Persons o persons = persons ≡ o.persons

abbrev Groups : Office → NamesTo Properties → Type 0
Groups o groups = groups ≡ o.groups

abbrev Books : Office → NamesTo Book → Type 0
Books o books = books ≡ bare_books o.books

abbrev Both : Office → NamesTo Properties × NamesTo Properties → Type 0
Both o both = Persons o both.0 × Groups o both.1

abbrev All : Office → Places → Type 0
All o places = places ≡ places_of o

pub returns-in_err-groups-clause-reads : goal.returns-in_err-groups-clause-reads
returns-in_err-groups-clause-reads g c =
    let old : Inside = inside_of (state g.S.Store c.args.transaction.now.conn.now) c.args.failures.now in
    let first : Inside = inside_of (state g.S.Store c.read_persons.new.transaction.conn.now) c.read_persons.new.failures in
    let new : Inside = inside_of (state g.S.Store c.read_groups.new.transaction.conn.now) c.read_groups.new.failures in
    let fails : ReadsInside {A = Places} old new (Err c.in_err-groups.field-0.0) All = then_fails old first c.in_ok-persons.persons Persons c.in_ok-persons.ensures.reads new c.in_err-groups.field-0.0 Groups All c.in_err-groups.ensures.reads in
    passed_on old new c.in_err-groups.field-0.0 c.from_residual-in_err-groups.result All All c.from_residual-in_err-groups.ensures.1 fails

pub returns-in_err-books-clause-reads : goal.returns-in_err-books-clause-reads
returns-in_err-books-clause-reads g c =
    let old : Inside = inside_of (state g.S.Store c.args.transaction.now.conn.now) c.args.failures.now in
    let first : Inside = inside_of (state g.S.Store c.read_persons.new.transaction.conn.now) c.read_persons.new.failures in
    let second : Inside = inside_of (state g.S.Store c.read_groups.new.transaction.conn.now) c.read_groups.new.failures in
    let new : Inside = inside_of (state g.S.Store c.read_books.new.transaction.conn.now) c.read_books.new.failures in
    let both = then_reads old first c.in_ok-persons.persons Persons c.in_ok-persons.ensures.reads second c.in_ok-groups.groups Groups c.in_ok-groups.ensures.reads in
    let fails : ReadsInside {A = Places} old new (Err c.in_err-books.field-0.0) All =
    then_fails old second (c.in_ok-persons.persons, c.in_ok-groups.groups) Both both new c.in_err-books.field-0.0 Books All c.in_err-books.ensures.reads in
    passed_on old new c.in_err-books.field-0.0 c.from_residual-in_err-books.result All All c.from_residual-in_err-books.ensures.1 fails

pub returns-clause-reads : goal.returns-clause-reads
returns-clause-reads g c =
    let old : Inside = inside_of (state g.S.Store c.args.transaction.now.conn.now) c.args.failures.now in
    let first : Inside = inside_of (state g.S.Store c.read_persons.new.transaction.conn.now) c.read_persons.new.failures in
    let second : Inside = inside_of (state g.S.Store c.read_groups.new.transaction.conn.now) c.read_groups.new.failures in
    let new : Inside = inside_of (state g.S.Store c.read_books.new.transaction.conn.now) c.read_books.new.failures in
    let both = then_reads old first c.in_ok-persons.persons Persons c.in_ok-persons.ensures.reads second c.in_ok-groups.groups Groups c.in_ok-groups.ensures.reads in
    let two : NamesTo Properties × NamesTo Properties = (c.in_ok-persons.persons, c.in_ok-groups.groups) in
    let three : (NamesTo Properties × NamesTo Properties) × NamesTo Book = (two, c.in_ok-books.books) in
    then_tells old new three (λ o all. Both o all.0 × Books o all.1)
    (then_reads old second two Both both new c.in_ok-books.books Books c.in_ok-books.ensures.reads)
    (record { persons = c.in_ok-persons.persons; groups = c.in_ok-groups.groups; books = c.in_ok-books.books }) All
    (λ o all. λ i. record { persons = all.0.0 i; groups = all.0.1 i; books = all.1 i })
