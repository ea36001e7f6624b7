use Rattle.std.proofs.Common.{◌≡◌, Ok}
use Rattle.book_office.specs.Keeping.{Reads, Standing}
use Rattle.book_office_audit.proofs.ReadsInTurn.{reads_then}
use Rattle.book_office_values.specs.declared.offices.Office.{Office}
use Rattle.book_office_values.specs.declared.offices.Properties.{Properties}
use Rattle.book_office_values.specs.declared.paths.Path.{Path}
use Rattle.book_office_values.specs.declared.paths.Path.TheVariants as path
use Rattle.book_office_copies.specs.Copies.{homes_told, place_told}
use Rattle.book_office_copies.specs.declared.copying.Homes.{Homes}
use Rattle.book_office_copies.proofs.InTurn.{reads_given}
use Rattle.book_office_copies.proofs.copying.read_homes.Goals as goal

pub returns-in_err-books_home : goal.returns-in_err-books_home
returns-in_err-books_home g c =
    let S0 : Standing = g.K.Keeper.standing c.args.keeper.now in
    let S1 : Standing = g.K.Keeper.standing c.read_place.new.keeper in
    let S2 : Standing = g.K.Keeper.standing c.read_place-2.new.keeper in
    let S3 : Standing = g.K.Keeper.standing c.read_place-3.new.keeper in
    let S4 : Standing = g.K.Keeper.standing c.read_place-4.new.keeper in
    let T : Path → Office → Properties → Type 0 = λ p o place. place ≡ place_told o p in
    let V : Office → Homes → Type 0 = λ o homes. homes ≡ homes_told o in
    let two : Reads S0 S2 (Ok c.in_ok-people.people) (T path.People) =
    reads_then S0 S1 S2 c.in_ok-root.root (Ok c.in_ok-people.people) (T path.Root) (T path.People) (T path.People) c.in_ok-root.ensures c.in_ok-people.ensures (λ o stands t y u. u) in
    let three : Reads S0 S3 (Ok c.in_ok-groups_home.groups_home) (T path.Groups) =
    reads_then S0 S2 S3 c.in_ok-people.people (Ok c.in_ok-groups_home.groups_home) (T path.People) (T path.Groups) (T path.Groups) two c.in_ok-groups_home.ensures (λ o stands t y u. u) in
    reads_given S0 S3 S4 c.in_ok-groups_home.groups_home c.in_err-books_home.field-0.0 c.from_residual-in_err-books_home.result (T path.Groups) (T path.Books) V
    c.from_residual-in_err-books_home.ensures.1 three c.in_err-books_home.ensures
