use Rattle.std.proofs.Common.{◌≡◌, ℕ, Ok}
use Rattle.book_lists.specs.Memberships.{Memberships}
use Rattle.book_office.specs.Keeping.{Reads, Standing}
use Rattle.book_office_audit.proofs.ReadsInTurn.{reads_then}
use Rattle.book_office_values.specs.declared.offices.Office.{Office}
use Rattle.book_office_copies.specs.Copies.{homes_told, office_with}
use Rattle.book_office_copies.specs.declared.copying.Homes.{Homes}
use Rattle.book_office_copies.proofs.InTurn.{reads_given}
use Rattle.book_office_copies.proofs.copying.read_rest.Goals as goal

pub returns-in_err-pairs : goal.returns-in_err-pairs
returns-in_err-pairs g c =
    let S0 : Standing = g.K.Keeper.standing c.args.keeper.now in
    let S1 : Standing = g.K.Keeper.standing c.read_homes.new.keeper in
    let S2 : Standing = g.K.Keeper.standing c.pairs.new.self in
    let T : Office → Homes → Type 0 = λ o homes. homes ≡ homes_told o in
    let U : Office → Memberships → Type 0 = λ o pairs. pairs ≡ o.pairs in
    let V : Office → Office → Type 0 = λ o office. office ≡ office_with o c.args.maps in
    reads_given S0 S1 S2 c.in_ok-homes.homes c.in_err-pairs.field-0.0 c.from_residual-in_err-pairs.result T U V c.from_residual-in_err-pairs.ensures.1 c.in_ok-homes.ensures c.in_err-pairs.ensures

pub returns-in_err-epoch : goal.returns-in_err-epoch
returns-in_err-epoch g c =
    let S0 : Standing = g.K.Keeper.standing c.args.keeper.now in
    let S1 : Standing = g.K.Keeper.standing c.read_homes.new.keeper in
    let S2 : Standing = g.K.Keeper.standing c.pairs.new.self in
    let S3 : Standing = g.K.Keeper.standing c.epoch.new.self in
    let T : Office → Homes → Type 0 = λ o homes. homes ≡ homes_told o in
    let U : Office → Memberships → Type 0 = λ o pairs. pairs ≡ o.pairs in
    let W : Office → ℕ → Type 0 = λ o epoch. epoch ≡ o.epoch in
    let V : Office → Office → Type 0 = λ o office. office ≡ office_with o c.args.maps in
    let two : Reads S0 S2 (Ok c.in_ok-pairs.pairs) U = reads_then S0 S1 S2 c.in_ok-homes.homes (Ok c.in_ok-pairs.pairs) T U U c.in_ok-homes.ensures c.in_ok-pairs.ensures (λ o stands t y u. u) in
    reads_given S0 S2 S3 c.in_ok-pairs.pairs c.in_err-epoch.field-0.0 c.from_residual-in_err-epoch.result U W V c.from_residual-in_err-epoch.ensures.1 two c.in_err-epoch.ensures
