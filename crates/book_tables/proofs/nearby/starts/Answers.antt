use Rattle.std.proofs.Common.{Err, refl, Vec, Global}
use Rattle.book_lists.specs.Memberships.{Memberships}
use Rattle.book_tables.specs.Inside.{Inside, ReadsInside}
use Rattle.book_office.specs.declared.keepers.StoreFault.TheVariants.{Memory}
use Rattle.book_office_values.specs.declared.offices.Office.{Office}
use Rattle.book_lists.specs.Circles.{has_path}
use Rattle.book_lists.specs.declared.principals.Principal.{Principal}
use Rattle.book_office.specs.Edits.{members_set}
use Rattle.book_tables.specs.Nearby.{AreChanged}
use Rattle.book_tables.specs.Searching.{ArePairsAt}
use Rattle.book_tables.specs.declared.searching.Way.TheVariants.{Down}
use Rattle.book_tables.proofs.NearbyPairs.{all_changed}
use Rattle.book_tables.proofs.Readings.{then_tells, then_gives_up, passed_on}
use Rattle.book_tables.proofs.nearby.starts.Goals as goal

pub returns-in_err-changed : goal.returns-in_err-changed
returns-in_err-changed g c =
    let S0 : Inside = g.D.Directs.inside c.args.directs.now in
    let S1 : Inside = g.D.Directs.inside c.look.new.self in
    let V : Office → Vec Principal Global → Type 0 = λ o starts. AreChanged o.pairs (members_set o.pairs c.args.group.now c.args.members.now) (has_path starts.items) in
    let fails : ReadsInside {A = Vec Principal Global} S0 S1 (Err Memory) V = then_gives_up S0 S1 c.in_ok-now.now (λ (o : Office) (ps : Memberships). ArePairsAt o.pairs Down c.args.group.now ps) c.in_ok-now.ensures V Memory S1.failures refl in
    passed_on S0 S1 Memory c.from_residual-in_err-changed.result V V c.from_residual-in_err-changed.ensures.1 fails

pub returns : goal.returns
returns g c =
    let group = c.args.group.now in
    let members = c.args.members.now in
    let all = c.in_ok-changed.field-0 in
    then_tells (g.D.Directs.inside c.args.directs.now) (g.D.Directs.inside c.look.new.self) c.in_ok-now.now (λ (o : Office) (ps : Memberships). ArePairsAt o.pairs Down group ps) c.in_ok-now.ensures
    all (λ (o : Office) (starts : Vec Principal Global). AreChanged o.pairs (members_set o.pairs group members) (has_path starts.items))
    (λ o are. all_changed o.pairs c.in_ok-now.now group members all.items are c.in_ok-changed.ensures)
