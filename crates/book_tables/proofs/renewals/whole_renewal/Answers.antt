use Rattle.book_tables.proofs.Common.{◌≡◌, List, ℕ, map, Err, refl, subst, Inside, ReadsInside, Memberships, Office}
use Rattle.book_office.specs.Edits.{members_set}
use Rattle.book_office.specs.declared.keepers.StoreFault.TheVariants.{Memory}
use Rattle.book_tables_rows.specs.Reach.{pair_said}
use Rattle.book_tables.specs.Reach.{Renews}
use Rattle.book_tables.specs.declared.renewals.Renewal.{Renewal}
use Rattle.book_tables.proofs.Readings.{then_tells, then_gives_up, passed_on}
use Rattle.book_tables.proofs.renewals.whole_renewal.Goals as goal

abbrev Pairs : Office → Memberships → Type 0
Pairs o pairs = pairs ≡ o.pairs

abbrev Renewed : List ℕ → List (List ℕ) → Office → Renewal → Type 0
Renewed group members o r = Renews o.pairs (members_set o.pairs group members) (map pair_said r.gone.items) (map pair_said r.come.items)

pub returns-in_err-renewal : goal.returns-in_err-renewal
returns-in_err-renewal g c =
    let S0 : Inside = g.D.Directs.inside c.args.directs.now in
    let S1 : Inside = g.D.Directs.inside c.all.new.self in
    let V = Renewed c.args.group.now c.args.members.now in
    let fails : ReadsInside {A = Renewal} S0 S1 (Err Memory) V = then_gives_up S0 S1 c.in_ok-pairs.pairs Pairs c.in_ok-pairs.ensures V Memory S1.failures refl in
    passed_on S0 S1 Memory c.from_residual-in_err-renewal.result V V c.from_residual-in_err-renewal.ensures.1 fails

pub returns : goal.returns
returns g c =
    let group = c.args.group.now in
    let members = c.args.members.now in
    let r = c.in_ok-renewal.renewal in
    then_tells (g.D.Directs.inside c.args.directs.now) (g.D.Directs.inside c.all.new.self) c.in_ok-pairs.pairs Pairs c.in_ok-pairs.ensures r (Renewed group members)
    (λ o e. subst (λ (ps : Memberships). Renews ps (members_set ps group members) (map pair_said r.gone.items) (map pair_said r.come.items)) e c.in_ok-renewal.ensures)
