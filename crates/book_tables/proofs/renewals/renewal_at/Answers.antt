use Rattle.book_tables.proofs.Common.{List, ℕ, map, Option, Err, refl, subst, Inside, ReadsInside, Office}
use Rattle.book_office.specs.Edits.{members_set}
use Rattle.book_office.specs.declared.keepers.StoreFault.TheVariants.{Memory}
use Rattle.book_tables_rows.specs.Reach.{pair_said}
use Rattle.book_tables.specs.Reach.{Renews}
use Rattle.book_tables.specs.declared.renewals.Renewal.{Renewal}
use Rattle.std.proofs.Common.{IfSome}
use Rattle.book_tables.specs.Nearby.{HasNearby}
use Rattle.book_tables.specs.declared.searching.Search.{Search}
use Rattle.book_tables.proofs.NearbyChains.{renews_all}
use Rattle.book_tables.proofs.Readings.{then_answers, then_tells, then_gives_up, passed_on}
use Rattle.book_tables.proofs.renewals.renewal_at.Goals as goal

abbrev Near : List ℕ → List (List ℕ) → Office → Option Search → Type 0
Near group members o near = IfSome near (HasNearby o.pairs group members)

abbrev Renewed : List ℕ → List (List ℕ) → Office → Renewal → Type 0
Renewed group members o r = Renews o.pairs (members_set o.pairs group members) (map pair_said r.gone.items) (map pair_said r.come.items)

pub returns-in_default : goal.returns-in_default
returns-in_default g c =
    let group = c.args.group.now in
    let members = c.args.members.now in
    then_answers (g.D.Directs.inside c.args.directs.now) (g.D.Directs.inside c.near.new.directs) c.in_ok-found.found (Near group members) c.in_ok-found.ensures
    (g.D.Directs.inside c.whole_renewal.new.directs) c.whole_renewal.result (Renewed group members) (Renewed group members) c.whole_renewal.ensures (λ o r near renews. renews)

pub returns-in_err-renewal : goal.returns-in_err-renewal
returns-in_err-renewal g c =
    let S0 : Inside = g.D.Directs.inside c.args.directs.now in
    let S1 : Inside = g.D.Directs.inside c.near.new.directs in
    let V = Renewed c.args.group.now c.args.members.now in
    let fails : ReadsInside {A = Renewal} S0 S1 (Err Memory) V = then_gives_up S0 S1 c.in_ok-found.found (Near c.args.group.now c.args.members.now) c.in_ok-found.ensures V Memory S1.failures refl in
    passed_on S0 S1 Memory c.from_residual-in_err-renewal.result V V c.from_residual-in_err-renewal.ensures.1 fails

pub returns : goal.returns
returns g c =
    let group = c.args.group.now in
    let members = c.args.members.now in
    let r = c.in_ok-renewal.renewal in
    then_tells (g.D.Directs.inside c.args.directs.now) (g.D.Directs.inside c.near.new.directs) c.in_ok-found.found (Near group members) c.in_ok-found.ensures r (Renewed group members)
    (λ o has. renews_all o.pairs group members c.in-Some.near (subst (Near group members o) c.in-Some.is has) (map pair_said r.gone.items) (map pair_said r.come.items) c.in_ok-renewal.ensures)
