use Rattle.std.proofs.Common.{◌≡◌, Bool, false, Option, None, Some, IfSome, Err, rules}
use Rattle.book_tables.specs.Inside.{Inside, ReadsInside}
use Rattle.book_office_values.specs.declared.offices.Office.{Office}
use Rattle.book_tables.specs.Nearby.{GoesOn}
use Rattle.book_tables.specs.Searching.{HasSearched, Searches}
use Rattle.book_tables.specs.declared.searching.Search.{Search}
use Rattle.book_tables.proofs.Readings.{then_tells, then_reads, then_fails, passed_on, reads_nothing}
use Rattle.book_tables.proofs.SearchedPairs.{begins}
use Rattle.book_tables.proofs.nearby.search.Goals as goal

pub steps-init : goal.steps-init
steps-init g c =
    let s = c.new-search.result in
    let is = c.new-search.ensures in
    reads_nothing (g.D.Directs.inside c.args.directs.now) s (λ (o : Office) (x : Search). Searches o.pairs c.args.way c.args.starts.items x) (λ o. begins o.pairs c.args.way c.args.starts.items s is.all is.met is.pairs is.work)

pub steps-preserved : goal.steps-preserved
steps-preserved g c =
    let S0 : Inside = g.D.Directs.inside c.args.directs.now in
    let S1 : Inside = g.D.Directs.inside c.steps.directs in
    let S2 : Inside = g.D.Directs.inside c.step.new.directs in
    let way = c.args.way in
    let starts = c.args.starts.items in
    let T : Office → Search → Type 0 = λ o x. Searches o.pairs way starts x in
    let U : Office → Bool → Type 0 = λ o more. GoesOn o.pairs way c.steps.search c.step.new.search more in
    then_tells S0 S2 (c.steps.search, c.in_ok-more.more) (λ o both. T o both.0 × U o both.1)
    (then_reads S0 S1 c.steps.search T c.steps.invariant S2 c.in_ok-more.more U c.in_ok-more.ensures)
    c.step.new.search T (λ o both. (both.1 starts both.0).0)

pub returns-then-not-more : goal.returns-then-not-more
returns-then-not-more g c =
    let S0 : Inside = g.D.Directs.inside c.args.directs.now in
    let S1 : Inside = g.D.Directs.inside c.steps.directs in
    let S2 : Inside = g.D.Directs.inside c.step.new.directs in
    let way = c.args.way in
    let starts = c.args.starts.items in
    let T : Office → Search → Type 0 = λ o x. Searches o.pairs way starts x in
    let U : Office → Bool → Type 0 = λ o more. GoesOn o.pairs way c.steps.search c.step.new.search more in
    let ended : c.in_ok-more.more ≡ false = search rules in
    then_tells S0 S2 (c.steps.search, c.in_ok-more.more) (λ o both. T o both.0 × U o both.1)
    (then_reads S0 S1 c.steps.search T c.steps.invariant S2 c.in_ok-more.more U c.in_ok-more.ensures)
    (Some c.step.new.search) (λ (o : Office) (found : Option Search). IfSome found (HasSearched o.pairs way starts))
    (λ o both. record { searches = (both.1 starts both.0).0; done = (both.1 starts both.0).1 ended })

pub returns-in_err-more : goal.returns-in_err-more
returns-in_err-more g c =
    let S0 : Inside = g.D.Directs.inside c.args.directs.now in
    let S1 : Inside = g.D.Directs.inside c.steps.directs in
    let S2 : Inside = g.D.Directs.inside c.step.new.directs in
    let way = c.args.way in
    let starts = c.args.starts.items in
    let fault = c.in_err-more.field-0.0 in
    let V : Office → Option Search → Type 0 = λ o found. IfSome found (HasSearched o.pairs way starts) in
    let fails : ReadsInside {A = Option Search} S0 S2 (Err fault) V = then_fails S0 S1 c.steps.search (λ (o : Office) (x : Search). Searches o.pairs way starts x) c.steps.invariant S2 fault
    (λ (o : Office) (more : Bool). GoesOn o.pairs way c.steps.search c.step.new.search more) V c.in_err-more.ensures in
    passed_on S0 S2 fault c.from_residual.result V V c.from_residual.ensures.1 fails

pub returns : goal.returns
returns g c =
    then_tells (g.D.Directs.inside c.args.directs.now) (g.D.Directs.inside c.steps.directs) c.steps.search (λ (o : Office) (x : Search). Searches o.pairs c.args.way c.args.starts.items x) c.steps.invariant
    None (λ (o : Office) (found : Option Search). IfSome found (HasSearched o.pairs c.args.way c.args.starts.items)) (λ o searches. tt)
