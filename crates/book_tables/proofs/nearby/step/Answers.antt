use Rattle.std.proofs.Common.{◌≡◌, [], Bool, true, false, Err, refl, sym, ◌∙◌, true≢false, rules}
use Rattle.book_lists.specs.Memberships.{Memberships}
use Rattle.book_tables.specs.Inside.{Inside, ReadsInside}
use Rattle.book_office.specs.declared.keepers.StoreFault.TheVariants.{Memory}
use Rattle.book_office_values.specs.declared.offices.Office.{Office}
use Rattle.std.proofs.lemmas.List.{append-nil}
use Rattle.book_tables.specs.Nearby.{GoesOn}
use Rattle.book_tables.specs.Searching.{ArePairsAt}
use Rattle.book_tables.specs.declared.searching.Search.{Search}
use Rattle.book_tables.proofs.Readings.{then_tells, then_gives_up, passed_on, reads_nothing}
use Rattle.book_tables.proofs.SearchedPairs.{passes_over, searches_as, takes_over}
use Rattle.book_tables.proofs.nearby.step.Goals as goal

pub returns-in_default : goal.returns-in_default
returns-in_default g c =
    let old = c.args.search.now in
    let way = c.args.way in
    let new : Search = record { all = old.all; met = old.met; pairs = old.pairs; work = c.pop.new.self } in
    let none : c.pop.new.self.items ≡ [] = search rules in
    let same : c.pop.new.self.items ≡ old.work.items = sym (c.in_default.ensures.items ∙ append-nil _) in
    reads_nothing (g.D.Directs.inside c.args.directs.now) false (λ (o : Office) (more : Bool). GoesOn o.pairs way old new more)
    (λ o starts s. (searches_as o.pairs way starts old new refl refl refl same s, λ _. none))

pub returns-then-has : goal.returns-then-has
returns-then-has g c =
    let old = c.args.search.now in
    let way = c.args.way in
    let new : Search = record { all = old.all; met = old.met; pairs = old.pairs; work = c.pop.new.self } in
    reads_nothing (g.D.Directs.inside c.args.directs.now) true (λ (o : Office) (more : Bool). GoesOn o.pairs way old new more)
    (λ o starts s. (passes_over o.pairs way starts old c.pop.new.self.items c.in-Some.next c.in-Some.ensures.items s new refl refl refl refl (sym c.has.ensures ∙ c.if-has.true), λ e. absurd (true≢false e)))

pub returns-in_err-take : goal.returns-in_err-take
returns-in_err-take g c =
    let S0 : Inside = g.D.Directs.inside c.args.directs.now in
    let S1 : Inside = g.D.Directs.inside c.look.new.self in
    let way = c.args.way in
    let V : Office → Bool → Type 0 = λ o more. GoesOn o.pairs way c.args.search.now c.take.new.self more in
    let fails : ReadsInside {A = Bool} S0 S1 (Err Memory) V = then_gives_up S0 S1 c.in_ok-here.here (λ (o : Office) (ps : Memberships). ArePairsAt o.pairs way c.in-Some.next ps) c.in_ok-here.ensures V Memory S1.failures refl in
    passed_on S0 S1 Memory c.from_residual-in_err-take.result V V c.from_residual-in_err-take.ensures.1 fails

pub returns : goal.returns
returns g c =
    let S0 : Inside = g.D.Directs.inside c.args.directs.now in
    let S1 : Inside = g.D.Directs.inside c.look.new.self in
    let old = c.args.search.now in
    let way = c.args.way in
    let next = c.in-Some.next in
    let mid : Search = record { all = old.all; met = old.met; pairs = old.pairs; work = c.pop.new.self } in
    let new : Search = c.take.new.self in
    then_tells S0 S1 c.in_ok-here.here (λ (o : Office) (ps : Memberships). ArePairsAt o.pairs way next ps) c.in_ok-here.ensures true (λ (o : Office) (more : Bool). GoesOn o.pairs way old new more)
    (λ o at starts s. (takes_over o.pairs way starts old c.pop.new.self.items next c.in-Some.ensures.items s mid new refl refl refl refl c.in_ok-here.here at c.in_ok-take.ensures, λ e. absurd (true≢false e)))
