use Rattle.book_tables.proofs.Common.{w64, ◌∙◌, rules, sym, subst, to_z-of_z}
use Rattle.std.proofs.Common.{FitsSigned}
use Rattle.std.specs.Prelude.{◌≤ℤ◌}
use Rattle.std.proofs.lemmas.List.{take_all}
use Rattle.book_tables.specs.Spans.{AreWithin}
use Rattle.book_tables.proofs.BareSpans.{one_more}
use Rattle.book_tables.proofs.spans.span_of.Goals as goal

pub rows-preserved : goal.rows-preserved
rows-preserved c =
    let low : FitsSigned w64 c.min-first.result = search rules in
    let high : FitsSigned w64 c.max-last.result = search rules in
    let own : FitsSigned w64 c.int_at-number.result = search rules in
    let number = to_z-of_z w64 c.int_at-number.result own ∙ c.int_at-number.ensures in
    let least = c.min-first.ensures in
    let most = c.max-last.ensures in
    rw (to_z-of_z w64 c.min-first.result low, to_z-of_z w64 c.max-last.result high)
    (one_more _ _ c.args.rows.now c.rows.row-index c.row-item.result c.rows-test.true (sym c.row-item.is) c.min-first.result c.max-last.result least.self_bound most.self_bound
    (subst (λ n. c.min-first.result ≤ℤ n) number least.other_bound) (subst (λ n. n ≤ℤ c.max-last.result) number most.other_bound) c.rows.invariant)

pub returns : goal.returns
returns c = subst (AreWithin _ _) (take_all c.rows.row-index c.args.rows.now c.rows-test.false) c.rows.invariant
