use Rattle.book_tables.proofs.Common.{w64, rules, to_z-of_z, IfOk-weaker, state}
use Rattle.std.proofs.Common.{FitsSigned}
use Rattle.book_tables.proofs.BareSpans.{told_none}
use Rattle.book_tables.proofs.spans.have_no_entries.Goals as goal

pub returns-clause-told : goal.returns-clause-told
returns-clause-told g c clean =
    let old = state g.S.Store c.args.transaction.now.conn.now in
    let first = c.span_of-first.result.0 in
    let last = c.span_of-first.result.1 in
    let low : FitsSigned w64 first = search rules in
    let high : FitsSigned w64 last = search rules in
    let shown = rw (to_z-of_z w64 first low, to_z-of_z w64 last high) at (c.none_between.ensures.shown clean) in
    IfOk-weaker c.none_between.result _ _ (λ none shows. told_none old c.args.rows.now first last none c.span_of-first.ensures shows) shown
