use Rattle.book_log_denials.proofs.Common.{◌≡◌, [], sym, ap, ◌∙◌}
use Rattle.std.proofs.Common.{arith, drop, option_copied}
use Rattle.std.proofs.lemmas.List.{drop_all}
use Rattle.std.specs.FinMap as map
use Rattle.book_log_denials.proofs.LinesInTurn.{counts_all}
use Rattle.book_log_denials.specs.Denials.{with_lines}
use Rattle.book_log_denials.proofs.counting.groups_of.Goals as goal

pub returns : goal.returns
returns c = λ group.
    let since = option_copied c.args.since in
    let lines = c.args.lines.now in
    let done : drop c.loop-line.line-index lines ≡ [] =
    drop_all c.loop-line.line-index lines (omega (arith, c.loop-line-test.false)) in
    ap (λ m. map.get m group)
    (sym (ap (with_lines c.args.form since c.loop-line.groups) done) ∙ c.loop-line.invariant ∙ ap (λ m. with_lines c.args.form since m lines) c.new-groups.ensures)
    ∙ counts_all c.args.form since lines group
