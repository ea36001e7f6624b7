use Rattle.std.proofs.Common.{◌∙◌, ◌+◌, Bool, sym, ap, arith}
use Rattle.book_dumps.specs.declared.lines.Line.{Line}
use Rattle.book_office_values.specs.Paths.{kind_of}
use Rattle.book_dumps_counts.specs.Counts.{is_card}
use Rattle.book_dumps_counts.proofs.Sums.{counted_in, counted_no, counted_yes}
use Rattle.book_dumps_counts.proofs.counting.card_count.Goals as goal
use Rattle.book_dumps_counts.proofs.counting.card_count.Goals.{then-is_card, else-is_card}

abbrev passes : Line → Bool
passes line = is_card (kind_of line.path)

pub overflow_add-count : goal.overflow_add-count
overflow_add-count c = omega (arith, counted_in passes c.args.lines.now c.loop-line.line-index, c.loop-line.invariant, c.loop-line-test.true)

pub loop-line-preserved : goal.loop-line-preserved
loop-line-preserved c =
    let i = c.loop-line.line-index in
    let lines = c.args.lines.now in
    let line = c.line-item.result in
    elim c.if-is_card.branch [
      | then-is_card w ↦ w.count-is ∙ ap (λ k. k + 1) c.loop-line.invariant ∙ sym (counted_yes passes lines i line c.loop-line-test.true c.line-item.is (sym c.is_card.ensures ∙ w.if-is_card.true))
      | else-is_card w ↦ w.count-is ∙ c.loop-line.invariant ∙ sym (counted_no passes lines i line c.loop-line-test.true c.line-item.is (sym c.is_card.ensures ∙ w.if-is_card.false))
    ]
