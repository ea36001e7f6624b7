use Rattle.std.proofs.Common.{◌≡◌, ◌∙◌, List, ℕ, [], get_or, rules, arith}
use Rattle.book_lists_reach.proofs.RowPairs.{any_default}
use Rattle.book_lists_reach.proofs.Through.{numbers_all, numbers_more}
use Rattle.book_lists_reach.proofs.closing.numbers_of.Goals as goal

pub loop-row-init : goal.loop-row-init
loop-row-init c = λ i j l. absurd (omega arith)

pub loop-row-preserved : goal.loop-row-preserved
loop-row-preserved c =
    let rows : List (List ℕ) = c.args.rows.now in
    let n = c.loop-row.row-index in
    let row : List ℕ = c.row-item.result in
    let is : get_or rows n row ≡ row = search rules in
    numbers_more n rows row c.loop-row.numbers c.add_all.new.self (any_default rows n [] row c.loop-row-test.true ∙ is) c.in_ok-add_all.ensures c.loop-row.invariant

pub returns : goal.returns
returns c = numbers_all c.loop-row.row-index c.args.rows.now c.loop-row.numbers c.loop-row-test.false c.loop-row.invariant
