use Rattle.book_tables.proofs.Common.{◌≡◌, ◌+◌, ◌++◌, ◌∷◌, [], ◌∙◌, ap, sym, subst, get_or, map, take, rules}
use Rattle.std.proofs.lemmas.List.{map-append}
use Rattle.book_tables_rows.specs.Reach.{pair_said}
use Rattle.book_tables.specs.Reach.{pair_of}
use Rattle.book_tables.proofs.RowsOfPairs.{AreRowsOf, one_more_row}
use Rattle.book_tables.proofs.renewals.rows_of_pairs.Goals as goal

pub pairs-preserved : goal.pairs-preserved
pairs-preserved c =
    let list = c.args.list.now in
    let i = c.pairs.pair-index in
    let e = c.pair-item.result in
    let before = map pair_said c.pairs.rows.items in
    let row = c.in_ok-row_of.field-0 in
    let is : get_or list i e ≡ e = search rules in
    let said : pair_said row ≡ pair_of e = c.in_ok-row_of.ensures in
    let all : map pair_said c.push.new.self.items ≡ before ++ pair_of e ∷ [] =
    ap (map pair_said) c.in_ok-push.ensures.items ∙ map-append pair_said c.pairs.rows.items (row ∷ []) ∙ ap (λ p. before ++ p ∷ []) said in
    subst (AreRowsOf (take (i + 1) list)) (sym all) (one_more_row list i e before c.pairs-test.true is c.pairs.invariant)
