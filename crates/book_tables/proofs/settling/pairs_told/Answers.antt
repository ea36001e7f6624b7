use Rattle.book_tables.proofs.Common.{◌≡◌, ◌+◌, ◌++◌, ◌∷◌, [], List, get_or, rules, sym, subst, take, Text, Membership}
use Rattle.std.proofs.Common.{IfSome}
use Rattle.book_tables_rows.specs.Lists.{pair_group, pair_member}
use Rattle.book_tables.proofs.RowsOfPairs.{AreListed, one_more_listed}
use Rattle.book_tables.proofs.settling.pairs_told.Goals as goal

pub rows-preserved : goal.rows-preserved
rows-preserved c =
    let rows = c.args.rows.now in
    let i = c.rows.row-index in
    let item = c.row-item.result in
    let e = c.in-Some.pair in
    let is : get_or rows i item ≡ item = search rules in
    let group : pair_group item ≡ Text e.group = subst (λ p. IfSome p (λ (m : Membership). pair_group item ≡ Text m.group)) c.in-Some.is c.in_ok-pair.ensures.group in
    let member : pair_member item ≡ Text e.member = subst (λ p. IfSome p (λ (m : Membership). pair_member item ≡ Text m.member)) c.in-Some.is c.in_ok-pair.ensures.member in
    let more : c.push.new.self.items ≡ c.rows.pairs.items ++ e ∷ [] = c.in_ok-push.ensures.items in
    subst (λ (l : List Membership). AreListed l (take (i + 1) rows)) (sym more) (one_more_listed c.rows.pairs.items rows i item e c.rows-test.true is group member c.rows.invariant)
