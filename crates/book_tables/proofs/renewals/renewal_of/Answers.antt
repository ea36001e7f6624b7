use Rattle.book_tables.proofs.Common.{◌≡◌, ◌∙◌, List, [], ap, map, sym, subst, Memberships}
use Rattle.std.proofs.Common.{IfOk}
use Rattle.book_lists.specs.Memberships.{set_of}
use Rattle.book_tables_rows.specs.Reach.{pair_said}
use Rattle.book_tables_rows.specs.Writes.{Pair}
use Rattle.book_tables.specs.Reach.{Renews}
use Rattle.book_tables.proofs.RowsOfPairs.{renews_none}
use Rattle.book_tables.proofs.renewals.renewal_of.Goals as goal

pub returns-then-branch : goal.returns-then-branch
returns-then-branch c =
    let old : Memberships = c.args.old.now in
    let new : Memberships = c.args.new.now in
    let same : new ≡ old = sym c.in_ok-list.ensures.pairs ∙ ap set_of (sym c.as_slice.ensures.value) ∙ c.in_ok-are_those_of.ensures.0 c.if-branch.true ∙ c.in_ok-direct.ensures in
    let no_gone : map pair_said c.new.result.items ≡ [] = ap (map pair_said) c.new.ensures.items in
    let no_come : map pair_said c.new-then-branch.result.items ≡ [] = ap (map pair_said) c.new-then-branch.ensures.items in
    subst (λ (g : List Pair). Renews old new g (map pair_said c.new-then-branch.result.items)) (sym no_gone) (subst (λ (h : List Pair). Renews old new [] h) (sym no_come) (renews_none old new same))

pub returns : goal.returns
returns c =
    subst (λ (o : Memberships). IfOk c.renewal_between.result (λ r. Renews o c.args.new.now (map pair_said r.gone.items) (map pair_said r.come.items))) c.in_ok-direct.ensures c.renewal_between.ensures
