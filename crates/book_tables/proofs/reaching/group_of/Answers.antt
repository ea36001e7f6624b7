use Rattle.book_tables.proofs.Common.{◌≡◌, rules, Text, IfOk-weaker}
use Rattle.book_tables.specs.Reach.{reached_group}
use Rattle.book_tables.proofs.ReachedGroups.{some_told, none_told}
use Rattle.book_tables.proofs.reaching.group_of.Goals as goal

pub returns-clause-found : goal.returns-clause-found
returns-clause-found c =
    let path = c.as_str.result.now in
    let is : reached_group c.args.row.now ≡ Text path = search rules in
    IfOk-weaker c.group_at.result _ _ (λ group found. some_told c.args.row.now path is group found) c.group_at.ensures.found

pub returns-clause-none : goal.returns-clause-none
returns-clause-none c =
    let path = c.as_str.result.now in
    let is : reached_group c.args.row.now ≡ Text path = search rules in
    IfOk-weaker c.group_at.result _ _ (λ group none. none_told c.args.row.now path is group none) c.group_at.ensures.none
