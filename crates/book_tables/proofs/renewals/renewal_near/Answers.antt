use Rattle.book_tables.proofs.Common.{map, subst, IfOk-weaker}
use Rattle.book_office.specs.Edits.{members_set}
use Rattle.book_tables_rows.specs.Reach.{pair_said}
use Rattle.book_tables.specs.Reach.{Renews}
use Rattle.book_tables.proofs.renewals.renewal_near.Goals as goal

pub returns : goal.returns
returns c =
    let pairs = c.args.near.now.pairs in
    IfOk-weaker c.renewal_for.result _ _ (λ r renews. record {
      kept = c.in_ok-kept.kept.items;
      are = c.in_ok-kept.ensures;
      renews = subst (λ ms. Renews pairs (members_set pairs c.args.group.now ms) (map pair_said r.gone.items) (map pair_said r.come.items)) c.as_slice.ensures.value renews;
    }) c.renewal_for.ensures
