use Rattle.book_tables.proofs.Common.{map}
use Rattle.book_tables_rows.specs.Reach.{pair_said}
use Rattle.book_tables.proofs.RenewedReach.{renews_by}
use Rattle.book_tables.proofs.renewals.renewal_between.Goals as goal

pub returns : goal.returns
returns c =
    renews_by c.args.old c.args.new.now c.in_ok-before.before c.in_ok-after.after (map pair_said c.in_ok-gone.gone.items) (map pair_said c.in_ok-come.come.items)
    c.in_ok-before.ensures c.in_ok-after.ensures c.in_ok-gone.ensures c.in_ok-come.ensures
