use Rattle.book_tables.proofs.Common.{◌≡◌, state, Inside, inside_of, Memberships, Office}
use Rattle.book_lists.specs.Memberships.{members_of}
use Rattle.book_tables.specs.Searching.{ArePairsAt}
use Rattle.book_tables.specs.declared.searching.Way.TheVariants.{Down}
use Rattle.book_tables.proofs.GroupsTold.{members_are}
use Rattle.book_tables.proofs.Readings.{reads_as}
use Rattle.book_tables.proofs.group_members.members.Goals as goal

pub returns-clause-reads : goal.returns-clause-reads
returns-clause-reads g c =
    let old : Inside = inside_of (state g.S.Store c.args.transaction.now.conn.now) c.args.failures.now in
    let new : Inside = inside_of (state g.S.Store c.look.new.transaction.conn.now) c.look.new.failures in
    let group = c.args.group.now in
    reads_as old new c.look.result (λ (o : Office) (pairs : Memberships). ArePairsAt o.pairs Down group pairs) (λ (o : Office) (pairs : Memberships). pairs ≡ members_of o.pairs group)
    (λ o pairs are. members_are group o.pairs pairs are) c.look.ensures.reads
