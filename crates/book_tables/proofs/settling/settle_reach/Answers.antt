use Rattle.book_tables.proofs.Common.{◌≡◌, ◌∙◌, arith, sym, subst, list_any, IsTrue, state, HasCleanDisk, Membership}
use Rattle.std.specs.FinSet as set
use Rattle.book_tables.specs.Listing.{tells_member}
use Rattle.book_tables.proofs.PairsTold.{AreTold}
use Rattle.book_tables.proofs.SettledReach.{was_settled, is_written}
use Rattle.book_tables.proofs.settling.settle_reach.Goals as goal

pub returns-then-branch-clause-told : goal.returns-then-branch-clause-told
returns-then-branch-clause-told g c clean inside =
    let old = state g.S.Store c.args.transaction.now.conn.now in
    let first = state g.S.Store c.member_rows.new.transaction.conn.now in
    let second = state g.S.Store c.reach_rows.new.transaction.conn.now in
    let clean_first : HasCleanDisk first = omega (arith, c.reach_rows.ensures.survives.clean, clean) in
    let closed = c.in_ok-wanted.ensures in
    let told : AreTold closed.0 c.in_ok-members.members.items = subst (AreTold closed.0) c.deref.ensures.value closed.1 in
    let same : (m : Membership) → list_any (tells_member m) c.in_ok-rows.rows.items ≡ set.contains c.in_ok-wanted.wanted m = subst (λ rs. (m : Membership) → list_any (tells_member m) rs ≡ set.contains c.in_ok-wanted.wanted m) c.deref-2.ensures.value (c.in_ok-tell_all.ensures c.if-branch.true) in
    was_settled old first c.in_ok-members.members.items closed.0 c.in_ok-wanted.wanted (c.in_ok-members.ensures.shown clean_first) told closed.2 (c.in_ok-members.ensures.stays clean_first)
    second c.in_ok-rows.rows.items (c.in_ok-rows.ensures.shown clean) (c.in_ok-rows.ensures.stays clean) same

pub returns-clause-told : goal.returns-clause-told
returns-clause-told g c clean inside =
    let old = state g.S.Store c.args.transaction.now.conn.now in
    let first = state g.S.Store c.member_rows.new.transaction.conn.now in
    let second = state g.S.Store c.reach_rows.new.transaction.conn.now in
    let fourth = state g.S.Store c.write_reach.new.transaction.conn.now in
    let clean_second : HasCleanDisk second = omega (arith, c.write_reach.ensures.survives.clean, clean) in
    let clean_first : HasCleanDisk first = omega (arith, c.reach_rows.ensures.survives.clean, clean_second) in
    let looks = c.in_ok-members.ensures.stays clean_first in
    let again = c.in_ok-rows.ensures.stays clean_second in
    let wrote = c.in_ok-write_reach.ensures.done clean (subst IsTrue (sym (again.mode ∙ looks.mode)) inside) in
    let closed = c.in_ok-wanted.ensures in
    let told : AreTold closed.0 c.in_ok-members.members.items = subst (AreTold closed.0) c.deref.ensures.value closed.1 in
    is_written old first c.in_ok-members.members.items closed.0 c.in_ok-wanted.wanted (c.in_ok-members.ensures.shown clean_first) told closed.2 looks
    second fourth wrote.0 again wrote.2 wrote.1
