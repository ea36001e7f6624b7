use Rattle.book_tables.proofs.Common.{◌≡◌, get_or, rules, ap, ◌∙◌, Memberships, membership_cmp}
use Rattle.std.specs.FinSet as set
use Rattle.std.specs.FinSet.{contains-empty}
use Rattle.book_tables.proofs.PairsTold.{one_more_told}
use Rattle.book_tables.proofs.members.pairs_of.Goals as goal

pub loop-row-init : goal.loop-row-init
loop-row-init c = λ m. ap (λ (pairs : Memberships). set.contains pairs m) c.new-pairs.ensures ∙ contains-empty membership_cmp m

pub loop-row-preserved : goal.loop-row-preserved
loop-row-preserved c =
    let item = c.row-item.result in
    let e = c.in_ok-membership.membership in
    let is : get_or c.args.rows.now c.loop-row.row-index item ≡ item = search rules in
    let added : c.add.new.self ≡ set.insert c.loop-row.pairs e = search rules in
    λ m. ap (λ (pairs : Memberships). set.contains pairs m) added
    ∙ one_more_told c.loop-row.pairs c.args.rows.now c.loop-row.row-index item e c.loop-row-test.true is c.in_ok-membership.ensures.group c.in_ok-membership.ensures.member c.loop-row.invariant m
