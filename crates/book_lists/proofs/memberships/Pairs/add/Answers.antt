use Rattle.book_lists.proofs.Common.{◌≡◌, ◌+◌, sym, ap, ◌∙◌, cond, false, arith, pairs_in}
use Rattle.std.specs.FinSet as set
use Rattle.book_lists.proofs.GroupLists.{inserted_again}
use Rattle.book_lists.proofs.Pairing.{memberships_total}
use Rattle.book_lists.proofs.memberships.Pairs.add.Goals as goal

pub returns-then-has-clause-ok : goal.returns-then-has-clause-ok
returns-then-has-clause-ok c = inserted_again c.args.self.now (record { group = c.args.group; member = c.args.member }) (sym c.has.ensures ∙ c.if-has.true)

pub invariant_of-self-2 : goal.invariant_of-self-2
invariant_of-self-2 c =
    let old = pairs_in c.self.inside.groups.entries in
    let absent : set.contains old (record { group = c.args.group; member = c.args.member }) ≡ false =
    ap (λ s. set.contains s (record { group = c.args.group; member = c.args.member })) c.self.view_is ∙ sym c.has.ensures ∙ c.if-has.false in
    let len : set.len (pairs_in c.add_group.new.groups.entries) ≡ set.len old + 1 =
    ap set.len c.in_ok-add_group.ensures.ok ∙ set.len-insert memberships_total old (record { group = c.args.group; member = c.args.member })
    ∙ ap (λ b. cond b (set.len old) (set.len old + 1)) absent in
    (c.in_ok-add_group.ensures.ordered, omega (arith, len, c.self.invariant.1, c.saturating_add-self-inside.ensures))
