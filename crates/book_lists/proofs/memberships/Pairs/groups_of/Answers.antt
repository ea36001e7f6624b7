use Rattle.book_lists.proofs.Common.{sym, ap, ◌∙◌, unwrap_or}
use Rattle.std.specs.FinSet as set
use Rattle.book_lists.proofs.GroupLists.{contains-pairs_in}
use Rattle.book_lists.proofs.memberships.Pairs.groups_of.Goals as goal

pub returns-in_ok-clone-in-Some : goal.returns-in_ok-clone-in-Some
returns-in_ok-clone-in-Some c q = rw (← c.self.view_is, c.in_ok-clone-in-Some.ensures.cases) (
    ap (λ o. set.contains (unwrap_or o set.empty) q) c.in-Some.ensures.value
    ∙ sym (contains-pairs_in c.self.inside.groups.entries c.self.invariant.0 q c.args.member.now))

pub returns-in-None : goal.returns-in-None
returns-in-None c q = rw (← c.self.view_is) (
    ap (λ s. set.contains s q) c.new.ensures
    ∙ ap (λ o. set.contains (unwrap_or o set.empty) q) c.in-None.ensures.value
    ∙ sym (contains-pairs_in c.self.inside.groups.entries c.self.invariant.0 q c.args.member.now))
