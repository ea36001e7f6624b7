use Rattle.book_lists.proofs.Common.{sym, ap, ◌∙◌, unwrap_or, path_cmp}
use Rattle.std.specs.FinSet as set
use Rattle.book_lists.proofs.GroupLists.{contains-pairs_in}
use Rattle.book_lists.proofs.memberships.Pairs.has.Goals as goal

pub returns-in-Some : goal.returns-in-Some
returns-in-Some c = rw (← c.self.view_is) (
    c.has.ensures ∙ ap (λ o. set.contains (unwrap_or o set.empty) c.args.group.now) c.in-Some.ensures.value
    ∙ sym (contains-pairs_in c.self.inside.groups.entries c.self.invariant.0 c.args.group.now c.args.member.now))

pub returns-in-None : goal.returns-in-None
returns-in-None c = rw (← c.self.view_is) (
    sym (set.contains-empty path_cmp c.args.group.now) ∙ ap (λ o. set.contains (unwrap_or o set.empty) c.args.group.now) c.in-None.ensures.value
    ∙ sym (contains-pairs_in c.self.inside.groups.entries c.self.invariant.0 c.args.group.now c.args.member.now))
