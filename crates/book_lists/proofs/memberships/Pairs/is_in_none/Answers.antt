use Rattle.book_lists.proofs.Common.{◌≡◌, false, sym, ap, ◌∙◌, unwrap_or, false≢true, path_cmp}
use Rattle.std.specs.FinSet as set
use Rattle.book_lists.proofs.GroupLists.{contains-pairs_in}
use Rattle.book_lists.proofs.memberships.Pairs.is_in_none.Goals as goal

pub returns-in-None : goal.returns-in-None
returns-in-None c is group direct = absurd (false≢true (none ∙ direct))
  where
    none : false ≡ set.contains c.args.self.now (record { group = group; member = c.args.member.now })
    none = rw (← c.self.view_is) (
        sym (set.contains-empty path_cmp group) ∙ ap (λ o. set.contains (unwrap_or o set.empty) group) c.in-None.ensures.value
        ∙ sym (contains-pairs_in c.self.inside.groups.entries c.self.invariant.0 group c.args.member.now))
