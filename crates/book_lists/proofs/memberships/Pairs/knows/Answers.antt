use Rattle.book_lists.proofs.Common.{Bool, true, false, not, IsTrue, sym, ap, ◌∙◌, unwrap_or, false≢true, path_cmp}
use Rattle.std.specs.FinSet as set
use Rattle.book_lists.specs.Memberships.{Memberships}
use Rattle.book_lists.proofs.GroupLists.{contains-pairs_in}
use Rattle.book_lists.proofs.memberships.Pairs.knows.Goals as goal

-- twice not
plain : (b : Bool) → IsTrue (not (not b)) → IsTrue b
plain true h = h
plain false h = h

pub returns-in-Some-clause-some : goal.returns-in-Some-clause-some
returns-in-Some-clause-some c is =
    let one = c.is_empty.ensures.some is in (
      one.0,
      sym (ap (λ o. set.contains (unwrap_or o set.empty) one.0) c.in-Some.ensures.value
          ∙ sym (contains-pairs_in c.self.inside.groups.entries c.self.invariant.0 one.0 c.args.member.now)
          ∙ ap (λ (s : Memberships). set.contains s (record { group = one.0; member = c.args.member.now })) c.self.view_is) ∙ one.1,
    )

pub returns-in-Some-clause-none : goal.returns-in-Some-clause-none
returns-in-Some-clause-none c is group direct =
    let none = c.is_empty.ensures.none (plain c.is_empty.result is) group in
    false≢true (sym none ∙ ap (λ o. set.contains (unwrap_or o set.empty) group) c.in-Some.ensures.value
    ∙ sym (contains-pairs_in c.self.inside.groups.entries c.self.invariant.0 group c.args.member.now)
    ∙ ap (λ (s : Memberships). set.contains s (record { group = group; member = c.args.member.now })) c.self.view_is ∙ direct)

pub returns-in-None-clause-none : goal.returns-in-None-clause-none
returns-in-None-clause-none c is group direct =
    false≢true (sym (set.contains-empty path_cmp group) ∙ ap (λ o. set.contains (unwrap_or o set.empty) group) c.in-None.ensures.value
    ∙ sym (contains-pairs_in c.self.inside.groups.entries c.self.invariant.0 group c.args.member.now)
    ∙ ap (λ (s : Memberships). set.contains s (record { group = group; member = c.args.member.now })) c.self.view_is ∙ direct)
