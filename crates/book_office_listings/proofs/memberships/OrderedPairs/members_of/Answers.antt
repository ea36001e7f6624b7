use Rattle.book_office_listings.proofs.Common.{◌∙◌, sym, subst, ap, map, IsStrictlySortedBy, membership_cmp}
use Rattle.std.proofs.lemmas.Result.{IfOk-weaker}
use Rattle.book_lists.specs.declared.memberships.Membership.{Membership}
use Rattle.book_office_listings.specs.Values.{members_in}
use Rattle.book_office_listings.proofs.memberships.OrderedPairs.members_of.Goals as goal

pub returns : goal.returns
returns c =
    let pairs = c.pairs_of-pairs.ensures (subst (IsStrictlySortedBy membership_cmp) (sym c.as_slice.ensures.value) c.self.invariant) in
    IfOk-weaker c.members_among.result _ _ (λ members is.
    is ∙ ap (map (λ (m : Membership). m.member)) pairs ∙ ap (λ l. members_in l c.args.group.now) (c.as_slice.ensures.value ∙ c.self.view_is)) c.members_among.ensures
