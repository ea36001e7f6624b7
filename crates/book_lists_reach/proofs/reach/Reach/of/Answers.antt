use Rattle.std.proofs.Common.{◌≡◌, ◌∙◌, List, ℕ, ap, sym, subst}
use Rattle.book_lists.specs.Memberships.{Memberships, set_of}
use Rattle.book_lists.specs.declared.memberships.Membership.{Membership}
use Rattle.book_lists_reach.specs.Numbering.{HasEnds}
use Rattle.book_lists_reach.specs.Pairs.{pairs_in_rows}
use Rattle.book_lists_reach.proofs.Places.{are_numbered}
use Rattle.book_lists_reach.proofs.reach.Reach.of.Goals as goal

pub returns : goal.returns
returns c =
    let pairs : Memberships = c.args.pairs.now in
    let ps : List (List ℕ) = c.as_slice-2.result.now in
    let list : List Membership = c.as_slice-3.result.now in
    let same_ps : ps ≡ c.in_ok-principals.principals.items = c.as_slice-2.ensures.value in
    let same_list : list ≡ c.in_ok-list.list.items = c.as_slice-3.ensures.value in
    let first : c.as_slice.result.now ≡ list = c.as_slice.ensures.value ∙ sym same_list in
    let ends : HasEnds list ps = subst (λ l. HasEnds l ps) first (subst (HasEnds c.as_slice.result.now) (sym same_ps) c.in_ok-principals.ensures.ends) in
    let is : set_of list ≡ pairs = ap set_of same_list ∙ c.in_ok-list.ensures.pairs in
    subst (λ xs. pairs_in_rows xs c.mark_all.new.rows.items ≡ pairs) same_ps
    (are_numbered ps c.in_ok-rows.rows.items c.mark_all.new.rows.items list pairs c.in_ok-_all._all c.in_ok-_all.ensures.marked c.in_ok-_all.ensures.missing ends c.in_ok-rows.ensures.none is)
