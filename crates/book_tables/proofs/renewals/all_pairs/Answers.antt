use Rattle.book_tables.proofs.Common.{sym, ap, ◌∙◌, list_any, eq_by_cmp, IfOk-weaker, List, Memberships, Membership, membership_cmp, memberships_total}
use Rattle.std.specs.FinSet as set
use Rattle.std.specs.FinSet.{contains-from_list}
use Rattle.book_tables.proofs.renewals.all_pairs.Goals as goal

pub returns : goal.returns
returns c =
    let list : List Membership = c.in_ok-list.list.items in
    IfOk-weaker c.rows_of_pairs.result _ _ (λ rows are m.
    are m
    ∙ ap (λ (l : List Membership). list_any (eq_by_cmp membership_cmp m) l) c.as_slice.ensures.value
    ∙ sym (contains-from_list memberships_total list m)
    ∙ ap (λ (pairs : Memberships). set.contains pairs m) c.in_ok-list.ensures) c.rows_of_pairs.ensures
