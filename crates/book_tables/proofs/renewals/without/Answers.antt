use Rattle.book_tables.proofs.Common.{ap, ◌∙◌, list_any, eq_by_cmp, IfOk-weaker, List, Membership, membership_cmp}
use Rattle.book_tables.proofs.renewals.without.Goals as goal

pub returns : goal.returns
returns c =
    IfOk-weaker c.rows_of_pairs.result _ _ (λ rows are m. are m ∙ ap (λ (l : List Membership). list_any (eq_by_cmp membership_cmp m) l) c.as_slice.ensures.value ∙ c.in_ok-list.ensures m) c.rows_of_pairs.ensures
