use Rattle.book_lists.proofs.Common.{◌-◌, ◌^◌, sym, ap, ◌∙◌, membership_cmp, pairs_in}
use Rattle.std.proofs.Common.{min}
use Rattle.std.specs.FinSet as set
use Rattle.book_lists.proofs.memberships.Pairs.new.Goals as goal

pub invariant_of-result : goal.invariant_of-result
invariant_of-result c = (
  c.new.ensures.ordered,
  sym (ap (λ es. min (set.len (pairs_in es)) (2 ^ 64 - 1)) c.new.ensures.empty ∙ ap (λ n. min n (2 ^ 64 - 1)) (set.len-empty membership_cmp)),
)
