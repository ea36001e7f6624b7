use Rattle.book_office_adopting.proofs.Common.{◌≡◌, rules, ap, ◌∙◌, kept_pairs}
use Rattle.book_office_adopting.proofs.KeptPairs.{kept_adopted}
use Rattle.book_office_adopting.proofs.adopting.pairs_under.Goals as goal

pub returns : goal.returns
returns c =
    let members : c.in_ok-pairs.pairs ≡ c.args.policy.now.members = search rules in
    c.in_ok-keep_pairs.ensures ∙ ap (λ s. kept_pairs c.args.policy.now s c.in_ok-list.field-0.items) members
    ∙ kept_adopted c.args.policy.now c.args.old.now c.in_ok-list.field-0.items c.in_ok-list.ensures.pairs
