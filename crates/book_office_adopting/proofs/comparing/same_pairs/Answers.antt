use Rattle.book_office_adopting.proofs.Common.{◌≡◌, true, rules, sym, false≢true, AllByRecursion, Membership}
use Rattle.std.specs.FinSet as set
use Rattle.book_office_adopting.proofs.KeptPairs.{within, both_within, all_same}
use Rattle.book_office_adopting.proofs.comparing.same_pairs.Goals as goal

pub returns : goal.returns
returns c =
    let first : AllByRecursion (λ (m : Membership). set.contains c.args.other.now m ≡ true) c.in_ok-list.field-0.items = search rules in (
      λ e. both_within c.args.pairs.now c.args.other.now (within c.args.pairs.now c.args.other.now c.in_ok-list.field-0.items c.in_ok-list.ensures.pairs first)
          (within c.args.other.now c.args.pairs.now c.in_ok-list-2.field-0.items c.in_ok-list-2.ensures.pairs (c.are_there-2.ensures.0 e)),
      λ same. c.are_there-2.ensures.1 (all_same c.args.other.now c.args.pairs.now c.in_ok-list-2.field-0.items c.in_ok-list-2.ensures.pairs (sym same)),
    )

pub returns-then-not-are_there : goal.returns-then-not-are_there
returns-then-not-are_there c =
    let none : AllByRecursion (λ (m : Membership). set.contains c.args.other.now m ≡ true) c.in_ok-list.field-0.items → ⊥ = search rules in
    (λ e. absurd (false≢true e), λ same. absurd (none (all_same c.args.pairs.now c.args.other.now c.in_ok-list.field-0.items c.in_ok-list.ensures.pairs same)))
