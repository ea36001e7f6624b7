use Rattle.std.proofs.Common.{◌≡◌, ◌<◌, List, [], length, ap, arith, sym, rules}
use Rattle.std.proofs.lemmas.Bool.{false≢true}
use Rattle.std.proofs.lemmas.List.{nil_from_length}
use Rattle.book_lists.specs.declared.memberships.Membership.{Membership}
use Rattle.book_lists_reach.proofs.Listing.{none_where, same_where_none, some_left}
use Rattle.book_lists_reach.proofs.reach.are_same.Goals as goal

pub returns-then-not-is_empty : goal.returns-then-not-is_empty
returns-then-not-is_empty c =
    let gone : List Membership = c.in_ok-gone.gone.items in
    let many : 0 < length gone = search rules in
    let some : gone ≡ [] → ⊥ = λ e. let none : length gone ≡ 0 = ap length e in omega (arith, many, none) in
    (λ no. absurd (false≢true no), λ same. absurd (some_left c.args.reach.now c.args.others.now gone some c.in_ok-gone.ensures same))

pub returns : goal.returns
returns c =
    let gone : List Membership = c.in_ok-gone.gone.items in
    let come : List Membership = c.in_ok-come.come.items in
    let few : length gone ≡ 0 = search rules in
    let no_gone : gone ≡ [] = nil_from_length gone few in (
      λ yes.
          let few_come : length come ≡ 0 = search rules in
          same_where_none c.args.reach.now c.args.others.now gone come c.in_ok-gone.ensures c.in_ok-come.ensures no_gone (nil_from_length come few_come),
      λ same.
          let none : length come ≡ 0 = ap length (none_where come (λ some. some_left c.args.others.now c.args.reach.now come some c.in_ok-come.ensures (sym same))) in
          search rules,
    )
