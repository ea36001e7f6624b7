use Rattle.std.proofs.Common.{◌≡◌, List, ℕ, length, subst, rules}
use Rattle.book_lists.specs.Memberships.{IsReachOf, Memberships}
use Rattle.book_lists_reach.specs.Pairs.{pairs_in_rows}
use Rattle.book_lists_reach.proofs.reach.Reach.closed.Goals as goal

pub returns : goal.returns
returns c =
    let ps : List (List ℕ) = c.reach.inside.principals.items in
    let even : length ps ≡ c.reach.inside.rows.len = search rules in
    let same : pairs_in_rows ps c.reach.inside.rows.items ≡ c.args.self = c.reach.view_is in
    subst (λ (p : Memberships). IsReachOf p (pairs_in_rows ps c.go_through.new.rows.items)) same (c.in_ok-go_through.ensures.ok ps c.reach.invariant.0 even)
