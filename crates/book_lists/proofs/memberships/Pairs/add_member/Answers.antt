use Rattle.book_lists.proofs.Common.{◌≡◌, ℕ, List, Some, cond, ◌∙◌, ap, subst, arith, is_at, lookup, pairs_in, path_cmp}
use Rattle.std.specs.FinSet as set
use Rattle.book_lists.specs.Memberships.{Memberships, GetsGroups, IsDirect}
use Rattle.book_lists.proofs.Reaching.{gets_groups, len-gets}
use Rattle.book_lists.proofs.memberships.Pairs.add_member.Goals as goal

pub invariant_of-self-2 : goal.invariant_of-self-2
invariant_of-self-2 c =
    let old = c.self.inside.groups.entries in
    let new = c.insert.new.self.entries in
    let member = c.args.member.now in
    let e = c.in_ok-insert.ensures in
    let none : (group : List ℕ) → IsDirect (pairs_in old) group member → ⊥ = λ group d. c.requires group (subst (λ (s : Memberships). IsDirect s group member) c.self.view_is d) in
    let updated : (q : List ℕ) → lookup (is_at (path_cmp q)) new ≡ cond (is_at (path_cmp member) q) (Some c.args.groups) (lookup (is_at (path_cmp q)) old) = λ q.
    e.updates.0 q ∙ ap (λ k. cond (is_at (path_cmp k) q) (Some c.args.groups) (lookup (is_at (path_cmp q)) old)) c.in_ok-clone.ensures.cases in
    let gets = gets_groups old new c.self.invariant.0 e.ordered member c.args.groups none updated in
    let len = len-gets (pairs_in old) (pairs_in new) member c.args.groups c.len-added.result none c.len-added.ensures gets in
    (e.ordered, omega (arith, len, c.self.invariant.1, c.saturating_add-self-inside.ensures))

pub returns : goal.returns
returns c =
    let old = c.self.inside.groups.entries in
    let new = c.insert.new.self.entries in
    let member = c.args.member.now in
    let e = c.in_ok-insert.ensures in
    let none : (group : List ℕ) → IsDirect (pairs_in old) group member → ⊥ = λ group d. c.requires group (subst (λ (s : Memberships). IsDirect s group member) c.self.view_is d) in
    let updated : (q : List ℕ) → lookup (is_at (path_cmp q)) new ≡ cond (is_at (path_cmp member) q) (Some c.args.groups) (lookup (is_at (path_cmp q)) old) = λ q.
    e.updates.0 q ∙ ap (λ k. cond (is_at (path_cmp k) q) (Some c.args.groups) (lookup (is_at (path_cmp q)) old)) c.in_ok-clone.ensures.cases in
    subst (λ (s : Memberships). GetsGroups s member (set.contains c.args.groups) (pairs_in new)) c.self.view_is (gets_groups old new c.self.invariant.0 e.ordered member c.args.groups none updated)
