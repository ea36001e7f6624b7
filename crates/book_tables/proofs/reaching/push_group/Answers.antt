use Rattle.book_tables.proofs.Common.{◌≡◌, ℕ, List, [], ◌∷◌, ◌++◌, inl, inr, false, refl, rules, subst, Text}
use Rattle.std.proofs.Common.{IfSome, IfNone}
use Rattle.book_lists.specs.Principals.{IsGroup}
use Rattle.book_tables.specs.Reach.{reached_group, tells_group}
use Rattle.book_tables.proofs.reaching.push_group.Goals as goal

pub returns-in_ok-push-in-Some : goal.returns-in_ok-push-in-Some
returns-in_ok-push-in-Some c =
    let row = c.args.row.now in
    let group = c.in-Some.group in
    let found : IsGroup group × (reached_group row ≡ Text group) = subst (λ g. IfSome g (λ q. IsGroup q × (reached_group row ≡ Text q))) c.in-Some.is c.in_ok-group.ensures.found in
    let pushed : c.push.new.self.items ≡ c.args.groups.now.items ++ group ∷ [] = search rules in
    inl (group, found.0, found.1, pushed)

pub returns-in-None : goal.returns-in-None
returns-in-None c =
    let row = c.args.row.now in
    let none : (q : List ℕ) → IsGroup q → tells_group q row ≡ false = subst (λ g. IfNone g ((q : List ℕ) → IsGroup q → tells_group q row ≡ false)) c.in-None.is c.in_ok-group.ensures.none in
    inr (none, refl)
