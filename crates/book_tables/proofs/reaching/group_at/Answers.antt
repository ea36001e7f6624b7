use Rattle.book_tables.proofs.Common.{◌≡◌, ◌≢◌, ℕ, List, ◌++◌, codes, rules, IsName, group_path}
use Rattle.book_tables.proofs.ReachedGroups.{group_found, no_group_at, no_name_at}
use Rattle.book_tables.proofs.reaching.group_at.Goals as goal

pub returns-clause-found : goal.returns-clause-found
returns-clause-found c =
    let path = c.args.path.now in
    let rest = c.in-Some.rest.now in
    let name = c.in-Some-2.name in
    let group = c.in_ok-group.field-0 in
    let e : path ≡ codes "/groups/" ++ rest = search rules in
    let is : name ≡ rest = search rules in
    let named : IsName name = search rules in
    let made : group ≡ group_path name = search rules in
    group_found path rest name group e is named made

pub returns-in_default-clause-none : goal.returns-in_default-clause-none
returns-in_default-clause-none c =
    let other : (rest : List ℕ) → c.args.path.now ≢ codes "/groups/" ++ rest = search rules in
    no_group_at c.args.path.now other

pub returns-in_default-2-clause-none : goal.returns-in_default-2-clause-none
returns-in_default-2-clause-none c =
    let e : c.args.path.now ≡ codes "/groups/" ++ c.in-Some.rest.now = search rules in
    let other : IsName c.in-Some.rest.now → ⊥ = search rules in
    no_name_at c.args.path.now c.in-Some.rest.now e other
