use Rattle.book_lists.proofs.Common.{◌≡◌, Some, sym, ap, ◌∙◌, cond, unwrap_or, subst, refl, Ok, is_at, lookup, groups_at, path_cmp}
use Rattle.std.proofs.Common.{IsSome, Result, Err, OnErr}
use Rattle.std.specs.FinSet as set
use Rattle.book_lists.proofs.GroupLists.{added_is_insert, same_pairs, written_back}
use Rattle.book_lists.proofs.memberships.add_group.Goals as goal

on_err : {A E : Type 0} {P : Type 0} (r : Result A E) → P → OnErr r P
on_err (Ok x) p = tt
on_err (Err e) p = p

pub returns-in-Some-clause-ok : goal.returns-in-Some-clause-ok
returns-in-Some-clause-ok c =
    let old = c.args.groups.now.entries in
    let held = c.get_mut.follows.holds c.insert.new.self in
    let there : groups_at old c.args.member ≡ c.in-Some.direct.now = ap (λ o. unwrap_or o set.empty) (sym c.in-Some.ensures.value) in
    let more : c.insert.new.self ≡ set.insert (groups_at old c.args.member) c.args.group = c.in_ok-insert.ensures.ok ∙ ap (λ s. set.insert s c.args.group) (sym there) in
    let some : IsSome (lookup (is_at (path_cmp c.args.member)) old) = subst IsSome c.in-Some.ensures.value refl in
    added_is_insert old _ c.requires held.4 c.args.group c.args.member
    (λ q. (held.3 some).0 q ∙ ap (λ s. cond (is_at (path_cmp c.args.member) q) (Some s) (lookup (is_at (path_cmp q)) old)) more)

pub returns-in_err-insert-clause-err : goal.returns-in_err-insert-clause-err
returns-in_err-insert-clause-err c =
    let old = c.args.groups.now.entries in
    let held = c.get_mut.follows.holds c.insert.new.self in
    let some : IsSome (lookup (is_at (path_cmp c.args.member)) old) = subst IsSome c.in-Some.ensures.value refl in
    let same = same_pairs old (c.get_mut.follows.lender c.insert.new.self).entries c.requires held.4
    (λ q. (held.3 some).0 q ∙ ap (λ s. cond (is_at (path_cmp c.args.member) q) (Some s) (lookup (is_at (path_cmp q)) old)) c.in_err-insert.ensures.err
    ∙ written_back old c.args.member c.in-Some.direct.now c.in-Some.ensures.value q) in
    on_err c.from_residual.result same

pub returns-clause-ok : goal.returns-clause-ok
returns-clause-ok c =
    let old = c.args.groups.now.entries in
    let e = c.in_ok-insert-3.ensures in
    let none : groups_at old c.args.member ≡ set.empty = ap (λ o. unwrap_or o set.empty) (sym c.in_default.ensures.value) in
    let one : c.insert-2.new.self ≡ set.insert (groups_at old c.args.member) c.args.group = c.in_ok-insert-2.ensures.ok ∙ ap (λ s. set.insert s c.args.group) (c.new-direct.ensures ∙ sym none) in
    added_is_insert old c.insert-3.new.self.entries c.requires e.ordered c.args.group c.args.member
    (λ q. e.updates.0 q
    ∙ ap (λ m. cond (is_at (path_cmp c.args.member) q) (Some c.insert-2.new.self) (lookup (is_at (path_cmp q)) m.entries)) c.get_mut.follows.holds-at-none
    ∙ ap (λ s. cond (is_at (path_cmp c.args.member) q) (Some s) (lookup (is_at (path_cmp q)) old)) one)
