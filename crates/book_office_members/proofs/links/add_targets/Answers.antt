use Rattle.book_office_members.proofs.Common.{◌≡◌, ◌||◌, None, Some, cond, unwrap_or, ap, ◌∙◌, has_path, groups_at, path_cmp}
use Rattle.std.specs.BTreeMap.{is_at}
use Rattle.std.specs.FinSet as set
use Rattle.std.specs.Map.{lookup}
use Rattle.book_office_members.proofs.Linking.{targets_more}
use Rattle.book_office_members.proofs.links.add_targets.Goals as goal
use Rattle.book_office_members.proofs.links.add_targets.Goals.{in-Some, in-None}
use Rattle.book_office_values.proofs.NameMapLaws.{chosen_once}

pub returns-clause-ok : goal.returns-clause-ok
returns-clause-ok c =
    let old = c.args.groups.now.entries in
    let start = c.args.start.now in
    let all = c.insert_all.new.self in
    let key : c.in_ok-clone.field-0 ≡ start = c.in_ok-clone.ensures.cases in
    let taken : c.match-remove.targets ≡ unwrap_or c.remove.result set.empty =
    elim c.match-remove.branch [ in-Some w ↦ rw w.in-Some.is w.targets-is | in-None w ↦ rw w.in-None.is (w.targets-is ∙ w.new-targets.ensures) ] in
    let targets : c.match-remove.targets ≡ groups_at old start = taken ∙ ap (λ o. unwrap_or o set.empty) c.remove.ensures.value in
    targets_more old c.insert.new.self.entries c.requires c.in_ok-insert.ensures.ordered start c.args.ends.now all
    (λ q. c.in_ok-insert_all.ensures q ∙ ap (λ s. has_path c.args.ends.now q || set.contains s q) targets)
    (λ q. c.in_ok-insert.ensures.updates.0 q
    ∙ ap (λ k. cond (is_at (path_cmp k) q) (Some all) (lookup (is_at (path_cmp q)) c.remove.new.self.entries)) key
    ∙ ap (cond (is_at (path_cmp start) q) (Some all)) (c.remove.ensures.updates.0 q)
    ∙ chosen_once (Some all) None (lookup (is_at (path_cmp q)) old) (is_at (path_cmp start) q))
