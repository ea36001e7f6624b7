use Rattle.book_office_adopting.proofs.Common.{◌≡◌, codes, rules, ap, ◌∙◌, empty, entries, new_properties, old_properties, all_inserted}
use Rattle.book_office_adopting.proofs.TakenOver.{groups_made}
use Rattle.book_office_adopting.proofs.adopting.groups_under.Goals as goal

pub returns : goal.returns
returns c =
    let t = c.args.policy.now in
    let new : c.in_ok-groups.groups ≡ all_inserted (new_properties t (codes "/groups/")) empty (entries t.groups) = search rules in
    let old : c.put_principals.new.principals ≡ all_inserted (old_properties t (codes "/groups/") t.groups) c.in_ok-groups.groups (entries c.args.office.now.groups) = search rules in
    old ∙ ap (λ m. all_inserted (old_properties t (codes "/groups/") t.groups) m (entries c.args.office.now.groups)) new ∙ groups_made t c.args.office.now
