use Rattle.book_office_adopting.proofs.Common.{◌≡◌, codes, rules, ap, ◌∙◌, empty, entries, new_properties, old_properties, all_inserted}
use Rattle.book_office_adopting.proofs.TakenOver.{persons_made}
use Rattle.book_office_adopting.proofs.adopting.persons_under.Goals as goal

pub returns : goal.returns
returns c =
    let t = c.args.policy.now in
    let new : c.in_ok-persons.persons ≡ all_inserted (new_properties t (codes "/people/")) empty (entries t.persons) = search rules in
    let old : c.put_principals.new.principals ≡ all_inserted (old_properties t (codes "/people/") t.persons) c.in_ok-persons.persons (entries c.args.office.now.persons) = search rules in
    old ∙ ap (λ m. all_inserted (old_properties t (codes "/people/") t.persons) m (entries c.args.office.now.persons)) new ∙ persons_made t c.args.office.now
