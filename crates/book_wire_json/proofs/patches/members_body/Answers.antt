use Rattle.book_wire_json.proofs.Common.{◌≡◌, Some, map, rules, subst, view}
use Rattle.book_wire_json.specs.Patches.{members_set}
use Rattle.book_wire_json.specs.Principals.{HasUnnamed}
use Rattle.book_wire_json.proofs.patches.members_body.Goals as goal

pub returns : goal.returns
returns c =
    let got : members_set (view c.args.value.now) ≡ Some (map (λ t. t.now) c.in-Some-2.texts.items) = search rules in
    let unnamed = rw (c.in-None.is, c.as_slice.ensures.value) at c.in_ok-members.ensures in
    (c.requires, λ texts e. (let same : map (λ t. t.now) c.in-Some-2.texts.items ≡ texts = cc (got, e) in subst HasUnnamed same unnamed))
