use Rattle.book_wire_json.proofs.Common.{◌≡◌, Some, map, refl, rules, view}
use Rattle.book_wire_json.specs.Entries.{Written, written}
use Rattle.book_wire_json.proofs.entries.entry.Goals as goal

pub returns : goal.returns
returns c =
    let w : Written = record {
      form = (c.in-Some.invert, c.in-Some.text.now);
      action = (c.in-Some-2.deny, map (λ n. n.now) c.in-Some-2.names.items);
      protected = c.in-Some-protected_by.protected;
      inherited = c.in-Some-inherited_by.inherited;
    } in
    let is : written (view c.args.value.now) ≡ Some w = search rules in (
      w,
      is,
      record {
        who = c.in_ok-form_in.ensures;
        invert = refl;
        deny = refl;
        set = rw c.as_slice.ensures.value at c.leaves.ensures;
        protected = refl;
        inherited = refl;
      },
    )
