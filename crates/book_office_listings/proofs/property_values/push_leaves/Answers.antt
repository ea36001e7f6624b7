use Rattle.book_office_listings.proofs.Common.{◌∙◌, sym, ap, arith, [], ◌∷◌, ◌++◌, append_assoc, take, filter_map, all_leaves}
use Rattle.std.proofs.Common.{Vec, Global}
use Rattle.book_rights.specs.declared.privileges.Privilege.{Privilege}
use Rattle.book_office_listings.specs.Values.{if_granted}
use Rattle.book_office_listings.proofs.Leaves.{leaf_more, leaf_same}
use Rattle.book_office_listings.proofs.property_values.push_leaves.Goals as goal
use Rattle.book_office_listings.proofs.property_values.push_leaves.Goals.{in-Some+in_ok-push, in_default}

pub loop-leaf-preserved : goal.loop-leaf-preserved
loop-leaf-preserved c =
    let i = c.loop-leaf.leaf-index in
    let old = c.args.names.now.items in
    let so_far = filter_map (if_granted c.args.set) (take i all_leaves) in
    elim c.match-if_granted.branch [
      | in-Some+in_ok-push w ↦ ap (λ (v : Vec Privilege Global). v.items) w.names-is ∙ w.in_ok-push.ensures.items
          ∙ ap (λ xs. xs ++ w.in-Some.name ∷ []) c.loop-leaf.invariant
          ∙ append_assoc old so_far (w.in-Some.name ∷ [])
          ∙ ap (λ xs. old ++ xs) (sym (leaf_more (if_granted c.args.set) i (omega arith) w.in-Some.name (sym c.if_granted.ensures ∙ w.in-Some.is)))
      | in_default w ↦ ap (λ (v : Vec Privilege Global). v.items) w.names-is ∙ c.loop-leaf.invariant
          ∙ ap (λ xs. old ++ xs) (sym (leaf_same (if_granted c.args.set) i (omega arith) (sym c.if_granted.ensures ∙ w.in_default.is)))
    ]
