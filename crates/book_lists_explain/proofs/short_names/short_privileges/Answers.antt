use Rattle.book_lists_explain.proofs.Common.{◌≡◌, ◌∙◌, sym, ap, arith, Bool, take, [], ◌∷◌, ◌++◌, subst, filter_map, Leaf, Privilege, short_name, all_leaves}
use Rattle.std.proofs.Common.{cond, not, Vec, Global}
use Rattle.book_rights.specs.declared.privileges.Privilege.TheVariants.{All}
use Rattle.book_rights.specs.Leaves.{IsLeast, difference, every_leaf}
use Rattle.book_lists_explain.proofs.Shorts.{not_all, names_more, names_same}
use Rattle.book_lists_explain.proofs.short_names.short_privileges.Goals as goal
use Rattle.book_lists_explain.proofs.short_names.short_privileges.Goals.{in-Some+in_ok-push-2, in_default}

pub loop-leaf-preserved : goal.loop-leaf-preserved
loop-leaf-preserved c =
    let i = c.loop-leaf.leaf-index in
    elim c.match-short_name.branch [
      | in-Some+in_ok-push-2 w ↦ ap (λ (v : Vec Privilege Global). v.items) w.names-is ∙ w.in_ok-push-2.ensures.items
          ∙ ap (λ xs. xs ++ w.in-Some.name ∷ []) c.loop-leaf.invariant
          ∙ sym (names_more c.args.set i (omega arith) w.in-Some.name (sym c.short_name.ensures ∙ w.in-Some.is))
      | in_default w ↦ ap (λ (v : Vec Privilege Global). v.items) w.names-is ∙ c.loop-leaf.invariant
          ∙ sym (names_same c.args.set i (omega arith) (sym c.short_name.ensures ∙ w.in_default.is))
    ]

pub returns : goal.returns
returns c =
    let whole : c.loop-leaf.leaf-index ≡ 9 = omega arith in
    let P : (Leaf → Bool) → Type 0 = λ s. IsLeast s c.least.result in
    let least : IsLeast (difference every_leaf c.args.set) c.least.result =
    subst P (c.minus.ensures ∙ ap (λ s. difference s c.args.set) c.all.ensures) c.least.ensures in
    c.loop-leaf.invariant ∙ ap (λ n. filter_map (short_name c.args.set) (take n all_leaves)) whole
    ∙ sym (ap (λ b. cond b (All ∷ []) (filter_map (short_name c.args.set) all_leaves))
    (not_all c.args.set c.least.result least (c.is_none.ensures ∙ ap not c.if-is_none.false)))
