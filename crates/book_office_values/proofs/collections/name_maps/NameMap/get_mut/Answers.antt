use Rattle.book_office_values.proofs.Common.{refl, sym, ap, ◌∙◌, nat_list_cmp_total, name_cmp}
use Rattle.std.specs.FinMap as map
use Rattle.book_office_values.proofs.NameMapLaws.{names_apart}
use Rattle.book_office_values.proofs.TreeMaps.{get_tree, lent_tree}
use Rattle.book_office_values.proofs.collections.name_maps.NameMap.get_mut.Goals as goal

pub returns : goal.returns
returns g c = (
  (
    refl,
    λ w. rw (← c.self.view_is) (lent_tree nat_list_cmp_total names_apart c.get_mut.result (λ x. x.now)
        c.self.inside.tree.entries (c.get_mut.follows.lender w).entries c.args.name.now w c.get_mut.ensures.value
        (λ some. ((c.get_mut.follows.holds w).3 some).0)),
    ap (λ t. map.from_entries {R = name_cmp} t.entries) c.get_mut.follows.holds-at-none ∙ c.self.view_is,
  ),
  record {
    lends = tt;
    value = c.get_mut.ensures.value ∙ sym (get_tree nat_list_cmp_total c.self.inside.tree.entries c.args.name.now)
        ∙ ap (λ m. map.get m c.args.name.now) c.self.view_is;
  },
)
