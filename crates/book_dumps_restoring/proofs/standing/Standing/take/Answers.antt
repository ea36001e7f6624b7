use Rattle.std.proofs.Common.{◌≡◌, Option, None, Some, sym, ap, ◌∙◌}
use Rattle.std.specs.Prelude.{ℕ, List, IfNone}
use Rattle.std.specs.Cmp.Lexicographic.{nat_list_cmp_total}
use Rattle.std.specs.FinMap as map
use Rattle.book_office_values.proofs.NameMapLaws.{names_apart, remove_absent}
use Rattle.book_office_values.proofs.TreeMaps.{get_tree, drop_tree}
use Rattle.book_office_values.specs.Names.{NamesTo}
use Rattle.book_dumps_restoring.proofs.standing.Standing.take.Goals as goal

-- where nothing was there the map stays
stays : {V : Type 0} (m n : NamesTo V) (k : List ℕ) (r : Option V) → r ≡ map.get m k → n ≡ map.remove m k → IfNone r (n ≡ m)
stays m n k None e taken = taken ∙ remove_absent m k (sym e)
stays m n k (Some v) e taken = tt

pub returns-clause-before : goal.returns-clause-before
returns-clause-before g c =
    c.remove.ensures.value ∙ sym (get_tree nat_list_cmp_total c.self.inside.tree.entries c.args.text.now)
    ∙ ap (λ m. map.get m c.args.text.now) c.self.view_is

pub returns-clause-taken : goal.returns-clause-taken
returns-clause-taken g c =
    drop_tree nat_list_cmp_total names_apart c.self.inside.tree.entries c.remove.new.self.entries c.args.text.now c.remove.ensures.updates.0
    ∙ ap (λ m. map.remove m c.args.text.now) c.self.view_is

pub returns-clause-none : goal.returns-clause-none
returns-clause-none g c =
    stays c.args.self.now _ c.args.text.now c.remove.result
    (c.remove.ensures.value ∙ sym (get_tree nat_list_cmp_total c.self.inside.tree.entries c.args.text.now)
    ∙ ap (λ m. map.get m c.args.text.now) c.self.view_is)
    (drop_tree nat_list_cmp_total names_apart c.self.inside.tree.entries c.remove.new.self.entries c.args.text.now c.remove.ensures.updates.0
    ∙ ap (λ m. map.remove m c.args.text.now) c.self.view_is)
