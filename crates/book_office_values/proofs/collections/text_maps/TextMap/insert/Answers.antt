use Rattle.book_office_values.proofs.Common.{Result, Ok, Err, sym, ap, ◌∙◌, nat_list_cmp_total}
use Rattle.std.proofs.Common.{OnErr}
use Rattle.std.specs.FinMap as map
use Rattle.book_office_values.proofs.NameMapLaws.{names_apart}
use Rattle.book_office_values.proofs.TreeMaps.{get_tree, put_tree}
use Rattle.book_office_values.proofs.collections.text_maps.TextMap.insert.Goals as goal

-- what holds whatever the result is
whatever : {X E P : Type 0} (r : Result X E) → P → OnErr r P
whatever (Ok x) p = tt
whatever (Err e) p = p

pub returns-clause-before : goal.returns-clause-before
returns-clause-before g c =
    c.in_ok-insert.ensures.old ∙ sym (get_tree nat_list_cmp_total c.self.inside.tree.entries c.args.text)
    ∙ ap (λ m. map.get m c.args.text) c.self.view_is

pub returns-clause-ok : goal.returns-clause-ok
returns-clause-ok g c =
    put_tree nat_list_cmp_total names_apart c.self.inside.tree.entries c.insert.new.self.entries c.args.text c.args.value c.in_ok-insert.ensures.updates.0
    ∙ ap (λ m. map.insert m c.args.text c.args.value) c.self.view_is

pub returns-in_err-insert-clause-absent : goal.returns-in_err-insert-clause-absent
returns-in_err-insert-clause-absent g c =
    whatever c.from_residual.result (ap (λ m. map.get m c.args.text) (sym c.self.view_is)
    ∙ get_tree nat_list_cmp_total c.self.inside.tree.entries c.args.text ∙ c.in_err-insert.ensures.absent)
