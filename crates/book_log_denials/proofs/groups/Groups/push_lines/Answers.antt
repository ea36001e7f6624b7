use Rattle.book_log_denials.proofs.Common.{◌≡◌, ◌++◌, ℕ, List, [], sym, ap, ◌∙◌, append-nil, string_bytes, nat_list_cmp_total, flat_map, names_apart, Tally}
use Rattle.std.proofs.Common.{rules}
use Rattle.std.specs.FinMap as map
use Rattle.book_office_values.proofs.TreeMaps.{entries_tree}
use Rattle.book_log_denials.specs.Denials.{group_line}
use Rattle.book_log_denials.specs.declared.forms.Form.{Form}
use Rattle.book_log_denials.proofs.groups.Groups.push_lines.Goals as goal

abbrev told : Form → List (List ℕ × Tally) → List ℕ
told form es = flat_map (group_line form) es

pub returns : goal.returns
returns c =
    let text = string_bytes c.loop-group.text in
    let whole : c.self.inside.tree.entries ≡ map.entries c.args.self.now =
    sym (entries_tree nat_list_cmp_total names_apart c.self.inside.tree.entries c.self.invariant) ∙ ap map.entries c.self.view_is in
    let given : c.into_iter-group-iterator.result ≡ map.entries c.args.self.now = search (rules, whole) in
    let done : c.loop-group.group-iterator ≡ [] = search rules in
    sym (ap (λ es. text ++ told c.args.form es) done ∙ append-nil text) ∙ c.loop-group.invariant.parts ∙ ap (λ es. string_bytes c.args.text.now ++ told c.args.form es) given
