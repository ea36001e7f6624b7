use Rattle.book_questions_rights.proofs.Common.{◌≡◌, ◌++◌, ℕ, List, [], sym, ap, ◌∙◌, string_bytes, nat_list_cmp_total, flat_map, names_apart, Block}
use Rattle.std.proofs.Common.{append-nil, rules}
use Rattle.std.specs.FinMap as map
use Rattle.book_office_values.proofs.TreeMaps.{entries_tree}
use Rattle.book_questions_rights.proofs.blocks.Blocks.push_all.Goals as goal

abbrev told : List Block → List ℕ
told es = flat_map (λ (b : Block). b.1) es

pub returns : goal.returns
returns c =
    let text = string_bytes c.loop-block.text in
    let whole : c.self.inside.tree.entries ≡ map.entries c.args.self.now =
    sym (entries_tree nat_list_cmp_total names_apart c.self.inside.tree.entries c.self.invariant) ∙ ap map.entries c.self.view_is in
    let given : c.into_iter-block-iterator.result ≡ map.entries c.args.self.now = search (rules, whole) in
    let done : c.loop-block.block-iterator ≡ [] = search rules in
    sym (ap (λ es. text ++ told es) done ∙ append-nil text) ∙ c.loop-block.invariant.parts ∙ ap (λ es. string_bytes c.args.text.now ++ told es) given
