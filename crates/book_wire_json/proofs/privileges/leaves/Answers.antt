use Rattle.book_wire_json.proofs.Common.{◌≡◌, List, ℕ, Some, sym, ap, ◌∙◌, arith, subst, take, ◌++◌, ◌∷◌, [], get_or, ◌+◌}
use Rattle.std.proofs.Common.{Bool}
use Rattle.std.proofs.lemmas.List.{take_more, map-append}
use Rattle.book_rights.specs.declared.privileges.Leaf.{Leaf}
use Rattle.book_rights.specs.Leaves.{union}
use Rattle.book_wire_json.specs.Privileges.{AreLeavesIn}
use Rattle.book_lists_explain.proofs.LineFaults.{no_word, word_at, texts, leaves_more}
use Rattle.book_wire_json.proofs.privileges.leaves.Goals as goal

pub loop-name-preserved : goal.loop-name-preserved
loop-name-preserved c =
    let names = c.args.names.now in
    let i = c.loop-name.name-index in
    let before = texts (take i names) in
    let name = word_at names i in
    let same : texts (take (i + 1) names) ≡ before ++ name ∷ [] =
    ap texts (take_more names i no_word (omega arith)) ∙ map-append (λ w. w.now) (take i names) (get_or names i no_word ∷ []) in
    let more = leaves_more before c.loop-name.set name c.in-Some.privilege c.in-Some.ensures.found c.loop-name.invariant in
    let A : List (List ℕ) → Type 0 = λ ns. AreLeavesIn ns (Some c.union-set.result) in
    let B : (Leaf → Bool) → Type 0 = λ s. AreLeavesIn (before ++ name ∷ []) (Some s) in
    subst A (sym same) (subst B (sym (c.union-set.ensures ∙ ap (λ s. union c.loop-name.set s) c.leaves.ensures)) more)
