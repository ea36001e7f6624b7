use Rattle.std.proofs.Common.{◌≡◌, ◌++◌, ◌∷◌, ◌+◌, ◌∙◌, [], List, ℕ, Bool, ap, arith, map, string_bytes, subst, sym, take}
use Rattle.std.proofs.lemmas.List.{map-append, take_more}
use Rattle.book_lists_explain.specs.Lines.{AreLeaves}
use Rattle.book_lists_explain.proofs.LineFaults.{leaves_more}
use Rattle.book_rights.specs.Leaves.{union}
use Rattle.book_rights.specs.declared.privileges.Leaf.{Leaf}
use Rattle.book_desk_questions.proofs.asked.leaves_of.Goals as goal

pub loop-name-preserved : goal.loop-name-preserved
loop-name-preserved c =
    let names = c.args.names.now in
    let i = c.loop-name.name-index in
    let x = c.name-item.result in
    let before = map string_bytes (take i names) in
    let next : take (i + 1) names ≡ take i names ++ x ∷ [] = take_more names i x (omega arith) ∙ ap (λ y. take i names ++ y ∷ []) (sym c.name-item.is) in
    let same : map string_bytes (take (i + 1) names) ≡ before ++ string_bytes x ∷ [] =
    ap (map string_bytes) next ∙ map-append string_bytes (take i names) (x ∷ []) in
    let more = leaves_more before c.loop-name.set (string_bytes x) c.in_ok-privilege.privilege
    (sym c.as_str.ensures.value ∙ c.in_ok-privilege.ensures.found) c.loop-name.invariant in
    let A : List (List ℕ) → Type 0 = λ ns. AreLeaves ns c.union-set.result in
    let B : (Leaf → Bool) → Type 0 = λ s. AreLeaves (before ++ string_bytes x ∷ []) s in
    subst A (sym same) (subst B (sym (c.union-set.ensures ∙ ap (λ s. union c.loop-name.set s) c.leaves.ensures)) more)
