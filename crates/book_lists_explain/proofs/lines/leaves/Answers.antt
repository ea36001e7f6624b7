use Rattle.book_lists_explain.proofs.Common.{◌≡◌, List, ℕ, Bool, sym, ap, ◌∙◌, arith, subst, take, ◌++◌, ◌∷◌, [], get_or, length, ◌<◌, ◌+◌, take_more, take_all, map-append, Leaf, AreLeaves}
use Rattle.book_rights.specs.Leaves.{union}
use Rattle.book_lists_explain.proofs.LineFaults.{leaves_more, texts, word_at, no_word, at_texts, length_texts, if_none}
use Rattle.book_lists_explain.proofs.lines.leaves.Goals as goal

pub loop-name-preserved : goal.loop-name-preserved
loop-name-preserved c =
    let names = c.args.names.now in
    let i = c.loop-name.name-index in
    let before = texts (take i names) in
    let name = word_at names i in
    let same : texts (take (i + 1) names) ≡ before ++ name ∷ [] =
    ap texts (take_more names i no_word (omega arith)) ∙ map-append (λ w. w.now) (take i names) (get_or names i no_word ∷ []) in
    let more = leaves_more before c.loop-name.set name c.in_ok-privilege.privilege c.in_ok-privilege.ensures.found c.loop-name.invariant in
    let A : List (List ℕ) → Type 0 = λ ns. AreLeaves ns c.union-set.result in
    let B : (Leaf → Bool) → Type 0 = λ s. AreLeaves (before ++ name ∷ []) s in
    subst A (sym same) (subst B (sym (c.union-set.ensures ∙ ap (λ s. union c.loop-name.set s) c.leaves.ensures)) more)

pub returns-in_err-privilege-clause-unknown : goal.returns-in_err-privilege-clause-unknown
returns-in_err-privilege-clause-unknown c =
    let names = c.args.names.now in
    let i = c.loop-name.name-index in
    let lt : i < length (texts names) = omega (arith, length_texts names) in
    if_none c.from_residual.result _ (i, lt, λ privilege e. c.in_err-privilege.ensures.unknown privilege (sym (at_texts names i) ∙ e))

pub returns-clause-known : goal.returns-clause-known
returns-clause-known c =
    let A : List (List ℕ) → Type 0 = λ ns. AreLeaves ns c.loop-name.set in
    subst A (ap texts (take_all c.loop-name.name-index c.args.names.now (omega arith))) c.loop-name.invariant
