use Rattle.book_lists_explain.proofs.Common.{◌≡◌, List, ℕ, sym, ap, ◌∙◌, arith, subst, take, ◌++◌, ◌∷◌, [], get_or, ◌+◌, inl, inr, take_more, take_all, map-append, LinesSay, lines_of}
use Rattle.book_lists_explain.proofs.LineFaults.{texts, word_at, no_word}
use Rattle.book_lists_explain.proofs.Readings.{read_more, placed}
use Rattle.book_lists_explain.proofs.questions.read_question.Goals as goal

pub loop-index-preserved : goal.loop-index-preserved
loop-index-preserved c =
    let ws = c.deref-line-items.result.now in
    let i = c.loop-index.index in
    let v = c.loop-index.invariant in
    let t = c.in_default.ensures.taken v.0 v.2 in
    let same : texts (take (i + 1) ws) ≡ texts (take i ws) ++ word_at ws i ∷ [] =
    ap texts (take_more ws i no_word (omega arith)) ∙ map-append (λ w. w.now) (take i ws) (get_or ws i no_word ∷ []) in
    let R : List (List ℕ) → Type 0 = λ ls. LinesSay [] ls (v.0 ++ t.0 ∷ []) in
    (v.0 ++ t.0 ∷ [], subst R (sym same) (read_more [] (texts (take i ws)) v.0 (word_at ws i) t.0 v.1 t.1 t.2), t.3)

pub returns-in-Err-take_text-clause-faulty : goal.returns-in-Err-take_text-clause-faulty
returns-in-Err-take_text-clause-faulty c =
    let ws = c.deref-line-items.result.now in
    let v = c.loop-index.invariant in
    let all : texts ws ≡ lines_of c.args.text.now = ap texts c.deref-line-items.ensures.value ∙ c.in-Ok.ensures in
    placed (lines_of c.args.text.now) ws c.loop-index.index v.0 c.in-Err-take_text.kind c.fault_at-in-Err-take_text.result c.fault_at-in-Err-take_text.ensures
    all (omega arith) v.1 (elim c.in-Err-take_text.ensures.faulty [ inl memory ↦ inl memory | inr f ↦ inr (f v.0 v.2) ])

pub returns-clause-read : goal.returns-clause-read
returns-clause-read c =
    let ws = c.deref-line-items.result.now in
    let v = c.loop-index.invariant in
    let all : texts ws ≡ lines_of c.args.text.now = ap texts c.deref-line-items.ensures.value ∙ c.in-Ok.ensures in
    let R : List (List ℕ) → Type 0 = λ ls. LinesSay [] ls v.0 in
    (v.0, subst R (ap texts (take_all c.loop-index.index ws (omega arith)) ∙ all) v.1, v.2)
