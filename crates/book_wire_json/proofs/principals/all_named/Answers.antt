use Rattle.book_wire_json.proofs.Common.{◌≡◌, ℕ, List, [], ◌∷◌, ◌++◌, ◌+◌, ◌<◌, length, take, get_or, sym, ap, ◌∙◌, subst, arith, AllName}
use Rattle.std.proofs.lemmas.List.{take_more, map-append}
use Rattle.book_lists_explain.specs.Lines.{Names}
use Rattle.book_lists_explain.proofs.LineFaults.{no_word, word_at, texts, at_texts, length_texts}
use Rattle.book_wire_json.proofs.Naming.{names_more}
use Rattle.book_wire_json.proofs.principals.all_named.Goals as goal

pub returns-in-None : goal.returns-in-None
returns-in-None c =
    let ts = c.args.texts.now in
    let i = c.loop-text.text-index in
    let lt : i < length (texts ts) = omega (arith, length_texts ts) in
    let none = rw c.in-None.is at c.in_ok-principal.ensures.none in
    (i, lt, λ path names. (let here = subst (λ t. Names t path) (at_texts ts i) names in none path here.0 here.1))

pub loop-text-preserved : goal.loop-text-preserved
loop-text-preserved c =
    let ts = c.args.texts.now in
    let i = c.loop-text.text-index in
    let before = texts (take i ts) in
    let text = word_at ts i in
    let same : texts (take (i + 1) ts) ≡ before ++ text ∷ [] =
    ap texts (take_more ts i no_word (omega arith)) ∙ map-append (λ w. w.now) (take i ts) (get_or ts i no_word ∷ []) in
    let named = rw c.in-Some.is at c.in_ok-principal.ensures.found in
    let more = names_more before c.loop-text.found text c.in-Some.principal c.loop-text.invariant named in
    let A : List (List ℕ) → Type 0 = λ ns. AllName ns c.push.new.self in
    let B : List (List ℕ) → Type 0 = λ ps. AllName (before ++ text ∷ []) ps in
    subst A (sym same) (subst B (sym c.in_ok-push-in-Some.ensures.ok) more)
