use Rattle.book_desk_app.proofs.Common.{◌≡◌, ◌++◌, [], ◌∙◌, length, List, ℕ, sym, subst, ap, arith}
use Rattle.std.proofs.Common.{◌+◌, ◌-◌, take, drop}
use Rattle.std.proofs.lemmas.List.{append-nil, drop-take, length-drop, length-take, take_all, take-append-drop, take_rest, take-take}
use Rattle.std.specs.Io.KnownBytes.{Appends}
use Rattle.std.proofs.KnownBytes.{Appends-trans, Appends-kept}
use Rattle.book_desk_app.proofs.lines.put_text.Goals as goal

take_further : (xs : List ℕ) (i n : ℕ) → take i xs ++ take n (drop i xs) ≡ take (i + n) xs
take_further xs i n =
    ap (λ (t : List ℕ). take i xs ++ t) (sym (drop-take i n xs))
    ∙ ap (λ (t : List ℕ). t ++ drop i (take (i + n) xs)) (sym (take-take i (i + n) xs (omega arith)))
    ∙ take-append-drop i (take (i + n) xs)

pub returns-in-Ok-eq0-clause-front : goal.returns-in-Ok-eq0-clause-front
returns-in-Ok-eq0-clause-front g c =
    let text = c.args.text.now in
    let at = c.loop-written.written in
    let none : take c.in-Ok-eq0.field-0 (take (length text - at) (drop at text)) ≡ [] =
    ap (λ (n : ℕ). take n (take (length text - at) (drop at text))) c.in-Ok-eq0.field-0-test in (
      take at text,
      drop at text,
      sym (take-append-drop at text),
      let P : List ℕ → Type 0 = λ t. Appends (g.W.Write.contents c.args.writer.now) (g.W.Write.contents c.write.new.self) t in
          subst P (ap (λ (t : List ℕ). take at text ++ t) none ∙ append-nil (take at text))
          (Appends-trans _ _ _ (take at text) _ c.loop-written.invariant.1 c.in-Ok-eq0.ensures.bytes),
    )

pub returns-in-Err-clause-front : goal.returns-in-Err-clause-front
returns-in-Err-clause-front g c =
    let text = c.args.text.now in
    let at = c.loop-written.written in (
      take at text,
      drop at text,
      sym (take-append-drop at text),
      Appends-kept _ _ _ (take at text) c.loop-written.invariant.1 c.in-Err.ensures.bytes,
    )

pub returns-in-Ok-eq0-clause-cut : goal.returns-in-Ok-eq0-clause-cut
returns-in-Ok-eq0-clause-cut g c _ =
    let text = c.args.text.now in
    let at = c.loop-written.written in
    let none : take c.in-Ok-eq0.field-0 (take (length text - at) (drop at text)) ≡ [] =
    ap (λ (n : ℕ). take n (take (length text - at) (drop at text))) c.in-Ok-eq0.field-0-test in (
      take at text,
      drop at text,
      sym (take-append-drop at text),
      λ none. (let n : length (drop at text) ≡ 0 = ap length none in omega (arith, n, length-drop at text)),
      let P : List ℕ → Type 0 = λ t. Appends (g.W.Write.contents c.args.writer.now) (g.W.Write.contents c.write.new.self) t in
          subst P (ap (λ (t : List ℕ). take at text ++ t) none ∙ append-nil (take at text))
          (Appends-trans _ _ _ (take at text) _ c.loop-written.invariant.1 c.in-Ok-eq0.ensures.bytes),
    )

pub returns-in-Err-clause-cut : goal.returns-in-Err-clause-cut
returns-in-Err-clause-cut g c _ =
    let text = c.args.text.now in
    let at = c.loop-written.written in (
      take at text,
      drop at text,
      sym (take-append-drop at text),
      λ none. (let n : length (drop at text) ≡ 0 = ap length none in omega (arith, n, length-drop at text)),
      Appends-kept _ _ _ (take at text) c.loop-written.invariant.1 c.in-Err.ensures.bytes,
    )

pub loop-written-preserved : goal.loop-written-preserved
loop-written-preserved g c =
    let text = c.args.text.now in
    let at = c.loop-written.written in
    let P : List ℕ → Type 0 = λ t. Appends (g.W.Write.contents c.args.writer.now) (g.W.Write.contents c.write.new.self) t in (
      omega (arith, c.in-Ok.ensures.bound, length-take (length text - at) (drop at text), length-drop at text),
      subst P (ap (λ (t : List ℕ). take at text ++ take c.in-Ok.count t) (take_rest text at) ∙ take_further text at c.in-Ok.count)
          (Appends-trans _ _ _ (take at text) _ c.loop-written.invariant.1 c.in-Ok.ensures.bytes),
    )

pub returns-clause-front : goal.returns-clause-front
returns-clause-front g c =
    let text = c.args.text.now in
    let at = c.loop-written.written in (take at text, drop at text, sym (take-append-drop at text), c.loop-written.invariant.1)

pub returns-clause-whole : goal.returns-clause-whole
returns-clause-whole g c _ =
    let text = c.args.text.now in
    let at = c.loop-written.written in
    let P : List ℕ → Type 0 = λ t. Appends (g.W.Write.contents c.args.writer.now) (g.W.Write.contents c.loop-written.writer) t in
    subst P (take_all at text (omega arith)) c.loop-written.invariant.1
