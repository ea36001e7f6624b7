use Rattle.book_dumps.proofs.Common.{◌≡◌, ◌++◌, [], ◌∙◌, length, List, ℕ, refl, sym, subst, ap, arith, take, drop, append-nil}
use Rattle.std.proofs.Common.{◌-◌}
use Rattle.std.proofs.lemmas.List.{length-drop, length-take, take-append-drop, take_rest}
use Rattle.std.proofs.KnownBytes.{Appends-trans, Appends-kept}
use Rattle.std.specs.Io.KnownBytes.{Appends}
use Rattle.book_dumps.proofs.Parts.{take_further}
use Rattle.book_dumps.proofs.output.put.Goals as goal

pub returns-in-Ok-eq0-clause-err : goal.returns-in-Ok-eq0-clause-err
returns-in-Ok-eq0-clause-err g c =
    let text = c.args.text.now in
    let at = c.loop-written.written in
    let none : take c.in-Ok-eq0.field-0 (take (length text - at) (drop at text)) ≡ [] =
    ap (λ (n : ℕ). take n (take (length text - at) (drop at text))) c.in-Ok-eq0.field-0-test in (
      refl,
      (
        take at text,
        drop at text,
        sym (take-append-drop at text),
        λ none. (let n : length (drop at text) ≡ 0 = ap length none in omega (arith, n, length-drop at text)),
        let P : List ℕ → Type 0 = λ t. Appends (g.W.Write.contents c.args.writer.now) (g.W.Write.contents c.write.new.self) t in
            subst P (ap (λ (t : List ℕ). take at text ++ t) none ∙ append-nil (take at text))
            (Appends-trans _ _ _ (take at text) _ c.loop-written.invariant.1 c.in-Ok-eq0.ensures.bytes),
      ),
    )

pub returns-in-Err-clause-err : goal.returns-in-Err-clause-err
returns-in-Err-clause-err g c =
    let text = c.args.text.now in
    let at = c.loop-written.written in (
      refl,
      (
        take at text,
        drop at text,
        sym (take-append-drop at text),
        λ none. (let n : length (drop at text) ≡ 0 = ap length none in omega (arith, n, length-drop at text)),
        Appends-kept _ _ _ (take at text) c.loop-written.invariant.1 c.in-Err.ensures.bytes,
      ),
    )

pub loop-written-preserved : goal.loop-written-preserved
loop-written-preserved g c =
    let text = c.args.text.now in
    let at = c.loop-written.written in
    let P : List ℕ → Type 0 = λ t. Appends (g.W.Write.contents c.args.writer.now) (g.W.Write.contents c.write.new.self) t in (
      omega (arith, c.in-Ok.ensures.bound, length-take (length text - at) (drop at text), length-drop at text),
      subst P (ap (λ (t : List ℕ). take at text ++ take c.in-Ok.count t) (take_rest text at) ∙ take_further text at c.in-Ok.count)
          (Appends-trans _ _ _ (take at text) _ c.loop-written.invariant.1 c.in-Ok.ensures.bytes),
    )
