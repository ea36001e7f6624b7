use Rattle.std.proofs.Common.{◌≡◌, ◌-◌, ◌++◌, [], take, drop, length, List, ℕ, sym, subst, ◌∙◌, ap, arith, append-nil}
use Rattle.std.proofs.lemmas.List.{length-drop, length-take, take-append-drop, take_rest}
use Rattle.std.specs.Io.KnownBytes.{Appends}
use Rattle.book_log_service.proofs.Fronts.{Appends-then, Appends-kept, take_further}
use Rattle.book_log_service.proofs.appending.put.Goals as goal

pub returns-in-Ok-eq0-clause-front : goal.returns-in-Ok-eq0-clause-front
returns-in-Ok-eq0-clause-front g c =
    let text = c.args.text.now in
    let at = c.loop-written.written in
    let none : take c.in-Ok-eq0.field-0 (take (length text - at) (drop at text)) ≡ [] =
    ap (λ (n : ℕ). take n (take (length text - at) (drop at text))) c.in-Ok-eq0.field-0-test in
    let P : List ℕ → Type 0 = λ t. Appends (g.W.Write.contents c.args.writer.now) (g.W.Write.contents c.write.new.self) t in (
      take at text,
      drop at text,
      sym (take-append-drop at text),
      subst P (ap (λ (t : List ℕ). take at text ++ t) none ∙ append-nil (take at text))
          (Appends-then _ _ _ (take at text) _ c.loop-written.invariant.1 c.in-Ok-eq0.ensures.bytes),
    )

pub returns-in-Err-clause-front : goal.returns-in-Err-clause-front
returns-in-Err-clause-front g c =
    let text = c.args.text.now in
    let at = c.loop-written.written in (
      take at text,
      drop at text,
      sym (take-append-drop at text),
      Appends-kept _ _ _ (take at text) c.loop-written.invariant.1 c.in-Err.ensures.bytes,
    )

pub returns-clause-front : goal.returns-clause-front
returns-clause-front g c =
    let text = c.args.text.now in
    let at = c.loop-written.written in (
      take at text,
      drop at text,
      sym (take-append-drop at text),
      c.loop-written.invariant.1,
    )

pub loop-written-preserved : goal.loop-written-preserved
loop-written-preserved g c =
    let text = c.args.text.now in
    let at = c.loop-written.written in
    let P : List ℕ → Type 0 = λ t. Appends (g.W.Write.contents c.args.writer.now) (g.W.Write.contents c.write.new.self) t in (
      omega (arith, c.in-Ok.ensures.bound, length-take (length text - at) (drop at text), length-drop at text),
      subst P (ap (λ (t : List ℕ). take at text ++ take c.in-Ok.count t) (take_rest text at) ∙ take_further text at c.in-Ok.count)
          (Appends-then _ _ _ (take at text) _ c.loop-written.invariant.1 c.in-Ok.ensures.bytes),
    )
