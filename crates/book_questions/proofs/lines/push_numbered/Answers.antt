use Rattle.book_questions.proofs.Common.{◌≡◌, ◌++◌, ◌∙◌, List, Some, None, ℕ, ap, arith, refl, string_bytes, subst, sym}
use Rattle.std.proofs.Common.{◌-◌, Err, Ok, Result, zero, suc, codes, slice_get}
use Rattle.std.proofs.lemmas.Option.{slice_get-get_or, slice_get_past}
use Rattle.std.specs.Prelude.{OnOk, if◌then◌else◌}
use Rattle.std.specs.Result.{is_ok}
use Rattle.std.specs.Option.{option_map_or}
use Rattle.book_office.specs.declared.nodes.EffectiveEntry.{EffectiveEntry}
use Rattle.book_questions.specs.Lines.{numbered_lines, standing_lines}
use Rattle.book_questions.specs.declared.whys.InForce.{InForce}
use Rattle.book_questions_chains.specs.declared.chains.Chain.{Chain}
use Rattle.book_questions.proofs.lines.push_numbered.Goals as goal

-- the entry with a number is the one at the index before it
numbered_at : (force : InForce) (chains : List Chain) (n : ℕ) (e : EffectiveEntry) → (n ≡ 0 → ⊥) → slice_get force.list (n - 1) ≡ Some e
    → numbered_lines force chains n ≡ standing_lines force chains (n - 1) e
numbered_at force chains zero e some found = absurd (some refl)
numbered_at force chains (suc i) e some found =
    let same : suc i - 1 ≡ i = omega arith in
    ap (λ o. option_map_or (standing_lines force chains i) o (codes "\n")) (subst (λ k. slice_get force.list k ≡ Some e) same found)
    ∙ ap (λ k. standing_lines force chains k e) (sym same)

numbered_none : (force : InForce) (chains : List Chain) (n : ℕ) → (n ≡ 0 → ⊥) → slice_get force.list (n - 1) ≡ None → numbered_lines force chains n ≡ codes "\n"
numbered_none force chains zero some found = absurd (some refl)
numbered_none force chains (suc i) some found =
    let same : suc i - 1 ≡ i = omega arith in
    ap (λ o. option_map_or (standing_lines force chains i) o (codes "\n")) (subst (λ k. slice_get force.list k ≡ None) same found)

on_ok : {A E : Type 0} (r : Result A E) (x a b : List ℕ) → x ≡ (if is_ok r then a else b) → OnOk r (x ≡ a)
on_ok (Ok v) x a b e = e
on_ok (Err v) x a b e = tt

pub returns-in-Some : goal.returns-in-Some
returns-in-Some c =
    let list = c.as_slice.result.now in
    let i = c.args.number - 1 in
    let e = c.in-Some.entry.now in
    let found = c.in-Some.ensures.lookup in
    let there : slice_get list i ≡ Some e = slice_get-get_or list i e found.3.0 ∙ ap (λ x. Some x) (sym found.1) in
    let some = c.if-number-eq0.false in
    subst (λ lines. OnOk c.push_standing.result (string_bytes c.push_standing.new.text ≡ string_bytes c.args.text.now ++ lines))
    (sym (numbered_at c.args.force.now c.args.chains.now c.args.number e (λ h. omega (arith, some, h)) (subst (λ xs. slice_get xs i ≡ Some e) c.as_slice.ensures there)))
    c.push_standing.ensures

pub returns-in-None : goal.returns-in-None
returns-in-None c =
    let list = c.as_slice.result.now in
    let i = c.args.number - 1 in
    let found = c.in-None.ensures.lookup in
    let some = c.if-number-eq0.false in
    subst (λ lines. OnOk c.push_str-in-None.result (string_bytes c.push_str-in-None.new.self ≡ string_bytes c.args.text.now ++ lines))
    (sym (numbered_none c.args.force.now c.args.chains.now c.args.number (λ h. omega (arith, some, h)) (subst (λ xs. slice_get xs i ≡ None) c.as_slice.ensures (slice_get_past list i found.3))))
    (on_ok c.push_str-in-None.result _ (string_bytes c.args.text.now ++ codes "\n") _ c.push_str-in-None.ensures.bytes)
