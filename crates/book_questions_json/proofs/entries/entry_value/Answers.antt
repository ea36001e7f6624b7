use Rattle.book_questions_json.proofs.Common.{◌≡◌, ◌∙◌, ℕ, zero, suc, List, Option, Some, None, ap, arith, option_map, refl, subst, sym, Chain, InForce}
use Rattle.std.proofs.Common.{◌-◌, slice_get}
use Rattle.std.proofs.lemmas.Option.{slice_get-get_or, slice_get_past}
use Rattle.std.specs.Result.{IfOk}
use Rattle.serde_json.specs.View.{view}
use Rattle.book_office.specs.declared.nodes.EffectiveEntry.{EffectiveEntry}
use Rattle.book_questions_json.specs.Facts.{Standing, numbered, standing_of}
use Rattle.book_questions_json.specs.Objects.{entry_data}
use Rattle.book_questions_json.proofs.entries.entry_value.Goals as goal

-- the entry with a number is the one at the index before it
numbered_at : (force : InForce) (chains : List Chain) (n : ℕ) (e : EffectiveEntry) → (n ≡ 0 → ⊥) → slice_get force.list (n - 1) ≡ Some e
    → numbered force chains n ≡ Some (standing_of force chains (n - 1) e)
numbered_at force chains zero e some found = absurd (some refl)
numbered_at force chains (suc i) e some found =
    let same : suc i - 1 ≡ i = omega arith in
    ap (option_map (standing_of force chains i)) (subst (λ k. slice_get force.list k ≡ Some e) same found)
    ∙ ap (λ k. Some (standing_of force chains k e)) (sym same)

numbered_none : (force : InForce) (chains : List Chain) (n : ℕ) → (n ≡ 0 → ⊥) → slice_get force.list (n - 1) ≡ None → numbered force chains n ≡ None
numbered_none force chains zero some found = absurd (some refl)
numbered_none force chains (suc i) some found =
    let same : suc i - 1 ≡ i = omega arith in
    ap (option_map (standing_of force chains i)) (subst (λ k. slice_get force.list k ≡ None) same found)

pub returns-in-Some : goal.returns-in-Some
returns-in-Some c =
    let list = c.as_slice.result.now in
    let i = c.args.number - 1 in
    let e = c.in-Some.entry.now in
    let found = c.in-Some.ensures.lookup in
    let there : slice_get list i ≡ Some e = slice_get-get_or list i e found.3.0 ∙ ap (λ x. Some x) (sym found.1) in
    let some = c.if-number-eq0.false in
    subst (λ (s : Option Standing). IfOk c.standing_value.result (λ v. view v ≡ entry_data c.args.number s))
    (sym (numbered_at c.args.force.now c.args.chains.now c.args.number e (λ h. omega (arith, some, h)) (subst (λ xs. slice_get xs i ≡ Some e) c.as_slice.ensures there)))
    c.standing_value.ensures

pub returns-in-None : goal.returns-in-None
returns-in-None c =
    let list = c.as_slice.result.now in
    let i = c.args.number - 1 in
    let found = c.in-None.ensures.lookup in
    let some = c.if-number-eq0.false in
    subst (λ (s : Option Standing). IfOk c.number_value-in-None.result (λ v. view v ≡ entry_data c.args.number s))
    (sym (numbered_none c.args.force.now c.args.chains.now c.args.number (λ h. omega (arith, some, h)) (subst (λ xs. slice_get xs i ≡ None) c.as_slice.ensures (slice_get_past list i found.3))))
    c.number_value-in-None.ensures
