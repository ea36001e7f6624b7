use Rattle.book_office_adopting.proofs.Common.{◌≡◌, List, [], ◌∷◌, Some, rules, refl, sym, subst, ℕ, false≢true, get, entries, AllByRecursion, Properties}
use Rattle.book_office_adopting.proofs.comparing.principals_stand.Goals as goal

pub returns : goal.returns
returns c =
    let All : List (List ℕ × Properties) → Type 0 = AllByRecursion (λ e. get c.args.other.now e.0 ≡ Some e.1) in
    let start : c.into_iter-name-iterator.result ≡ entries c.args.principals.now = search rules in
    let rest : c.loop-name.name-iterator ≡ [] = search rules in
    (λ _. subst All start (c.loop-name.invariant.there (subst All (sym rest) tt)), λ _. refl)

pub returns-then-not-properties_stands : goal.returns-then-not-properties_stands
returns-then-not-properties_stands c =
    let All : List (List ℕ × Properties) → Type 0 = AllByRecursion (λ e. get c.args.other.now e.0 ≡ Some e.1) in
    let start : c.into_iter-name-iterator.result ≡ entries c.args.principals.now = search rules in
    let step : c.loop-name.name-iterator ≡ (c.in-Some.name.now, c.in-Some.properties.now) ∷ c.next.new.self = search rules in
    let other : get c.args.other.now c.in-Some.name.now ≡ Some c.in-Some.properties.now → ⊥ = search rules in
    (λ e. absurd (false≢true e), λ all. absurd (other (subst All step (c.loop-name.invariant.all (subst All (sym start) all))).0))
