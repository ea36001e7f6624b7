use Rattle.std.proofs.Common.{◌≡◌, ◌+◌, ◌++◌, ◌∷◌, [], List, ℕ, take, sym, ap, ◌∙◌, subst}
use Rattle.std.proofs.lemmas.List.{take_all, take_more}
use Rattle.book_lists.specs.declared.circles.Caller.TheVariants.{Known}
use Rattle.book_policy_idle.specs.Marks.{AddsAskers}
use Rattle.book_policy_idle.specs.declared.askers.Asker.{Asker}
use Rattle.book_policy_idle.proofs.Telling.{adds_more, adds_none}
use Rattle.book_policy_idle.proofs.askers.add_persons.Goals as goal

pub loop-name-init : goal.loop-name-init
loop-name-init c = adds_none c.args.reach.now c.args.askers.now

pub loop-name-preserved : goal.loop-name-preserved
loop-name-preserved c =
    let reach = c.args.reach.now in
    let old = c.args.askers.now in
    let xs = c.args.names.now in
    let i = c.loop-name.name-index in
    let x = c.name-item.result in
    let a = c.in_ok-asker_of.field-0 in
    let more : take (i + 1) xs ≡ take i xs ++ x ∷ [] = take_more xs i x c.loop-name-test.true ∙ ap (λ y. take i xs ++ y ∷ []) (sym c.name-item.is) in
    let base : AddsAskers reach old (take i xs ++ x ∷ []) (c.loop-name.askers ++ a ∷ []) =
    adds_more reach old c.loop-name.askers (take i xs) x a (c.in_ok-asker_of.ensures.caller ∙ ap (λ (p : List ℕ). Known p) c.in_ok-person.ensures) c.in_ok-asker_of.ensures.right c.loop-name.invariant in
    subst (λ (ns : List (List ℕ)). AddsAskers reach old ns c.push.new.self) (sym more)
    (subst (λ (l : List Asker). AddsAskers reach old (take i xs ++ x ∷ []) l) (sym c.in_ok-push.ensures.ok) base)

pub returns : goal.returns
returns c =
    subst (λ (ns : List (List ℕ)). AddsAskers c.args.reach.now c.args.askers.now ns c.loop-name.askers)
    (take_all c.loop-name.name-index c.args.names.now c.loop-name-test.false) c.loop-name.invariant
