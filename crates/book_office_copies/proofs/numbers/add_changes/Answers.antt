use Rattle.std.proofs.Common.{◌≡◌, ◌+◌, ◌++◌, ◌∷◌, [], ℕ, take, sym, ap, ◌∙◌, arith}
use Rattle.std.proofs.lemmas.List.{take_more}
use Rattle.std.specs.FinMap.{insert}
use Rattle.book_office_values.specs.Names.{NamesTo}
use Rattle.book_office_copies.specs.Copies.{lasts_in}
use Rattle.book_office_copies.proofs.InTurn.{lasts_push}
use Rattle.book_office_copies.proofs.numbers.add_changes.Goals as goal

pub loop-change-preserved : goal.loop-change-preserved
loop-change-preserved c =
    let last = c.args.numbers.now.last in
    let i = c.loop-change.change-index in
    let xs = c.args.changes.now in
    let change = c.change-item.result in
    let more : take (i + 1) xs ≡ take i xs ++ change ∷ [] = take_more xs i change (omega arith) ∙ ap (λ x. take i xs ++ x ∷ []) (sym c.change-item.is) in
    c.in_ok-add_change.ensures
    ∙ ap (λ (m : NamesTo ℕ). insert m change.name change.number) c.loop-change.invariant
    ∙ sym (lasts_push last (take i xs) change)
    ∙ ap (lasts_in last) (sym more)
