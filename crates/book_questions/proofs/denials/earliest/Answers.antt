use Rattle.book_questions.proofs.Common.{◌≡◌, ◌++◌, ◌∷◌, ◌∙◌, ◌+◌, [], ap, sym, subst, take}
use Rattle.std.proofs.lemmas.List.{take_more, take_all}
use Rattle.std.proofs.Common.{arith}
use Rattle.book_questions.proofs.Earliest.{one_more}
use Rattle.std.specs.Option.{option_copied}
use Rattle.std.specs.Prelude.{None}
use Rattle.book_questions.specs.RulingVerdicts.{earliest, ungranted}
use Rattle.book_questions.proofs.denials.earliest.Goals as goal

pub loop-ruling-preserved : goal.loop-ruling-preserved
loop-ruling-preserved c =
    let xs = c.args.rulings.now in
    let i = c.loop-ruling.ruling-index in
    let r = c.ruling-item.result in
    let more : take (i + 1) xs ≡ take i xs ++ r ∷ [] = take_more xs i r (omega arith) ∙ ap (λ x. take i xs ++ x ∷ []) (sym c.ruling-item.is) in
    one_more c.args.set (take i xs) r (option_copied c.loop-ruling.best) (option_copied c.better-best.result) c.loop-ruling.invariant c.better-best.ensures
    ∙ ap (λ zs. earliest None (ungranted c.args.set zs)) (sym more)
