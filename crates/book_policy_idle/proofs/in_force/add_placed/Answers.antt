use Rattle.std.proofs.Common.{◌++◌, ◌∷◌, [], take, ap, sym, ◌∙◌, append_assoc}
use Rattle.book_policy_idle.specs.Idle.{placed_at}
use Rattle.book_policy_idle.proofs.Placing.{placed_more}
use Rattle.book_policy_idle.proofs.in_force.add_placed.Goals as goal

pub loop-index-preserved : goal.loop-index-preserved
loop-index-preserved c =
    let p = c.args.protected in
    let at = c.args.at.now in
    let xs = c.args.entries.now in
    let i = c.loop-index.index in
    let x = c.index-entries-index.result in
    c.in_ok-add_one.ensures ∙ ap (λ l. l ++ placed_at p at i (x ∷ [])) c.loop-index.invariant
    ∙ append_assoc c.args.list.now (placed_at p at 0 (take i xs)) (placed_at p at i (x ∷ []))
    ∙ ap (λ l. c.args.list.now ++ l) (sym (placed_more p at xs i x c.loop-index-test.true c.index-entries-index.is))
