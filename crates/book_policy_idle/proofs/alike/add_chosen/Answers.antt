use Rattle.std.proofs.Common.{◌++◌, ◌∷◌, [], List, take, sym, ap, ◌∙◌, append_assoc}
use Rattle.book_lists.specs.declared.entries.Entry.{Entry}
use Rattle.book_policy_idle.specs.Alike.{chosen}
use Rattle.book_policy_idle.proofs.Granting.{chosen_more}
use Rattle.book_policy_idle.proofs.alike.add_chosen.Goals as goal

pub loop-placed-preserved : goal.loop-placed-preserved
loop-placed-preserved c =
    let w = c.args.which in
    let n = c.args.index in
    let xs = c.args.list.now in
    let i = c.loop-placed.placed-index in
    let x = c.placed-item.result in
    c.in_ok-add_choice.ensures ∙ ap (λ (l : List Entry). l ++ chosen w n (x ∷ [])) c.loop-placed.invariant
    ∙ append_assoc c.args.entries.now (chosen w n (take i xs)) (chosen w n (x ∷ []))
    ∙ ap (λ (l : List Entry). c.args.entries.now ++ l) (sym (chosen_more w n xs i x c.loop-placed-test.true c.placed-item.is))
