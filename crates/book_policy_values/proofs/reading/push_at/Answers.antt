use Rattle.book_policy_values.proofs.Common.{◌≡◌, [], ◌∷◌, ◌++◌, rules, unwrap_or, ◌∙◌, insert}
use Rattle.book_policy_values.proofs.Folds.{pushed_back}
use Rattle.book_policy_values.proofs.reading.push_at.Goals as goal
use Rattle.book_policy_values.proofs.reading.push_at.Goals.{in-Some, in-None}

pub returns-clause-pushed : goal.returns-clause-pushed
returns-clause-pushed c =
    let list : c.match-remove.list ≡ unwrap_or c.remove.result [] =
    elim c.match-remove.branch [ in-Some w ↦ rw w.in-Some.is w.list-is | in-None w ↦ rw w.in-None.is (w.list-is ∙ w.new-list.ensures) ] in
    let entry : c.in_ok-clone.field-0 ≡ c.args.entry.now = search rules in
    let at : c.in_ok-clone-2.field-0 ≡ c.args.at.now = search rules in
    let put : c.insert.new.self ≡ insert c.remove.new.self c.args.at.now (c.match-remove.list ++ c.args.entry.now ∷ []) =
    rw (← at, ← entry, ← c.in_ok-push.ensures.ok) c.in_ok-insert.ensures.ok in
    λ _. pushed_back c.args.lists.now c.remove.new.self c.insert.new.self c.args.at.now c.args.entry.now c.remove.result c.match-remove.list
    c.remove.ensures.before list c.remove.ensures.removed put
