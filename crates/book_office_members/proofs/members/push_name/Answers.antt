use Rattle.book_office_members.proofs.Common.{◌≡◌, [], ◌∷◌, ◌++◌, rules, unwrap_or, ◌∙◌, insert}
use Rattle.book_office_members.proofs.Linking.{pushed_back}
use Rattle.book_office_members.proofs.members.push_name.Goals as goal
use Rattle.book_office_members.proofs.members.push_name.Goals.{in-Some, in-None}

pub returns : goal.returns
returns c =
    let names : c.match-remove.names ≡ unwrap_or c.remove.result [] =
    elim c.match-remove.branch [ in-Some w ↦ rw w.in-Some.is w.names-is | in-None w ↦ rw w.in-None.is (w.names-is ∙ w.new-names.ensures) ] in
    let uid : c.in_ok-clone.field-0 ≡ c.args.uid.now = search rules in
    let put : c.insert.new.self ≡ insert c.remove.new.self c.args.uid.now (c.match-remove.names ++ c.args.name ∷ []) =
    rw (← uid, ← c.in_ok-push.ensures.ok) c.in_ok-insert.ensures.ok in
    pushed_back c.args.index.now c.remove.new.self c.insert.new.self c.args.uid.now c.args.name c.remove.result c.match-remove.names
    c.remove.ensures.before names c.remove.ensures.removed put
