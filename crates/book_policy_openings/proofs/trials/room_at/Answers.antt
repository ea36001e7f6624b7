use Rattle.std.proofs.Common.{ℕ, ◌∙◌, Option, subst, sym}
use Rattle.book_office.specs.Resources.{count_at, node_at}
use Rattle.book_office.specs.Sound.{IsSound}
use Rattle.book_office.specs.declared.nodes.Node.{Node}
use Rattle.book_office_values.specs.declared.offices.Office.{Office}
use Rattle.book_policy_openings.specs.Openings.{MayHaveMore}
use Rattle.book_policy_openings.proofs.trials.room_at.Goals as goal

pub returns-clause-room : goal.returns-clause-room
returns-clause-room c = λ agreed sound.
    let p = c.args.path.now in
    let o = c.args.keeper.now in
    let same = c.in_ok-node.ensures.kept sound in
    subst (λ (k : Office). MayHaveMore (node_at o p) (count_at k p)) same
    (subst (λ (n : ℕ). MayHaveMore (node_at o p) n) (c.in_ok-count.ensures.count (subst IsSound (sym same) sound))
    (subst (λ (n : Option Node). MayHaveMore n c.in_ok-count.count) (c.in_ok-node.ensures.node sound) (c.may_have_more.ensures agreed)))

pub returns-clause-kept : goal.returns-clause-kept
returns-clause-kept c = λ sound.
    let same = c.in_ok-node.ensures.kept sound in c.in_ok-count.ensures.kept (subst IsSound (sym same) sound) ∙ same
