use Rattle.book_office.proofs.Common.{◌++◌, take, ap, ◌∙◌, subst, arith, IsJudged, read_by, lists_in}
use Rattle.std.proofs.lemmas.List.{take_all}
use Rattle.book_office.specs.InForce.{list_in}
use Rattle.book_office.proofs.ReadLists.{reads_more}
use Rattle.book_office.proofs.granting.over_levels.Goals as goal

pub loop-level-preserved : goal.loop-level-preserved
loop-level-preserved c = λ need readings judged.
    let i = c.loop-level.level-index in
    let levels = c.args.levels.now in
    let circle = c.args.circle.now in
    let here = c.args.here.now in
    let so_far = readings ++ read_by circle here (lists_in c.args.protected (take i levels)) in
    subst (λ rs. IsJudged need rs c.judge_over.new.self)
    (ap (λ list. so_far ++ read_by circle here list) c.list_in.ensures
    ∙ reads_more circle here (list_in c.args.protected) readings levels i c.level-item.result (omega arith) c.level-item.is)
    (c.judge_over.ensures.scanned need so_far (c.loop-level.invariant need readings judged))

pub returns : goal.returns
returns c = λ need readings judged.
    subst (λ levels. IsJudged need (readings ++ read_by c.args.circle.now c.args.here.now (lists_in c.args.protected levels)) c.loop-level.deciders)
    (take_all c.loop-level.level-index c.args.levels.now c.loop-level-test.false)
    (c.loop-level.invariant need readings judged)
