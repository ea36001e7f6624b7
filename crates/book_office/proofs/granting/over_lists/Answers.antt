use Rattle.book_office.proofs.Common.{◌++◌, take, subst, arith, flat_map, IsJudged, read_by}
use Rattle.std.proofs.lemmas.List.{take_all}
use Rattle.book_office.proofs.ReadLists.{reads_more}
use Rattle.book_office.proofs.granting.over_lists.Goals as goal

pub loop-list-preserved : goal.loop-list-preserved
loop-list-preserved c = λ need readings judged.
    let i = c.loop-list.list-index in
    let lists = c.args.lists.now in
    let circle = c.args.circle.now in
    let here = c.args.here.now in
    let so_far = readings ++ read_by circle here (flat_map (λ l. l.now) (take i lists)) in
    subst (λ rs. IsJudged need rs c.over_list.new.deciders)
    (reads_more circle here (λ l. l.now) readings lists i c.list-item.result (omega arith) c.list-item.is)
    (c.over_list.ensures need so_far (c.loop-list.invariant need readings judged))

pub returns : goal.returns
returns c = λ need readings judged.
    subst (λ lists. IsJudged need (readings ++ read_by c.args.circle.now c.args.here.now (flat_map (λ l. l.now) lists)) c.loop-list.deciders)
    (take_all c.loop-list.list-index c.args.lists.now c.loop-list-test.false)
    (c.loop-list.invariant need readings judged)
