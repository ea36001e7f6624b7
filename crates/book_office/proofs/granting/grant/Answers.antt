use Rattle.book_office.proofs.Common.{◌++◌, [], true, subst, IsJudged, read_by, in_force, lists_in}
use Rattle.book_lists.proofs.JudgedNeeds.{judged}
use Rattle.book_office.proofs.ReadLists.{reads_in_force, tells_allowed}
use Rattle.book_office.proofs.granting.grant.Goals as goal

pub returns : goal.returns
returns c =
    let levels = c.args.levels.now in
    let circle = c.args.circle.now in
    let here = c.args.here.now in
    let set = c.args.set in
    let first = c.over_levels.ensures set [] (judged set [] _ c.start-deciders.ensures) in
    let both : IsJudged set (read_by circle here (in_force levels)) c.over_levels-2.new.deciders =
    subst (λ rs. IsJudged set rs c.over_levels-2.new.deciders) (reads_in_force circle here levels)
    (c.over_levels-2.ensures set ([] ++ read_by circle here (lists_in true levels)) first) in
    tells_allowed circle here set (in_force levels) c.is_granted.result (c.is_granted.ensures set (read_by circle here (in_force levels)) both)
