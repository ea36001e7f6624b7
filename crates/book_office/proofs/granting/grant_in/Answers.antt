use Rattle.book_office.proofs.Common.{◌++◌, [], subst, flat_map, IsJudged, read_by}
use Rattle.book_lists.proofs.JudgedNeeds.{judged}
use Rattle.book_office.proofs.ReadLists.{reads_both, tells_allowed}
use Rattle.book_office.proofs.granting.grant_in.Goals as goal

pub returns : goal.returns
returns c =
    let protected = flat_map (λ l. l.now) c.args.protected.now in
    let own = flat_map (λ l. l.now) c.args.own.now in
    let circle = c.args.circle.now in
    let here = c.args.here.now in
    let set = c.args.set in
    let first = c.over_lists.ensures set [] (judged set [] _ c.start-deciders.ensures) in
    let both : IsJudged set (read_by circle here (protected ++ own)) c.over_lists-2.new.deciders =
    subst (λ rs. IsJudged set rs c.over_lists-2.new.deciders) (reads_both circle here [] protected own)
    (c.over_lists-2.ensures set ([] ++ read_by circle here protected) first) in
    tells_allowed circle here set (protected ++ own) c.is_granted.result (c.is_granted.ensures set (read_by circle here (protected ++ own)) both)
