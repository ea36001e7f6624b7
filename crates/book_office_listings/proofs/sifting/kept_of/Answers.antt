use Rattle.book_office_listings.proofs.Common.{◌++◌, take, ap, ◌∙◌, subst, arith, AppliesAs, entries_of_levels}
use Rattle.book_office_listings.proofs.SiftedLevels.{listed_more}
use Rattle.book_office_listings.proofs.sifting.kept_of.Goals as goal

pub loop-level-preserved : goal.loop-level-preserved
loop-level-preserved c =
    let i = c.loop-level.level-index in
    let levels = c.args.levels.now in
    let level = c.level-item.result in
    let protected = c.args.protected in
    let so_far = entries_of_levels protected (take i levels) in
    subst (λ list. AppliesAs c.args.circle.now list c.keep.new.kept.items)
    (ap (λ list. so_far ++ list) c.list_in.ensures ∙ listed_more protected levels i level (omega arith) c.level-item.is)
    (c.in_ok-keep.ensures so_far c.loop-level.invariant)
