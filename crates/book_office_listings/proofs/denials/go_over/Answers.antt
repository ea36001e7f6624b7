use Rattle.book_office_listings.proofs.Common.{◌++◌, take, ap, ◌∙◌, subst, arith, flat_map, take_all, read_by, standing_in, bare_entries}
use Rattle.book_lists.specs.Deciders.{IsDeciders}
use Rattle.book_office_listings.specs.Scanning.{IsWalk}
use Rattle.book_office_listings.proofs.InTurn.{read_standing, levels_more}
use Rattle.book_office_listings.proofs.denials.go_over.Goals as goal

pub loop-level-preserved : goal.loop-level-preserved
loop-level-preserved c = λ before set begun.
    let i = c.loop-level.level-index in
    let levels = c.args.levels.now in
    let level = c.level-item.result in
    let protected = c.args.protected in
    let circle = c.args.circle.now in
    let here = c.args.here.now in
    let so_far = before ++ flat_map (standing_in protected) (take i levels) in
    subst (λ readings. IsDeciders set readings c.over.new.self)
    (ap (λ list. read_by circle here (bare_entries so_far) ++ read_by circle here list) c.list_in.ensures
    ∙ read_standing level.path protected circle here so_far _
    ∙ ap (λ list. read_by circle here (bare_entries list)) (levels_more protected levels i level (omega arith) c.level-item.is before))
    (c.over.ensures.scanned set (read_by circle here (bare_entries so_far)) (c.loop-level.invariant before set begun))

pub returns : goal.returns
returns c = λ before set begun.
    subst (λ levels. IsWalk (before ++ flat_map (standing_in c.args.protected) levels) c.args.circle.now c.args.here.now set c.loop-level.deciders)
    (take_all c.loop-level.level-index c.args.levels.now c.loop-level-test.false)
    (c.loop-level.invariant before set begun)
