use Rattle.book_office_listings.proofs.Common.{◌≡◌, ◌+◌, ◌++◌, ◌<◌, drop, length, slice_get, ap, ◌∙◌, arith, flat_map, standing_in, paths_of}
use Rattle.std.proofs.Common.{◌-◌}
use Rattle.book_office.specs.InForce.{list_in}
use Rattle.book_office_listings.proofs.InTurn.{levels_left, place_here, place_past}
use Rattle.book_office_listings.proofs.denials.place_among.Goals as goal

pub returns-then-index-count : goal.returns-then-index-count
returns-then-index-count c = λ after.
    let levels = c.args.levels.now in
    let level = c.level-item.result in
    let protected = c.args.protected in
    let i = c.loop-level.level-index in
    let within : c.loop-level.index < length (list_in protected level) = omega (arith, c.if-index-count.true, ap length c.list_in-count.ensures) in
    c.loop-level.invariant after
    ∙ ap (λ list. slice_get (paths_of list) c.loop-level.index) (levels_left protected levels i level (omega arith) c.level-item.is after)
    ∙ place_here level.path protected (list_in protected level) (flat_map (standing_in protected) (drop (i + 1) levels) ++ after) c.loop-level.index within

pub loop-level-preserved : goal.loop-level-preserved
loop-level-preserved c = λ after.
    let levels = c.args.levels.now in
    let level = c.level-item.result in
    let protected = c.args.protected in
    let i = c.loop-level.level-index in
    let past : c.loop-level.index ≡ length (list_in protected level) + (c.loop-level.index - length c.list_in-count.result.now) =
    omega (arith, c.if-index-count.false, ap length c.list_in-count.ensures) in
    c.loop-level.invariant after
    ∙ ap (λ list. slice_get (paths_of list) c.loop-level.index) (levels_left protected levels i level (omega arith) c.level-item.is after)
    ∙ place_past level.path protected (list_in protected level) (flat_map (standing_in protected) (drop (i + 1) levels) ++ after) c.loop-level.index _ past
