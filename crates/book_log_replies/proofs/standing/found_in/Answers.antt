use Rattle.book_log_replies.proofs.Common.{◌≡◌, ◌+◌, ◌-◌, ◌++◌, ◌<◌, [], drop, length, slice_get, ap, ◌∙◌, arith, flat_map, option_map, list_in, decided, placed}
use Rattle.std.proofs.lemmas.List.{drop_all}
use Rattle.book_log_replies.proofs.Places.{get_here, get_past}
use Rattle.book_log_replies.proofs.standing.found_in.Goals as goal

pub decided_at-requires : goal.decided_at-requires
decided_at-requires c = omega (arith, c.if-left-count.true, ap length c.list_in-count.ensures)

pub returns-then-left-count : goal.returns-then-left-count
returns-then-left-count c = λ after.
    let levels = c.args.levels.now in
    let level = c.level-item.result in
    let within : c.loop-level.left < length (list_in c.args.protected level) = omega (arith, c.if-left-count.true, ap length c.list_in-count.ensures) in
    ap (option_map (decided c.args.number)) (c.loop-level.invariant after
    ∙ get_here c.args.protected levels c.loop-level.level-index level (omega arith) c.level-item.is after c.loop-level.left within)
    ∙ c.in_ok-decided_at.ensures

pub loop-level-preserved : goal.loop-level-preserved
loop-level-preserved c = λ after.
    let levels = c.args.levels.now in
    let level = c.level-item.result in
    let past : c.loop-level.left ≡ length (list_in c.args.protected level) + (c.loop-level.left - length c.list_in-count.result.now) =
    omega (arith, c.if-left-count.false, ap length c.list_in-count.ensures) in
    c.loop-level.invariant after
    ∙ get_past c.args.protected levels c.loop-level.level-index level (omega arith) c.level-item.is after c.loop-level.left _ past

pub returns : goal.returns
returns c = λ after.
    let levels = c.args.levels.now in
    let done : drop c.loop-level.level-index levels ≡ [] =
    drop_all c.loop-level.level-index levels (omega (arith, c.loop-level-test.false)) in
    c.loop-level.invariant after
    ∙ ap (λ ls. slice_get (flat_map (placed c.args.protected) ls ++ after) c.loop-level.left) done
