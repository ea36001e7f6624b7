use Rattle.std.proofs.Common.{[], List, subst}
use Rattle.std.proofs.lemmas.List.{take_all}
use Rattle.std.proofs.lemmas.List.Elements.{All-nil}
use Rattle.book_office_values.specs.declared.paths.Path.{Path}
use Rattle.book_policy_idle.specs.Marks.{MarksLeft, SparesAlong, SparesAt}
use Rattle.book_policy_idle.proofs.Clearing.{left_more, left_none}
use Rattle.book_policy_idle.proofs.marks.clear_along.Goals as goal

pub loop-path-init : goal.loop-path-init
loop-path-init c =
    left_none (SparesAlong c.args.entries.now c.args.askers.now []) c.args.marks.now.items (λ i. All-nil (λ (p : Path). SparesAt c.args.entries.now c.args.askers.now p i))

pub loop-path-preserved : goal.loop-path-preserved
loop-path-preserved c =
    left_more (SparesAt c.args.entries.now c.args.askers.now) c.args.paths.now c.loop-path.path-index c.path-item.result
    c.args.marks.now.items c.loop-path.marks.items c.clear_at.new.marks.items c.loop-path-test.true c.path-item.is c.loop-path.invariant c.in_ok-clear_at.ensures

pub returns : goal.returns
returns c =
    subst (λ (paths : List Path). MarksLeft (SparesAlong c.args.entries.now c.args.askers.now paths) c.args.marks.now.items c.loop-path.marks.items)
    (take_all c.loop-path.path-index c.args.paths.now c.loop-path-test.false) c.loop-path.invariant
