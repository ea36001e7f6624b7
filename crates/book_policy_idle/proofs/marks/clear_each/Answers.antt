use Rattle.std.proofs.Common.{[], List, Bool, subst}
use Rattle.std.proofs.lemmas.List.{take_all}
use Rattle.std.proofs.lemmas.List.Elements.{All-nil}
use Rattle.book_policy_idle.specs.Marks.{AreUnmarked, MarksLeft, SparesBoth, SparesEach}
use Rattle.book_policy_idle.specs.declared.askers.Asker.{Asker}
use Rattle.book_policy_idle.proofs.Clearing.{left_early, left_more, left_none}
use Rattle.book_policy_idle.proofs.marks.clear_each.Goals as goal

pub loop-asker-init : goal.loop-asker-init
loop-asker-init c =
    left_none (SparesEach c.args.here.now c.args.is_book c.args.list.now []) c.args.marks.now.items
    (λ i. All-nil (λ (asker : Asker). SparesBoth c.args.here.now c.args.is_book c.args.list.now asker i))

pub returns-then-not-has_marked : goal.returns-then-not-has_marked
returns-then-not-has_marked c =
    left_early c.args.here.now c.args.is_book c.args.list.now c.args.askers.now c.loop-asker.asker-index c.args.marks.now.items c.loop-asker.marks.items
    (subst (λ (marks : List Bool). AreUnmarked marks c.args.list.now) c.as_slice.ensures.value (c.has_marked.ensures c.if-not-has_marked.true))
    c.loop-asker.invariant

pub loop-asker-preserved : goal.loop-asker-preserved
loop-asker-preserved c =
    left_more (SparesBoth c.args.here.now c.args.is_book c.args.list.now) c.args.askers.now c.loop-asker.asker-index c.asker-item.result
    c.args.marks.now.items c.loop-asker.marks.items c.clear_both.new.marks.items c.loop-asker-test.true c.asker-item.is c.loop-asker.invariant c.clear_both.ensures

pub returns : goal.returns
returns c =
    subst (λ (askers : List Asker). MarksLeft (SparesEach c.args.here.now c.args.is_book c.args.list.now askers) c.args.marks.now.items c.loop-asker.marks.items)
    (take_all c.loop-asker.asker-index c.args.askers.now c.loop-asker-test.false) c.loop-asker.invariant
