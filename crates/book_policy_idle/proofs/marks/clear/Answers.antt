use Rattle.std.proofs.Common.{◌≡◌, ◌+◌, ◌++◌, ◌∷◌, [], Bool, take, sym, ap, ◌∙◌, subst}
use Rattle.std.proofs.lemmas.List.{take_all, take_more}
use Rattle.book_rights.specs.declared.privileges.Leaf.{Leaf}
use Rattle.book_policy_idle.specs.Marks.{IsCleared, MarksLeft, Spares}
use Rattle.book_policy_idle.proofs.Clearing.{cleared_none}
use Rattle.book_policy_idle.proofs.marks.clear.Goals as goal

pub loop-placed-init : goal.loop-placed-init
loop-placed-init c =
    subst (λ (left : Leaf → Bool). IsCleared c.args.circle.now c.args.here.now c.args.marks.now.items [] left c.args.marks.now.items) (sym c.all-left.ensures)
    (cleared_none c.args.circle.now c.args.here.now c.args.marks.now.items)

pub loop-placed-preserved : goal.loop-placed-preserved
loop-placed-preserved c =
    let xs = c.args.list.now in
    let i = c.loop-placed.placed-index in
    let x = c.placed-item.result in
    let more : take (i + 1) xs ≡ take i xs ++ x ∷ [] = take_more xs i x c.loop-placed-test.true ∙ ap (λ y. take i xs ++ y ∷ []) (sym c.placed-item.is) in
    subst (λ l. IsCleared c.args.circle.now c.args.here.now c.args.marks.now.items l c.clear_one-left.result c.clear_one-left.new.marks.items) (sym more)
    (c.clear_one-left.ensures c.args.marks.now.items (take i xs) c.loop-placed.invariant)

pub returns : goal.returns
returns c =
    let xs = c.args.list.now in
    let i = c.loop-placed.placed-index in
    let whole : take i xs ≡ xs = take_all i xs c.loop-placed-test.false in
    subst (λ l. MarksLeft (Spares c.args.circle.now c.args.here.now l) c.args.marks.now.items c.loop-placed.marks.items) whole c.loop-placed.invariant.marks_left
