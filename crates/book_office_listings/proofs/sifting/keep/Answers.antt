use Rattle.book_office_listings.proofs.Common.{◌≡◌, ◌++◌, [], ◌∷◌, ◌+◌, take, sym, subst, arith, AppliesAs}
use Rattle.std.proofs.Common.{rules}
use Rattle.book_office_listings.proofs.AppliedEntries.{kept_one, dropped_one}
use Rattle.book_office_listings.proofs.sifting.keep.Goals.{then-may_apply+in_ok-clone+in_ok-push, else-may_apply}
use Rattle.book_office_listings.proofs.sifting.keep.Goals as goal

pub loop-entry-preserved : goal.loop-entry-preserved
loop-entry-preserved c = λ before start.
    let i = c.loop-entry.entry-index in
    let list = c.args.list.now in
    let entry = c.entry-item.result in
    let circle = c.args.circle.now in
    let kept = c.loop-entry.kept.items in
    let so_far = c.loop-entry.invariant before start in
    elim c.if-may_apply.branch [
      | then-may_apply+in_ok-clone+in_ok-push w ↦
          let one : c.if-may_apply.kept.items ≡ kept ++ entry ∷ [] = search rules in
          subst (AppliesAs circle (before ++ take (i + 1) list)) (sym one) (kept_one circle list i entry (omega arith) c.entry-item.is before kept so_far)
      | else-may_apply w ↦
          let none : c.if-may_apply.kept.items ≡ kept = search rules in
          subst (AppliesAs circle (before ++ take (i + 1) list)) (sym none)
          (dropped_one circle list i entry (omega arith) c.entry-item.is before kept so_far (c.may_apply.ensures.nowhere w.if-may_apply.false))
    ]
