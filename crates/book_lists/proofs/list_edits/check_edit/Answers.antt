use Rattle.book_lists.proofs.Common.{arith, refl, length, slice_get_within}
use Rattle.std.proofs.lemmas.Option.{slice_get_read}
use Rattle.book_lists.specs.ListEdits.{IsFaultless}
use Rattle.book_lists.proofs.Passed.{each_passed}
use Rattle.book_lists.proofs.list_edits.check_edit.Goals as goal

pub loop-entry-preserved : goal.loop-entry-preserved
loop-entry-preserved c =
    each_passed c.args.submitted.now (IsFaultless c.args.protected.now) c.loop-entry.entry-index c.entry-item.result
    c.loop-entry.invariant
    (slice_get_read c.args.submitted.now (length c.args.submitted.now) c.loop-entry.entry-index _ refl (omega arith) c.entry-item.is)
    c.in_default.ensures.none

pub returns-clause-accepted : goal.returns-clause-accepted
returns-clause-accepted c = (
  omega arith,
  λ i submitted there. let within = slice_get_within c.args.submitted.now i submitted there in
      c.loop-entry.invariant i submitted (omega (arith, within)) there,
)
