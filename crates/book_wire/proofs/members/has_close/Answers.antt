use Rattle.book_wire.proofs.Common.{◌≡◌, ◌≤◌, ◌+◌, ℕ, sym, ◌∙◌, subst, arith, has_close}
use Rattle.book_wire.proofs.CommaLists.{left_at, found_close, comma_passed, byte_passed}
use Rattle.book_wire.proofs.members.has_close.Goals as goal
use Rattle.book_wire.proofs.members.has_close.Goals.{then-byte-eq44+else-is_close, else-byte-eq44}

pub returns-then-is_close : goal.returns-then-is_close
returns-then-is_close c =
    found_close c.args.value.now c.loop-i.start c.loop-i.i c.loop-i-test.true c.if-byte-eq44.true
    (sym c.is_close.ensures ∙ c.if-is_close.true) c.loop-i.invariant.1

pub loop-i-preserved : goal.loop-i-preserved
loop-i-preserved c =
    let value = c.args.value.now in
    let i = c.loop-i.i in
    let P : ℕ → Type 0 = λ start. (start ≤ i + 1) × (left_at value start (i + 1) ≡ has_close value) in
    elim c.if-byte-eq44.branch [
      | then-byte-eq44+else-is_close w ↦
          subst P (sym w.start-is) (
            omega arith,
            comma_passed value c.loop-i.start i c.loop-i-test.true w.if-byte-eq44.true (sym w.is_close.ensures ∙ w.if-is_close.false) c.loop-i.invariant.1,
          )
      | else-byte-eq44 w ↦
          let begun = c.loop-i.invariant.0 in
          subst P (sym w.start-is)
          (omega (arith, begun), byte_passed value c.loop-i.start i begun c.loop-i-test.true w.if-byte-eq44.false c.loop-i.invariant.1)
    ]
