use Rattle.book_wire.proofs.Common.{◌≡◌, ◌+◌, ℕ, List, [], ◌++◌, refl, sym, ap, ◌∙◌, subst, append-nil, arith, SoFar}
use Rattle.book_wire.specs.Connection.{View}
use Rattle.book_wire.proofs.Buffers.{more_then}
use Rattle.book_wire.proofs.Streams.{SoFar-none, so_far_answered, fed_waits, fed_last, fed_refused, stops_writing}
use Rattle.book_wire.proofs.connection.Connection.answer_some.Goals as goal

pub loop-alloc-init : goal.loop-alloc-init
loop-alloc-init g c =
    let s = g.M.Service.serving c.args.service.now in
    let u = c.args.self.now.unread in
    let same : c.self.inside.buffer ≡ u = ap (λ (v : View). v.unread) c.self.view_is in
    let P : List ℕ → Type 0 = λ t. SoFar s u [] 0 s t in (
      [],
      0,
      omega arith,
      ap (λ (v : View). v.unsent) c.self.view_is ∙ sym (append-nil _),
      subst P (sym same) (SoFar-none s u),
      ap (λ (v : View). v.closing) c.self.view_is ∙ c.requires.open,
      refl,
    )

pub returns-in-Wait-clause-ok : goal.returns-in-Wait-clause-ok
returns-in-Wait-clause-ok g c =
    let x = c.loop-alloc.invariant in
    let t = rw c.in-Wait.is at c.in-Ok.ensures.ok in (
      x.0 ++ t.0,
      x.1,
      x.2,
      more_then _ x.0 t.0 _ _ x.3 t.1,
      fed_waits _ _ _ _ x.0 t.0 _ _ _ x.4 t.2.0 t.2.2 t.2.3 t.2.4 t.3,
    )

pub loop-alloc-preserved : goal.loop-alloc-preserved
loop-alloc-preserved g c =
    let x = c.loop-alloc.invariant in
    let t = rw c.in-Answered.is at c.in-Ok.ensures.ok in (
      x.0 ++ t.0,
      x.1 + 1,
      (let now = x.2 in let next = c.saturating_add-answered.ensures in omega (arith, now, next)),
      more_then _ x.0 t.0 _ _ x.3 t.1,
      so_far_answered _ _ _ _ x.0 t.0 _ _ _ t.2.0 x.4 t.2.1 t.2.2,
      t.3,
      c.answer_next.ensures.stalled ∙ x.6,
    )

pub returns-in-Last-clause-ok : goal.returns-in-Last-clause-ok
returns-in-Last-clause-ok g c =
    let x = c.loop-alloc.invariant in
    let t = rw c.in-Last.is at c.in-Ok.ensures.ok in (
      x.0 ++ t.0,
      x.1 + 1,
      (let now = x.2 in let next = c.saturating_add.ensures in omega (arith, now, next)),
      more_then _ x.0 t.0 _ _ x.3 t.1,
      fed_last _ _ _ _ x.0 t.0 _ _ _ t.2.0 _ x.4 t.2.1 t.2.2 t.3,
    )

pub returns-in-Refused-clause-ok : goal.returns-in-Refused-clause-ok
returns-in-Refused-clause-ok g c =
    let x = c.loop-alloc.invariant in
    let t = rw c.in-Refused.is at c.in-Ok.ensures.ok in (
      x.0 ++ t.0,
      x.1,
      x.2,
      more_then _ x.0 t.0 _ _ x.3 t.1,
      fed_refused _ _ _ _ x.0 t.0 _ _ t.2.0 t.2.1 _ x.4 t.2.2 t.2.3 t.2.4 t.3,
    )

pub returns-in-Err-clause-stops : goal.returns-in-Err-clause-stops
returns-in-Err-clause-stops g c =
    let x = c.loop-alloc.invariant in
    let stops = c.in-Err.ensures.err.0 in
    let e = c.in-Err.ensures.err.1 in (
      stops,
      x.0 ++ e.2.front,
      more_then _ x.0 e.2.front _ _ x.3 e.2.added,
      stops_writing _ _ _ _ x.0 _ e.0 e.2.front e.2.left _ x.4 e.1 e.2.cut,
    )
