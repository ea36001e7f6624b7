use Rattle.book_wire.proofs.Common.{ℕ, List, ◌+◌, ◌-◌, drop, take, ap, ◌∙◌, arith}
use Rattle.std.proofs.lemmas.List.{with_items_is}
use Rattle.book_wire.proofs.Buffers.{held_more}
use Rattle.book_wire.proofs.buffer.Buffer.fill.Goals as goal

pub returns-clause-ok : goal.returns-clause-ok
returns-clause-ok g c =
    let r = c.in_ok-count.ensures.ok in
    let n = c.in_ok-count.count in
    let start = c.settle-start.result in
    let end = c.self.inside.end - (c.self.inside.start - start) in
    let was = c.settle-start.ensures.kept ∙ ap (λ (t : List ℕ). drop c.self.inside.start (take c.self.inside.end t)) c.deref_mut.ensures.value ∙ c.self.view_is in
    let settled = with_items_is c.self.inside.bytes c.settle-start.new.bytes (c.settle-start.ensures.size ∙ c.deref_mut.ensures.len) in
    let wrote = with_items_is c.grow.new.bytes c.read_after.new.bytes (c.read_after.auto.bytes ∙ c.deref_mut-2.ensures.len) in (
      r.0,
      ap (λ (t : List ℕ). drop start (take (end + n) t)) wrote
          ∙ held_more start end n _ _ _ _ c.read_after.new.bytes r.0 c.args.self.now (omega (arith, c.self.invariant.0, c.settle-start.ensures.front))
          (omega (arith, c.grow.ensures.size)) was settled c.grow.ensures.kept c.deref_mut-2.ensures.value r.3,
      r.1,
      r.4,
      r.5,
    )
