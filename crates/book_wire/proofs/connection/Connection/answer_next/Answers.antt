use Rattle.book_wire.proofs.Common.{◌≡◌, ℕ, List, [], ◌++◌, length, refl, sym, ap, ◌∙◌, subst, append-nil, arith}
use Rattle.book_wire.specs.Connection.{View, MayWait}
use Rattle.book_wire.specs.Sending.{IsBegun}
use Rattle.book_wire.specs.Stream.{IsPartial, WaitsFor}
use Rattle.book_wire.specs.Turn.{IsPending, IsTurn}
use Rattle.book_wire_serving.proofs.Servings.{stays}
use Rattle.book_wire.proofs.Streams.{waits_still, may_wait_after}
use Rattle.book_wire.proofs.connection.Connection.answer_next.Goals as goal

pub returns-then-unread-self-clause-ok : goal.returns-then-unread-self-clause-ok
returns-then-unread-self-clause-ok g c =
    let same : c.self.inside.buffer ≡ c.args.self.now.unread = ap (λ (v : View). v.unread) c.self.view_is in
    let still = waits_still c.self.inside.buffer c.self.inside.wanted c.self.invariant (omega (arith, c.if-unread-self.true, ap length c.unread.ensures.value)) in
    let P : List ℕ → Type 0 = λ t. IsPartial t × WaitsFor t c.self.inside.wanted in
    let here = subst P same still in
    ([], sym (append-nil _), (here.0, here.1, refl, stays _, refl), c.requires.open)

pub returns-clause-ok : goal.returns-clause-ok
returns-clause-ok g c =
    let t = c.in-Ok.ensures.ok in
    let same : c.self.inside.buffer ≡ c.args.self.now.unread = ap (λ (v : View). v.unread) c.self.view_is in
    let unsent : c.self.inside.outgoing ≡ c.args.self.now.unsent = ap (λ (v : View). v.unsent) c.self.view_is in
    let P : List ℕ → Type 0 = λ u. IsTurn (g.M.Service.serving c.args.service.now) u t.0 c.in-Ok.turn (g.M.Service.serving c.answer_one.new.service) c.answer_one.new.buffer in
    (t.0, t.1 ∙ ap (λ (u : List ℕ). u ++ t.0) unsent, subst P same t.2, c.closes-self-inside.ensures)

pub returns-in-Err-clause-err : goal.returns-in-Err-clause-err
returns-in-Err-clause-err g c =
    let e = c.in-Err.ensures.err in
    let x = e.1 in
    let same : c.self.inside.buffer ≡ c.args.self.now.unread = ap (λ (v : View). v.unread) c.self.view_is in
    let unsent : c.self.inside.outgoing ≡ c.args.self.now.unsent = ap (λ (v : View). v.unsent) c.self.view_is in
    let P : List ℕ → Type 0 = λ u. IsPending (g.M.Service.serving c.args.service.now) u x.0 (g.M.Service.serving c.answer_one.new.service) in
    let Q : List ℕ → Type 0 = λ u. IsBegun u x.0 c.answer_one.new.out in
    (e.0, (x.0, subst P same x.1, subst Q unsent x.2))

pub invariant_of-self-2 : goal.invariant_of-self-2
invariant_of-self-2 g c =
    let t = c.in-Ok.ensures.ok in
    let P : ℕ → Type 0 = λ w. MayWait c.answer_one.new.buffer w in
    subst P (sym c.wanted-self-inside.ensures) (may_wait_after _ _ _ _ _ _ t.2)
