use Rattle.book_lists.proofs.Common.{refl, sym, ap, ◌∙◌, not, Reading, None, Option, Some, ◌≡◌, true, false, both_ways}
use Rattle.std.proofs.Common.{is_some}
use Rattle.book_lists.proofs.KeptDeciders.{look_passed, look_granted, look_denied, denied_first, denied_later}
use Rattle.book_lists.proofs.IdleReadings.{idle_unshared, idle_elsewhere}
use Rattle.book_lists.proofs.deciders.Deciders.look.Goals as goal

none_there : {A : Type 0} (x : Option A) → is_some x ≡ false → x ≡ None
none_there None e = refl
none_there (Some x) e = absurd (both_ways _ e refl)

-- an entry that holds no leaf that is left
pub returns-in_default : goal.returns-in_default
returns-in_default c need readings s =
    let d = c.args.self.now in
    let r : Reading = record { circle = c.args.circle.now; here = c.args.here.now; entry = c.args.entry.now } in
    look_passed need readings d s r (idle_unshared d.open r c.intersection-decided.result c.intersection-decided.ensures c.in_default.ensures) _
    refl refl refl refl refl c.saturating_add-self.ensures

-- an entry that does not apply
pub returns-then-not-applies : goal.returns-then-not-applies
returns-then-not-applies c need readings s =
    let d = c.args.self.now in
    let r : Reading = record { circle = c.args.circle.now; here = c.args.here.now; entry = c.args.entry.now } in
    look_passed need readings d s r (idle_elsewhere d.open r (sym c.applies.ensures ∙ c.if-not-applies.true)) _
    refl refl refl refl refl c.saturating_add-self.ensures

-- an entry that grants
pub returns-then-not-entry : goal.returns-then-not-entry
returns-then-not-entry c need readings s =
    let d = c.args.self.now in
    let r : Reading = record { circle = c.args.circle.now; here = c.args.here.now; entry = c.args.entry.now } in
    look_granted need readings d s r c.intersection-decided.result (sym c.applies.ensures ∙ c.if-not-applies.false) c.intersection-decided.ensures _
    c.minus-self.ensures c.saturating_add-self.ensures c.indexes_with-self.ensures c.if-not-entry.true c.union-self.ensures refl refl

-- the first entry that denies, and a later one
pub returns-then-is_none : goal.returns-then-is_none
returns-then-is_none c need readings s =
    let d = c.args.self.now in
    let r : Reading = record { circle = c.args.circle.now; here = c.args.here.now; entry = c.args.entry.now } in
    look_denied need readings d s r c.intersection-decided.result (sym c.applies.ensures ∙ c.if-not-applies.false) c.intersection-decided.ensures _
    c.minus-self.ensures c.saturating_add-self.ensures c.indexes_with-self.ensures c.if-not-entry.false c.union-self-2.ensures refl
    (denied_first need readings d s r c.intersection-decided.result (sym c.applies.ensures ∙ c.if-not-applies.false) c.intersection-decided.ensures c.if-not-entry.false
    (none_there _ (c.is_none.ensures ∙ ap not c.if-is_none.true)) c.in-Some.least c.in-Some.ensures)

pub returns-else-is_none : goal.returns-else-is_none
returns-else-is_none c need readings s =
    let d = c.args.self.now in
    let r : Reading = record { circle = c.args.circle.now; here = c.args.here.now; entry = c.args.entry.now } in
    look_denied need readings d s r c.intersection-decided.result (sym c.applies.ensures ∙ c.if-not-applies.false) c.intersection-decided.ensures _
    c.minus-self.ensures c.saturating_add-self.ensures c.indexes_with-self.ensures c.if-not-entry.false c.union-self-2.ensures refl
    (denied_later need readings d s r c.intersection-decided.result (sym c.applies.ensures ∙ c.if-not-applies.false) c.intersection-decided.ensures d.first
    (c.is_none.ensures ∙ ap not c.if-is_none.false) s.first)
