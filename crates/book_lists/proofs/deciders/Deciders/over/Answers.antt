use Rattle.book_lists.proofs.Common.{◌≡◌, ◌++◌, ◌-◌, ◌^◌, length, refl, sym, ap, ◌∙◌, subst, arith, append-nil, length-append, read_by, Reading}
use Rattle.std.proofs.Common.{min, drop}
use Rattle.std.proofs.lemmas.List.{length-map}
use Rattle.book_lists.specs.declared.entries.Entry.{Entry}
use Rattle.book_lists.specs.Deciders.{IsDeciders}
use Rattle.book_lists.specs.declared.deciders.Deciders.{Deciders}
use Rattle.book_lists.proofs.KeptDeciders.{all_decided, decided_more}
use Rattle.book_lists.proofs.OneReader.{read_more, read_parts, read_all}
use Rattle.book_lists.proofs.deciders.Deciders.over.Goals as goal

pub loop-entry-init : goal.loop-entry-init
loop-entry-init c need readings s = subst (λ xs. IsDeciders need xs c.args.self.now) (sym (append-nil readings)) s

pub loop-entry-preserved : goal.loop-entry-preserved
loop-entry-preserved c need readings s =
    subst (λ xs. IsDeciders need xs c.look.new.self) (read_more c.args.circle.now c.args.here.now readings c.args.entries.now c.loop-entry.entry-index c.entry-item.result c.loop-entry-test.true c.entry-item.is)
    (c.look.ensures need _ (c.loop-entry.invariant need readings s))

pub returns-then-has_ended-clause-scanned : goal.returns-then-has_ended-clause-scanned
returns-then-has_ended-clause-scanned c need readings s =
    let circle = c.args.circle.now in
    let here = c.args.here.now in
    let entries = c.args.entries.now in
    let i = c.loop-entry.entry-index in
    let parts = read_parts circle here readings entries i in
    let all : c.saturating_add-passed.result ≡ min (length (readings ++ read_by circle here entries)) (2 ^ 64 - 1) =
    (let was = s.passed in
    let now = c.saturating_add-passed.ensures in
    let long = length-append readings (read_by circle here entries) in
    let map = length-map {B = Reading} entries (λ (entry : Entry). record { circle = circle; here = here; entry = entry }) in omega (arith, was, now, long, map)) in
    let next : Deciders = record c.loop-entry.self { passed = c.saturating_add-passed.result } in
    subst (λ xs. IsDeciders need xs next) parts
    (decided_more need _ c.loop-entry.self (c.loop-entry.invariant need readings s) (c.has_ended.ensures.0 c.if-has_ended.true) (read_by circle here (drop i entries)) next
    refl refl refl refl refl (all ∙ ap (λ xs. min (length xs) (2 ^ 64 - 1)) (sym parts)))

pub returns-then-has_ended-clause-ended : goal.returns-then-has_ended-clause-ended
returns-then-has_ended-clause-ended c need readings s =
    (λ e. (all_decided need _ _ (returns-then-has_ended-clause-scanned c need readings s)).0 (c.has_ended.ensures.0 c.if-has_ended.true), λ decided. refl)

pub returns-clause-scanned : goal.returns-clause-scanned
returns-clause-scanned c need readings s =
    subst (λ xs. IsDeciders need xs c.loop-entry.self) (read_all c.args.circle.now c.args.here.now readings c.args.entries.now c.loop-entry.entry-index (omega arith))
    (c.loop-entry.invariant need readings s)

pub returns-clause-ended : goal.returns-clause-ended
returns-clause-ended c need readings s =
    let tells = all_decided need _ c.loop-entry.self (returns-clause-scanned c need readings s) in
    (λ e. tells.0 (c.has_ended-2.ensures.0 e), λ decided. c.has_ended-2.ensures.1 (tells.1 decided))
