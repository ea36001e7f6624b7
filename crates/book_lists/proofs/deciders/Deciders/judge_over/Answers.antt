use Rattle.book_lists.proofs.Common.{◌≡◌, ◌++◌, ◌-◌, ◌^◌, length, refl, sym, subst, arith, append-nil, length-append, both_ways, read_by, Reading}
use Rattle.std.proofs.Common.{min, drop}
use Rattle.std.proofs.lemmas.List.{length-map}
use Rattle.book_lists.specs.declared.entries.Entry.{Entry}
use Rattle.book_lists.specs.Readings.{Settles}
use Rattle.book_lists.specs.Deciders.{IsJudged}
use Rattle.book_lists.proofs.IdleReadings.{settles_more}
use Rattle.book_lists.proofs.JudgedNeeds.{judged, all_seen, unsettled_none, settled_more}
use Rattle.book_lists.proofs.OneReader.{read_more, read_parts, read_all}
use Rattle.book_lists.proofs.deciders.Deciders.judge_over.Goals as goal

pub loop-entry-init : goal.loop-entry-init
loop-entry-init c need readings j = subst (λ xs. IsJudged need xs c.args.self.now) (sym (append-nil readings)) j

pub loop-entry-preserved : goal.loop-entry-preserved
loop-entry-preserved c need readings j =
    let so_far = c.loop-entry.invariant need readings j in
    let none = unsettled_none need _ c.loop-entry.self so_far (λ settled. both_ways _ c.if-is_settled.false ((c.is_settled.ensures need _ so_far).1 settled)) in
    subst (λ xs. IsJudged need xs c.look.new.self) (read_more c.args.circle.now c.args.here.now readings c.args.entries.now c.loop-entry.entry-index c.entry-item.result c.loop-entry-test.true c.entry-item.is)
    (judged need _ c.look.new.self (c.look.ensures need _ (all_seen need _ c.loop-entry.self so_far none)))

pub returns-then-is_settled-clause-scanned : goal.returns-then-is_settled-clause-scanned
returns-then-is_settled-clause-scanned c need readings j =
    let circle = c.args.circle.now in
    let here = c.args.here.now in
    let entries = c.args.entries.now in
    let i = c.loop-entry.entry-index in
    let parts = read_parts circle here readings entries i in
    let so_far = c.loop-entry.invariant need readings j in
    let all : c.saturating_add-passed.result ≡ min (length (readings ++ read_by circle here entries)) (2 ^ 64 - 1) =
    (let was = j.passed in
    let now = c.saturating_add-passed.ensures in
    let long = length-append readings (read_by circle here entries) in
    let map = length-map {B = Reading} entries (λ (entry : Entry). record { circle = circle; here = here; entry = entry }) in omega (arith, was, now, long, map)) in
    subst (λ n. IsJudged need (readings ++ read_by circle here entries) (record c.loop-entry.self { passed = n })) (sym all)
    (subst (λ xs. IsJudged need xs (record c.loop-entry.self { passed = min (length xs) (2 ^ 64 - 1) })) parts
    (settled_more need _ c.loop-entry.self so_far ((c.is_settled.ensures need _ so_far).0 c.if-is_settled.true) (read_by circle here (drop i entries))))

pub returns-then-is_settled-clause-ended : goal.returns-then-is_settled-clause-ended
returns-then-is_settled-clause-ended c need readings j =
    let so_far = c.loop-entry.invariant need readings j in (
      λ e. subst (λ xs. Settles xs need) (read_parts c.args.circle.now c.args.here.now readings c.args.entries.now c.loop-entry.entry-index)
          (settles_more _ _ need ((c.is_settled.ensures need _ so_far).0 c.if-is_settled.true)),
      λ settled. refl,
    )

pub returns-clause-scanned : goal.returns-clause-scanned
returns-clause-scanned c need readings j =
    subst (λ xs. IsJudged need xs c.loop-entry.self) (read_all c.args.circle.now c.args.here.now readings c.args.entries.now c.loop-entry.entry-index (omega arith))
    (c.loop-entry.invariant need readings j)

pub returns-clause-ended : goal.returns-clause-ended
returns-clause-ended c need readings j = c.is_settled-2.ensures need _ (returns-clause-scanned c need readings j)
