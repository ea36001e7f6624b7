use Rattle.book_tables_opening.proofs.Common.{◌≡◌, ◌<◌, ◌≤◌, get_or, unwrap_or, pos, rules, arith, ap, subst, ◌∙◌, refl, count_by, same_key}
use Rattle.std.specs.BTreeMap.{get}
use Rattle.std.proofs.lemmas.List.{take_all}
use Rattle.book_tables_opening.proofs.Counts.{key_cmp, too_many, counted_next, few_next}
use Rattle.book_tables_opening.proofs.counting.are_at_most.Goals as goal

pub returns-then-count-limit : goal.returns-then-count-limit
returns-then-count-limit c =
    let item = get_or c.args.keys.now c.loop-key.key-index (pos 0, pos 0) in
    let is : get_or c.args.keys.now c.loop-key.key-index item ≡ item = search rules in
    let count_is : c.unwrap_or-count.result ≡ unwrap_or (get key_cmp c.loop-key.counts item) 0 = c.unwrap_or-count.ensures ∙ ap (λ w. unwrap_or w 0) (c.copied.ensures ∙ c.get.ensures.value) in
    (λ none. search (rules, none), λ few. absurd (too_many c.args.limit c.args.keys.now c.loop-key.key-index item c.loop-key-test.true is c.loop-key.counts c.loop-key.invariant.counted c.unwrap_or-count.result count_is c.if-count-limit.true few))

pub loop-key-preserved : goal.loop-key-preserved
loop-key-preserved c =
    let item = get_or c.args.keys.now c.loop-key.key-index (pos 0, pos 0) in
    let is : get_or c.args.keys.now c.loop-key.key-index item ≡ item = search rules in
    let count_is : c.unwrap_or-count.result ≡ unwrap_or (get key_cmp c.loop-key.counts item) 0 = c.unwrap_or-count.ensures ∙ ap (λ w. unwrap_or w 0) (c.copied.ensures ∙ c.get.ensures.value) in
    let room : c.unwrap_or-count.result < c.args.limit = omega (arith, c.if-count-limit.false) in
    record {
      ordered = c.in_ok-insert.ensures.ordered;
      counted = counted_next c.args.limit c.args.keys.now c.loop-key.key-index item c.loop-key-test.true is c.loop-key.counts c.loop-key.invariant.counted c.unwrap_or-count.result count_is c.insert.new.self c.in_ok-insert.ensures.updates;
      few = few_next c.args.limit c.args.keys.now c.loop-key.key-index item c.loop-key-test.true is c.loop-key.counts c.loop-key.invariant.counted c.unwrap_or-count.result count_is c.loop-key.invariant.few room;
    }

pub returns : goal.returns
returns c =
    let whole = take_all c.loop-key.key-index c.args.keys.now c.loop-key-test.false in
    (λ _ k. subst (λ keys. count_by (same_key k) keys ≤ c.args.limit) whole (c.loop-key.invariant.few k), λ _. refl)
