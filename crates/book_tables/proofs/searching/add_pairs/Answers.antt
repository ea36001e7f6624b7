use Rattle.std.proofs.Common.{◌≡◌, ◌++◌, ◌∷◌, [], rules, sym, ap, ◌∙◌}
use Rattle.std.specs.FinSet as set
use Rattle.book_tables.specs.Searching.{far_end}
use Rattle.book_tables.proofs.SearchedPairs.{none_added, one_more_added, all_added}
use Rattle.book_tables.proofs.searching.add_pairs.Goals as goal

pub pairs-init : goal.pairs-init
pairs-init c = none_added c.args.way c.args.list.now c.args.pairs.now c.args.work.now.items

pub pairs-preserved : goal.pairs-preserved
pairs-preserved c =
    let list = c.args.list.now in
    let e = c.pair-item.result in
    let end : c.in_ok-clone.field-0 ≡ far_end c.args.way e = search rules in
    let pushed : c.push.new.self.items ≡ c.pairs.work.items ++ c.in_ok-clone.field-0 ∷ [] = search rules in
    let added : c.add.new.self ≡ set.insert c.pairs.pairs e = search rules in
    one_more_added c.args.way list c.pairs.pair-index e c.pairs-test.true (sym c.pair-item.is) c.args.pairs.now c.pairs.pairs c.add.new.self c.args.work.now.items c.pairs.work.items c.push.new.self.items added
    (pushed ∙ ap (λ p. c.pairs.work.items ++ p ∷ []) end) c.pairs.invariant

pub returns : goal.returns
returns c = all_added c.args.way c.args.list.now c.pairs.pair-index c.pairs-test.false c.args.pairs.now c.pairs.pairs c.args.work.now.items c.pairs.work.items c.pairs.invariant
