use Rattle.std.proofs.Common.{◌++◌, ◌∷◌, [], sym, ap, subst, ◌∙◌}
use Rattle.std.proofs.lemmas.Bool.{false≢true}
use Rattle.std.proofs.lemmas.List.{take_all}
use Rattle.book_tables.specs.Nearby.{PushesChanged}
use Rattle.book_tables.proofs.NearbyPairs.{not_changed, one_changed}
use Rattle.book_tables.proofs.nearby.push_changed.Goals as goal

pub pairs-init : goal.pairs-init
pairs-init c = record { kept = λ q has. has; come = λ m none apart. absurd (false≢true none) }

pub pairs-preserved-then-has : goal.pairs-preserved-then-has
pairs-preserved-then-has c =
    not_changed c.args.list.now c.args.others.now c.pairs.pair-index c.pair-item.result c.pairs-test.true (sym c.pair-item.is) c.args.starts.now.items c.pairs.starts.items c.pairs.invariant
    (sym c.has.ensures ∙ c.if-has.true)

pub pairs-preserved : goal.pairs-preserved
pairs-preserved c =
    one_changed c.args.list.now c.args.others.now c.pairs.pair-index c.pair-item.result c.pairs-test.true (sym c.pair-item.is) c.args.starts.now.items c.pairs.starts.items c.pairs.invariant
    c.push.new.self.items (c.in_ok-push.ensures.items ∙ ap (λ p. c.pairs.starts.items ++ p ∷ []) c.in_ok-clone.ensures.cases)

pub returns : goal.returns
returns c = subst (λ l. PushesChanged l c.args.others.now c.args.starts.now.items c.pairs.starts.items) (take_all c.pairs.pair-index c.args.list.now c.pairs-test.false) c.pairs.invariant
