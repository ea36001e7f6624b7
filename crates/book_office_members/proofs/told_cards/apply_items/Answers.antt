use Rattle.book_office_members.proofs.Common.{◌≡◌, ◌∷◌, [], length, refl, sym, ap, ◌∙◌, subst, rules, patch, AreCardsOf}
use Rattle.book_office_members.proofs.Views.{none_left}
use Rattle.std.specs.Vec.Iter.{into_iter_items}
use Rattle.book_office_sync.specs.Copies.{patched}
use Rattle.book_office_members.proofs.told_cards.apply_items.Goals as goal

pub loop-item-init : goal.loop-item-init
loop-item-init c = record {
  copied = λ copy are. (copy, are, refl);
  count = search rules;
}

pub loop-item-preserved : goal.loop-item-preserved
loop-item-preserved c =
    let counted = c.loop-item.invariant.count in
    let next : into_iter_items c.loop-item.item-iterator ≡ c.in-Some.item ∷ into_iter_items c.next.new.self = search rules in
    record {
      copied = λ copy are.
          let before = c.loop-item.invariant.copied copy are in
          (patched before.0 c.in-Some.item c.in-Some.item.found, c.in_ok-apply_item.ensures before.0 before.1, ap (patch before.0) (sym next) ∙ before.2);
      count = search rules;
    }

pub returns : goal.returns
returns c = λ copy are.
    let known = c.loop-item.invariant.copied copy are in
    let none : length (into_iter_items c.loop-item.item-iterator) ≡ 0 = search rules in
    let over : into_iter_items c.loop-item.item-iterator ≡ [] = none_left (into_iter_items c.loop-item.item-iterator) none in
    let all : into_iter_items c.into_iter-item-iterator.result ≡ c.args.items = search rules in
    subst (λ view. AreCardsOf view c.loop-item.cards) (ap (patch known.0) (sym over) ∙ known.2 ∙ ap (patch copy) all) known.1
