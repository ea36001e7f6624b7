use Rattle.std.proofs.Common.{◌<◌, ◌≤◌, length, refl, rules, subst, sym}
use Rattle.book_lists_reach.proofs.Through.{HasNumbers, closes_all, closes_more, closes_none, numbers_kept}
use Rattle.book_lists_reach.proofs.reach.go_through.Goals as goal

pub loop-place-init : goal.loop-place-init
loop-place-init c = record {
  len = refl;
  numbers = subst (HasNumbers c.args.rows.now.items) (sym c.members.view_is) (subst (λ rows. HasNumbers rows c.in_ok-members.members) c.as_slice.ensures.value c.in_ok-members.ensures);
  closes = λ ps sorted same. closes_none ps c.args.rows.now.items;
}

pub loop-place-preserved : goal.loop-place-preserved
loop-place-preserved c = record {
  len = search rules;
  numbers = numbers_kept c.loop-place.place c.loop-place.rows.items c.take_over_of.new.rows.items c.members.inside.words.items c.in_ok-take_over_of.ensures.ok c.loop-place.invariant.numbers;
  closes = λ ps sorted same.
      let within : c.loop-place.place < length ps = search rules in
      closes_more ps c.args.rows.now.items c.loop-place.place c.loop-place.rows.items c.take_over_of.new.rows.items within c.in_ok-take_over_of.ensures.ok (c.loop-place.invariant.closes ps sorted same);
}

pub take_over_of-requires-clause-numbers : goal.take_over_of-requires-clause-numbers
take_over_of-requires-clause-numbers c = subst (HasNumbers c.loop-place.rows.items) c.members.view_is c.loop-place.invariant.numbers

pub returns-clause-ok : goal.returns-clause-ok
returns-clause-ok c = λ ps sorted same.
    let all : length ps ≤ c.loop-place.place = search rules in
    closes_all ps c.args.rows.now.items c.loop-place.rows.items c.loop-place.place sorted all (c.loop-place.invariant.closes ps sorted same)
