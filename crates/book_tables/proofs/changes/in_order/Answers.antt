use Rattle.book_tables.proofs.Common.{◌≡◌, rules, subst, sym, ◌∙◌, IsAscending}
use Rattle.std.proofs.Common.{nat_lt}
use Rattle.std.specs.List.{IsAllAdjacentAnswer}
use Rattle.std.proofs.lemmas.Fn.{always_returns_same}
use Rattle.book_tables.proofs.BookChanges.{IsEarlier, neighbours_rise}
use Rattle.book_tables.proofs.changes.in_order.Goals as goal

pub returns-clause-rise : goal.returns-clause-rise
returns-clause-rise c =
    let adjacent : IsAllAdjacentAnswer (λ x y b. b ≡ nat_lt x.number y.number) c.deref.result.now c.is_sorted_by.result =
    c.is_sorted_by.ensures.cases (λ x y. nat_lt x.number y.number) (always_returns_same _ (λ a r. r ≡ nat_lt a.0.now.number a.1.0.now.number) _ (λ a r q k. search rules)) in
    subst (IsAscending IsEarlier) (c.deref.ensures.value ∙ sym c.from_vec.ensures)
    (neighbours_rise c.deref.result.now (subst (IsAllAdjacentAnswer (λ x y b. b ≡ nat_lt x.number y.number) c.deref.result.now) c.if-not-is_sorted_by.false adjacent))
