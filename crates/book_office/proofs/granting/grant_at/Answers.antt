use Rattle.book_office.proofs.Common.{◌≡◌, ◌↔◌, true, sym, subst, IsAllowed, in_force_at}
use Rattle.book_office.proofs.granting.grant_at.Goals as goal

pub returns-in-Card : goal.returns-in-Card
returns-in-Card c =
    subst (λ p. (c.grant_at_card.result ≡ true) ↔ IsAllowed (in_force_at c.args.office.now p) c.args.circle.now c.args.here.now c.args.set)
    (sym c.in-Card.is) c.grant_at_card.ensures
