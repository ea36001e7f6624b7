use Rattle.book_cards.proofs.Common.{◌≡◌, length}
use Rattle.book_cards.specs.CardText.{members_in}
use Rattle.book_cards.proofs.card.MemberValuesIterator.next.Given as goal

-- nothing is passed over that is to come
abbrev pub invariant-loop-line : goal.invariant-loop-line
invariant-loop-line l = members_in l.self.rest.now ≡ members_in l.fn.self.rest.now

abbrev pub decreases-loop-line : goal.decreases-loop-line
decreases-loop-line l = length l.self.rest.now
