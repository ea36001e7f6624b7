use Rattle.book_office_members.proofs.Common.{◌≡◌, ◌++◌}
use Rattle.book_cards.specs.CardText.{members_in}
use Rattle.book_cards.specs.Views.{members_left}
use Rattle.book_office_members.proofs.told_cards.members_of.Given as goal

-- the members so far and those to come are all
abbrev pub invariant-loop-member : goal.invariant-loop-member
invariant-loop-member l = l.members.items ++ members_left l.member-iterator ≡ members_in l.card
