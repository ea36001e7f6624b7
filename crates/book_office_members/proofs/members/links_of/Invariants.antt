use Rattle.book_office_members.proofs.Common.{take}
use Rattle.book_office_members.specs.Reaching.{AreLinks}
use Rattle.book_office_members.proofs.members.links_of.Given as goal

abbrev pub invariant-loop-card : goal.invariant-loop-card
invariant-loop-card l = AreLinks (take l.card-index l.cards) l.links
