use Rattle.book_office_members.proofs.Common.{take}
use Rattle.book_office_members.specs.Reaching.{HasNamesOf}
use Rattle.book_office_members.proofs.members.names_by_uid.Given as goal

-- the names of the cards so far
abbrev pub invariant-loop-card : goal.invariant-loop-card
invariant-loop-card l = HasNamesOf (take l.card-index l.cards) l.wanted l.index
