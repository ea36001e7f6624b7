use Rattle.book_office_members.proofs.Common.{◌≡◌, card_named}
use Rattle.std.proofs.Common.{drop}
use Rattle.book_office_members.proofs.card_refs.card_named.Given as goal

-- no earlier card has the name
abbrev pub invariant-loop-card : goal.invariant-loop-card
invariant-loop-card l = card_named (drop l.card-index l.cards) l.name ≡ card_named l.cards l.name
