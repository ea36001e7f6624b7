use Rattle.book_office_members.proofs.Common.{◌≡◌, take, true, uid_in, AreNamesOf, CardRef}
use Rattle.book_office_members.proofs.members.found_names.Given as goal

abbrev pub invariant-loop-card : goal.invariant-loop-card
invariant-loop-card l = AreNamesOf (λ (q : CardRef). uid_in l.found q.uid ≡ true) (take l.card-index l.cards) l.names.items
