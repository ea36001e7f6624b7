use Rattle.book_office_members.proofs.Common.{◌≡◌, ◌++◌, map}
use Rattle.book_office_members.specs.Names.{named_card}
use Rattle.book_office_members.proofs.names.named.Given as goal

-- the cards so far and those to come are all
abbrev pub invariant-loop-name : goal.invariant-loop-name
invariant-loop-name l = record {
  next : (goal.iterator-loop-name).can_next l.name-iterator;
  finite : (goal.iterator-loop-name).is_finite l.name-iterator;
  parts : l.cards.items ++ map named_card l.name-iterator ≡ map named_card l.initial.name-iterator;
}
