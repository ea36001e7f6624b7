use Rattle.book_office_values.proofs.Common.{◌≡◌, entries}
use Rattle.std.specs.FinMap.{empty}
use Rattle.book_office_values.proofs.CardChanges.{entered}
use Rattle.book_office_values.proofs.offices.Book.changes_by_card.Given as goal

-- the names so far, and those to come, are those of all cards
abbrev pub invariant-loop-name : goal.invariant-loop-name
invariant-loop-name l = record {
  next : (goal.iterator-loop-name).can_next l.name-iterator;
  finite : (goal.iterator-loop-name).is_finite l.name-iterator;
  parts : entered l.self.changes.last l.fn.number l.name-iterator l.names ≡ entered l.self.changes.last l.fn.number (entries l.self.cards) empty;
}
