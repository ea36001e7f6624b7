use Rattle.book_dumps_restoring.proofs.Ordered.{in_order}
use Rattle.book_dumps_restoring.proofs.Staying.{books_stay, others_stay, wanted_are}
use Rattle.book_dumps_restoring.proofs.laws.restores_change_what_is_wanted.Goals as goal

pub returns-clause-others : goal.returns-clause-others
returns-clause-others c = others_stay

pub returns-clause-books : goal.returns-clause-books
returns-clause-books c = books_stay

pub returns-clause-wanted : goal.returns-clause-wanted
returns-clause-wanted c = wanted_are

pub returns-clause-order : goal.returns-clause-order
returns-clause-order c = in_order
