use Rattle.book_lists.proofs.Common.{sym, ◌∙◌}
use Rattle.book_lists.proofs.Searches.{contains_alone}
use Rattle.book_lists.proofs.circles.Circle.has.Goals as goal

pub returns-in-Itself : goal.returns-in-Itself
returns-in-Itself c = rw (← c.self.view_is, c.in-Itself.is) (c.eq.ensures ∙ sym (contains_alone c.in-Itself.person c.args.principal.now))
