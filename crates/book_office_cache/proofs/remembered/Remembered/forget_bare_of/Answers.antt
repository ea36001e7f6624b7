use Rattle.book_office_cache.proofs.remembered.Remembered.forget_bare_of.Goals as goal

pub returns : goal.returns
returns c = λ i. record c.args.self.now { bare = c.remove.ensures.removed i; bare_books = c.remove-2.ensures.removed i }
