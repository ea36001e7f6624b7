use Rattle.book_office_cache.proofs.remembered.Remembered.forget_book.Goals as goal

pub returns : goal.returns
returns c = λ i. record c.args.self.now { books = c.remove.ensures.removed i; book_nodes = c.remove-2.ensures.removed i }
