use Rattle.book_tables_opening.proofs.limit_tests.keep_limits.Goals as goal

pub returns : goal.returns
returns c = (
  λ few. record {
    lists = c.in_ok-are_short_lists.ensures.0 c.if-not-branch.false;
    groups = c.in_ok-are_small_groups.ensures.0 c.if-not-branch-2.false;
    changes = c.in_ok-are_changes.ensures.0 c.if-not-branch-3.false;
    cards = c.in_ok-are_small_books.ensures.0 c.if-not-branch-4.false;
    books = c.are_few_books.ensures.0 few;
  },
  λ k. c.are_few_books.ensures.1 k.books,
)
