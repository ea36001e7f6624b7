use Rattle.std.proofs.Common.{lit<}
use Rattle.std.proofs.lemmas.Str.Pattern.{split_after, split_parts}
use Rattle.book_office_sync.proofs.TokenTexts.{some_and, if_some}
use Rattle.book_office_sync.proofs.tokens.around_slash.Goals as goal

pub returns-clause-some : goal.returns-clause-some
returns-clause-some c = if_some _ _ _ c.split_once.result (split_parts 47 c.args.text.now c.split_once.result c.split_once.ensures.cases (lit< tt))

pub returns-clause-first : goal.returns-clause-first
returns-clause-first c = λ front back free e.
    some_and _ c.split_once.result (split_after 47 c.args.text.now front back c.split_once.result c.split_once.ensures.cases (lit< tt) e free)
