use Rattle.book_lists_explain.proofs.Common.{refl, inr, BadName}
use Rattle.book_lists_explain.proofs.LineFaults.{from_none}
use Rattle.book_lists_explain.proofs.lines.principal.Goals as goal

pub returns-clause-bad : goal.returns-clause-bad
returns-clause-bad c = from_none c.ok_or.result c.in_ok-parse.field-0 BadName _ _ c.ok_or.ensures.value c.in_ok-parse.ensures.none
    (λ none. inr (refl, λ path names. none path names.0 names.1))
