use Rattle.book_lists.proofs.Common.{◌≡◌, List, ℕ, subst, false≢true}
use Rattle.book_lists.specs.Principals.{IsPrincipal}
use Rattle.book_lists.proofs.PathEnds.{ends_plain}
use Rattle.book_lists.proofs.principals.Principal.parse.Goals as goal

pub returns-then-not-is_principal-clause-none : goal.returns-then-not-is_principal-clause-none
returns-then-not-is_principal-clause-none c path principal spells =
    let same : path ≡ c.without_slash-path.result.now = c.without_slash-path.ensures.only path (ends_plain path principal) spells in
    let P : List ℕ → Type 0 = IsPrincipal in
    false≢true (c.if-not-is_principal.ensures.1 (subst P same principal))
