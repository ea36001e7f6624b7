use Rattle.book_tables_findings.proofs.Common.{List, IfSome, Row, subst, rules}
use Rattle.book_tables_opening.specs.Opening.{AreChanges}
use Rattle.book_tables_findings.specs.Findings.{BreaksLimit}
use Rattle.book_tables_findings.proofs.limit_rules.broken_limit.Goals as goal

pub returns-in-Some-clause-found : goal.returns-in-Some-clause-found
returns-in-Some-clause-found c =
    let nodes = c.args.directory.now in
    let gone = c.args.gone.now in
    subst (λ o. IfSome o (λ limit. (entries members : List Row) → BreaksLimit nodes entries members gone limit)) c.in-Some.is c.in_ok-limit.ensures.found c.args.entries.now c.args.members.now

pub returns-clause-none : goal.returns-clause-none
returns-clause-none c =
    let changes : AreChanges c.args.directory.now c.args.gone.now = search rules in
    record {
      lists = c.in_ok-are_short_lists.ensures.0 c.if-not-branch.false;
      groups = c.in_ok-are_small_groups.ensures.0 c.if-not-branch-2.false;
      changes = changes;
      cards = c.in_ok-are_small_books.ensures.0 c.if-not-branch-3.false;
      books = c.are_few_books.ensures.0 c.if-not-are_few_books.false;
    }
