use Rattle.book_tables_findings.proofs.Common.{◌≡◌, ◌∙◌, true≢false, subst, sym, AllByRecursion}
use Rattle.book_tables_opening.specs.Opening.{AreAtMost, IsWithinBook, change_keys}
use Rattle.book_tables_findings.proofs.limit_rules.change_limit.Goals as goal

pub returns-then-not-branch-clause-found : goal.returns-then-not-branch-clause-found
returns-then-not-branch-clause-found c =
    let keys : c.deref-2.result.now ≡ change_keys c.args.directory.now c.args.gone.now = c.deref-2.ensures.value ∙ c.in_ok-keys.ensures in
    λ entries members most. true≢false (sym (c.in_ok-are_at_most.ensures.1 (subst (AreAtMost 1) (sym keys) most)) ∙ c.if-not-branch.true)

pub returns-clause-none : goal.returns-clause-none
returns-clause-none c =
    let first : c.deref.result.now ≡ change_keys c.args.directory.now c.args.gone.now = c.deref.ensures.value ∙ c.in_ok-keys.ensures in
    let second : c.deref-2.result.now ≡ change_keys c.args.directory.now c.args.gone.now = c.deref-2.ensures.value ∙ c.in_ok-keys.ensures in (
      subst (AllByRecursion (IsWithinBook c.args.directory.now)) first (c.are_within.ensures.0 c.if-not-are_within.false),
      subst (AreAtMost 1) second (c.in_ok-are_at_most.ensures.0 c.if-not-branch.false),
    )
