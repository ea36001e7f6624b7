use Rattle.std.proofs.Common.{sym, ◌∙◌}
use Rattle.toml.specs.View.{table_view}
use Rattle.book_policy.proofs.Whole.{spelled_none, spelled_some}
use Rattle.book_policy.proofs.policies.policy_in.Goals as goal

pub returns-clause-some : goal.returns-clause-some
returns-clause-some c =
    spelled_some (table_view c.args.table.now) c.in-Some.parts (sym c.has_version_one.ensures ∙ c.if-not-has_version_one.false)
    (sym c.in_ok-parts.ensures ∙ c.in-Some.is) c.made.result c.made.ensures.some

pub returns-clause-none : goal.returns-clause-none
returns-clause-none c =
    spelled_none (table_view c.args.table.now) c.in-Some.parts (sym c.has_version_one.ensures ∙ c.if-not-has_version_one.false)
    (sym c.in_ok-parts.ensures ∙ c.in-Some.is) c.made.result c.made.ensures.none
