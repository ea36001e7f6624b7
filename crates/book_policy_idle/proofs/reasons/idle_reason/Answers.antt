use Rattle.std.proofs.Common.{◌∙◌, List, Option, None, sym, subst}
use Rattle.std.proofs.lemmas.Bool.{false≢true}
use Rattle.book_office_values.specs.declared.paths.Path.{Path}
use Rattle.book_policy_idle.specs.Reasons.{IsFirstAhead, before, order_at}
use Rattle.book_policy_idle.specs.declared.reasons.Ahead.{Ahead}
use Rattle.book_policy_idle.proofs.reasons.idle_reason.Goals as goal

pub returns-then-branch : goal.returns-then-branch
returns-then-branch c = (c.requires.idle, c.in_ok-is_for_nobody.ensures.0 c.if-branch.true)

pub returns-in-None : goal.returns-in-None
returns-in-None c =
    let t = c.args.policy.now in
    let e = c.args.entry.now in
    let i = c.args.index in (
      c.requires.idle,
      (λ n. false≢true (sym c.if-branch.false ∙ c.in_ok-is_for_nobody.ensures.1 n)),
      subst (λ (ps : List Path). IsFirstAhead t e (before i (order_at t.entries e.at ps)) None) c.requires.scope.there
          (subst (λ (o : Option Ahead). IsFirstAhead t e (before i (order_at t.entries e.at c.args.scope.now.places)) o) c.in-None.is c.in_ok-ahead.ensures),
    )
