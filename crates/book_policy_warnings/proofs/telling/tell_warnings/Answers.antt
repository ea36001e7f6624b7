use Rattle.std.proofs.Common.{◌≡◌, List, subst}
use Rattle.book_policy_warnings.specs.Telling.{TellsWarnings}
use Rattle.book_policy_warnings.specs.Warnings.{AreWarningsOf}
use Rattle.book_policy_warnings.specs.declared.warnings.Warning.{Warning}
use Rattle.book_policy_warnings.proofs.ToldPolicies.{tells_of}
use Rattle.book_policy_warnings.proofs.telling.tell_warnings.Goals as goal

pub returns-in-Ok : goal.returns-in-Ok
returns-in-Ok g c =
    tells_of (AreWarningsOf c.args.policy.now) c.in-Ok.warnings _ _ c.tell_each.result c.in-Ok.ensures
    (subst (λ (ws : List Warning). TellsWarnings (λ told. told ≡ ws) (g.W.Write.contents c.args.writer.now) (g.W.Write.contents c.tell_each.new.writer) c.tell_each.result)
    c.as_slice.ensures c.tell_each.ensures)
