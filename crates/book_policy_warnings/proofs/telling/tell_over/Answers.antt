use Rattle.std.proofs.Common.{◌≡◌, List, subst}
use Rattle.book_machine.specs.declared.adoptions.AdoptFault.TheVariants.{Full}
use Rattle.book_policy_openings.specs.Openings.{IsRefused}
use Rattle.book_policy_warnings.specs.Telling.{AreWarningsFrom, TellsWarnings}
use Rattle.book_policy_warnings.specs.declared.warnings.Warning.{Warning}
use Rattle.book_policy_warnings.proofs.ToldPolicies.{keeps_same, tells_of}
use Rattle.book_policy_warnings.proofs.telling.tell_over.Goals as goal

pub returns-in-Ok : goal.returns-in-Ok
returns-in-Ok g c =
    tells_of (AreWarningsFrom c.args.start c.args.policy.now) c.in-Ok.warnings _ _ c.tell_each.result c.in-Ok.ensures.told
    (subst (λ (ws : List Warning). TellsWarnings (λ told. told ≡ ws) (g.W.Write.contents c.args.writer.now) (g.W.Write.contents c.tell_each.new.writer) c.tell_each.result)
    c.as_slice.ensures c.tell_each.ensures)

pub returns-in-Err-Full : goal.returns-in-Err-Full
returns-in-Err-Full g c =
    let refused : IsRefused c.args.policy.now c.args.start Full = rw c.in-Err-Full.field-0-is at c.in-Err-Full.ensures.refused in
    (refused, keeps_same (g.W.Write.contents c.args.writer.now))
