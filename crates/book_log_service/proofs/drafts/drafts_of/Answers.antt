use Rattle.std.proofs.Common.{◌≡◌, Option, None, Some, subst}
use Rattle.std.specs.Prelude.{option_copied}
use Rattle.book_office_audit.proofs.ReadsInTurn.{reads_nothing, reads_weaker}
use Rattle.book_office_values.specs.declared.offices.Office.{Office}
use Rattle.book_log_replies.specs.Effects.{no_effect}
use Rattle.book_log_replies.specs.declared.replies.Effect.{Effect}
use Rattle.book_log_service.proofs.ReadTurns.{failed_first, refused_then, told_nothing}
use Rattle.book_log_service.specs.Drafts.{AreDrafts}
use Rattle.book_log_service.specs.Foreseeing.{foreseen}
use Rattle.book_log_service.specs.declared.drafts.Drafts.{Drafts}
use Rattle.book_log_service.proofs.drafts.drafts_of.Goals as goal

pub returns-in_default-clause-foreseen : goal.returns-in_default-clause-foreseen
returns-in_default-clause-foreseen g c =
    let W : Office → Option Drafts → Type 0 = λ o drafts. AreDrafts (option_copied c.args.name) c.args.request.now (foreseen o c.args.request.now) drafts in
    reads_nothing (g.K.Keeper.standing c.args.keeper.now) None W (λ h o stands. tt)

pub returns-in_default-clause-drafts : goal.returns-in_default-clause-drafts
returns-in_default-clause-drafts g c = (no_effect, tt)

pub returns-in_err-effect-clause-foreseen : goal.returns-in_err-effect-clause-foreseen
returns-in_err-effect-clause-foreseen g c =
    failed_first (g.K.Keeper.standing c.args.keeper.now) (g.K.Keeper.standing c.foreseen.new.keeper) c.in_err-effect.field-0.0 c.from_residual.result
    (λ (o : Office) (effect : Effect). effect ≡ foreseen o c.args.request.now)
    (λ (o : Office) (drafts : Option Drafts). AreDrafts (option_copied c.args.name) c.args.request.now (foreseen o c.args.request.now) drafts)
    c.from_residual.ensures.1 c.in_err-effect.ensures

pub returns-in_err-effect-clause-drafts : goal.returns-in_err-effect-clause-drafts
returns-in_err-effect-clause-drafts g c = told_nothing c.from_residual.result _ _ c.from_residual.ensures.1

pub returns-in_err-drafts-clause-foreseen : goal.returns-in_err-drafts-clause-foreseen
returns-in_err-drafts-clause-foreseen g c =
    refused_then (g.K.Keeper.standing c.args.keeper.now) (g.K.Keeper.standing c.foreseen.new.keeper) c.in_ok-effect.effect c.from_residual-in_err-drafts.result
    (λ (o : Office) (effect : Effect). effect ≡ foreseen o c.args.request.now)
    (λ (o : Office) (drafts : Option Drafts). AreDrafts (option_copied c.args.name) c.args.request.now (foreseen o c.args.request.now) drafts)
    c.from_residual-in_err-drafts.ensures.1 c.in_ok-effect.ensures

pub returns-in_err-drafts-clause-drafts : goal.returns-in_err-drafts-clause-drafts
returns-in_err-drafts-clause-drafts g c = told_nothing c.from_residual-in_err-drafts.result _ _ c.from_residual-in_err-drafts.ensures.1

pub returns-clause-foreseen : goal.returns-clause-foreseen
returns-clause-foreseen g c =
    let T : Office → Effect → Type 0 = λ o effect. effect ≡ foreseen o c.args.request.now in
    let W : Office → Option Drafts → Type 0 = λ o drafts. AreDrafts (option_copied c.args.name) c.args.request.now (foreseen o c.args.request.now) drafts in
    let P : Effect → Type 0 = λ e. AreDrafts (option_copied c.args.name) c.args.request.now e (Some c.in_ok-drafts.drafts) in
    reads_weaker (g.K.Keeper.standing c.args.keeper.now) (g.K.Keeper.standing c.foreseen.new.keeper) c.in_ok-effect.effect (Some c.in_ok-drafts.drafts) T W c.in_ok-effect.ensures
    (λ o stands t. subst P t c.in_ok-drafts.ensures)

pub returns-clause-drafts : goal.returns-clause-drafts
returns-clause-drafts g c = (c.in_ok-effect.effect, c.in_ok-drafts.ensures)
