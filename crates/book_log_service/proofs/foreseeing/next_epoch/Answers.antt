use Rattle.std.proofs.Common.{◌≡◌, ◌∙◌, ℕ}
use Rattle.book_office_audit.proofs.ReadsInTurn.{reads_weaker}
use Rattle.book_office_values.specs.declared.offices.Office.{Office}
use Rattle.book_log_service.proofs.ReadTurns.{failed_first}
use Rattle.book_log_service.specs.Foreseeing.{ahead_by, raised_by}
use Rattle.book_log_service.proofs.foreseeing.next_epoch.Goals as goal

pub returns-in_err-epoch : goal.returns-in_err-epoch
returns-in_err-epoch g c =
    failed_first (g.K.Keeper.standing c.args.keeper.now) (g.K.Keeper.standing c.epoch.new.self) c.in_err-epoch.field-0.0 c.from_residual.result
    (λ (o : Office) (epoch : ℕ). epoch ≡ o.epoch) (λ (o : Office) (epoch : ℕ). epoch ≡ ahead_by o.epoch (raised_by c.args.raises))
    c.from_residual.ensures.1 c.in_err-epoch.ensures

pub returns : goal.returns
returns g c =
    let T : Office → ℕ → Type 0 = λ o epoch. epoch ≡ o.epoch in
    let W : Office → ℕ → Type 0 = λ o epoch. epoch ≡ ahead_by o.epoch (raised_by c.args.raises) in
    reads_weaker (g.K.Keeper.standing c.args.keeper.now) (g.K.Keeper.standing c.epoch.new.self) c.in_ok-epoch.epoch c.saturating_add.result T W c.in_ok-epoch.ensures
    (λ o stands t. c.saturating_add.ensures ∙ (λ i. ahead_by (t i) (c.raised_by.ensures i)))
