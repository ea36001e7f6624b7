use Rattle.std.proofs.Common.{◌≡◌, ◌∙◌, ℕ, Bool, List, Ok, Some, ap}
use Rattle.book_office.specs.Keeping.{Reads, Standing}
use Rattle.book_office_audit.proofs.ReadsInTurn.{reads_then, reads_weaker}
use Rattle.book_office_values.specs.declared.offices.Office.{Office}
use Rattle.book_log_lines.specs.declared.lines.Touched.{Touched}
use Rattle.book_log_replies.specs.Effects.{card_if, touches_destination, touches_path}
use Rattle.book_log_replies.specs.declared.replies.Effect.{Effect}
use Rattle.book_log_service.proofs.ReadTurns.{failed_first, failed_then}
use Rattle.book_log_service.specs.Foreseeing.{ahead_by, foreseen, next_cards, raised_by}
use Rattle.book_log_service.proofs.foreseeing.foreseen.Goals as goal

pub returns-in_err-epoch : goal.returns-in_err-epoch
returns-in_err-epoch g c =
    failed_first (g.K.Keeper.standing c.args.keeper.now) (g.K.Keeper.standing c.next_epoch.new.keeper) c.in_err-epoch.field-0.0 c.from_residual.result
    (λ (o : Office) (epoch : ℕ). epoch ≡ ahead_by o.epoch (raised_by c.raises-raises.result)) (λ (o : Office) (effect : Effect). effect ≡ foreseen o c.args.request.now)
    c.from_residual.ensures.1 c.in_err-epoch.ensures

pub returns-in_err-touched : goal.returns-in_err-touched
returns-in_err-touched g c =
    let r = c.args.request.now in
    failed_then (g.K.Keeper.standing c.args.keeper.now) (g.K.Keeper.standing c.next_epoch.new.keeper) (g.K.Keeper.standing c.next_cards.new.keeper)
    c.in_ok-epoch.epoch c.in_err-touched.field-0.0 c.from_residual-in_err-touched.result
    (λ (o : Office) (epoch : ℕ). epoch ≡ ahead_by o.epoch (raised_by c.raises-raises.result))
    (λ (o : Office) (touched : List Touched). touched ≡ next_cards o (card_if (touches_path r.method) r.path) (card_if (touches_destination r.method) r.destination))
    (λ (o : Office) (effect : Effect). effect ≡ foreseen o r)
    c.from_residual-in_err-touched.ensures.1 c.in_ok-epoch.ensures c.in_err-touched.ensures

pub returns : goal.returns
returns g c =
    let r = c.args.request.now in
    let S0 : Standing = g.K.Keeper.standing c.args.keeper.now in
    let S1 : Standing = g.K.Keeper.standing c.next_epoch.new.keeper in
    let S2 : Standing = g.K.Keeper.standing c.next_cards.new.keeper in
    let T : Office → ℕ → Type 0 = λ o epoch. epoch ≡ ahead_by o.epoch (raised_by c.raises-raises.result) in
    let U : Office → List Touched → Type 0 = λ o touched. touched ≡ next_cards o (card_if (touches_path r.method) r.path) (card_if (touches_destination r.method) r.destination) in
    let V : Office → List Touched → Type 0 = λ o touched. T o c.in_ok-epoch.epoch × U o touched in
    let W : Office → Effect → Type 0 = λ o effect. effect ≡ foreseen o r in
    let two : Reads S0 S2 (Ok c.in_ok-touched.touched) V =
    reads_then S0 S1 S2 c.in_ok-epoch.epoch (Ok c.in_ok-touched.touched) T U V c.in_ok-epoch.ensures c.in_ok-touched.ensures (λ o stands t y u. (t, u)) in
    reads_weaker S0 S2 c.in_ok-touched.touched _ V W two
    (λ o stands v i. record { touched = v.1 i; epoch = Some ((v.0 ∙ ap (λ (b : Bool). ahead_by o.epoch (raised_by b)) c.raises-raises.ensures) i) })
