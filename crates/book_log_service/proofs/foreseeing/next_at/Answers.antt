use Rattle.std.proofs.Common.{◌≡◌, ◌∙◌, Option, None, Some, ap, sym, option_map}
use Rattle.book_office_audit.proofs.ReadsInTurn.{reads_nothing, reads_weaker}
use Rattle.book_office_values.specs.declared.offices.Office.{Office}
use Rattle.book_log_lines.specs.declared.lines.Touched.{Touched}
use Rattle.book_log_replies.specs.Effects.{card_if}
use Rattle.book_log_service.proofs.ReadTurns.{failed_first}
use Rattle.book_log_service.specs.Foreseeing.{next_of}
use Rattle.book_log_service.proofs.foreseeing.next_at.Goals as goal

pub returns-in_default : goal.returns-in_default
returns-in_default g c =
    let W : Office → Option Touched → Type 0 = λ o next. next ≡ option_map (next_of o c.args.ahead) (card_if c.args.wanted c.args.path.now) in
    reads_nothing (g.K.Keeper.standing c.args.keeper.now) None W (λ h o stands. ap (option_map (next_of o c.args.ahead)) (sym c.in_default.ensures.none))

pub returns-in_err-next : goal.returns-in_err-next
returns-in_err-next g c =
    failed_first (g.K.Keeper.standing c.args.keeper.now) (g.K.Keeper.standing c.next_of.new.keeper) c.in_err-next.field-0.0 c.from_residual.result
    (λ (o : Office) (next : Touched). next ≡ next_of o c.args.ahead (c.in-Some.book.now, c.in-Some.card.now))
    (λ (o : Office) (next : Option Touched). next ≡ option_map (next_of o c.args.ahead) (card_if c.args.wanted c.args.path.now))
    c.from_residual.ensures.1 c.in_err-next.ensures

pub returns : goal.returns
returns g c =
    let T : Office → Touched → Type 0 = λ o next. next ≡ next_of o c.args.ahead (c.in-Some.book.now, c.in-Some.card.now) in
    let W : Office → Option Touched → Type 0 = λ o next. next ≡ option_map (next_of o c.args.ahead) (card_if c.args.wanted c.args.path.now) in
    reads_weaker (g.K.Keeper.standing c.args.keeper.now) (g.K.Keeper.standing c.next_of.new.keeper) c.in_ok-next.next (Some c.in_ok-next.next) T W c.in_ok-next.ensures
    (λ o stands t. ap Some t ∙ ap (option_map (next_of o c.args.ahead)) (sym c.in-Some.ensures.some))
