use Rattle.std.proofs.Common.{◌≡◌, ◌∙◌, ℕ, ap}
use Rattle.book_office_audit.proofs.ReadsInTurn.{reads_weaker}
use Rattle.book_office_values.specs.declared.offices.Office.{Office}
use Rattle.book_office_values.specs.declared.paths.Path.TheVariants as path
use Rattle.book_log_lines.specs.declared.lines.Touched.{Touched}
use Rattle.book_log_service.proofs.ReadTurns.{failed_first, refused_then}
use Rattle.book_log_service.specs.Foreseeing.{ahead_by, book_number, next_of}
use Rattle.book_log_service.proofs.foreseeing.next_of.Goals as goal

pub returns-in_err-number : goal.returns-in_err-number
returns-in_err-number g c =
    failed_first (g.K.Keeper.standing c.args.keeper.now) (g.K.Keeper.standing c.book_number.new.keeper) c.in_err-number.field-0.0 c.from_residual.result
    (λ (o : Office) (number : ℕ). number ≡ book_number o c.args.book.now) (λ (o : Office) (next : Touched). next ≡ next_of o c.args.ahead (c.args.book.now, c.args.card.now))
    c.from_residual.ensures.1 c.in_err-number.ensures

pub returns-in_err-above : goal.returns-in_err-above
returns-in_err-above g c =
    refused_then (g.K.Keeper.standing c.args.keeper.now) (g.K.Keeper.standing c.book_number.new.keeper) c.in_ok-number.number c.from_residual-in_err-above.result
    (λ (o : Office) (number : ℕ). number ≡ book_number o c.args.book.now) (λ (o : Office) (next : Touched). next ≡ next_of o c.args.ahead (c.args.book.now, c.args.card.now))
    c.from_residual-in_err-above.ensures.1 c.in_ok-number.ensures

pub returns-in_err-name : goal.returns-in_err-name
returns-in_err-name g c =
    refused_then (g.K.Keeper.standing c.args.keeper.now) (g.K.Keeper.standing c.book_number.new.keeper) c.in_ok-number.number c.from_residual-in_err-name.result
    (λ (o : Office) (number : ℕ). number ≡ book_number o c.args.book.now) (λ (o : Office) (next : Touched). next ≡ next_of o c.args.ahead (c.args.book.now, c.args.card.now))
    c.from_residual-in_err-name.ensures.1 c.in_ok-number.ensures

pub returns : goal.returns
returns g c =
    let T : Office → ℕ → Type 0 = λ o number. number ≡ book_number o c.args.book.now in
    let W : Office → Touched → Type 0 = λ o next. next ≡ next_of o c.args.ahead (c.args.book.now, c.args.card.now) in
    let number : (o : Office) → c.in_ok-number.number ≡ book_number o c.args.book.now → c.saturating_add.result ≡ ahead_by (book_number o c.args.book.now) c.args.ahead =
    λ o t. c.saturating_add.ensures ∙ ap (λ (n : ℕ). ahead_by n c.args.ahead) t in
    reads_weaker (g.K.Keeper.standing c.args.keeper.now) (g.K.Keeper.standing c.book_number.new.keeper) c.in_ok-number.number _ T W c.in_ok-number.ensures
    (λ o stands t. λ i. record { path = path.Card (c.in_ok-above.ensures.cases i) (c.in_ok-name.ensures.cases i); number = number o t i })
