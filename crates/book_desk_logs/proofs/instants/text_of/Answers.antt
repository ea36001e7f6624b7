use Rattle.std.proofs.Common.{◌≡◌, ◌∙◌, ◌++◌, ap, ℕ, Bool, false, Option, Some}
use Rattle.jiff_fmt.specs.Printer.{options}
use Rattle.jiff_fmt.specs.Text.{datetime_text, zulu_text}
use Rattle.book_desk_logs.proofs.instants.text_of.Goals as goal

pub returns : goal.returns
returns c =
    let told = c.timestamp_text.ensures in
    let chosen : options c.precision.result ≡ (false, 84, Some 3) = c.precision.ensures ∙ ap (λ (o : Bool × ℕ × Option ℕ). (o.0, o.1, Some 3)) c.new.ensures in
    (told.0, told.1, told.2 ∙ ap (λ (o : Bool × ℕ × Option ℕ). datetime_text o.0 o.1 o.2 told.0 ++ zulu_text o.0) chosen)
