use Rattle.book_dumps.proofs.Common.{◌≡◌, [], Option, Some, None, refl}
use Rattle.book_dumps.specs.Told.{texts_of}
use Rattle.book_dumps.specs.declared.lines.Line.{Line}
use Rattle.book_dumps.proofs.Turns.{puts_nothing}
use Rattle.book_dumps.proofs.output.put_told.Goals as goal

none_told : (found : Option Line) → ((line : Line) → found ≡ Some line → ⊥) → texts_of found ≡ []
none_told None none = refl
none_told (Some line) none = absurd (none line refl)

pub returns-in_default : goal.returns-in_default
returns-in_default g c =
    puts_nothing (g.W.Write.contents c.args.writer.now) c.args.count.now tt (texts_of c.args.line.now) (none_told c.args.line.now c.in_default.not-Some)
