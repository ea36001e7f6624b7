use Rattle.std.proofs.Common.{List, sym, subst}
use Rattle.std.specs.Prelude.{All}
use Rattle.book_dumps.specs.declared.lines.Line.{Line}
use Rattle.book_dumps_changes.specs.Leavers.{IsFreeOf}
use Rattle.book_dumps_changes.proofs.Leaving.{heir_is_other, lines_free}
use Rattle.book_dumps_changes.proofs.leavers.without.Goals as goal

pub returns-clause-gone : goal.returns-clause-gone
returns-clause-gone c =
    let person = c.args.person.now in
    let heir = c.args.heir.now in
    let free : List Line → Type 0 = λ lines. All (IsFreeOf person) lines in
    let other = heir_is_other c.as_slice.result.now person heir c.in_ok-check_heirs.ensures.ok.other in
    subst free (sym c.in_ok-lines.ensures.lines) (lines_free person heir c.args.dumped.lines other)
