use Rattle.book_cards.proofs.Common.{arith, ap, sym, ◌∙◌}
use Rattle.std.specs.Result.{result_err}
use Rattle.book_cards.proofs.PlacesSeen.{begin_names_none, follows_two, version_names_none}
use Rattle.book_cards.proofs.check.check_lines.Goals as goal

pub check_content-requires-clause-follows : goal.check_content-requires-clause-follows
check_content-requires-clause-follows c =
    let first = c.in-Some.ensures in
    let second = c.in-Some-split_line.ensures in
    follows_two c.args.text.now c.in-Some.rest.now c.in-Some-split_line.rest.now c.in-Some.begin.now c.in-Some-split_line.version.now first.0 second.0 first.2 second.2
    (begin_names_none c.in-Some.begin.now (sym c.is_word.ensures ∙ grind (arith, c.if-not-is_word.false))) (version_names_none c.in-Some-split_line.version.now (sym c.check_version.ensures ∙ ap result_err c.in_default-check_version.is))
