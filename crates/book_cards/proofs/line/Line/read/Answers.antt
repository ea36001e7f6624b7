use Rattle.book_cards.proofs.Common.{lit<}
use Rattle.std.proofs.lemmas.Str.Pattern.{strip_prefix_char}
use Rattle.book_cards.proofs.Names.{ungrouped}
use Rattle.book_cards.proofs.line.Line.read.Goals as goal

pub returns-in-None : goal.returns-in-None
returns-in-None c =
    let no_dot = rw c.in-None.is at (strip_prefix_char 46 c.split_name.result.1.now c.strip_prefix.result c.strip_prefix.ensures.cases (lit< tt)) in
    ungrouped c.args.text.now c.split_name.result.0.now c.split_name.result.1.now _ c.split_name.ensures.name c.split_name.ensures.rest no_dot c.with-in-None.ensures
