use Rattle.book_cards.proofs.Common.{sym, subst}
use Rattle.std.specs.Str.{IsCharBoundary}
use Rattle.book_cards.proofs.Names.{name_boundary}
use Rattle.book_cards.proofs.line.split_name.Goals as goal

pub split_at-requires : goal.split_at-requires
split_at-requires c = subst (IsCharBoundary c.args.text.now) (sym c.count_name.ensures) (name_boundary c.args.text.now c.utf8.text)
