use Rattle.book_json_lines.proofs.Feeds.{value_line}
use Rattle.book_json_lines.proofs.laws.values_are_lines.Goals as goal

pub returns : goal.returns
returns c = value_line
