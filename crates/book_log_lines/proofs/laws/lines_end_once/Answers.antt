use Rattle.book_log_lines.proofs.LineLaws.{lines_end_once}
use Rattle.book_log_lines.proofs.laws.lines_end_once.Goals as goal

pub returns : goal.returns
returns c = lines_end_once
