use Rattle.std.proofs.Common.{length}
use Rattle.book_dumps_loading.proofs.writing.write_pieces.Given as goal

abbrev pub decreases-loop-left : goal.decreases-loop-left
decreases-loop-left g l = length l.left
