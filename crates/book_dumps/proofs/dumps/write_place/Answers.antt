use Rattle.book_dumps.proofs.Common.{ap, ◌∙◌}
use Rattle.book_dumps.specs.Dumps.{lines_at}
use Rattle.book_dumps.proofs.Turns.{read_given, reads_writes}
use Rattle.book_dumps.proofs.dumps.write_place.Goals as goal

pub returns-in_err-paths : goal.returns-in_err-paths
returns-in_err-paths g c = read_given _ _ _ _ _ c.from_residual.result _ _ c.from_residual.ensures.1 c.in_err-paths.ensures

pub returns : goal.returns
returns g c = reads_writes _ _ _ _ _ _ _ _ _ _ _ _ c.in_ok-paths.ensures c.write_each.ensures (λ o stands told. ap (lines_at o) (c.as_slice.ensures ∙ told))
