use Rattle.book_dumps.proofs.Common.{ap, ◌∙◌}
use Rattle.book_dumps.specs.Dumps.{lines_at, paths_in}
use Rattle.std.specs.List.{flat_map}
use Rattle.book_dumps.proofs.Turns.{read_given, reads_writes}
use Rattle.book_dumps.proofs.dumps.write_books.Goals as goal

pub returns-in_err-places : goal.returns-in_err-places
returns-in_err-places g c = read_given _ _ _ _ _ c.from_residual.result _ _ c.from_residual.ensures.1 c.in_err-places.ensures

pub returns : goal.returns
returns g c = reads_writes _ _ _ _ _ _ _ _ _ _ _ _ c.in_ok-places.ensures c.write_places.ensures (λ o stands told. ap (λ l. lines_at o (flat_map (paths_in o) l)) (c.as_slice.ensures ∙ told))
