use Rattle.book_dumps.proofs.Common.{[], ◌∷◌, ap, ◌∙◌}
use Rattle.book_dumps.specs.Dumps.{epoch_line}
use Rattle.book_dumps.proofs.Turns.{read_given, reads_puts, refused_given}
use Rattle.book_dumps.proofs.dumps.write_epoch.Goals as goal

pub returns-in_err-epoch : goal.returns-in_err-epoch
returns-in_err-epoch g c = read_given _ _ _ _ _ c.from_residual.result _ _ c.from_residual.ensures.1 c.in_err-epoch.ensures

pub returns-in_err-line : goal.returns-in_err-line
returns-in_err-line g c = refused_given _ _ _ _ _ c.from_residual-in_err-line.result _ _ c.from_residual-in_err-line.ensures.1 c.in_ok-epoch.ensures

pub returns : goal.returns
returns g c =
    reads_puts _ _ _ _ _ _ _ _ _ _ _ c.in_ok-epoch.ensures c.put_line.ensures
    (λ o stands told. ap (λ l. l ∷ []) (c.as_slice.ensures.value ∙ c.in_ok-line.ensures ∙ ap epoch_line told))
