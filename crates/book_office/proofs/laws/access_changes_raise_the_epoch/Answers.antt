use Rattle.book_office.proofs.Epochs.{epoch_after}
use Rattle.book_office.proofs.laws.access_changes_raise_the_epoch.Goals as goal

pub returns : goal.returns
returns c = epoch_after
