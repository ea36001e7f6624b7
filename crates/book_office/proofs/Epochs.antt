-- Which edits raise the epoch.
use Rattle.book_office.proofs.Common.{◌≡◌, ℕ, ◌+◌, List, true, false, not, cond, refl, Office, Path, taken_over, same_office}
use Rattle.book_office.specs.declared.edits.Edit.{Edit}
use Rattle.book_office.specs.declared.edits.Edit.TheVariants.{PutCard, RemoveCard, CopyCard, MoveCard, AddBook, RemoveBook, SetLabel, SetList, SetMembers, Adopt}
use Rattle.book_office_values.specs.declared.paths.Path.TheVariants as path
use Rattle.book_office.specs.Edits.{apply, raises_epoch, set_label}

pub label_leaves_epoch : (p : Path) (label : List ℕ) (o : Office) → (set_label p label o).epoch ≡ o.epoch
label_leaves_epoch path.Root label o = refl
label_leaves_epoch path.People label o = refl
label_leaves_epoch path.Groups label o = refl
label_leaves_epoch path.Books label o = refl
label_leaves_epoch (path.Person n) label o = refl
label_leaves_epoch (path.Group n) label o = refl
label_leaves_epoch (path.Book b) label o = refl
label_leaves_epoch (path.Card b c) label o = refl

pub epoch_after : (o : Office) (edit : Edit) → (apply o edit).epoch ≡ cond (raises_epoch o edit) (o.epoch + 1) o.epoch
epoch_after o (PutCard b c owner text) = refl
epoch_after o (RemoveCard b c) = refl
epoch_after o (CopyCard fb fc tb tc owner) = refl
epoch_after o (MoveCard fb fc tb tc) = refl
epoch_after o (AddBook b owner) = refl
epoch_after o (RemoveBook b) = refl
epoch_after o (SetLabel p label) = label_leaves_epoch p label o
epoch_after o (SetList p list) = refl
epoch_after o (SetMembers group members) = refl
epoch_after o (Adopt t) = elim (same_office o (taken_over t o)) as (λ b.
    (cond b (taken_over t o) (record (taken_over t o) { epoch = (taken_over t o).epoch + 1 })).epoch ≡ cond (not b) (o.epoch + 1) o.epoch) [ true ↦ refl | false ↦ refl ]
