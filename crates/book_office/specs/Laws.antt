-- What the definitions of an Office imply.
use Rattle.std.specs.Prelude.{◌≡◌, ℕ, ◌+◌, List, cond}
use Rattle.book_office.specs.declared.edits.Edit.{Edit}
use Rattle.book_office_values.specs.declared.offices.Office.{Office}
use Rattle.book_office_values.specs.declared.paths.Path.{Path}
use Rattle.book_office.specs.Edits.{apply, raises_epoch}
use Rattle.book_office.specs.Resources.{resource_at, removed_at}
use Rattle.book_office.specs.Sound.{IsSound}

abbrev pub EpochLaw : Type 0
EpochLaw = (o : Office) (edit : Edit) → (apply o edit).epoch ≡ cond (raises_epoch o edit) (o.epoch + 1) o.epoch

-- a sound Office is its map from paths to resources, its pairs, the numbers of its removed names and its epoch
abbrev pub OfficeIsItsResources : Type 0
OfficeIsItsResources = (o p : Office) → IsSound o → IsSound p
    → ((q : Path) → resource_at o q ≡ resource_at p q) → o.pairs ≡ p.pairs
    → ((b name : List ℕ) → removed_at o b name ≡ removed_at p b name) → o.epoch ≡ p.epoch
    → o ≡ p
