-- What each edit leads to.
use Rattle.book_office_values.specs.declared.offices.Office.{Office}
use Rattle.book_office.specs.declared.edits.Edit.{Edit}
use Rattle.book_office.specs.Edits.{apply}
use Rattle.book_office.specs.Sound.{IsPossible}
use Rattle.book_office_sync.specs.Copies.{Later}

abbrev pub EditsLeadOn : Type 0
EditsLeadOn = (o : Office) (edit : Edit) → IsPossible o edit → Later o (apply o edit)
