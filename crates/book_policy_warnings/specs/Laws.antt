-- What the definitions of warnings imply.
use Rattle.std.specs.Prelude.{List}
use Rattle.book_policy_values.specs.declared.parts.PolicyTables.{PolicyTables}
use Rattle.book_office_adopting.specs.TakingOver.{bare}
use Rattle.book_office_values.specs.declared.offices.Office.{Office}
use Rattle.book_policy_warnings.specs.Warnings.{AreWarningsOver}
use Rattle.book_policy_warnings.specs.declared.warnings.Warning.{Warning}

-- what is told over an Office without its cards and changes is told over the Office
abbrev pub CardsHaveNoPart : Type 0
CardsHaveNoPart = (t : PolicyTables) (o : Office) (warnings : List Warning) → AreWarningsOver t (bare o) warnings → AreWarningsOver t o warnings
