use Rattle.book_office_adopting.proofs.Common.{sym, ◌∙◌, false≢true}
use Rattle.book_office_adopting.proofs.SameMaps.{same_principals_are, same_principals_stand}
use Rattle.book_office_adopting.proofs.comparing.same_principals.Goals as goal

pub returns-then-principals_stand : goal.returns-then-principals_stand
returns-then-principals_stand c = (
  λ e. same_principals_are c.args.principals.now c.args.other.now (c.principals_stand.ensures.0 c.if-principals_stand.true) (c.principals_stand-then-principals_stand.ensures.0 e),
  λ same. c.principals_stand-then-principals_stand.ensures.1 (same_principals_stand c.args.other.now c.args.principals.now (sym same)),
)

pub returns-else-principals_stand : goal.returns-else-principals_stand
returns-else-principals_stand c = (
  λ e. absurd (false≢true (sym c.if-principals_stand.false ∙ e)),
  λ same. c.principals_stand.ensures.1 (same_principals_stand c.args.principals.now c.args.other.now same),
)
