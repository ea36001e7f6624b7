-- Openings that are added.
use Rattle.std.proofs.Common.{◌≡◌, ◌++◌, ◌∷◌, [], List, sym, subst}
use Rattle.std.specs.Prelude.{All}
use Rattle.std.proofs.lemmas.List.Elements.{All-push}
use Rattle.book_office_values.specs.declared.offices.Office.{Office}
use Rattle.book_policy_openings.specs.Openings.{AddsOpenings, IsOpeningIn}
use Rattle.book_policy_openings.specs.declared.openings.Opening.{Opening}

pub adds_none : (o : Office) (told : List Opening) → AddsOpenings o told told
adds_none o told = λ was. was

pub adds_one : (o : Office) (old new : List Opening) (opening : Opening) → IsOpeningIn o opening → new ≡ old ++ opening ∷ [] → AddsOpenings o old new
adds_one o old new opening is same = λ was. subst (All (IsOpeningIn o)) (sym same) (All-push (IsOpeningIn o) old opening was is)
