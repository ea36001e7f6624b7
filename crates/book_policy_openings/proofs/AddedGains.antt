-- Gains that are added.
use Rattle.std.proofs.Common.{◌≡◌, ◌++◌, ◌∷◌, [], List, sym, subst}
use Rattle.std.specs.Prelude.{All}
use Rattle.std.proofs.lemmas.List.Elements.{All-push}
use Rattle.book_office_values.specs.declared.offices.Office.{Office}
use Rattle.book_policy_openings.specs.Gains.{AddsGains, IsGainIn}
use Rattle.book_policy_openings.specs.declared.gains.Gain.{Gain}

pub adds_none : (o : Office) (told : List Gain) → AddsGains o told told
adds_none o told = λ was. was

pub adds_one : (o : Office) (old new : List Gain) (gain : Gain) → IsGainIn o gain → new ≡ old ++ gain ∷ [] → AddsGains o old new
adds_one o old new gain is same = λ was. subst (All (IsGainIn o)) (sym same) (All-push (IsGainIn o) old gain was is)
