-- A map of lists, one of which gets one more entry.
use Rattle.book_policy_values.proofs.Common.{◌≡◌, ℕ, List, [], ◌∷◌, ◌++◌, unwrap_or, Option, ap, ◌∙◌, get, insert, Entry, NamesTo}
use Rattle.std.specs.FinMap.{remove}
use Rattle.book_policy_values.specs.Policies.{list_at}
use Rattle.book_policy_values.specs.Reading.{pushed_at}
use Rattle.book_office_values.proofs.NameMapLaws.{put_back}

-- a list that was taken out and is put back with one more entry
pub pushed_back : (m lists new : NamesTo (List Entry)) (at : List ℕ) (entry : Entry) (found : Option (List Entry)) (list : List Entry)
    → found ≡ get m at → list ≡ unwrap_or found [] → lists ≡ remove m at → new ≡ insert lists at (list ++ entry ∷ []) → new ≡ pushed_at m at entry
pushed_back m lists new at entry found list there is taken put =
    put ∙ (λ i. insert (taken i) at ((is ∙ ap (λ r. unwrap_or r []) there) i ++ entry ∷ [])) ∙ put_back m at (list_at m at ++ entry ∷ [])
