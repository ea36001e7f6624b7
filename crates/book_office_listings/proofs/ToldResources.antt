-- The first response of a listing tells the resource, where the needed leaves are granted there.
use Rattle.book_office_listings.proofs.Common.{◌≡◌, List, [], ◌∷◌, Option, Some, None, option_map, ap, subst, AllZip, CircleOf, IsAllowed, Here, Office, Path, effective_at, Resource, resource_at, IsResponse, listed_paths, subject_of, bare_entries, here_of, Extent, Children, Find, Response, Told, Denied, Subject, Whole}
use Rattle.book_office_listings.proofs.OneListing.{allowed_not_denied}
use Rattle.book_office_listings.specs.Laws.{GrantedResourcesAreTold, TellsFirst}
use Rattle.book_office_listings.specs.Verdicts.{IsGrantedAt}
use Rattle.book_office_listings.specs.declared.messages.Extent.TheVariants.{Resource as Alone}

-- entries ask the same of a resource and of its subject
same_here : (o : Office) (p : Path) (found : Option Resource) (s : Subject) → option_map (subject_of o p) found ≡ Some s → here_of o p ≡ s.here
same_here o p None s e = absurd (cc (e))
same_here o p (Some r) s e = let same : subject_of o p r ≡ s = cc (e) in ap (λ (t : Subject). t.here) same

module _ (o : Office) (circle : CircleOf) (find : Find) (q : Path) (granted : IsGrantedAt o circle q find.needed) (whole : Whole) where
  first_told : (r : Response) (rest : List Response) → IsResponse find circle o whole q r → TellsFirst q (r ∷ rest)
  first_told (Told told properties) rest (s, at, is) = is.path
  first_told (Denied denial) rest (s, at, is) =
      let es = bare_entries (effective_at o q) in
      let here : here_of o q ≡ s.here = same_here o q (resource_at o q) s at in
      allowed_not_denied es circle s.here find.needed is.leaf is.index (subst (λ (h : Here). IsAllowed es circle h find.needed) here granted) is.decided

  told_first : (extent : Extent) (responses : List Response) → AllZip (IsResponse find circle o whole) (listed_paths o q extent) responses → TellsFirst q responses
  told_first Alone [] all = all
  told_first Alone (r ∷ rest) all = first_told r rest all.0
  told_first Children [] all = all
  told_first Children (r ∷ rest) all = first_told r rest all.0

pub granted_told : GrantedResourcesAreTold
granted_told o circle find q responses granted (whole, is_whole, all) = told_first o circle find q granted whole find.extent responses all
