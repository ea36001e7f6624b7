-- Listings of Offices that differ only in what may not be read.
use Rattle.book_office_listings.proofs.Common.{◌≡◌, List, [], ◌∷◌, Option, Some, None, is_some, option_map, refl, sym, ap, ◌∙◌, subst, AllZip, CircleOf, Office, Path, effective_at, effective_of, Resource, resource_at, IsResponse, IsResponseTo, listed_paths, subject_of, here_of, Extent, Children, Find, Response, Told, Denied, Subject, Whole}
use Rattle.book_rights.specs.Privileges.{is_read}
use Rattle.book_office.specs.declared.nodes.Lists.{Lists as Lists'}
use Rattle.book_office_listings.specs.Laws.{AreAlike, HasRead, UnreadResourcesStayUnseen}
use Rattle.book_office_listings.specs.Verdicts.{IsDeniedBy, IsGrantedAt, IsGrantedBy}
use Rattle.book_office_listings.specs.declared.messages.Extent.TheVariants.{Resource as Alone}

-- what entries ask of a subject is what they ask of its path
subject_here : (o : Office) (q : Path) (found : Option Resource) (s : Subject) → option_map (subject_of o q) found ≡ Some s → s.here ≡ here_of o q
subject_here o q None s is = absurd cc
subject_here o q (Some r) s is = let same : subject_of o q r ≡ s = cc in sym (ap (λ (x : Subject). x.here) same)

-- a subject of the other Office
other_subject : (o p : Office) (q : Path) (found other : Option Resource) (s : Subject) → option_map (subject_of o q) found ≡ Some s
    → is_some found ≡ is_some other → (t : Subject) × (option_map (subject_of p q) other ≡ Some t) × (t.here ≡ here_of p q)
other_subject o p q None other s is there = absurd cc
other_subject o p q (Some r) None s is there = absurd cc
other_subject o p q (Some r) (Some x) s is there = (subject_of p q x, refl, refl)

module _ (o p : Office) (circle : CircleOf) (alike : AreAlike o p circle) (find : Find) (needs : HasRead find.needed) (whole : Whole) where
  same_list : (q : Path) → effective_at o q ≡ effective_at p q
  same_list q = ap (λ (l : Lists'). effective_of l.levels) (alike.lists q)

  response_stays : (q : Path) (response : Response) → IsResponse find circle o whole q response → IsResponse find circle p whole q response
  response_stays q (Told told properties) (s, at, is) =
      let granted : IsGrantedBy (effective_at o q) circle (here_of o q) find.needed =
      subst (λ here. IsGrantedBy (effective_at o q) circle here find.needed) (subject_here o q (resource_at o q) s at) is.granted in
      let read : IsGrantedAt o circle q is_read = λ leaf is. granted leaf (needs leaf is) in
      (s, sym (alike.readable q read) ∙ at, subst (λ list. IsResponseTo find circle whole q s list (Told told properties)) (same_list q) is)
  response_stays q (Denied denial) (s, at, is) =
      let other = other_subject o p q (resource_at o q) (resource_at p q) s at (alike.there q) in
      let same : s.here ≡ other.0.here = subject_here o q (resource_at o q) s at ∙ alike.here q ∙ sym other.2 in (
        other.0,
        other.1,
        subst (λ here. IsDeniedBy (effective_at p q) circle here q find.needed denial) same
            (subst (λ list. IsDeniedBy list circle s.here q find.needed denial) (same_list q) is),
      )

  responses_stay : (qs : List Path) (responses : List Response) → AllZip (IsResponse find circle o whole) qs responses → AllZip (IsResponse find circle p whole) qs responses
  responses_stay [] [] h = tt
  responses_stay [] (r ∷ rs) h = h
  responses_stay (q ∷ qs) [] h = h
  responses_stay (q ∷ qs) (r ∷ rs) h = (response_stays q r h.0, responses_stay qs rs h.1)

  same_paths : (q : Path) (extent : Extent) → listed_paths o q extent ≡ listed_paths p q extent
  same_paths q Alone = refl
  same_paths q Children = ap (λ qs. q ∷ qs) (alike.children q)

pub unread_unseen : UnreadResourcesStayUnseen
unread_unseen o p circle alike find needs q responses h = (
  h.0,
  record {
    memberships = λ asked. h.1.memberships asked ∙ alike.pairs;
    in_order = h.1.in_order;
    epoch = λ asked. h.1.epoch asked ∙ alike.epoch;
  },
  subst (λ qs. AllZip (IsResponse find circle p h.0) qs responses) (same_paths o p circle alike find needs h.0 q find.extent)
      (responses_stay o p circle alike find needs h.0 (listed_paths o q find.extent) responses h.2),
)
