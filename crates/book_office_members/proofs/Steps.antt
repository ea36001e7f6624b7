-- Steps from card to card are links from UID to UID.
use Rattle.book_office_members.proofs.Common.{◌≡◌, inl, inr, ℕ, true, List, [], ◌∷◌, ◌++◌, Option, Some, None, sym, ap, ◌∙◌, subst, refl, path_cmp, uid_in, IsReached, AreNamesOf, CardRef}
use Rattle.std.specs.FinSet as set
use Rattle.std.specs.List.{Any}
use Rattle.std.proofs.lemmas.Bool.{false≢true, and_parts, and_from}
use Rattle.std.proofs.lemmas.List.Folds.{Any-from_list_any, list_any-from_Any}
use Rattle.book_lists.specs.Memberships.{Memberships, IsDirect, Descends, Belongs}
use Rattle.book_lists.proofs.Pairing.{same_path, path_itself}
use Rattle.book_office_members.specs.Reaching.{FromStarts, IsReachable, is_link, AreLinks}
use Rattle.book_office_members.specs.Steps.{has_uid, has_member, is_uid, IsStep, Leads}

-- one link more
belongs_more : (links : Memberships) (s v w : List ℕ) → Belongs links s v → IsDirect links w v → Belongs links s w
belongs_more links s v w (inl same) direct = inr (v, [], (direct, sym same))
belongs_more links s v w (inr chain) direct = inr (v, chain.0 ∷ chain.1, (direct, chain.2))

from_more : (links : Memberships) (values : List (List ℕ)) (v w : List ℕ) → FromStarts links values v → IsDirect links w v → FromStarts links values w
from_more links values v w from direct = (from.0, from.1, belongs_more links from.0 v w from.2 direct)

-- a card's UID that equals two texts
one_uid : (uid : Option (List ℕ)) (v : List ℕ) → is_uid v uid ≡ true → uid ≡ Some v
one_uid None v h = absurd (false≢true h)
one_uid (Some u) v h = ap Some (same_path u v h)

in_set : (found : set.FinSet path_cmp) (uid : Option (List ℕ)) (v : List ℕ) → is_uid v uid ≡ true → set.contains found v ≡ true → uid_in found uid ≡ true
in_set found uid v is has = ap (uid_in found) (one_uid uid v is) ∙ has

of_set : (found : set.FinSet path_cmp) (uid : Option (List ℕ)) → uid_in found uid ≡ true → (v : List ℕ) × (is_uid v uid ≡ true) × (set.contains found v ≡ true)
of_set found None h = absurd (false≢true h)
of_set found (Some u) h = (u, path_itself u, h)

module _ (cards : List CardRef) where
  -- one step more
  step_more : (p : CardRef) (between : List CardRef) (c q : CardRef) → Any (λ x. x ≡ c) cards → Leads cards p between c → IsStep c q
      → Leads cards p (between ++ c ∷ []) q
  step_more p [] c q there first last = (there, first, last)
  step_more p (x ∷ xs) c q there walk last = (walk.0, walk.1, step_more x xs c q there walk.2 last)

  module _ (links : Memberships) (are : AreLinks cards links) where
    -- a card of these that has the UID and the member makes a link
    link_to : (c : CardRef) (from to : List ℕ) → Any (λ x. x ≡ c) cards → has_uid from c ≡ true → has_member to c ≡ true → IsDirect links to from
    link_to c from to there uid member =
        are to from ∙ list_any-from_Any (is_link to from) cards
        (there.0, there.1, there.2, there.3, ap (is_link to from) there.4 ∙ and_from _ _ uid member)

    card_of : (from to : List ℕ) → IsDirect links to from → Any (λ x. is_link to from x ≡ true) cards
    card_of from to direct = Any-from_list_any (is_link to from) cards (sym (are to from) ∙ direct)

    module _ (start : CardRef) where
      -- where links lead to each member of a card, they lead to a UID of each card that is reached from it
      forth : (p : CardRef) (between : List CardRef) (q : CardRef) → ((v : List ℕ) → has_member v p ≡ true → FromStarts links start.members v)
          → Leads cards p between q → (v : List ℕ) × (has_uid v q ≡ true) × FromStarts links start.members v
      forth p [] q all step = (step.value, step.uid, all step.value step.member)
      forth p (c ∷ cs) q all walk =
          let step = walk.1 in
          forth c cs q (λ w member. from_more links start.members step.value w (all step.value step.member) (link_to c step.value w walk.0 step.uid member)) walk.2

      back : (s : List ℕ) → has_member s start ≡ true → (v : List ℕ) (below : List (List ℕ)) → Descends links v below s
          → (q : CardRef) → has_uid v q ≡ true → IsReached cards start q
      back s is v [] same q uid = ([], record { value = s; member = is; uid = subst (λ (x : List ℕ). has_uid x q ≡ true) same uid })
      back s is v (m ∷ ms) d q uid =
          let (k, c, within, at, link) = card_of m v d.0 in
          let parts = and_parts _ _ link in
          let ih = back s is m ms d.1 c parts.0 in
          (ih.0 ++ c ∷ [], step_more start ih.0 c q (k, c, within, at, refl) ih.1 (record { value = v; member = parts.1; uid = uid }))

      backs : (q : CardRef) (v : List ℕ) → has_uid v q ≡ true → FromStarts links start.members v → IsReached cards start q
      backs q v uid from = go from.2
        where
          go : Belongs links from.0 v → IsReached cards start q
          go (inl same) = back from.0 from.1 v [] (sym same) q uid
          go (inr chain) = back from.0 from.1 v (chain.0 ∷ chain.1) chain.2 q uid

      module _ (found : set.FinSet path_cmp) (reach : IsReachable links start.members found) where
        -- a card is reached exactly where its UID is found
        pub reached_found : (q : CardRef) → IsReached cards start q → uid_in found q.uid ≡ true
        reached_found q r =
            let f = forth start r.0 q (λ v member. (v, member, inl refl)) r.1 in
            in_set found q.uid f.0 f.1 ((reach f.0).1 f.2)

        pub found_reached : (q : CardRef) → uid_in found q.uid ≡ true → IsReached cards start q
        found_reached q h =
            let o = of_set found q.uid h in
            backs q o.0 o.1 ((reach o.0).0 o.2)

-- names of the same cards
pub same_names : (F G : CardRef → Type 0) → ((c : CardRef) → F c → G c) → ((c : CardRef) → G c → F c)
    → (cards : List CardRef) (names : List (List ℕ)) → AreNamesOf F cards names → AreNamesOf G cards names
same_names F G f g [] [] h = tt
same_names F G f g [] (n ∷ ns) h = h
same_names F G f g (c ∷ cs) [] h = (λ x. h.0 (g c x), same_names F G f g cs [] h.1)
same_names F G f g (c ∷ cs) (n ∷ ns) (inl h) = inl (f c h.0, h.1, same_names F G f g cs ns h.2)
same_names F G f g (c ∷ cs) (n ∷ ns) (inr h) = inr (λ x. h.0 (g c x), same_names F G f g cs (n ∷ ns) h.1)
