-- The pairs of other groups, and the members of one group, put together one after the other.
use Rattle.book_office.proofs.Common.{◌≡◌, ℕ, List, [], ◌∷◌, map, Bool, true, false, not, cond, ◌&&◌, ◌||◌, refl, sym, ap, ◌∙◌, list_any, contains-retain, same_set, bytes_eq, memberships_total, memberships_exact, Memberships, membership_cmp, Membership}
use Rattle.std.specs.FinSet as set
use Rattle.std.specs.FinSet.{contains-empty, contains-insert, contains-from_list, contains-union}
use Rattle.std.specs.Ordering.{eq_by_cmp}
use Rattle.book_lists.specs.Memberships.{set_of}
use Rattle.book_office_values.proofs.NameMapLaws.{tied}

abbrev pub pairs_of : List ℕ → List (List ℕ) → List Membership
pairs_of group members = map (λ member. record { group = group; member = member }) members

abbrev pub is_of_others : List ℕ → Membership → Bool
is_of_others group m = not (bytes_eq m.group group)

abbrev pub others_added : List ℕ → Memberships → List Membership → Memberships
others_added group pairs [] = pairs
others_added group pairs (q ∷ qs) = others_added group (cond (bytes_eq q.group group) pairs (set.insert pairs q)) qs

abbrev pub members_added : List ℕ → Memberships → List (List ℕ) → Memberships
members_added group pairs [] = pairs
members_added group pairs (member ∷ members) = members_added group (set.insert pairs (record { group = group; member = member })) members

or_none : (a : Bool) → a ≡ (a || false)
or_none true = refl
or_none false = refl

put_later : (e a rest : Bool) → ((e || a) || rest) ≡ (a || (e || rest))
put_later true true rest = refl
put_later true false rest = refl
put_later false a rest = refl

module _ (group : List ℕ) where
  contains_members_added : (pairs : Memberships) (members : List (List ℕ)) (q : Membership)
      → set.contains (members_added group pairs members) q ≡ (set.contains pairs q || list_any (eq_by_cmp membership_cmp q) (pairs_of group members))
  contains_members_added pairs [] q = or_none _
  contains_members_added pairs (member ∷ members) q =
      let m : Membership = record { group = group; member = member } in
      contains_members_added (set.insert pairs m) members q
      ∙ ap (λ b. b || list_any (eq_by_cmp membership_cmp q) (pairs_of group members)) (contains-insert memberships_total pairs m q)
      ∙ put_later (eq_by_cmp membership_cmp q m) (set.contains pairs q) _

  pub members_joined : (pairs : Memberships) (members : List (List ℕ)) → members_added group pairs members ≡ set.union pairs (set.from_list (pairs_of group members))
  members_joined pairs members = same_set memberships_total memberships_exact _ _ (λ q.
      contains_members_added pairs members q
      ∙ ap (λ b. set.contains pairs q || b) (sym (contains-from_list memberships_total (pairs_of group members) q))
      ∙ sym (contains-union memberships_total pairs (set.from_list (pairs_of group members)) q))

  -- a pair is among those of others by its group
  alike : (q m : Membership) → eq_by_cmp membership_cmp q m ≡ true → is_of_others group m ≡ is_of_others group q
  alike q m e = ap (is_of_others group) (sym (memberships_exact q m (tied _ e)))

  one_kept : (e a rest g h : Bool) → (e ≡ true → not g ≡ h) → ((cond g a (e || a)) || (rest && h)) ≡ (a || ((e || rest) && h))
  one_kept true a rest true true k = absurd (let f = k refl in cc)
  one_kept true a rest true false k = both a rest
    where
      both : (a rest : Bool) → (a || (rest && false)) ≡ (a || false)
      both true rest = refl
      both false true = refl
      both false false = refl
  one_kept true a rest false true k = all a
    where
      all : (a : Bool) → true ≡ (a || true)
      all true = refl
      all false = refl
  one_kept true a rest false false k = absurd (let f = k refl in cc)
  one_kept false a rest true h k = refl
  one_kept false a rest false h k = refl

  contains_others_added : (pairs : Memberships) (list : List Membership) (q : Membership)
      → set.contains (others_added group pairs list) q ≡ (set.contains pairs q || (list_any (eq_by_cmp membership_cmp q) list && is_of_others group q))
  contains_others_added pairs [] q = or_none _
  contains_others_added pairs (m ∷ ms) q =
      contains_others_added (cond (bytes_eq m.group group) pairs (set.insert pairs m)) ms q
      ∙ ap (λ b. b || (list_any (eq_by_cmp membership_cmp q) ms && is_of_others group q)) (put (bytes_eq m.group group))
      ∙ one_kept (eq_by_cmp membership_cmp q m) (set.contains pairs q) (list_any (eq_by_cmp membership_cmp q) ms) (bytes_eq m.group group) (is_of_others group q) (alike q m)
    where
      put : (g : Bool) → set.contains (cond g pairs (set.insert pairs m)) q ≡ cond g (set.contains pairs q) (eq_by_cmp membership_cmp q m || set.contains pairs q)
      put true = refl
      put false = contains-insert memberships_total pairs m q

  pub others_kept : (list : List Membership) → others_added group set.empty list ≡ set.retain (set_of list) (is_of_others group)
  others_kept list = same_set memberships_total memberships_exact _ _ (λ q.
      contains_others_added set.empty list q
      ∙ ap (λ b. b || (list_any (eq_by_cmp membership_cmp q) list && is_of_others group q)) (contains-empty membership_cmp q)
      ∙ ap (λ b. b && is_of_others group q) (sym (contains-from_list memberships_total list q))
      ∙ sym (contains-retain (set_of list) (is_of_others group) q (λ x e. ap (is_of_others group) (sym (memberships_exact q x e)))))
