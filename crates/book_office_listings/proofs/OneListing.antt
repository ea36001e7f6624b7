-- A listing has one answer.
use Rattle.book_office_listings.proofs.Common.{◌≡◌, ℕ, Bool, true, List, [], ◌∷◌, map, Option, Some, None, is_some, refl, sym, ap, ◌∙◌, subst, AllZip, IsStrictlySortedBy, Leaf, CircleOf, IsAllowed, membership_cmp, Entry, Here, Office, Path, effective_at, EffectiveEntry, IsResponse, IsResponseTo, asks_members, asks_token, listed_paths, bare_entries, paths_of, Find, Response, Told, Denied, Subject, Whole}
use Rattle.std.specs.List.{list_any}
use Rattle.std.specs.Map.{keys_of}
use Rattle.std.specs.FinMap.{entries, from_entries, find, get-from_entries, same_map}
use Rattle.std.specs.FinMap.Entries.{is_some-find}
use Rattle.std.specs.FinSet.{contains, contains-from_list}
use Rattle.std.specs.Ordering.{eq_by_cmp}
use Rattle.book_rights.specs.Privileges.{denied_name}
use Rattle.book_lists.specs.Decisions.{IsDenial}
use Rattle.book_lists.specs.Memberships.{set_of}
use Rattle.book_lists.specs.declared.decisions.Outcome.{Outcome}
use Rattle.book_lists.specs.declared.decisions.Outcome.TheVariants as outcome
use Rattle.book_lists.specs.declared.memberships.Membership.{Membership}
use Rattle.book_lists.proofs.OneLeaf.{denied_not_granted}
use Rattle.book_lists.proofs.OneOutcome.{one_outcome}
use Rattle.book_lists.proofs.Pairing.{memberships_total, memberships_exact}
use Rattle.book_office_values.proofs.TreeMaps.{entries_tree}
use Rattle.book_office_listings.specs.Laws.{ListingsHaveOneAnswer}
use Rattle.book_office_listings.specs.Listings.{IsWhole}
use Rattle.book_office_listings.specs.Values.{members_told, value_of}
use Rattle.book_office_listings.specs.Verdicts.{IsDeniedBy, deciding_entry}
use Rattle.book_office_listings.specs.declared.messages.Denial.{Denial}
use Rattle.book_office_listings.specs.declared.messages.Property.{Property}
use Rattle.book_office_listings.specs.declared.messages.Property.TheVariants as property
use Rattle.book_office_listings.specs.declared.messages.PropertyValue.TheVariants as value

-- ---- memberships in order are determined by their set
abbrev pub marked : List Membership → List (Membership × Unit {0})
marked pairs = map (λ pair. (pair, tt)) pairs

pub keys_marked : (pairs : List Membership) → keys_of (marked pairs) ≡ pairs
keys_marked [] = refl
keys_marked (pair ∷ pairs) = ap (λ r. pair ∷ r) (keys_marked pairs)

same_mark : (a b : Option (Unit {0})) → is_some a ≡ is_some b → a ≡ b
same_mark None None e = refl
same_mark None (Some u) e = absurd cc
same_mark (Some u) None e = absurd cc
same_mark (Some u) (Some v) e = refl

in_set : (pairs : List Membership) (q : Membership) → is_some (find membership_cmp q (marked pairs)) ≡ contains (set_of pairs) q
in_set pairs q =
    is_some-find membership_cmp q (marked pairs) ∙ ap (list_any (eq_by_cmp membership_cmp q)) (keys_marked pairs)
    ∙ sym (contains-from_list memberships_total pairs q)

in_order : (pairs : List Membership) → IsStrictlySortedBy membership_cmp pairs → entries (from_entries {R = membership_cmp} (marked pairs)) ≡ marked pairs
in_order pairs sorted = entries_tree memberships_total memberships_exact (marked pairs) (subst (IsStrictlySortedBy membership_cmp) (sym (keys_marked pairs)) sorted)

pub same_pairs : (xs ys : List Membership) → IsStrictlySortedBy membership_cmp xs → IsStrictlySortedBy membership_cmp ys → set_of xs ≡ set_of ys → xs ≡ ys
same_pairs xs ys s t same =
    let maps : from_entries {R = membership_cmp} (marked xs) ≡ from_entries (marked ys) =
    same_map memberships_total memberships_exact _ _ (λ q.
    get-from_entries memberships_total (marked xs) q
    ∙ same_mark _ _ (in_set xs q ∙ ap (λ s. contains s q) same ∙ sym (in_set ys q))
    ∙ sym (get-from_entries memberships_total (marked ys) q)) in
    sym (keys_marked xs) ∙ ap keys_of (sym (in_order xs s) ∙ ap entries maps ∙ in_order ys t) ∙ keys_marked ys

-- ---- values are those of what is asked of the whole
pub same_values : (w v : Whole) (circle : CircleOf) (p : Path) (s : Subject) (list : List EffectiveEntry) (asked : List Property)
    → (asks_members asked ≡ true → members_told w.memberships p ≡ members_told v.memberships p) → (asks_token asked ≡ true → w.epoch ≡ v.epoch)
    → map (value_of w circle p s list) asked ≡ map (value_of v circle p s list) asked
same_values w v circle p s list [] m t = refl
same_values w v circle p s list (property.DisplayName ∷ rest) m t = ap (λ r. value_of v circle p s list property.DisplayName ∷ r) (same_values w v circle p s list rest m t)
same_values w v circle p s list (property.ResourceType ∷ rest) m t = ap (λ r. value_of v circle p s list property.ResourceType ∷ r) (same_values w v circle p s list rest m t)
same_values w v circle p s list (property.Owner ∷ rest) m t = ap (λ r. value_of v circle p s list property.Owner ∷ r) (same_values w v circle p s list rest m t)
same_values w v circle p s list (property.Acl ∷ rest) m t = ap (λ r. value_of v circle p s list property.Acl ∷ r) (same_values w v circle p s list rest m t)
same_values w v circle p s list (property.CurrentUserPrivilegeSet ∷ rest) m t =
    ap (λ r. value_of v circle p s list property.CurrentUserPrivilegeSet ∷ r) (same_values w v circle p s list rest m t)
same_values w v circle p s list (property.GroupMemberSet ∷ rest) m t = λ i.
    value.GroupMemberSet (m refl i) ∷ same_values w v circle p s list rest (λ _. m refl) t i
same_values w v circle p s list (property.SyncToken ∷ rest) m t = λ i.
    value_of (record { memberships = v.memberships; epoch = t refl i }) circle p s list property.SyncToken ∷ same_values w v circle p s list rest m (λ _. t refl) i

-- ---- one denial, and none where the leaves are granted
pub allowed_not_denied : (es : List Entry) (circle : CircleOf) (here : Here) (set : Leaf → Bool) (leaf : Leaf) (index : Option ℕ)
    → IsAllowed es circle here set → IsDenial es circle here set leaf index → ⊥
allowed_not_denied es circle here set leaf None allowed denial =
    let grant = allowed leaf denial.0 in denial.1 grant.0 grant.1 grant.2
allowed_not_denied es circle here set leaf (Some i) allowed denial =
    denied_not_granted es circle here leaf i denial.1 (allowed leaf denial.0)

abbrev leaf_or : Leaf → Outcome → Leaf
leaf_or other outcome.Allowed = other
leaf_or other (outcome.Denied leaf index) = leaf

abbrev index_or_none : Outcome → Option ℕ
index_or_none outcome.Allowed = None
index_or_none (outcome.Denied leaf index) = index

module _ (list : List EffectiveEntry) (circle : CircleOf) (here : Here) (p : Path) (set : Leaf → Bool) where
  one_denial : (a b : Denial) → IsDeniedBy list circle here p set a → IsDeniedBy list circle here p set b → a ≡ b
  one_denial a b x y =
      let es = bare_entries list in
      let same : outcome.Denied x.leaf x.index ≡ outcome.Denied y.leaf y.index =
      one_outcome es circle here set (outcome.Denied x.leaf x.index) (outcome.Denied y.leaf y.index)
      ((λ e. absurd cc), (λ allowed. absurd (allowed_not_denied es circle here set x.leaf x.index allowed x.decided))) x.decided
      ((λ e. absurd cc), (λ allowed. absurd (allowed_not_denied es circle here set y.leaf y.index allowed y.decided))) y.decided in
      let resource : a.resource ≡ b.resource = x.resource ∙ sym y.resource in
      let privilege : a.privilege ≡ b.privilege = x.privilege ∙ ap (λ found. denied_name (leaf_or x.leaf found) set) same ∙ sym y.privilege in
      let entry : a.entry ≡ b.entry = x.entry ∙ ap (λ found. deciding_entry (paths_of list) (index_or_none found)) same ∙ sym y.entry in
      λ k. record { resource = resource k; privilege = privilege k; entry = entry k }

module _ (o : Office) (circle : CircleOf) (find : Find) (w v : Whole) (w_is : IsWhole o find.properties w) (v_is : IsWhole o find.properties v) where
  one_to : (p : Path) (s : Subject) (list : List EffectiveEntry) (a b : Response) → IsResponseTo find circle w p s list a → IsResponseTo find circle v p s list b → a ≡ b
  one_to p s list (Told x xs) (Told y ys) a b =
      let paths : x ≡ y = a.path ∙ sym b.path in
      let values : xs ≡ ys =
      a.values
      ∙ same_values w v circle p s list find.properties
      (λ asked. ap (λ l. members_told l p) (same_pairs w.memberships v.memberships (w_is.in_order asked) (v_is.in_order asked) (w_is.memberships asked ∙ sym (v_is.memberships asked))))
      (λ asked. w_is.epoch asked ∙ sym (v_is.epoch asked))
      ∙ sym b.values in
      λ k. Told (paths k) (values k)
  one_to p s list (Told x xs) (Denied d) a b = absurd (allowed_not_denied (bare_entries list) circle s.here find.needed b.leaf b.index a.granted b.decided)
  one_to p s list (Denied d) (Told y ys) a b = absurd (allowed_not_denied (bare_entries list) circle s.here find.needed a.leaf a.index b.granted a.decided)
  one_to p s list (Denied d) (Denied e) a b = ap Denied (one_denial list circle s.here p find.needed d e a b)

  one_response : (p : Path) (a b : Response) → IsResponse find circle o w p a → IsResponse find circle o v p b → a ≡ b
  one_response p a b (s, s_at, a_is) (t, t_at, b_is) =
      let same : t ≡ s = let both : Some t ≡ Some s = sym t_at ∙ s_at in cc in
      one_to p s (effective_at o p) a b a_is (subst (λ x. IsResponseTo find circle v p x (effective_at o p) b) same b_is)

  one_each : (ps : List Path) (xs ys : List Response) → AllZip (IsResponse find circle o w) ps xs → AllZip (IsResponse find circle o v) ps ys → xs ≡ ys
  one_each [] [] [] a b = refl
  one_each [] (x ∷ xs) ys a b = absurd a
  one_each [] [] (y ∷ ys) a b = absurd b
  one_each (p ∷ ps) [] ys a b = absurd a
  one_each (p ∷ ps) (x ∷ xs) [] a b = absurd b
  one_each (p ∷ ps) (x ∷ xs) (y ∷ ys) a b = λ k. one_response p x y a.0 b.0 k ∷ one_each ps xs ys a.1 b.1 k

pub one_listing : ListingsHaveOneAnswer
one_listing o circle find q a b x y = one_each o circle find x.0 y.0 x.1 y.1 (listed_paths o q find.extent) a b x.2 y.2
