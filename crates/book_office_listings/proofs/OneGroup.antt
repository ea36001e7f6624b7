-- A listing that is read by the memberships of the groups of which it tells is that of the definition.
use Rattle.book_office_listings.proofs.Common.{◌≡◌, ℕ, Bool, true, false, List, [], ◌∷◌, map, refl, sym, ap, ◌∙◌, subst, AllZip, IsStrictlySortedBy, CircleOf, membership_cmp, Office, Path, IsResponse, IsResponseTo, asks_members, listed_paths, effective_at, EffectiveEntry, Children, Extent, Find, Response, Told, Denied, Subject, Whole}
use Rattle.std.proofs.Common.{◌&&◌, ◌||◌, cond, codes, filter, if◌then◌else◌, inl, inr}
use Rattle.std.proofs.lemmas.List.Kept.{IsStrictlySortedBy-filter}
use Rattle.std.specs.FinSet.{contains, contains-from_list, contains-retain, items, same_set}
use Rattle.std.specs.List.{list_any}
use Rattle.std.specs.Ordering.{eq_by_cmp}
use Rattle.std.specs.Str.{bytes_eq}
use Rattle.book_lists.proofs.Pairing.{memberships_exact, memberships_total, same_membership, same_path}
use Rattle.book_lists.specs.Memberships.{Memberships, members_of, set_of}
use Rattle.book_lists.specs.Principals.{group_path}
use Rattle.book_lists.specs.declared.memberships.Membership.{Membership}
use Rattle.book_office_values.proofs.Members.{Mem}
use Rattle.book_office_values.specs.declared.paths.Path.TheVariants as path
use Rattle.book_office.specs.Resources.{children_at, node_at}
use Rattle.book_office.specs.declared.nodes.Listed.{Listed}
use Rattle.book_office.specs.declared.nodes.Lists.{Lists as Lists'}
use Rattle.book_office.specs.declared.nodes.Node.{Node}
use Rattle.std.proofs.lemmas.Bool.{and_parts}
use Rattle.std.proofs.Common.{Some}
use Rattle.book_office.specs.Levels.{lists_at}
use Rattle.book_office_sync.proofs.Filters.{passed_twice}
use Rattle.book_office_listings.proofs.FoundListings.{ordered, ordered_pairs, pairs_back}
use Rattle.book_office_listings.proofs.OneListing.{same_pairs, same_values}
use Rattle.book_office_listings.proofs.ReadListings.{responses_are}
use Rattle.book_office_listings.specs.Listings.{AreResponses, child_path}
use Rattle.book_office_listings.specs.Reading.{AreRead, IsWholeRead, children_for, groups_told, pairs_about}
use Rattle.book_office_listings.specs.Values.{members_in, members_told}
use Rattle.book_office_listings.specs.declared.messages.Extent.TheVariants.{Resource as Alone}

-- ---- the pairs of one group
module _ (group : List ℕ) where
  abbrev of_group : Membership → Bool
  of_group m = bytes_eq m.group group

  has_kept : (q : Membership) (xs : List Membership) → list_any (eq_by_cmp membership_cmp q) (filter of_group xs) ≡ (list_any (eq_by_cmp membership_cmp q) xs && of_group q)
  has_kept q [] = refl
  has_kept q (x ∷ xs) = go (eq_by_cmp membership_cmp q x) (of_group x) refl refl (has_kept q xs)
    where
      same : eq_by_cmp membership_cmp q x ≡ true → of_group x ≡ of_group q
      same e =
          let both = and_parts (bytes_eq x.group q.group) (bytes_eq x.member q.member) (sym (same_membership x q) ∙ e) in
          ap (λ g. bytes_eq g group) (same_path x.group q.group both.0)

      or_true : (b c : Bool) → true ≡ c → (true || b) ≡ (true && c)
      or_true b true e = refl
      or_true b false e = e

      and_none : (b c : Bool) → c ≡ false → (b && c) ≡ (true && c)
      and_none true c e = refl
      and_none false c e = sym e

      go : (a b : Bool) → eq_by_cmp membership_cmp q x ≡ a → of_group x ≡ b
          → list_any (eq_by_cmp membership_cmp q) (filter of_group xs) ≡ (list_any (eq_by_cmp membership_cmp q) xs && of_group q)
          → list_any (eq_by_cmp membership_cmp q) (cond b (x ∷ filter of_group xs) (filter of_group xs)) ≡ ((a || list_any (eq_by_cmp membership_cmp q) xs) && of_group q)
      go true true ea eb later = ap (λ t. t || list_any (eq_by_cmp membership_cmp q) (filter of_group xs)) ea ∙ or_true (list_any (eq_by_cmp membership_cmp q) (filter of_group xs)) (of_group q) (sym eb ∙ same ea)
      go true false ea eb later = later ∙ and_none (list_any (eq_by_cmp membership_cmp q) xs) (of_group q) (sym (same ea) ∙ eb)
      go false true ea eb later = ap (λ t. t || list_any (eq_by_cmp membership_cmp q) (filter of_group xs)) ea ∙ later
      go false false ea eb later = later

  kept_set : (pairs : Memberships) (xs : List Membership) → set_of xs ≡ pairs → set_of (filter of_group xs) ≡ members_of pairs group
  kept_set pairs xs is = same_set memberships_total memberships_exact _ _ (λ q.
      contains-from_list memberships_total (filter of_group xs) q ∙ has_kept q xs
      ∙ ap (λ b. b && of_group q) (sym (contains-from_list memberships_total xs q) ∙ ap (λ s. contains s q) is)
      ∙ sym (contains-retain pairs of_group q (λ x e. ap of_group (sym (memberships_exact q x e)))))

  -- the members are those of all pairs
  same_members : (pairs : Memberships) (few all : List Membership) → IsStrictlySortedBy membership_cmp few → IsStrictlySortedBy membership_cmp all
      → set_of few ≡ members_of pairs group → set_of all ≡ pairs → members_in few group ≡ members_in all group
  same_members pairs few all sorted_few sorted_all few_is all_is =
      let one : few ≡ filter of_group all = same_pairs few (filter of_group all) sorted_few (IsStrictlySortedBy-filter membership_cmp of_group all sorted_all)
      (few_is ∙ sym (kept_set pairs all all_is)) in
      ap (λ l. members_in l group) one ∙ ap (map (λ (m : Membership). m.member)) (passed_twice of_group of_group (λ x h. h) all)

-- ---- each resource of which a listing tells has the same members
module _ (o : Office) (few all : List Membership) (sorted_few : IsStrictlySortedBy membership_cmp few) (sorted_all : IsStrictlySortedBy membership_cmp all) (all_is : set_of all ≡ o.pairs) where
  abbrev Alike : Path → Type 0
  Alike q = members_told few q ≡ members_told all q

  each_alike : (f : List ℕ → Path) (children : List Listed) (q : Path) → ((name : List ℕ) → Alike (f name)) → Mem q (map (λ (child : Listed). f child.name) children) → Alike q
  each_alike f [] q alike never = absurd never
  each_alike f (child ∷ children) q alike (inl here) = subst Alike (sym here) (alike child.name)
  each_alike f (child ∷ children) q alike (inr later) = each_alike f children q alike later

  alone_alike : (p : Path) → Alike p → (q : Path) → Mem q (listed_paths o p Alone) → Alike q
  alone_alike p own q (inl here) = subst Alike (sym here) own
  alone_alike p own q (inr never) = absurd never

  listed_alike : (p : Path) (extent : Extent) → Alike p → ((name : List ℕ) → Alike (child_path p name)) → (q : Path) → Mem q (listed_paths o p extent) → Alike q
  listed_alike p Alone own below q listed = alone_alike p own q listed
  listed_alike p Children own below q (inl here) = subst Alike (sym here) own
  listed_alike p Children own below q (inr later) = each_alike (child_path p) (children_at o p) q below later

  home_alike : (books groups : Bool) → Alike (if books then path.Books else (if groups then path.Groups else path.People))
  home_alike true groups = refl
  home_alike false true = refl
  home_alike false false = refl

  told_alike : (p : Path) (extent : Extent) → set_of few ≡ pairs_about o.pairs (groups_told p extent) → (q : Path) → Mem q (listed_paths o p extent) → Alike q
  told_alike path.Root extent is = listed_alike path.Root extent refl (λ name. home_alike (bytes_eq name (codes "books")) (bytes_eq name (codes "groups")))
  told_alike path.People extent is = listed_alike path.People extent refl (λ name. refl)
  told_alike path.Groups Alone is = λ q listed. alone_alike path.Groups refl q listed
  told_alike path.Groups Children is = λ q listed. ap (λ l. members_told l q) (same_pairs few all sorted_few sorted_all (is ∙ sym all_is))
  told_alike path.Books extent is = listed_alike path.Books extent refl (λ name. refl)
  told_alike (path.Person n) extent is = listed_alike (path.Person n) extent refl (λ name. refl)
  told_alike (path.Group n) extent is =
      let own = ap Some (same_members (group_path n) o.pairs few all sorted_few sorted_all is all_is) in
      listed_alike (path.Group n) extent own (λ name. own)
  told_alike (path.Book b) extent is = listed_alike (path.Book b) extent refl (λ name. refl)
  told_alike (path.Card b c) extent is = listed_alike (path.Card b c) extent refl (λ name. refl)

-- ---- the responses are those of the definition
module _ (o : Office) (circle : CircleOf) (find : Find) (w v : Whole) (epochs : w.epoch ≡ v.epoch) where
  response_to : (p : Path) (s : Subject) (list : List EffectiveEntry) (response : Response) → (asks_members find.properties ≡ true → members_told w.memberships p ≡ members_told v.memberships p)
      → IsResponseTo find circle w p s list response → IsResponseTo find circle v p s list response
  response_to p s list (Told x xs) same is = record {
    path = is.path;
    granted = is.granted;
    values = is.values ∙ same_values w v circle p s list find.properties same (λ _. epochs);
  }
  response_to p s list (Denied d) same is = is

  responses_to : (ps : List Path) (responses : List Response) → (asks_members find.properties ≡ true → (q : Path) → Mem q ps → members_told w.memberships q ≡ members_told v.memberships q)
      → AllZip (IsResponse find circle o w) ps responses → AllZip (IsResponse find circle o v) ps responses
  responses_to [] [] same is = tt
  responses_to [] (r ∷ rs) same is = is
  responses_to (p ∷ ps) [] same is = is
  responses_to (p ∷ ps) (r ∷ rs) same is = (
    (is.0.0, is.0.1, response_to p is.0.0 (effective_at o p) r (λ asks. same asks p (inl refl)) is.0.2),
    responses_to ps rs (λ asks q m. same asks q (inr m)) is.1,
  )

-- what was read is what the definition says
pub listing_is : (find : Find) (circle : CircleOf) (o : Office) (p : Path) (node : Node) (lists : Lists') (children : List Listed) (whole : Whole) (responses : List Response)
    → lists ≡ lists_at o p → children ≡ children_for o p find.extent → IsWholeRead o p find.extent find.properties whole
    → AreRead find circle whole lists.levels node children responses → node_at o p ≡ Some node → AreResponses find circle o p responses
listing_is find circle o p node lists children whole responses l c w read there =
    let all = ordered (items o.pairs) in (
      record { memberships = all; epoch = whole.epoch },
      record { memberships = λ _. pairs_back o.pairs; in_order = λ _. ordered_pairs (items o.pairs); epoch = w.epoch },
      responses_to o circle find whole (record { memberships = all; epoch = whole.epoch }) refl (listed_paths o p find.extent) responses
          (λ asks. told_alike o whole.memberships all (w.in_order asks) (ordered_pairs (items o.pairs)) (pairs_back o.pairs) p find.extent (w.memberships asks))
          (responses_are find circle whole o p node there responses
          (subst (λ (x : Lists'). AreRead find circle whole x.levels node (children_for o p find.extent) responses) l
          (subst (λ xs. AreRead find circle whole lists.levels node xs responses) c read))),
    )
