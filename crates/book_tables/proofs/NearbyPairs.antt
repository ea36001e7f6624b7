-- The pairs near those whose direct groups become others: what searches find, and what is gathered for them.
use Rattle.std.proofs.Common.{◌≡◌, inl, inr, ◌⊎◌, ℕ, ◌+◌, ◌<◌, Bool, true, false, not, ◌&&◌, ◌||◌, List, [], ◌∷◌, ◌++◌, map, take, length, get_or, Option, None, Some, IfSome, refl, sym, ap, ◌∙◌, true≢false}
use mathlib.Core.Bool.{and-false}
use Rattle.std.proofs.lemmas.Bool.{or_cases, or_left, or_right}
use Rattle.std.proofs.lemmas.List.Folds.{list_any_more}
use Rattle.std.specs.FinSet as set
use Rattle.std.specs.FinSet.{contains-from_list, contains-retain, contains-union}
use Rattle.std.specs.List.{list_any}
use Rattle.std.specs.Ordering.{eq_by_cmp}
use Rattle.std.specs.Str.{bytes_eq}
use Rattle.book_lists.proofs.Elements.{tied}
use Rattle.book_lists.proofs.Pairing.{memberships_exact, memberships_total, path_itself, same_membership, same_path}
use Rattle.book_lists.specs.Circles.{has_path}
use Rattle.book_lists.specs.Memberships.{Memberships, membership_cmp, set_of}
use Rattle.book_lists.specs.Principals.{path_cmp}
use Rattle.book_lists.specs.declared.memberships.Membership.{Membership}
use Rattle.book_office.specs.Edits.{members_set}
use Rattle.book_tables.specs.Nearby.{AreChanged, PushesChanged, IsBelow, HasNearby}
use Rattle.book_tables.specs.Searching.{HasSearched}
use Rattle.book_tables.specs.declared.searching.Search.{Search}
use Rattle.book_tables.specs.declared.searching.Way.TheVariants.{Down, Up}
use Rattle.book_tables.proofs.SearchedPairs.{all_closed, one_path_more, starts_met, turned}

-- ---- a group that gets members

module _ (group : List ℕ) where
  any_pair : (m : Membership) (members : List (List ℕ)) → list_any (eq_by_cmp membership_cmp m) (map (λ member. record { group = group; member = member }) members) ≡ (bytes_eq m.group group && has_path members m.member)
  any_pair m [] = sym (and-false _)
  any_pair m (x ∷ xs) =
      (λ i. (same_membership (record { group = group; member = x }) m ∙ ap (λ b. b && bytes_eq x m.member) (turned group m.group)) i || any_pair m xs i)
      ∙ shared (bytes_eq m.group group) (bytes_eq x m.member) (has_path xs m.member)
    where
      shared : (e a b : Bool) → ((e && a) || (e && b)) ≡ (e && (a || b))
      shared true a b = refl
      shared false a b = refl

  pub in_set : (pairs : Memberships) (members : List (List ℕ)) (m : Membership)
      → set.contains (members_set pairs group members) m ≡ ((set.contains pairs m && not (bytes_eq m.group group)) || (bytes_eq m.group group && has_path members m.member))
  in_set pairs members m =
      contains-union memberships_total (set.retain pairs (λ (k : Membership). not (bytes_eq k.group group))) (set.from_list (map (λ member. record { group = group; member = member }) members)) m
      ∙ (λ i. contains-retain pairs (λ (k : Membership). not (bytes_eq k.group group)) m (λ x e. ap (λ (k : Membership). not (bytes_eq k.group group)) (sym (memberships_exact m x e))) i
      || (contains-from_list memberships_total (map (λ member. record { group = group; member = member }) members) m ∙ any_pair m members) i)

-- the members of the group that come or go are all that come or go
module _ (pairs now : Memberships) (group : List ℕ) (members starts : List (List ℕ)) (is : (m : Membership) → set.contains now m ≡ (set.contains pairs m && bytes_eq m.group group))
    (are : AreChanged now (members_set now group members) (has_path starts)) where
  of_group : (p e h n : Bool) → n ≡ (p && e) → n ≡ ((n && not e) || (e && h)) → p ≡ ((p && not e) || (e && h))
  of_group true false h n k same = refl
  of_group false false h n k same = refl
  of_group true true h true k same = same
  of_group true true h false k same = absurd (true≢false (sym k))
  of_group false true h true k same = absurd (true≢false k)
  of_group false true h false k same = same

  pub all_changed : AreChanged pairs (members_set pairs group members) (has_path starts)
  all_changed m = elim (are m) [
    | inl same ↦ inl (of_group (set.contains pairs m) (bytes_eq m.group group) (has_path members m.member) (set.contains now m) (is m) (same ∙ in_set group now members m) ∙ sym (in_set group pairs members m))
    | inr start ↦ inr start
  ]

-- a search downwards from these has found whatever is below them
pub below_found : (old new : Memberships) (starts : List (List ℕ)) (s : Search) → AreChanged old new (has_path starts) → HasSearched old Down starts s → IsBelow old new (has_path s.all.items)
below_found old new starts s are has = record {
  changed = λ m. elim (are m) [
    | inl same ↦ inl same
    | inr start ↦ inr (has.searches.listed m.member ∙ starts_met old Down starts s has m.member start)
  ];
  closed = λ g p direct there. has.searches.listed p ∙ all_closed old Down starts s has (record { group = g; member = p }) direct (sym (has.searches.listed g) ∙ there);
}

-- a search upwards from these and the group has found the pairs near them
pub nearby_found : (pairs : Memberships) (group : List ℕ) (members below starts : List (List ℕ)) (s : Search) → IsBelow pairs (members_set pairs group members) (has_path below) → starts ≡ below ++ group ∷ []
    → HasSearched pairs Up starts s → HasNearby pairs group members s
nearby_found pairs group members below starts s is_below are has =
    let start : (p : List ℕ) → has_path starts p ≡ (has_path below p || bytes_eq group p) = λ p. ap (λ ps. has_path ps p) are ∙ one_path_more below group p in
    record {
      below = has_path below;
      is_below = is_below;
      are_met = λ p there. starts_met pairs Up starts s has p (start p ∙ or_left (has_path below p) _ there);
      group_met = starts_met pairs Up starts s has group (start group ∙ or_right (has_path below group) _ (path_itself group));
      near = record {
        are = λ m. has.searches.pairs_are m;
        closed = λ g p direct there. all_closed pairs Up starts s has (record { group = g; member = p }) direct there;
      };
    }

-- ---- members, one after another

module _ (list : List Membership) (others : Memberships) (i : ℕ) (e : Membership) (within : i < length list) (is : get_or list i e ≡ e) (old new : List (List ℕ)) (so_far : PushesChanged (take i list) others old new) where
  one_more : (m : Membership) → list_any (eq_by_cmp membership_cmp m) (take (i + 1) list) ≡ (list_any (eq_by_cmp membership_cmp m) (take i list) || eq_by_cmp membership_cmp m e)
  one_more m = list_any_more (eq_by_cmp membership_cmp m) list i e within ∙ ap (λ x. list_any (eq_by_cmp membership_cmp m) (take i list) || eq_by_cmp membership_cmp m x) is

  -- the pair is among the others
  pub not_changed : set.contains others e ≡ true → PushesChanged (take (i + 1) list) others old new
  not_changed there = record {
    kept = so_far.kept;
    come = λ m among apart. elim (or_cases _ _ (sym (one_more m) ∙ among)) [
      | inl before ↦ so_far.come m before apart
      | inr same ↦ absurd (true≢false (sym (ap (λ (k : Membership). set.contains others k) (memberships_exact m e (tied _ same)) ∙ there) ∙ apart))
    ];
  }

  -- its member was added
  pub one_changed : (after : List (List ℕ)) → after ≡ new ++ e.member ∷ [] → PushesChanged (take (i + 1) list) others old after
  one_changed after pushed =
      let has_more : (q : List ℕ) → has_path after q ≡ (has_path new q || bytes_eq e.member q) = λ q. ap (λ ps. has_path ps q) pushed ∙ one_path_more new e.member q in
      record {
        kept = λ q had. has_more q ∙ or_left (has_path new q) _ (so_far.kept q had);
        come = λ m among apart. has_more m.member ∙ elim (or_cases _ _ (sym (one_more m) ∙ among)) [
          | inl before ↦ or_left (has_path new m.member) _ (so_far.come m before apart)
          | inr same ↦ or_right (has_path new m.member) _ (ap (λ (k : Membership). bytes_eq e.member k.member) (memberships_exact m e (tied _ same)) ∙ path_itself e.member)
        ];
      }

-- those so far that were met
abbrev pub AreMet : List (List ℕ) → set.FinSet path_cmp → List (List ℕ) → Type 0
AreMet members met kept = (q : List ℕ) → has_path kept q ≡ (has_path members q && set.contains met q)

module _ (members : List (List ℕ)) (met : set.FinSet path_cmp) (i : ℕ) (e : List ℕ) (within : i < length members) (is : get_or members i e ≡ e) (kept : List (List ℕ)) (so_far : AreMet (take i members) met kept) where
  member_more : (q : List ℕ) → has_path (take (i + 1) members) q ≡ (has_path (take i members) q || bytes_eq e q)
  member_more q = list_any_more (λ p. bytes_eq p q) members i e within ∙ ap (λ x. has_path (take i members) q || bytes_eq x q) is

  pub not_met : (after : List (List ℕ)) → after ≡ kept → set.contains met e ≡ false → AreMet (take (i + 1) members) met after
  not_met after same none q = ap (λ ps. has_path ps q) same ∙ so_far q ∙ go (has_path (take i members) q) (bytes_eq e q) (set.contains met q) (λ is_q. sym (ap (set.contains met) (same_path e q is_q)) ∙ none) ∙ ap (λ b. b && set.contains met q) (sym (member_more q))
    where
      go : (a b t : Bool) → (b ≡ true → t ≡ false) → (a && t) ≡ ((a || b) && t)
      go true b t none = refl
      go false true true none = absurd (true≢false (none refl))
      go false true false none = refl
      go false false t none = refl

  pub one_met : (after : List (List ℕ)) → after ≡ kept ++ e ∷ [] → set.contains met e ≡ true → AreMet (take (i + 1) members) met after
  one_met after pushed there q =
      ap (λ ps. has_path ps q) pushed ∙ one_path_more kept e q ∙ ap (λ b. b || bytes_eq e q) (so_far q)
      ∙ go (has_path (take i members) q) (bytes_eq e q) (set.contains met q) (λ is_q. sym (ap (set.contains met) (same_path e q is_q)) ∙ there) ∙ ap (λ b. b && set.contains met q) (sym (member_more q))
    where
      go : (a b t : Bool) → (b ≡ true → t ≡ true) → ((a && t) || b) ≡ ((a || b) && t)
      go true true true same = refl
      go true true false same = absurd (true≢false (sym (same refl)))
      go true false true same = refl
      go true false false same = refl
      go false true true same = refl
      go false true false same = absurd (true≢false (sym (same refl)))
      go false false t same = refl

-- the members of both lists that the other lacks are all that come or go
pub all_pushed : (now new : Memberships) (before after : List Membership) (none some all : List (List ℕ)) → set_of before ≡ now → set_of after ≡ new → PushesChanged before new none some → PushesChanged after now some all
    → AreChanged now new (has_path all)
all_pushed now new before after none some all is_now is_new first second m = go (set.contains now m) (set.contains new m) refl refl
  where
    listed : (list : List Membership) (pairs : Memberships) → set_of list ≡ pairs → set.contains pairs m ≡ true → list_any (eq_by_cmp membership_cmp m) list ≡ true
    listed list pairs is there = sym (contains-from_list memberships_total list m) ∙ ap (λ (ps : Memberships). set.contains ps m) is ∙ there

    go : (a b : Bool) → set.contains now m ≡ a → set.contains new m ≡ b → (set.contains now m ≡ set.contains new m) ⊎ (has_path all m.member ≡ true)
    go true true e f = inl (e ∙ sym f)
    go true false e f = inr (second.kept m.member (first.come m (listed before now is_now e) f))
    go false true e f = inr (second.come m (listed after new is_new f) e)
    go false false e f = inl (e ∙ sym f)

pub some_as : {A : Type 0} {P Q : A → Type 0} → ((x : A) → P x → Q x) → (y : Option A) → IfSome y P → IfSome y Q
some_as f None there = there
some_as f (Some x) there = f x there
