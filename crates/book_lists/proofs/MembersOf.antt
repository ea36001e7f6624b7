-- The members of one group, gathered member by member.
use Rattle.book_lists.proofs.Common.{◌≡◌, ℕ, Bool, true, false, ◌&&◌, ◌||◌, List, [], ◌∷◌, refl, sym, ap, ◌∙◌, is_at, flat_map, list_any, eq_by_cmp, bytes_eq, nat_list_eq_equiv, is_eq-slice_cmp, pairs_of, pairs_in, membership_cmp, path_cmp}
use Rattle.std.specs.FinSet as set
use Rattle.std.proofs.lemmas.List.Folds.{list_any-append}
use Rattle.book_lists.specs.declared.memberships.Membership.{Membership}
use Rattle.book_lists.specs.GroupEntries.{GroupEntries}
use Rattle.book_lists.specs.Memberships.{Memberships, members_of}
use Rattle.book_lists.proofs.GroupLists.{of_member}
use Rattle.book_lists.proofs.Pairing.{memberships_total, memberships_exact, path_itself, same_membership, same_path}

-- the pairs so far, and those of the group that are to come, are all of the group
abbrev pub Gathers : GroupEntries → List ℕ → Memberships → Memberships → Type 0
Gathers es group pairs whole = (m : Membership)
    → (set.contains pairs m || (list_any (eq_by_cmp membership_cmp m) (flat_map pairs_of es) && bytes_eq m.group group)) ≡ set.contains whole m

contains-members_of : (pairs : Memberships) (group : List ℕ) (m : Membership) → set.contains (members_of pairs group) m ≡ (set.contains pairs m && bytes_eq m.group group)
contains-members_of pairs group m = set.contains-retain pairs (λ (x : Membership). bytes_eq x.group group) m (λ x e.
    ap (λ (y : Membership). bytes_eq y.group group) (sym (memberships_exact m x e)))

pub gathers_begins : (es : GroupEntries) (group : List ℕ) → Gathers es group set.empty (members_of (pairs_in es) group)
gathers_begins es group m =
    ap (λ b. b || (list_any (eq_by_cmp membership_cmp m) (flat_map pairs_of es) && bytes_eq m.group group)) (set.contains-empty membership_cmp m)
    ∙ ap (λ b. b && bytes_eq m.group group) (sym (set.contains-from_list memberships_total (flat_map pairs_of es) m))
    ∙ sym (contains-members_of (pairs_in es) group m)

pub gathers_end : (group : List ℕ) (pairs whole : Memberships) → Gathers [] group pairs whole → pairs ≡ whole
gathers_end group pairs whole h = set.same_set memberships_total memberships_exact _ _ (λ m. or_none (set.contains pairs m) ∙ h m)
  where
    or_none : (b : Bool) → b ≡ (b || false)
    or_none true = refl
    or_none false = refl

-- whether one pair is among those of a member
among : (k : List ℕ) (s : set.FinSet path_cmp) (es : GroupEntries) (m : Membership)
    → list_any (eq_by_cmp membership_cmp m) (flat_map pairs_of ((k, s) ∷ es))
    ≡ ((bytes_eq k m.member && set.contains s m.group) || list_any (eq_by_cmp membership_cmp m) (flat_map pairs_of es))
among k s es m =
    list_any-append (eq_by_cmp membership_cmp m) (pairs_of (k, s)) (flat_map pairs_of es)
    ∙ ap (λ b. b || list_any (eq_by_cmp membership_cmp m) (flat_map pairs_of es)) (
    of_member m.group m.member k (set.items s)
    ∙ (λ i. (is_eq-slice_cmp m.member k ∙ nat_list_eq_equiv.symm m.member k) i && sym (set.contains-items s m.group) i))

pub gathers_held : (k : List ℕ) (s : set.FinSet path_cmp) (es : GroupEntries) (group : List ℕ) (pairs whole : Memberships) → set.contains s group ≡ true
    → Gathers ((k, s) ∷ es) group pairs whole → Gathers es group (set.insert pairs (record { group = group; member = k })) whole
gathers_held k s es group pairs whole held h m =
    ap (λ b. b || (rest && bytes_eq m.group group)) (set.contains-insert memberships_total pairs (record { group = group; member = k }) m ∙ ap (λ b. b || set.contains pairs m) (same_membership (record { group = group; member = k }) m))
    ∙ ap (λ b. ((b && bytes_eq k m.member) || set.contains pairs m) || (rest && bytes_eq m.group group)) (nat_list_eq_equiv.symm group m.group)
    ∙ go (bytes_eq m.group group) refl
    ∙ ap (λ b. set.contains pairs m || (b && bytes_eq m.group group)) (sym (among k s es m)) ∙ h m
  where
    rest : Bool
    rest = list_any (eq_by_cmp membership_cmp m) (flat_map pairs_of es)

    shared : (k p r : Bool) → ((k || p) || (r && true)) ≡ (p || (((k && true) || r) && true))
    shared true true r = refl
    shared true false r = refl
    shared false p r = refl

    none : (p k r c : Bool) → (p || (r && false)) ≡ (p || (((k && c) || r) && false))
    none true k r c = refl
    none false k r c = and_none r ∙ sym (and_none ((k && c) || r))
      where
        and_none : (b : Bool) → (b && false) ≡ false
        and_none true = refl
        and_none false = refl

    go : (b : Bool) → bytes_eq m.group group ≡ b
        → (((b && bytes_eq k m.member) || set.contains pairs m) || (rest && b)) ≡ (set.contains pairs m || (((bytes_eq k m.member && set.contains s m.group) || rest) && b))
    go true same =
        shared (bytes_eq k m.member) (set.contains pairs m) rest
        ∙ ap (λ b. set.contains pairs m || (((bytes_eq k m.member && b) || rest) && true)) (sym (ap (set.contains s) (same_path m.group group same) ∙ held))
    go false other = none (set.contains pairs m) (bytes_eq k m.member) rest (set.contains s m.group)

pub gathers_other : (k : List ℕ) (s : set.FinSet path_cmp) (es : GroupEntries) (group : List ℕ) (pairs whole : Memberships) → set.contains s group ≡ false
    → Gathers ((k, s) ∷ es) group pairs whole → Gathers es group pairs whole
gathers_other k s es group pairs whole lacks h m =
    go (bytes_eq m.group group) refl ∙ ap (λ b. set.contains pairs m || (b && bytes_eq m.group group)) (sym (among k s es m)) ∙ h m
  where
    rest : Bool
    rest = list_any (eq_by_cmp membership_cmp m) (flat_map pairs_of es)

    lacked : (k r : Bool) → (r && true) ≡ (((k && false) || r) && true)
    lacked true r = refl
    lacked false r = refl

    none : (p k r c : Bool) → (p || (r && false)) ≡ (p || (((k && c) || r) && false))
    none true k r c = refl
    none false k r c = and_none r ∙ sym (and_none ((k && c) || r))
      where
        and_none : (b : Bool) → (b && false) ≡ false
        and_none true = refl
        and_none false = refl

    go : (b : Bool) → bytes_eq m.group group ≡ b
        → (set.contains pairs m || (rest && b)) ≡ (set.contains pairs m || (((bytes_eq k m.member && set.contains s m.group) || rest) && b))
    go true same =
        ap (λ b. set.contains pairs m || b) (lacked (bytes_eq k m.member) rest)
        ∙ ap (λ b. set.contains pairs m || (((bytes_eq k m.member && b) || rest) && true)) (sym (ap (set.contains s) (same_path m.group group same) ∙ lacks))
    go false other = none (set.contains pairs m) (bytes_eq k m.member) rest (set.contains s m.group)
