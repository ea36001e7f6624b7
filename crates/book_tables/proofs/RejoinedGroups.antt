-- The rows after the direct members of groups were written: the pairs that they tell.
use Rattle.book_tables.proofs.Common.{◌≡◌, ℕ, Bool, true, false, not, cond, ◌&&◌, ◌||◌, List, [], ◌∷◌, map, filter, refl, sym, ap, ◌∙◌, contains-insert, list_any, eq_by_cmp, bytes_eq, Memberships, membership_cmp, Membership, memberships_total, memberships_exact, same_membership, Rows, Joined, in_turn, members_in}
use Rattle.std.specs.FinSet as set
use Rattle.std.specs.FinSet.{contains-retain, contains-from_list}
use Rattle.std.proofs.lemmas.Cmp.{nat_list_eq_equiv}
use Rattle.book_lists.specs.Memberships.{set_of}
use Rattle.book_office.specs.Edits.{members_set}
use Rattle.book_office.proofs.GroupMembers.{members_added, members_joined, is_of_others}
use Rattle.book_tables_rows.specs.Adopting.{write_group}
use Rattle.book_tables_rows.specs.Writes as writes
use Rattle.book_tables.specs.Rows.{has_member}
use Rattle.book_tables.proofs.JoinedMembers.{members_alone, members_rewritten, AreMembers}
use Rattle.book_tables.proofs.Turns.{turned}

abbrev member_of : Membership → List ℕ
member_of m = m.member

turned_bytes : (a b : List ℕ) → bytes_eq a b ≡ bytes_eq b a
turned_bytes a b = nat_list_eq_equiv.symm a b

-- ---- whether a pair is there

-- a group's members: whether a pair is there afterwards
abbrev pub join_at : Membership → Joined → Bool → Bool
join_at m g there = cond (bytes_eq m.group g.group) (list_any (bytes_eq m.member) g.members) there

module _ (group : List ℕ) (m : Membership) where
  any_added : (pairs : Memberships) (members : List (List ℕ)) → set.contains (members_added group pairs members) m ≡ ((bytes_eq m.group group && list_any (bytes_eq m.member) members) || set.contains pairs m)
  any_added pairs [] = and_none (bytes_eq m.group group) (set.contains pairs m)
    where
      and_none : (a b : Bool) → b ≡ ((a && false) || b)
      and_none true b = refl
      and_none false b = refl
  any_added pairs (member ∷ more) =
      any_added (set.insert pairs (record { group = group; member = member })) more
      ∙ ap (λ b. (bytes_eq m.group group && list_any (bytes_eq m.member) more) || b) (contains-insert memberships_total pairs (record { group = group; member = member }) m
      ∙ ap (λ b. b || set.contains pairs m) (same_membership (record { group = group; member = member }) m ∙ (λ i. turned_bytes group m.group i && turned_bytes member m.member i)))
      ∙ regroup (bytes_eq m.group group) (bytes_eq m.member member) (list_any (bytes_eq m.member) more) (set.contains pairs m)
    where
      regroup : (a b c d : Bool) → ((a && c) || ((a && b) || d)) ≡ ((a && (b || c)) || d)
      regroup true true true d = refl
      regroup true true false d = refl
      regroup true false true d = refl
      regroup true false false d = refl
      regroup false b c d = refl

  pub any_member : (pairs : Memberships) (members : List (List ℕ)) → set.contains (members_set pairs group members) m ≡ join_at m (record { group = group; members = members }) (set.contains pairs m)
  any_member pairs members =
      ap (λ s. set.contains s m) (sym (members_joined group (set.retain pairs (is_of_others group)) members))
      ∙ any_added (set.retain pairs (is_of_others group)) members
      ∙ ap (λ b. (bytes_eq m.group group && list_any (bytes_eq m.member) members) || b) (contains-retain pairs (is_of_others group) m (λ x e. ap (is_of_others group) (sym (memberships_exact m x e))))
      ∙ by_group (bytes_eq m.group group) (list_any (bytes_eq m.member) members) (set.contains pairs m)
    where
      by_group : (a b c : Bool) → ((a && b) || (c && not a)) ≡ cond a b c
      by_group true true c = refl
      by_group true false true = refl
      by_group true false false = refl
      by_group false b true = refl
      by_group false b false = refl

-- ---- the rows

-- groups in turn: the pairs, and nothing else
pub all_joined : (groups : List Joined) (rows : Rows) (pairs : Memberships) → AreMembers rows.members pairs
    → (m : Membership) → has_member (in_turn write_group groups rows) m ≡ turned (join_at m) groups (set.contains pairs m)
all_joined [] rows pairs are m = are m
all_joined (g ∷ groups) rows pairs are m =
    all_joined groups (write_group g rows) (members_set pairs g.group g.members) (members_rewritten g.group g.members rows pairs are) m
    ∙ ap (turned (join_at m) groups) (any_member g.group m pairs g.members)

pub groups_alone : (groups : List Joined) (rows : Rows) → in_turn write_group groups rows ≡ record rows { members = (in_turn write_group groups rows).members }
groups_alone [] rows = refl
groups_alone (g ∷ groups) rows =
    groups_alone groups (write_group g rows)
    ∙ ap (λ (r : Rows). record r { members = (in_turn write_group groups (write_group g rows)).members }) (members_alone g.group g.members (writes.delete_members g.group rows))

-- ---- the members among pairs

in_group : (m q : Membership) (b : Bool) (rest : List Membership) (told : Bool) → list_any (bytes_eq m.member) (map member_of rest) ≡ told
    → list_any (bytes_eq m.member) (map member_of (cond b (q ∷ rest) rest)) ≡ ((b && bytes_eq q.member m.member) || told)
in_group m q true rest told more = λ i. turned_bytes m.member q.member i || more i
in_group m q false rest told more = more

-- a pair is there where its member is among those of its group
pub found_in : (m : Membership) (pairs : List Membership) → list_any (bytes_eq m.member) (members_in m.group pairs) ≡ list_any (eq_by_cmp membership_cmp m) pairs
found_in m [] = refl
found_in m (q ∷ qs) =
    in_group m q (bytes_eq q.group m.group) (filter (λ (k : Membership). bytes_eq k.group m.group) qs) (list_any (eq_by_cmp membership_cmp m) qs) (found_in m qs)
    ∙ ap (λ b. b || list_any (eq_by_cmp membership_cmp m) qs) (sym (same_membership q m))

pub pair_found : (pairs : List Membership) (m : Membership) → list_any (bytes_eq m.member) (members_in m.group pairs) ≡ set.contains (set_of pairs) m
pair_found pairs m = found_in m pairs ∙ sym (contains-from_list memberships_total pairs m)
