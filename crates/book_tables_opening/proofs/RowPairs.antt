-- The pairs of the rows of members, and how many a group has at most.
use Rattle.book_tables_opening.proofs.Common.{◌≡◌, ℕ, suc, ◌+◌, ◌≤◌, Bool, true, false, cond, ◌&&◌, List, [], ◌∷◌, length, filter, find, Some, is_some, unwrap_or, refl, sym, ap, ◌∙◌, arith, AllByRecursion, Text, Row, Memberships, members_of, Membership, member_group, member_group_place, member_member, text_in, has, is_member, has_text}
use mathlib.Core.Bool.{and-false}
use Rattle.std.proofs.Common.{◌||◌}
use Rattle.std.specs.FinSet as set
use Rattle.std.specs.FinSet.{contains-empty, contains-insert, contains-retain, len-empty, len-insert, same_set}
use Rattle.std.specs.Ordering.{eq_by_cmp}
use Rattle.std.specs.Str.{bytes_eq}
use Rattle.std.proofs.lemmas.Map.Text.{is_eq-slice_cmp}
use Rattle.book_lists.specs.Memberships.{membership_cmp}
use Rattle.book_lists.proofs.Pairing.{memberships_total, memberships_exact, same_membership}
use Rattle.book_office_values.proofs.NameMapLaws.{tied}

abbrev pub pair_of : Row → Membership
pair_of row = record { group = unwrap_or (text_in (member_group row)) []; member = unwrap_or (text_in (member_member row)) [] }

-- the columns of a row are the texts of its pair
pub record IsPairRow (row : Row) : Type 0 where
  pub group : member_group row ≡ Text (pair_of row).group
  pub member : member_member row ≡ Text (pair_of row).member

abbrev pub pairs_in : List Row → Memberships
pairs_in [] = set.empty
pairs_in (row ∷ rows) = set.insert (pairs_in rows) (pair_of row)

tells_pair : (m : Membership) (row : Row) → IsPairRow row → is_member m row ≡ eq_by_cmp membership_cmp m (pair_of row)
tells_pair m row is =
    (λ i. has_text 1 row (pair_of row).group m.group is.group i && has_text 2 row (pair_of row).member m.member is.member i)
    ∙ (λ i. is_eq-slice_cmp (pair_of row).group m.group i && is_eq-slice_cmp (pair_of row).member m.member i)
    ∙ sym (same_membership (pair_of row) m)

-- some row tells a pair exactly where it is among the pairs
pub told_pairs : (rows : List Row) → AllByRecursion IsPairRow rows → (m : Membership) → is_some (find (is_member m) rows) ≡ set.contains (pairs_in rows) m
told_pairs [] all m = sym (contains-empty membership_cmp m)
told_pairs (row ∷ rows) all m =
    in_head (is_member m row) ∙ (λ i. tells_pair m row all.0 i || told_pairs rows all.1 m i) ∙ sym (contains-insert memberships_total (pairs_in rows) (pair_of row) m)
  where
    in_head : (b : Bool) → is_some (cond b (Some row) (find (is_member m) rows)) ≡ (b || is_some (find (is_member m) rows))
    in_head true = refl
    in_head false = refl

module _ (group : List ℕ) where
  abbrev is_of : Membership → Bool
  is_of m = bytes_eq m.group group

  in_kept : (pairs : Memberships) (q : Membership) → set.contains (members_of pairs group) q ≡ (set.contains pairs q && is_of q)
  in_kept pairs q = contains-retain pairs is_of q (λ x e. ap is_of (sym (memberships_exact q x e)))

  -- a pair of the group that is put is one more of its members
  one_more : (pairs : Memberships) (k : Membership) → is_of k ≡ true → members_of (set.insert pairs k) group ≡ set.insert (members_of pairs group) k
  one_more pairs k is = same_set memberships_total memberships_exact _ _ (λ q.
      in_kept (set.insert pairs k) q ∙ ap (λ b. b && is_of q) (contains-insert memberships_total pairs k q)
      ∙ by_tie q (eq_by_cmp membership_cmp q k) refl
      ∙ ap (λ b. eq_by_cmp membership_cmp q k || b) (sym (in_kept pairs q)) ∙ sym (contains-insert memberships_total (members_of pairs group) k q))
    where
      by_tie : (q : Membership) (b : Bool) → eq_by_cmp membership_cmp q k ≡ b → ((b || set.contains pairs q) && is_of q) ≡ (b || (set.contains pairs q && is_of q))
      by_tie q true e = ap is_of (memberships_exact q k (tied _ e)) ∙ is
      by_tie q false e = refl

  -- a pair of another group is none of its members
  no_more : (pairs : Memberships) (k : Membership) → is_of k ≡ false → members_of (set.insert pairs k) group ≡ members_of pairs group
  no_more pairs k is = same_set memberships_total memberships_exact _ _ (λ q.
      in_kept (set.insert pairs k) q ∙ ap (λ b. b && is_of q) (contains-insert memberships_total pairs k q)
      ∙ by_tie q (eq_by_cmp membership_cmp q k) refl ∙ sym (in_kept pairs q))
    where
      by_tie : (q : Membership) (b : Bool) → eq_by_cmp membership_cmp q k ≡ b → ((b || set.contains pairs q) && is_of q) ≡ (set.contains pairs q && is_of q)
      by_tie q true e = let out : is_of q ≡ false = ap is_of (memberships_exact q k (tied _ e)) ∙ is in out ∙ sym (ap (λ b. set.contains pairs q && b) out ∙ and-false (set.contains pairs q))
      by_tie q false e = refl

  none_kept : members_of set.empty group ≡ set.empty
  none_kept = same_set memberships_total memberships_exact _ _ (λ q. in_kept set.empty q ∙ ap (λ b. b && is_of q) (contains-empty membership_cmp q) ∙ sym (contains-empty membership_cmp q))

  inserted_at_most : (pairs : Memberships) (k : Membership) (n : ℕ) → set.len pairs ≤ n → set.len (set.insert pairs k) ≤ suc n
  inserted_at_most pairs k n fits = rw (len-insert memberships_total pairs k) (elim (set.contains pairs k) as (λ b. cond b (set.len pairs) (set.len pairs + 1) ≤ suc n) [ true ↦ omega (arith, fits) | false ↦ omega (arith, fits) ])

  -- a group has no more members than there are rows of its members
  pub few_members : (rows : List Row) → AllByRecursion IsPairRow rows → set.len (members_of (pairs_in rows) group) ≤ length (filter (has member_group_place (Text group)) rows)
  few_members [] all = omega (arith, ap set.len none_kept, len-empty membership_cmp)
  few_members (row ∷ rows) all =
      in_head (has member_group_place (Text group) row) (sym (is_eq-slice_cmp (pair_of row).group group) ∙ sym (has_text 1 row (pair_of row).group group all.0.group)) (few_members rows all.1)
    where
      in_head : (b : Bool) → is_of (pair_of row) ≡ b → set.len (members_of (pairs_in rows) group) ≤ length (filter (has member_group_place (Text group)) rows)
          → set.len (members_of (set.insert (pairs_in rows) (pair_of row)) group) ≤ length (cond b (row ∷ filter (has member_group_place (Text group)) rows) (filter (has member_group_place (Text group)) rows))
      in_head true is more = rw (one_more (pairs_in rows) (pair_of row) is) (inserted_at_most (members_of (pairs_in rows) group) (pair_of row) (length (filter (has member_group_place (Text group)) rows)) more)
      in_head false is more = rw (no_more (pairs_in rows) (pair_of row) is) more
