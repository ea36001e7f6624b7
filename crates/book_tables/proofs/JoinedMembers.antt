-- The direct members of a group: the rows give the Office with them.
use Rattle.book_tables.proofs.Common.{◌≡◌, ◌≢◌, ℕ, ◌+◌, Bool, true, false, not, cond, ◌&&◌, ◌||◌, List, [], ◌∷◌, ◌++◌, find, Option, Some, None, is_some, refl, sym, ap, subst, ◌∙◌, and_parts, false_from_ne_true, find-append, contains-insert, option_or, eq_by_cmp, bytes_eq, Int, Text, next_rowid, Row, update_where, delete_where, all_weaker, Memberships, membership_cmp, Membership, memberships_total, memberships_exact, same_membership, Office, by_names, apply, Rows, has, with_epoch, is_member, IsNode, IsEntry, IsRemoved, Gives}
use mathlib.Core.Bool.{and-true, and-false}
use Rattle.std.specs.FinSet as set
use Rattle.std.specs.FinSet.{contains-retain}
use Rattle.std.proofs.lemmas.Map.Text.{is_eq-slice_cmp}
use Rattle.book_lists.proofs.Pairing.{same_path, path_itself}
use Rattle.book_office.specs.declared.edits.Edit.TheVariants.{SetMembers}
use Rattle.book_office.specs.Edits.{members_set}
use Rattle.book_office.proofs.GroupMembers.{members_added, members_joined}
use Rattle.book_tables_rows.specs.Columns.{member_group_place, member_member_place}
use Rattle.book_tables_rows.specs.Nodes.{setting_members}
use Rattle.book_tables_rows.specs.Writes as writes
use Rattle.book_tables_rows.specs.Writes.{Pair}
use Rattle.book_tables.specs.Reach.{HoldsReach, Renews}
use Rattle.book_tables.proofs.Acting.{Given}
use Rattle.book_tables.proofs.ChangedNodes.{same_resources}
use Rattle.book_tables.proofs.Looking.{find-delete_where, find-deleted, all_of_all, has_text}
use Rattle.book_tables.proofs.OneOffice.{epoch_is}
use Rattle.book_tables.proofs.OneValue as value
use Rattle.book_tables.proofs.KeptReach.{members_keep}
use Rattle.book_tables.proofs.ReadActing.{GivesKnown}
use Rattle.book_tables.proofs.RenewedReach.{gives_with_reach, reach_alone, renewed_holds}
use Rattle.book_tables.proofs.RowFacts.{kept_node, kept_entry, kept_removed}

-- the members of these rows are those pairs
abbrev pub AreMembers : List Row → Memberships → Type 0
AreMembers members pairs = (m : Membership) → is_some (find (is_member m) members) ≡ set.contains pairs m

-- ---- a group without its members

same_bytes : (a b : List ℕ) → a ≡ b → bytes_eq a b ≡ true
same_bytes a b is = ap (bytes_eq a) (sym is) ∙ path_itself a

module _ (group : List ℕ) where
  others_left : (members : List Row) (m : Membership) → is_some (find (is_member m) (delete_where (has member_group_place (Text group)) members)) ≡ (is_some (find (is_member m) members) && not (bytes_eq m.group group))
  others_left members m = by_names m.group group (λ _. is_some (find (is_member m) (delete_where (has member_group_place (Text group)) members)) ≡ (is_some (find (is_member m) members) && not (bytes_eq m.group group)))
      (λ is.
      ap is_some (find-deleted (is_member m) (has member_group_place (Text group)) members (all_of_all _ members (λ row passes. ap (λ t. has member_group_place (Text t) row) (sym is) ∙ (and_parts (has member_group_place (Text m.group) row) (has member_member_place (Text m.member) row) passes).0)))
      ∙ sym (ap (λ b. is_some (find (is_member m) members) && not b) (same_bytes m.group group is) ∙ and-false _))
      (λ apart.
      ap is_some (find-delete_where (is_member m) (has member_group_place (Text group)) members (all_of_all _ members (λ row passes. value.one_text 1 row m.group group apart (and_parts (has member_group_place (Text m.group) row) (has member_member_place (Text m.member) row) passes).0)))
      ∙ sym (ap (λ b. is_some (find (is_member m) members) && not b) (other_bytes apart) ∙ and-true _))
    where
      other_bytes : m.group ≢ group → bytes_eq m.group group ≡ false
      other_bytes apart = false_from_ne_true (bytes_eq m.group group) (λ e. apart (same_path m.group group e))

  without : (members : List Row) (pairs : Memberships) → AreMembers members pairs → AreMembers (delete_where (has member_group_place (Text group)) members) (set.retain pairs (λ (m : Membership). not (bytes_eq m.group group)))
  without members pairs are m =
      others_left members m ∙ ap (λ b. b && not (bytes_eq m.group group)) (are m)
      ∙ sym (contains-retain pairs (λ (m : Membership). not (bytes_eq m.group group)) m (λ x e. ap (λ (k : Membership). not (bytes_eq k.group group)) (sym (memberships_exact m x e))))

  -- ---- and with others

  abbrev pair : List ℕ → Membership
  pair member = record { group = group; member = member }

  abbrev row_of : List Row → List ℕ → Row
  row_of members member = Int (next_rowid members) ∷ Text group ∷ Text member ∷ []

  is_pair : (members : List Row) (member : List ℕ) (m : Membership) → is_member m (row_of members member) ≡ eq_by_cmp membership_cmp m (pair member)
  is_pair members member m =
      (λ i. has_text 1 (row_of members member) group m.group refl i && has_text 2 (row_of members member) member m.member refl i)
      ∙ (λ i. is_eq-slice_cmp group m.group i && is_eq-slice_cmp member m.member i)
      ∙ sym (same_membership (pair member) m)

  found_or : (members : List Row) (new : Row) (m : Membership) → is_some (find (is_member m) (members ++ new ∷ [])) ≡ (is_member m new || is_some (find (is_member m) members))
  found_or members new m = ap is_some (find-append (is_member m) members (new ∷ [])) ∙ go (find (is_member m) members) (is_member m new)
    where
      go : (r : Option Row) (b : Bool) → is_some (option_or r (cond b (Some new) None)) ≡ (b || is_some r)
      go None true = refl
      go None false = refl
      go (Some r) true = refl
      go (Some r) false = refl

  with_pair : (members : List Row) (pairs : Memberships) (member : List ℕ) → AreMembers members pairs → AreMembers (members ++ row_of members member ∷ []) (set.insert pairs (pair member))
  with_pair members pairs member are m =
      found_or members (row_of members member) m ∙ (λ i. is_pair members member m i || are m i)
      ∙ sym (contains-insert memberships_total pairs (pair member) m)

  with_members : (added : List (List ℕ)) (rows : Rows) (pairs : Memberships) → AreMembers rows.members pairs → AreMembers (writes.insert_members group added rows).members (members_added group pairs added)
  with_members [] rows pairs are = are
  with_members (member ∷ more) rows pairs are = with_members more (writes.insert_member group member rows) (set.insert pairs (pair member)) (with_pair rows.members pairs member are)

  pub members_alone : (added : List (List ℕ)) (rows : Rows) → writes.insert_members group added rows ≡ record rows { members = (writes.insert_members group added rows).members }
  members_alone [] rows = refl
  members_alone (member ∷ more) rows = members_alone more (writes.insert_member group member rows)

-- the pairs of the group become those of the members
pub members_rewritten : (group : List ℕ) (members : List (List ℕ)) (rows : Rows) (pairs : Memberships) → AreMembers rows.members pairs
    → AreMembers (writes.write_members group members rows).members (members_set pairs group members)
members_rewritten group members rows pairs are =
    subst (λ joined. AreMembers (writes.write_members group members rows).members joined) (members_joined group _ members)
    (with_members group members (writes.delete_members group rows) _ (without group rows.members pairs are))

-- ---- the rows

module _ (group : List ℕ) (members : List (List ℕ)) (rows : Rows) (o : Office) (given : Given rows o (SetMembers group members)) where
  -- before `reach` is renewed
  abbrev pub after : Rows
  after = record rows { members = (writes.write_members group members rows).members; meta = update_where (λ _. true) (with_epoch (o.epoch + 1)) rows.meta }

  pub after_is : (gone come : List Pair) → writes.set_members_rows group members gone come (o.epoch + 1) rows ≡ record after { reach = (writes.renew_reach gone come (writes.write_members group members rows)).reach }
  after_is gone come =
      ap (writes.set_epoch (o.epoch + 1)) (reach_alone gone come (writes.write_members group members rows))
      ∙ ap (λ (r : Rows). record (writes.set_epoch (o.epoch + 1) r) { reach = (writes.renew_reach gone come (writes.write_members group members rows)).reach }) (members_alone group members (writes.delete_members group rows))

  joined : AreMembers after.members (members_set o.pairs group members)
  joined = members_rewritten group members rows o.pairs given.gives.members

  pub gives_joined : Gives after (apply o (SetMembers group members))
  gives_joined = record {
    nodes = all_weaker (IsNode rows) (IsNode after) (kept_node rows after (λ t r found. (r, found, refl))) rows.nodes given.gives.nodes;
    entries = all_weaker (IsEntry rows) (IsEntry after) (kept_entry rows after (λ x there. (x, there, refl))) rows.entries given.gives.entries;
    removed = all_weaker (IsRemoved rows) (IsRemoved after) (kept_removed rows after (λ t r found. (r, found, refl))) rows.gone given.gives.removed;
    resources = λ p is_path. given.gives.resources p is_path ∙ sym (same_resources o (members_set o.pairs group members) (o.epoch + 1) p);
    members = joined;
    gone = given.gives.gone;
    meta = (given.gives.meta.0, ap (update_where (λ _. true) (with_epoch (o.epoch + 1))) given.gives.meta.1);
  }

pub joins_members : (group : List ℕ) (members : List (List ℕ)) (gone come : List Pair)
    → GivesKnown (SetMembers group members) (setting_members group members gone come) (λ o. Renews o.pairs (members_set o.pairs group members) gone come)
joins_members group members gone come = record {
  fits = λ rows o given. record { meta = (o.epoch, given.gives.meta) };
  gives = λ rows after o given known made.
      let epoch = epoch_is rows.meta made.epoch o.epoch made.meta given.gives.meta in
      let is = made.rows_are ∙ ap (λ n. writes.set_members_rows group members gone come (n + 1) rows) epoch ∙ after_is group members rows o given gone come in
      subst (λ r. Gives r (apply o (SetMembers group members))) (sym is) (gives_with_reach _ _ (apply o (SetMembers group members)) (gives_joined group members rows o given));
  reach = λ rows after o given known made holds.
      let before : HoldsReach (writes.write_members group members rows).reach o.pairs = subst (λ rs. HoldsReach rs o.pairs) (sym (members_keep group members rows)) holds in
      subst (λ rs. HoldsReach rs (members_set o.pairs group members)) (sym (ap (λ (r : Rows). r.reach) made.rows_are))
      (renewed_holds o.pairs (members_set o.pairs group members) gone come (writes.write_members group members rows) known before);
}
