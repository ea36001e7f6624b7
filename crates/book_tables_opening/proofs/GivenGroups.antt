-- The groups of a sound Office's rows have few members.
use Rattle.book_tables_opening.proofs.Common.{◌≡◌, ℕ, zero, suc, ℤ, pos, ◌-◌, ◌≤◌, true, false, cond, ◌&&◌, List, [], ◌∷◌, filter, find, length, inl, inr, Some, is_some, option_map, unwrap_or, refl, sym, ap, subst, ◌∙◌, true≢false, arith, AllByRecursion, and_parts, Int, Text, id_in, Database, IsDatabase, Row, rowid, Has, all_has, has_filtered, MAX_MEMBERS, Memberships, members_of, Membership, Office, is_same, same_itself, by_option, IsSound, member_group, member_group_place, member_member, pairs_of, text_in, Rows, rows_of, has, IsBook, book_schema, row_at, is_member, Gives, nodes_of, has_text, number_of_row, has_map, number_at, IsMemberRow, Key, same_key, AreAtMost, whole_nodes}
use Rattle.std.proofs.Common.{not}
use Rattle.std.specs.FinSet as set
use Rattle.std.specs.FinSet.{contains-empty, contains-remove, contains-retain, empty_of_len, len-remove}
use Rattle.std.specs.Ordering.{eq_by_cmp}
use Rattle.std.specs.Str.{bytes_eq}
use Rattle.std.proofs.lemmas.Bool.{false_from_ne_true}
use Rattle.sqlite_value.specs.Keys.{plain}
use Rattle.sqlite_value.proofs.KeyLemmas.{first_key-plain}
use Rattle.sqlite_schema.specs.Rules.{agree}
use Rattle.sqlite_rules.proofs.KeyLemmas.{agree_back, agree_chain}
use Rattle.sqlite_keyed.proofs.ListLemmas.{ascending_weaker, ascending-filter}
use Rattle.sqlite_catalog.proofs.AlterLemmas.{keys_are_unique}
use Rattle.book_lists.specs.Memberships.{membership_cmp}
use Rattle.book_lists.proofs.Pairing.{memberships_total, memberships_exact, path_itself}
use Rattle.book_office_values.proofs.NameMapLaws.{tied}
use Rattle.book_tables_rows.specs.Columns.{member_member_place}
use Rattle.book_tables_rows.specs.Schema.{member_table}
use Rattle.book_tables_rows.proofs.Entries.{all_distinct}
use Rattle.book_tables_rows.proofs.Once.{PassesOnce}
use Rattle.book_tables.proofs.RowFacts.{numbers_apart}
use Rattle.book_tables_opening.specs.Opening.{group_key, group_keys}
use Rattle.book_tables_opening.proofs.CountedRows.{count_shown, count_bounded, count_weaker, are_at_most}
use Rattle.book_tables_opening.proofs.Counts.{is_key}
use Rattle.book_tables_opening.proofs.NumberedRows.{one_is_found}
use Rattle.book_tables_opening.proofs.ShownNodes.{number_shown, shown_is_at}

abbrev keys : List ℕ
keys = 1 ∷ 2 ∷ []

-- ---- a pair is there once

same_pair : (m : Membership) (a b : Row) → is_member m a ≡ true → is_member m b ≡ true → agree plain keys a keys b ≡ true
same_pair m a b p q =
    let key : Row = Text m.group ∷ Text m.member ∷ [] in
    let pa : (has member_group_place (Text m.group) a ≡ true) × (has member_member_place (Text m.member) a ≡ true) = and_parts (has member_group_place (Text m.group) a) (has member_member_place (Text m.member) a) p in
    let pb : (has member_group_place (Text m.group) b ≡ true) × (has member_member_place (Text m.member) b ≡ true) = and_parts (has member_group_place (Text m.group) b) (has member_member_place (Text m.member) b) q in
    let first : agree plain keys a (0 ∷ 1 ∷ []) key ≡ true = rw (first_key-plain, pa.0, pa.1) refl in
    let second : agree plain keys b (0 ∷ 1 ∷ []) key ≡ true = rw (first_key-plain, pb.0, pb.1) refl in
    agree_chain plain keys (0 ∷ 1 ∷ []) keys a key b first (agree_back plain keys (0 ∷ 1 ∷ []) b key second)

member_once : (db : Database) → IsBook db → (m : Membership) → PassesOnce (is_member m) (rows_of db.trees).members
member_once db book m =
    let rules = subst (λ k. IsDatabase (record { schema = k; trees = db.trees })) book.schema book.rules in
    let shaped = book.rising member_table (inr (inr (inl refl))) in
    let distinct = all_distinct keys (db.trees 4) (λ row there. keys_are_unique book_schema db.trees _ 0 keys row rules (inr (inr (inl refl))) refl there) (db.trees 4) (λ r t. t) shaped.0 shaped.1 in
    ascending_weaker (λ a b. agree plain keys a keys b ≡ false) (λ a b. is_member m a ≡ true → is_member m b ≡ false)
    (λ a b apart p. false_from_ne_true (is_member m b) (λ q. true≢false (sym (same_pair m a b p q) ∙ apart))) (db.trees 4) distinct

-- ---- rows of different pairs of a set are no more than its pairs

-- the pair that a row tells
abbrev told : Row → Membership
told x = record { group = unwrap_or (text_in (member_group x)) []; member = unwrap_or (text_in (member_member x)) [] }

some_pair : (s : Memberships) (m : Membership) → set.contains s m ≡ true → 1 ≤ set.len s
some_pair s m there = go (set.len s) refl
  where
    go : (n : ℕ) → set.len s ≡ n → 1 ≤ n
    go zero e = absurd (true≢false (sym there ∙ ap (λ (r : Memberships). set.contains r m) (empty_of_len s e) ∙ contains-empty membership_cmp m))
    go (suc n) e = omega arith

no_more_rows : (xs : List Row) (s : Memberships) → ((m : Membership) → PassesOnce (is_member m) xs) → ((x : Row) → Has xs x → is_member (told x) x ≡ true)
    → ((x : Row) → Has xs x → set.contains s (told x) ≡ true) → length xs ≤ set.len s
no_more_rows [] s once tells within = omega arith
no_more_rows (x ∷ xs) s once tells within =
    let differ : (y : Row) → Has xs y → eq_by_cmp membership_cmp (told y) (told x) ≡ false = λ y there. false_from_ne_true (eq_by_cmp membership_cmp (told y) (told x)) (λ e.
    let one : told y ≡ told x = memberships_exact (told y) (told x) (tied _ e) in
    let fails = all_has (λ z. is_member (told x) x ≡ true → is_member (told x) z ≡ false) xs y (once (told x)).0 there (tells x (inl refl)) in
    true≢false (sym (tells y (inr there)) ∙ ap (λ m. is_member m y) one ∙ fails)) in
    let rest = no_more_rows xs (set.remove s (told x)) (λ m. (once m).1) (λ y there. tells y (inr there))
    (λ y there. contains-remove memberships_total s (told x) (told y) ∙ (λ i. not (differ y there i) && within y (inr there) i)) in
    let fewer = len-remove memberships_total s (told x) ∙ ap (λ b. cond b (set.len s - 1) (set.len s)) (within x (inl refl)) in
    let some = some_pair s (told x) (within x (inl refl)) in
    omega (arith, rest, fewer, some)

module _ (db : Database) (book : IsBook db) (o : Office) (gives : Gives (rows_of db.trees) o) (sound : IsSound o)
    (each_member : AllByRecursion (IsMemberRow (whole_nodes (rows_of db.trees))) (pairs_of (rows_of db.trees))) where
  abbrev rows : Rows
  rows = rows_of db.trees

  abbrev pair_shown : Row → Row
  pair_shown row = member_group row ∷ member_member row ∷ []

  member_row : (x : Row) → Has rows.members x → IsMemberRow (whole_nodes rows) (pair_shown x)
  member_row x there = all_has (IsMemberRow (whole_nodes rows)) (pairs_of rows) (pair_shown x) each_member (has_map pair_shown rows.members x there)

  -- a row tells its pair, which the Office has
  row_tells : (x : Row) → Has rows.members x → is_member (told x) x ≡ true
  row_tells x there =
      let it = member_row x there in
      let group : (told x).group ≡ it.group = ap (λ v. unwrap_or (text_in v) []) it.group_is in
      let member : (told x).member ≡ it.member = ap (λ v. unwrap_or (text_in v) []) it.member_is in
      let first = has_text 1 x (told x).group (told x).group (it.group_is ∙ ap Text (sym group)) ∙ same_itself (told x).group in
      let second = has_text 2 x (told x).member (told x).member (it.member_is ∙ ap Text (sym member)) ∙ same_itself (told x).member in
      λ i. first i && second i

  pair_there : (x : Row) → Has rows.members x → set.contains o.pairs (told x) ≡ true
  pair_there x there = sym (gives.members (told x)) ∙ by_option (find (is_member (told x)) rows.members)
      (λ none. absurd (one_is_found (is_member (told x)) rows.members x there (row_tells x there) none))
      (λ y some. ap is_some some)

  of_group : (group : List ℕ) (x : Row) → Has rows.members x → has member_group_place (Text group) x ≡ true → set.contains (members_of o.pairs group) (told x) ≡ true
  of_group group x there passes =
      let it = member_row x there in
      let its : it.group ≡ group = is_same it.group group (sym (has_text 1 x it.group group it.group_is) ∙ passes) in
      let same : bytes_eq (told x).group group ≡ true = ap (λ g. bytes_eq g group) (ap (λ v. unwrap_or (text_in v) []) it.group_is ∙ its) ∙ path_itself group in
      contains-retain o.pairs (λ (m : Membership). bytes_eq m.group group) (told x) (λ y e. ap (λ (m : Membership). bytes_eq m.group group) (sym (memberships_exact (told x) y e)))
      ∙ (λ i. pair_there x there i && same i)

  few_of : (group : List ℕ) → length (filter (has member_group_place (Text group)) rows.members) ≤ set.len (members_of o.pairs group)
  few_of group = no_more_rows (filter (has member_group_place (Text group)) rows.members) (members_of o.pairs group)
      (λ m. ascending-filter (λ a b. is_member m a ≡ true → is_member m b ≡ false) (has member_group_place (Text group)) rows.members (member_once db book m))
      (λ x picked. row_tells x (has_filtered (has member_group_place (Text group)) rows.members x picked).0)
      (λ x picked. let its = has_filtered (has member_group_place (Text group)) rows.members x picked in of_group group x its.0 its.1)

  -- ---- groups by their numbers

  -- the number of a group of a row
  numbered : (x : Row) (there : Has rows.members x) → (r : Row) × (row_at rows (member_row x there).group ≡ Some r) × (n : ℤ) × (rowid r ≡ Int n) × (group_key (whole_nodes rows) (pair_shown x) ≡ n)
  numbered x there =
      let it = member_row x there in
      let r = shown_is_at rows it.group it.group_there.node it.group_there.there in
      let number = number_of_row rows gives.nodes (nodes_of db book).shaped it.group r.0 r.1 in
      let its : number_at (whole_nodes rows) it.group ≡ Some number.0 = number_shown rows it.group ∙ ap (option_map (λ row. id_in (rowid row))) r.1 ∙ ap (λ v. Some (id_in v)) number.1 in
      (r.0, r.1, number.0, number.1, ap (λ v. unwrap_or (number_at (whole_nodes rows) (unwrap_or (text_in v) [])) (pos 0)) it.group_is ∙ ap (λ n. unwrap_or n (pos 0)) its)

  same_group : (x y : Row) (in_x : Has rows.members x) (in_y : Has rows.members y) → group_key (whole_nodes rows) (pair_shown x) ≡ group_key (whole_nodes rows) (pair_shown y)
      → has member_group_place (Text (member_row x in_x).group) y ≡ true
  same_group x y in_x in_y same =
      let a = numbered x in_x in
      let b = numbered y in_y in
      let one : rowid a.0 ≡ rowid b.0 = a.3 ∙ ap Int (sym a.4 ∙ same ∙ b.4) ∙ sym b.3 in
      let groups = numbers_apart rows gives.nodes (nodes_of db book).shaped (member_row x in_x).group (member_row y in_y).group a.0 b.0 a.1 b.1 one in
      has_text 1 y (member_row x in_x).group (member_row x in_x).group ((member_row y in_y).group_is ∙ ap Text (sym groups)) ∙ same_itself (member_row x in_x).group

  few_keys : (k : Key) → length (filter (λ x. same_key k (group_key (whole_nodes rows) (pair_shown x), pos 0)) rows.members) ≤ MAX_MEMBERS
  few_keys k = count_bounded (λ x. same_key k (group_key (whole_nodes rows) (pair_shown x), pos 0)) MAX_MEMBERS rows.members (λ x in_x passes.
      let fewer = count_weaker (λ z. same_key k (group_key (whole_nodes rows) (pair_shown z), pos 0)) (has member_group_place (Text (member_row x in_x).group)) rows.members
      (λ y in_y also. same_group x y in_x in_y (ap (λ (q : Key). q.0) (sym (is_key k _ passes) ∙ is_key k _ also))) in
      let few = few_of (member_row x in_x).group in
      let most = sound.members (member_row x in_x).group in
      omega (arith, fewer, few, most))

  pub groups : AreAtMost MAX_MEMBERS (group_keys (whole_nodes rows) (pairs_of rows))
  groups = are_at_most MAX_MEMBERS (group_keys (whole_nodes rows) (pairs_of rows)) (λ k.
      subst (λ n. n ≤ MAX_MEMBERS)
      (sym (count_shown (λ row. (group_key (whole_nodes rows) row, pos 0)) (same_key k) (pairs_of rows) ∙ count_shown pair_shown (λ row. same_key k (group_key (whole_nodes rows) row, pos 0)) rows.members))
      (few_keys k))
