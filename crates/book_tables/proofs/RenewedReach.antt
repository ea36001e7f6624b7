-- The rows of `reach` after a renewal: they hold what chains of the new pairs lead to.
use Rattle.book_tables.proofs.Common.{◌≡◌, ◌≢◌, ◌⊎◌, inl, inr, ℕ, Bool, true, false, not, cond, ◌&&◌, ◌||◌, List, [], ◌∷◌, ◌++◌, find, Option, Some, None, is_some, refl, sym, ap, subst, ◌∙◌, and_parts, false_from_ne_true, find-append, option_or, bytes_eq, Text, next_rowid, Row, delete_where, all_weaker, Memberships, Membership, Office, by_names, Rows, has, IsNode, IsEntry, IsRemoved, Gives}
use mathlib.Core.Bool.{and-true, and-false}
use Rattle.std.proofs.Common.{◌↔◌}
use Rattle.std.proofs.lemmas.Bool.{false≢true}
use Rattle.std.proofs.lemmas.Map.Text.{is_eq-slice_cmp}
use Rattle.std.specs.FinSet as set
use Rattle.book_lists.proofs.Pairing.{same_path, path_itself}
use Rattle.book_lists.specs.Memberships.{IsReachOf}
use Rattle.book_tables_rows.specs.Columns.{reach_group_place, reach_member_place}
use Rattle.book_tables_rows.specs.Writes as writes
use Rattle.book_tables_rows.specs.Writes.{Pair, is_pair, reach_row}
use Rattle.book_tables.specs.Reach.{HoldsReach, Renews, has_pair, is_among}
use Rattle.book_tables.proofs.Looking.{find-delete_where, find-deleted, all_of_all, has_text}
use Rattle.book_tables.proofs.OneValue as value
use Rattle.book_tables.proofs.RowFacts.{kept_node, kept_entry, kept_removed}

abbrev same_pair : Pair → Membership → Bool
same_pair p m = bytes_eq p.group m.group && bytes_eq p.member m.member

same_bytes : (a b : List ℕ) → a ≡ b → bytes_eq a b ≡ true
same_bytes a b is = ap (bytes_eq a) (sym is) ∙ path_itself a

other_bytes : (a b : List ℕ) → a ≢ b → bytes_eq a b ≡ false
other_bytes a b apart = false_from_ne_true (bytes_eq a b) (λ e. apart (same_path a b e))

-- ---- a pair less

module _ (p : Pair) (rows : List Row) (m : Membership) where
  abbrev left : List Row
  left = delete_where (is_pair p.group p.member) rows

  -- the rows of other pairs stay
  apart_by : ((row : Row) → is_pair m.group m.member row ≡ true → is_pair p.group p.member row ≡ false) → same_pair p m ≡ false → has_pair left m ≡ (has_pair rows m && not (same_pair p m))
  apart_by apart other =
      ap is_some (find-delete_where (is_pair m.group m.member) (is_pair p.group p.member) rows (all_of_all _ rows apart))
      ∙ sym (ap (λ b. has_pair rows m && not b) other ∙ and-true _)

  one_less : has_pair left m ≡ (has_pair rows m && not (same_pair p m))
  one_less = by_names m.group p.group (λ _. has_pair left m ≡ (has_pair rows m && not (same_pair p m)))
      (λ same_group. by_names m.member p.member (λ _. has_pair left m ≡ (has_pair rows m && not (same_pair p m)))
      (λ same_member.
      ap is_some (find-deleted (is_pair m.group m.member) (is_pair p.group p.member) rows (all_of_all _ rows (λ row passes. subst (λ g. is_pair g p.member row ≡ true) same_group (subst (λ k. is_pair m.group k row ≡ true) same_member passes))))
      ∙ sym (ap (λ b. has_pair rows m && not b) (λ i. same_bytes p.group m.group (sym same_group) i && same_bytes p.member m.member (sym same_member) i) ∙ and-false _))
      (λ apart. apart_by (λ row passes. ap (λ b. has reach_group_place (Text p.group) row && b) (value.one_text reach_member_place row m.member p.member apart (and_parts (has reach_group_place (Text m.group) row) (has reach_member_place (Text m.member) row) passes).1) ∙ and-false _)
      (ap (λ b. bytes_eq p.group m.group && b) (other_bytes p.member m.member (λ e. apart (sym e))) ∙ and-false _)))
      (λ apart. apart_by (λ row passes. ap (λ b. b && has reach_member_place (Text p.member) row) (value.one_text reach_group_place row m.group p.group apart (and_parts (has reach_group_place (Text m.group) row) (has reach_member_place (Text m.member) row) passes).0))
      (ap (λ b. b && bytes_eq p.member m.member) (other_bytes p.group m.group (λ e. apart (sym e)))))

fewer : (gone : List Pair) (rows : Rows) (m : Membership) → has_pair (writes.delete_pairs gone rows).reach m ≡ (has_pair rows.reach m && not (is_among gone m))
fewer [] rows m = sym (and-true _)
fewer (p ∷ more) rows m =
    fewer more (writes.delete_reach p.group p.member rows) m
    ∙ ap (λ b. b && not (is_among more m)) (one_less p rows.reach m)
    ∙ neither (has_pair rows.reach m) (same_pair p m) (is_among more m)
  where
    neither : (a b c : Bool) → ((a && not b) && not c) ≡ (a && not (b || c))
    neither true true c = refl
    neither true false c = refl
    neither false b c = refl

-- ---- a pair more

found_or : (rows : List Row) (new : Row) (m : Membership) → has_pair (rows ++ new ∷ []) m ≡ (is_pair m.group m.member new || has_pair rows m)
found_or rows new m = ap is_some (find-append (is_pair m.group m.member) rows (new ∷ [])) ∙ go (find (is_pair m.group m.member) rows) (is_pair m.group m.member new)
  where
    go : (r : Option Row) (b : Bool) → is_some (option_or r (cond b (Some new) None)) ≡ (b || is_some r)
    go None true = refl
    go None false = refl
    go (Some r) true = refl
    go (Some r) false = refl

pub more_pairs : (come : List Pair) (rows : Rows) (m : Membership) → has_pair (writes.insert_pairs come rows).reach m ≡ (is_among come m || has_pair rows.reach m)
more_pairs [] rows m = refl
more_pairs (p ∷ more) rows m =
    let new = reach_row (next_rowid rows.reach) p.group p.member in
    let is : is_pair m.group m.member new ≡ same_pair p m = λ i. (has_text reach_group_place new p.group m.group refl ∙ is_eq-slice_cmp p.group m.group) i && (has_text reach_member_place new p.member m.member refl ∙ is_eq-slice_cmp p.member m.member) i in
    more_pairs more (writes.insert_reach p.group p.member rows) m
    ∙ ap (λ b. is_among more m || b) (found_or rows.reach new m ∙ ap (λ b. b || has_pair rows.reach m) is)
    ∙ either (is_among more m) (same_pair p m) (has_pair rows.reach m)
  where
    either : (a b c : Bool) → (a || (b || c)) ≡ ((b || a) || c)
    either true true c = refl
    either true false c = refl
    either false true c = refl
    either false false c = refl

-- ---- all of a renewal

module _ {P Q : Type 0} where
  -- what closures of both tell of one pair
  pub gone_by : (b a g : Bool) → (b ≡ true) ↔ P → (a ≡ true) ↔ Q → g ≡ (b && not a) → (g ≡ true) ↔ (P × ¬ Q)
  gone_by true true g before after is = (λ e. absurd (false≢true (sym is ∙ e)), λ both. absurd (both.1 (after.0 refl)))
  gone_by true false g before after is = (λ e. (before.0 refl, λ q. false≢true (after.1 q)), λ both. is)
  gone_by false a g before after is = (λ e. absurd (false≢true (sym is ∙ e)), λ both. absurd (false≢true (before.1 both.0)))

  pub stays_by : (b a g : Bool) → (b ≡ true) ↔ P → (a ≡ true) ↔ Q → g ≡ (b && not a) → P → (g ≡ true) ⊎ Q
  stays_by b true g before after is p = inr (after.0 refl)
  stays_by true false g before after is p = inl is
  stays_by false false g before after is p = absurd (false≢true (before.1 p))

  -- whether its row is there afterwards
  has_now : (h g c : Bool) → (h ≡ true) ↔ P → (g ≡ true) ↔ (P × ¬ Q) → (c ≡ true) ↔ (Q × ¬ P) → (P → (g ≡ true) ⊎ Q) → ((c || (h && not g)) ≡ true) ↔ Q
  has_now h g true had goes comes stays = (λ e. (comes.0 refl).0, λ q. refl)
  has_now true true false had goes comes stays = (λ e. absurd (false≢true e), λ q. absurd ((goes.0 refl).1 q))
  has_now true false false had goes comes stays = (λ e. elim (stays (had.0 refl)) [ inl gone ↦ absurd (false≢true gone) | inr q ↦ q ], λ q. refl)
  has_now false g false had goes comes stays = (λ e. absurd (false≢true e), λ q. absurd (false≢true (comes.1 (q, λ p. false≢true (had.1 p)))))

pub renewed_holds : (old new : Memberships) (gone come : List Pair) (rows : Rows) → Renews old new gone come → HoldsReach rows.reach old → HoldsReach (writes.renew_reach gone come rows).reach new
renewed_holds old new gone come rows renews holds m =
    let has : has_pair (writes.renew_reach gone come rows).reach m ≡ (is_among come m || (has_pair rows.reach m && not (is_among gone m))) =
    more_pairs come (writes.delete_pairs gone rows) m ∙ ap (λ b. is_among come m || b) (fewer gone rows m) in
    let now = has_now (has_pair rows.reach m) (is_among gone m) (is_among come m) (holds m) (renews.gone_are m) (renews.come_are m) (renews.stays m) in
    (λ is. now.0 (sym has ∙ is), λ chain. has ∙ now.1 chain)

-- the closures of both tell what goes and what comes
pub renews_by : (old new before after : Memberships) (gone come : List Pair) → IsReachOf old before → IsReachOf new after
    → ((m : Membership) → is_among gone m ≡ (set.contains before m && not (set.contains after m))) → ((m : Membership) → is_among come m ≡ (set.contains after m && not (set.contains before m)))
    → Renews old new gone come
renews_by old new before after gone come before_is after_is gone_are come_are = record {
  gone_are = λ m. gone_by (set.contains before m) (set.contains after m) (is_among gone m) (before_is m.group m.member) (after_is m.group m.member) (gone_are m);
  come_are = λ m. gone_by (set.contains after m) (set.contains before m) (is_among come m) (after_is m.group m.member) (before_is m.group m.member) (come_are m);
  stays = λ m. stays_by (set.contains before m) (set.contains after m) (is_among gone m) (before_is m.group m.member) (after_is m.group m.member) (gone_are m);
}

-- ---- the other rows stay

reach_alone_less : (gone : List Pair) (rows : Rows) → writes.delete_pairs gone rows ≡ record rows { reach = (writes.delete_pairs gone rows).reach }
reach_alone_less [] rows = refl
reach_alone_less (p ∷ more) rows = reach_alone_less more (writes.delete_reach p.group p.member rows)

reach_alone_more : (come : List Pair) (rows : Rows) → writes.insert_pairs come rows ≡ record rows { reach = (writes.insert_pairs come rows).reach }
reach_alone_more [] rows = refl
reach_alone_more (p ∷ more) rows = reach_alone_more more (writes.insert_reach p.group p.member rows)

pub reach_alone : (gone come : List Pair) (rows : Rows) → writes.renew_reach gone come rows ≡ record rows { reach = (writes.renew_reach gone come rows).reach }
reach_alone gone come rows =
    reach_alone_more come (writes.delete_pairs gone rows)
    ∙ ap (λ (r : Rows). record r { reach = (writes.renew_reach gone come rows).reach }) (reach_alone_less gone rows)

-- rows give an Office whatever those of `reach` are
pub gives_with_reach : (rows : Rows) (reach : List Row) (o : Office) → Gives rows o → Gives (record rows { reach = reach }) o
gives_with_reach rows reach o gives =
    let after : Rows = record rows { reach = reach } in
    record {
      nodes = all_weaker (IsNode rows) (IsNode after) (kept_node rows after (λ t r found. (r, found, refl))) rows.nodes gives.nodes;
      entries = all_weaker (IsEntry rows) (IsEntry after) (kept_entry rows after (λ x there. (x, there, refl))) rows.entries gives.entries;
      removed = all_weaker (IsRemoved rows) (IsRemoved after) (kept_removed rows after (λ t r found. (r, found, refl))) rows.gone gives.removed;
      resources = gives.resources;
      members = gives.members;
      gone = gives.gone;
      meta = gives.meta;
    }
