-- The rows of `reach` that are settled: what was read of them, and what was written.
use Rattle.book_tables.proofs.Common.{◌≡◌, true, false, ◌||◌, List, [], ◌∷◌, is_some, refl, sym, ap, subst, ◌∙◌, list_any, Row, State, delete_where, memberships_total, memberships_exact, Memberships, Membership, rows_of, IsBook}
use mathlib.Core.Bool.{or-false}
use Rattle.std.specs.FinSet as set
use Rattle.std.specs.FinSet.{same_set}
use Rattle.std.proofs.lemmas.List.Sorted.{list_any-IsPermutation}
use Rattle.book_lists.specs.Memberships.{IsReachOf}
use Rattle.book_tables_rows.specs.Columns.{reach_group, reach_member}
use Rattle.book_tables_rows.specs.Lists.{ShowsRows, pairs_of}
use Rattle.book_tables_rows.specs.Reach.{reach_shown}
use Rattle.book_tables_rows.specs.Steps.{Looks, Becomes}
use Rattle.book_tables_rows.specs.Writes as writes
use Rattle.book_tables_rows.specs.Writes.{Pair, is_pair}
use Rattle.book_tables.specs.Listing.{tells_member}
use Rattle.book_tables.specs.Reach.{AreDirect, HoldsReach, IsSettled, Settles, has_pair, is_among}
use Rattle.book_tables.proofs.Looking.{all_of_all, find-deleted}
use Rattle.book_tables.proofs.PairsTold.{AreTold, any_found, any_mapped, pairs_shown}
use Rattle.book_tables.proofs.RenewedReach.{more_pairs, reach_alone}

-- ---- what was read

-- some row tells the pair exactly where some row of `reach` pairs the two
reach_told : (s : State) (rows : List Row) → ShowsRows s reach_shown rows → IsBook s.now → (m : Membership) → list_any (tells_member m) rows ≡ has_pair (rows_of s.now.trees).reach m
reach_told s rows shows book m =
    sym (list_any-IsPermutation (tells_member m) (reach_shown (rows_of s.now.trees)) rows (shows.1 book))
    ∙ any_mapped (tells_member m) (λ (row : Row). reach_group row ∷ reach_member row ∷ []) (rows_of s.now.trees).reach
    ∙ any_found (is_pair m.group m.member) (rows_of s.now.trees).reach

module _ (old first : State) (members : List Row) (pairs wanted : Memberships) (shows : ShowsRows old pairs_of members) (told : AreTold pairs members) (closed : IsReachOf pairs wanted) (looks : Looks old first) where
  -- the pairs that were read are the direct ones
  direct_are : IsBook old.now → (direct : Memberships) → AreDirect (rows_of old.now.trees) direct → pairs ≡ direct
  direct_are book direct are = same_set memberships_total memberships_exact pairs direct (λ m. (pairs_shown old members pairs shows told).1 book m ∙ are m)

  -- rows that have the pairs of the closure hold what chains lead to
  held : (reach : List Row) → ((m : Membership) → has_pair reach m ≡ set.contains wanted m) → IsBook old.now → (direct : Memberships) → AreDirect (rows_of old.now.trees) direct → HoldsReach reach direct
  held reach same book direct are = subst (HoldsReach reach) (direct_are book direct are) (λ m.
      let chains = closed m.group m.member in
      (λ has. chains.0 (sym (same m) ∙ has), λ chain. same m ∙ chains.1 chain))

  -- `reach` held it already
  pub was_settled : (second : State) (rows : List Row) → ShowsRows first reach_shown rows → Looks first second → ((m : Membership) → list_any (tells_member m) rows ≡ set.contains wanted m) → IsSettled old second
  was_settled second rows shown again same = record {
    was_open = shows.0;
    looks = record {
      mode = again.mode ∙ looks.mode;
      same = λ book. let is = looks.same book in again.same (subst IsBook (sym is) book) ∙ is;
    };
    holds = λ book.
        let is = looks.same book in
        let book_first = subst IsBook (sym is) book in
        held (rows_of old.now.trees).reach (λ m. ap (λ db. has_pair (rows_of db.trees).reach m) (sym is) ∙ sym (reach_told first rows shown book_first m) ∙ same m) book;
  }

  -- it is written anew
  all_cleared : (reach : List Row) (m : Membership) → has_pair (delete_where (λ _. true) reach) m ≡ false
  all_cleared reach m = ap is_some (find-deleted (is_pair m.group m.member) (λ _. true) reach (all_of_all _ reach (λ row passes. refl)))

  pub is_written : (second fourth : State) (come : List Pair) → Looks first second → Becomes second fourth (λ rows. writes.renew_reach [] come (writes.clear_reach rows))
      → ((m : Membership) → is_among come m ≡ set.contains wanted m) → Settles old fourth
  is_written second fourth come again wrote come_are = record {
    inside = wrote.inside;
    was_open = shows.0;
    is_open = wrote.is_open;
    made = λ book.
        let is = looks.same book in
        let book_first = subst IsBook (sym is) book in
        let now = again.same book_first in
        let book_second = subst IsBook (sym now) book_first in
        let all : second.now ≡ old.now = now ∙ is in
        let made = wrote.rows book_second in
        let before = rows_of old.now.trees in
        let reach = (writes.renew_reach [] come (writes.clear_reach before)).reach in
        let rows_are : rows_of fourth.now.trees ≡ writes.renew_reach [] come (writes.clear_reach before) =
        made.1 ∙ ap (λ db. writes.renew_reach [] come (writes.clear_reach (rows_of db.trees))) all in (
          made.0,
          reach,
          rows_are ∙ reach_alone [] come (writes.clear_reach before),
          λ direct are. held reach (λ m. more_pairs come (writes.clear_reach before) m ∙ ap (λ b. is_among come m || b) (all_cleared before.reach m) ∙ or-false (is_among come m) ∙ come_are m) book direct are,
        );
  }
