-- The rows of pairs, one after another.
use Rattle.book_tables.proofs.Common.{◌≡◌, ℕ, ◌+◌, ◌<◌, Bool, ◌&&◌, ◌||◌, List, [], ◌∷◌, ◌++◌, take, length, get_or, sym, ap, ◌∙◌, list_any, eq_by_cmp, bytes_eq, Memberships, membership_cmp, Membership, memberships_total, same_membership, Row, Text, subst, inr}
use mathlib.Core.Bool.{or-false}
use Rattle.std.proofs.lemmas.Bool.{false≢true}
use Rattle.std.specs.FinSet as set
use Rattle.std.proofs.lemmas.List.Folds.{list_any-append, list_any_more}
use Rattle.book_lists.specs.Memberships.{Chain, set_of}
use Rattle.book_tables_rows.specs.Lists.{pair_group, pair_member}
use Rattle.book_tables_rows.specs.Writes.{Pair}
use Rattle.book_tables.specs.Listing.{tells_member}
use Rattle.book_tables.specs.Reach.{Renews, is_among, pair_of}
use Rattle.book_tables.proofs.PairsTold.{tells_one}

abbrev is_one : Membership → Pair → Bool
is_one m p = bytes_eq p.group m.group && bytes_eq p.member m.member

among_more : (pairs : List Pair) (e m : Membership) → is_among (pairs ++ pair_of e ∷ []) m ≡ (is_among pairs m || eq_by_cmp membership_cmp m e)
among_more pairs e m =
    list_any-append (is_one m) pairs (pair_of e ∷ []) ∙ ap (λ b. is_among pairs m || b) (or-false (is_one m (pair_of e)) ∙ sym (same_membership e m))

-- the rows are those of the pairs
abbrev pub AreRowsOf : List Membership → List Pair → Type 0
AreRowsOf list rows = (m : Membership) → is_among rows m ≡ list_any (eq_by_cmp membership_cmp m) list

pub one_more_row : (list : List Membership) (i : ℕ) (e : Membership) (old : List Pair) → i < length list → get_or list i e ≡ e → AreRowsOf (take i list) old → AreRowsOf (take (i + 1) list) (old ++ pair_of e ∷ [])
one_more_row list i e old below is are m =
    among_more old e m ∙ ap (λ b. b || eq_by_cmp membership_cmp m e) (are m)
    ∙ ap (λ k. list_any (eq_by_cmp membership_cmp m) (take i list) || eq_by_cmp membership_cmp m k) (sym is) ∙ sym (list_any_more (eq_by_cmp membership_cmp m) list i e below)

-- ---- pairs that rows tell

-- the pairs so far are those that the rows so far tell
abbrev pub AreListed : List Membership → List Row → Type 0
AreListed pairs rows = (m : Membership) → list_any (eq_by_cmp membership_cmp m) pairs ≡ list_any (tells_member m) rows

pub one_more_listed : (pairs : List Membership) (rows : List Row) (i : ℕ) (row : Row) (e : Membership) → i < length rows → get_or rows i row ≡ row → pair_group row ≡ Text e.group → pair_member row ≡ Text e.member
    → AreListed pairs (take i rows) → AreListed (pairs ++ e ∷ []) (take (i + 1) rows)
one_more_listed pairs rows i row e below is group member told m =
    list_any-append (eq_by_cmp membership_cmp m) pairs (e ∷ [])
    ∙ (λ j. told m j || (or-false (eq_by_cmp membership_cmp m e) ∙ sym (tells_one m e row group member)) j)
    ∙ ap (λ r. list_any (tells_member m) (take i rows) || tells_member m r) (sym is)
    ∙ sym (list_any_more (tells_member m) rows i row below)

-- a list with exactly the pairs tells of each whether it is there
pub told_in : (pairs : Memberships) (list : List Membership) (rows : List Row) → set_of list ≡ pairs → AreListed list rows → (m : Membership) → list_any (tells_member m) rows ≡ set.contains pairs m
told_in pairs list rows is told m = sym (told m) ∙ sym (set.contains-from_list memberships_total list m) ∙ ap (λ (s : Memberships). set.contains s m) is

-- ---- pairs that stay

-- where the direct pairs are the same, none goes and none comes
pub renews_none : (old new : Memberships) → new ≡ old → Renews old new [] []
renews_none old new same = record {
  gone_are = λ m. (λ e. absurd (false≢true e), λ both. absurd (both.1 (subst (λ (p : Memberships). Chain p m.member m.group) (sym same) both.0)));
  come_are = λ m. (λ e. absurd (false≢true e), λ both. absurd (both.1 (subst (λ (p : Memberships). Chain p m.member m.group) same both.0)));
  stays = λ m chain. inr (subst (λ (p : Memberships). Chain p m.member m.group) (sym same) chain);
}
