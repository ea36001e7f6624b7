-- Rows of members tell the pairs of an Office.
use Rattle.book_tables.proofs.Common.{◌≡◌, ℕ, ◌+◌, ◌<◌, Bool, true, false, ◌&&◌, ◌||◌, List, [], ◌∷◌, map, find, take, length, get_or, is_some, refl, sym, ap, ◌∙◌, contains-insert, list_any, eq_by_cmp, Text, Row, State, memberships_total, memberships_exact, same_membership, Memberships, membership_cmp, Membership, Office, rows_of, is_member, StandsFor}
use mathlib.Core.Bool.{or_comm}
use Rattle.std.specs.FinSet as set
use Rattle.std.specs.FinSet.{same_set}
use Rattle.std.proofs.lemmas.List.Folds.{list_any_more}
use Rattle.std.proofs.lemmas.List.Sorted.{list_any-IsPermutation}
use Rattle.std.proofs.lemmas.Map.Text.{is_eq-slice_cmp}
use Rattle.book_tables_rows.specs.Columns.{member_group, member_member}
use Rattle.book_tables_rows.specs.Lists.{ShowsRows, pairs_of, pair_group, pair_member}
use Rattle.book_tables.specs.Listing.{ShowsPairs, tells_member}
use Rattle.book_tables.proofs.Looking.{has_text}

-- ---- a pair is added

-- the row of a pair tells that pair and no other
pub tells_one : (m e : Membership) (row : Row) → pair_group row ≡ Text e.group → pair_member row ≡ Text e.member → tells_member m row ≡ eq_by_cmp membership_cmp m e
tells_one m e row group member =
    (λ i. (has_text 0 row e.group m.group group ∙ is_eq-slice_cmp e.group m.group) i && (has_text 1 row e.member m.member member ∙ is_eq-slice_cmp e.member m.member) i)
    ∙ sym (same_membership e m)

-- the pairs so far have a pair where one of the rows so far tells it
abbrev pub AreTold : Memberships → List Row → Type 0
AreTold pairs rows = (m : Membership) → set.contains pairs m ≡ list_any (tells_member m) rows

pub one_more_told : (pairs : Memberships) (rows : List Row) (i : ℕ) (row : Row) (e : Membership) → i < length rows → get_or rows i row ≡ row
    → pair_group row ≡ Text e.group → pair_member row ≡ Text e.member → AreTold pairs (take i rows) → AreTold (set.insert pairs e) (take (i + 1) rows)
one_more_told pairs rows i row e below is group member told m =
    contains-insert memberships_total pairs e m
    ∙ (λ j. sym (tells_one m e row group member) j || told m j)
    ∙ or_comm (tells_member m row) (list_any (tells_member m) (take i rows))
    ∙ ap (λ r. list_any (tells_member m) (take i rows) || tells_member m r) (sym is)
    ∙ sym (list_any_more (tells_member m) rows i row below)

-- ---- the pairs of an Office

pub any_found : {X : Type 0} (p : X → Bool) (xs : List X) → list_any p xs ≡ is_some (find p xs)
any_found p [] = refl
any_found p (x ∷ xs) = go (p x) refl (any_found p xs)
  where
    go : (b : Bool) → p x ≡ b → list_any p xs ≡ is_some (find p xs) → list_any p (x ∷ xs) ≡ is_some (find p (x ∷ xs))
    go true e more = simp e
    go false e more = simp e more

pub any_mapped : {X Y : Type 0} (p : Y → Bool) (f : X → Y) (xs : List X) → list_any p (map f xs) ≡ list_any (λ x. p (f x)) xs
any_mapped p f [] = refl
any_mapped p f (x ∷ xs) = ap (λ b. p (f x) || b) (any_mapped p f xs)

pub pairs_shown : (s : State) (rows : List Row) (pairs : Memberships) → ShowsRows s pairs_of rows → AreTold pairs rows → ShowsPairs s pairs
pairs_shown s rows pairs shows told = (
  shows.0,
  λ book m.
      told m
      ∙ sym (list_any-IsPermutation (tells_member m) (pairs_of (rows_of s.now.trees)) rows (shows.1 book))
      ∙ any_mapped (tells_member m) (λ (row : Row). member_group row ∷ member_member row ∷ []) (rows_of s.now.trees).members
      ∙ any_found (is_member m) (rows_of s.now.trees).members,
)

pub pairs_are : (s : State) (pairs : Memberships) → ShowsPairs s pairs → (o : Office) → StandsFor s o → pairs ≡ o.pairs
pairs_are s pairs shows o stands =
    let st = stands.0 shows.0 in
    same_set memberships_total memberships_exact pairs o.pairs (λ m. shows.1 st.book m ∙ st.gives.members m)
