-- Rows of the members of one group, or of the groups of one member, tell the pairs.
use Rattle.book_tables.proofs.Common.{◌≡◌, ◌≢◌, ℕ, Bool, true, false, false_from_ne_true, ◌&&◌, List, [], ◌∷◌, codes, find, filter, is_some, None, refl, sym, ap, ◌∙◌, and_parts, true≢false, Text, Row, State, Membership, Memberships, memberships_total, memberships_exact, by_names, bytes_eq, Office, rows_of, has, is_member, StandsFor}
use mathlib.Core.Bool.{and-true, and-false}
use Rattle.std.specs.FinSet.{same_set}
use Rattle.std.proofs.lemmas.List.Sorted.{list_any-IsPermutation}
use Rattle.sqlite.specs.Command.TheVariants.{Select}
use Rattle.sqlite.specs.Listing.{understood, reads_listing}
use Rattle.sqlite.specs.State.{Shown}
use Rattle.sqlite.specs.Term.{col}
use Rattle.sqlite.proofs.Callers.{IsPlain, command_of}
use Rattle.sqlite_tied.specs.Compute.{everything}
use Rattle.book_lists.proofs.Pairing.{same_path, path_itself}
use Rattle.book_lists.specs.Memberships.{members_of}
use Rattle.book_office.proofs.OneGroup.{among}
use Rattle.book_tables_rows.specs.Columns.{member_group, member_group_place, member_member, member_member_place}
use Rattle.book_tables_rows.specs.Lists.{ShowsRows}
use Rattle.book_tables_rows.specs.Schema.{book_schema}
use Rattle.book_tables_rows.proofs.Keeping.{shown_open}
use Rattle.book_tables_rows.proofs.Meanings.{equals}
use Rattle.book_tables_rows.proofs.Reading.{picks}
use Rattle.book_tables_rows.proofs.Statements.{simple}
use Rattle.book_tables.specs.Groups.{list_group, list_groups_of, pairs_at, place_of, ShowsPairsAt}
use Rattle.book_tables.specs.Listing.{tells_member}
use Rattle.book_tables.specs.Searching.{ArePairsAt, near_end}
use Rattle.book_tables.specs.declared.searching.Way.{Way}
use Rattle.book_tables.specs.declared.searching.Way.TheVariants.{Down, Up}
use Rattle.book_tables.proofs.OneValue as value
use Rattle.book_tables.proofs.PairsTold.{AreTold, any_found, any_mapped}

-- ---- the meanings of the texts

list_group_is : command_of (understood book_schema list_group) ≡ Select (record { lets = []; body = simple 4 (equals 1 0 ∷ []) (col 1 1 ∷ col 1 2 ∷ []) }) (codes "grp" ∷ codes "member" ∷ [])
unfolding understood everything
list_group_is = refl

pub list_group_plain : IsPlain (understood book_schema list_group)
unfolding understood everything
list_group_plain = (refl, refl)

list_group_unlisted : reads_listing book_schema list_group ≡ false
unfolding understood everything
list_group_unlisted = refl

pub shows_group : (old new : State) (group : List ℕ) (rows : List Row) → Shown list_group (Text group ∷ []) old new rows → ShowsRows old (pairs_at Down group) rows
shows_group old new group rows h = (
  shown_open list_group _ old new rows h,
  λ book. picks list_group _ 4 (equals 1 0 ∷ []) (col 1 1 ∷ col 1 2 ∷ []) list_group_is list_group_plain list_group_unlisted (Text group ∷ [])
      (has member_group_place (Text group)) (λ row. member_group row ∷ member_member row ∷ []) (λ db. refl) (λ r. and-true (has member_group_place (Text group) r)) (λ r. refl) old new rows h book,
)

list_groups_of_is : command_of (understood book_schema list_groups_of) ≡ Select (record { lets = []; body = simple 4 (equals 2 0 ∷ []) (col 1 1 ∷ col 1 2 ∷ []) }) (codes "grp" ∷ codes "member" ∷ [])
unfolding understood everything
list_groups_of_is = refl

pub list_groups_of_plain : IsPlain (understood book_schema list_groups_of)
unfolding understood everything
list_groups_of_plain = (refl, refl)

list_groups_of_unlisted : reads_listing book_schema list_groups_of ≡ false
unfolding understood everything
list_groups_of_unlisted = refl

pub shows_groups_of : (old new : State) (member : List ℕ) (rows : List Row) → Shown list_groups_of (Text member ∷ []) old new rows → ShowsRows old (pairs_at Up member) rows
shows_groups_of old new member rows h = (
  shown_open list_groups_of _ old new rows h,
  λ book. picks list_groups_of _ 4 (equals 2 0 ∷ []) (col 1 1 ∷ col 1 2 ∷ []) list_groups_of_is list_groups_of_plain list_groups_of_unlisted (Text member ∷ [])
      (has member_member_place (Text member)) (λ row. member_group row ∷ member_member row ∷ []) (λ db. refl) (λ r. and-true (has member_member_place (Text member) r)) (λ r. refl) old new rows h book,
)

-- ---- the rows with a path at one end

module _ {X : Type 0} (q p : X → Bool) where
  -- what passes both tests is found among what passes one
  find-kept : (xs : List X) → ((x : X) → q x ≡ true → p x ≡ true) → find q (filter p xs) ≡ find q xs
  find-kept [] both = refl
  find-kept (x ∷ xs) both = go (p x) (q x) refl refl (find-kept xs both)
    where
      go : (a b : Bool) → p x ≡ a → q x ≡ b → find q (filter p xs) ≡ find q xs → find q (filter p (x ∷ xs)) ≡ find q (x ∷ xs)
      go true true e h more = simp (e, h)
      go true false e h more = simp (e, h) more
      go false true e h more = absurd (true≢false (sym (both x h) ∙ e))
      go false false e h more = simp (e, h) more

  find-none : (xs : List X) → ((x : X) → q x ≡ true → p x ≡ false) → find q (filter p xs) ≡ None
  find-none [] apart = refl
  find-none (x ∷ xs) apart = go (p x) (q x) refl refl (find-none xs apart)
    where
      go : (a b : Bool) → p x ≡ a → q x ≡ b → find q (filter p xs) ≡ None → find q (filter p (x ∷ xs)) ≡ None
      go true true e h more = absurd (true≢false (sym e ∙ apart x h))
      go true false e h more = simp (e, h) more
      go false b e h more = simp e more

module _ (way : Way) (at : List ℕ) where
  -- a row of a pair has its end at that place
  end_of : (m : Membership) (row : Row) → is_member m row ≡ true → has (place_of way) (Text (near_end way m)) row ≡ true
  end_of m row passes = go way (and_parts (has member_group_place (Text m.group) row) (has member_member_place (Text m.member) row) passes)
    where
      go : (w : Way) → (has member_group_place (Text m.group) row ≡ true) × (has member_member_place (Text m.member) row ≡ true) → has (place_of w) (Text (near_end w m)) row ≡ true
      go Up both = both.1
      go Down both = both.0

  pairs_found : (members : List Row) (m : Membership) → is_some (find (is_member m) (filter (has (place_of way) (Text at)) members)) ≡ (is_some (find (is_member m) members) && bytes_eq (near_end way m) at)
  pairs_found members m = by_names (near_end way m) at (λ _. is_some (find (is_member m) (filter (has (place_of way) (Text at)) members)) ≡ (is_some (find (is_member m) members) && bytes_eq (near_end way m) at))
      (λ is.
      ap is_some (find-kept (is_member m) (has (place_of way) (Text at)) members (λ row passes. ap (λ t. has (place_of way) (Text t) row) (sym is) ∙ end_of m row passes))
      ∙ sym (ap (λ b. is_some (find (is_member m) members) && b) (ap (bytes_eq (near_end way m)) (sym is) ∙ path_itself (near_end way m)) ∙ and-true _))
      (λ apart.
      ap is_some (find-none (is_member m) (has (place_of way) (Text at)) members (λ row passes. value.one_text (place_of way) row (near_end way m) at apart (end_of m row passes)))
      ∙ sym (ap (λ b. is_some (find (is_member m) members) && b) (other_bytes apart) ∙ and-false _))
    where
      other_bytes : near_end way m ≢ at → bytes_eq (near_end way m) at ≡ false
      other_bytes apart = false_from_ne_true (bytes_eq (near_end way m) at) (λ e. apart (same_path (near_end way m) at e))

  pub pairs_shown_at : (s : State) (rows : List Row) (pairs : Memberships) → ShowsRows s (pairs_at way at) rows → AreTold pairs rows → ShowsPairsAt s way at pairs
  pairs_shown_at s rows pairs shows told = (
    shows.0,
    λ book m.
        told m
        ∙ sym (list_any-IsPermutation (tells_member m) (pairs_at way at (rows_of s.now.trees)) rows (shows.1 book))
        ∙ any_mapped (tells_member m) (λ (row : Row). member_group row ∷ member_member row ∷ []) (filter (has (place_of way) (Text at)) (rows_of s.now.trees).members)
        ∙ any_found (is_member m) (filter (has (place_of way) (Text at)) (rows_of s.now.trees).members)
        ∙ pairs_found (rows_of s.now.trees).members m,
  )

  pub pairs_are_at : (s : State) (pairs : Memberships) → ShowsPairsAt s way at pairs → (o : Office) → StandsFor s o → ArePairsAt o.pairs way at pairs
  pairs_are_at s pairs shows o stands = let st = stands.0 shows.0 in λ m. shows.1 st.book m ∙ ap (λ b. b && bytes_eq (near_end way m) at) (st.gives.members m)

-- those of a group are its members
pub members_are : (group : List ℕ) (direct pairs : Memberships) → ArePairsAt direct Down group pairs → pairs ≡ members_of direct group
members_are group direct pairs are = same_set memberships_total memberships_exact pairs (members_of direct group) (λ m. are m ∙ sym (among group direct m))
