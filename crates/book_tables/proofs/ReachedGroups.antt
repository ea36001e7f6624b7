-- The groups that rows of `reach` tell, and the circle that they make.
use Rattle.book_tables.proofs.Common.{◌≡◌, ◌≢◌, inl, inr, ℕ, ◌+◌, ◌<◌, Bool, true, false, ◌||◌, List, [], ◌∷◌, ◌++◌, map, filter, take, length, codes, get_or, Option, Some, None, refl, sym, ap, subst, ◌∙◌, true≢false, false_from_ne_true, list_any, bytes_eq, get, where_some, Text, Row, State, Office, IsName, group_path, rows_of, has, StandsFor}
use mathlib.Core.Bool.{or-false}
use Rattle.std.proofs.Common.{◌↔◌, IfSome, IfNone}
use Rattle.std.proofs.lemmas.Bool.{false≢true}
use Rattle.std.proofs.lemmas.Bool.{or_cases, or_left, or_right}
use Rattle.std.proofs.lemmas.List.{append_cancel_left}
use Rattle.std.proofs.lemmas.List.Folds.{list_any-append, list_any_more}
use Rattle.std.proofs.lemmas.List.Sorted.{list_any-IsPermutation}
use Rattle.std.proofs.lemmas.Map.Text.{is_eq-slice_cmp}
use Rattle.std.specs.FinSet as set
use Rattle.book_lists.specs.Callers.{IsCircle, circle_with}
use Rattle.book_lists.specs.Circles.{CircleOf, belongs, has_path}
use Rattle.book_lists.specs.Memberships.{Chain}
use Rattle.book_lists.specs.Principals.{IsGroup}
use Rattle.book_lists.specs.declared.circles.Caller.{Caller}
use Rattle.book_lists.specs.declared.circles.Caller.TheVariants.{Nobody, Known}
use Rattle.book_lists.proofs.Pairing.{same_path, path_itself}
use Rattle.book_lists.proofs.PathSets.{contains-from_paths}
use Rattle.book_lists.proofs.Searches.{found_more}
use Rattle.book_office.specs.Sound.{IsMappedGroup, IsSound}
use Rattle.book_tables_rows.specs.Columns.{reach_group}
use Rattle.book_tables_rows.specs.Lists.{ShowsRows}
use Rattle.book_tables_rows.specs.Reach.{reached_of}
use Rattle.book_tables.specs.Reach.{AreGroupsTold, IsCircleByRows, ShowsCircle, has_pair, reached_group, tells_group}
use Rattle.book_tables.proofs.Looking.{has_text}

-- ---- the path of a group

pub group_found : (path rest name group : List ℕ) → path ≡ codes "/groups/" ++ rest → name ≡ rest → IsName name → group ≡ group_path name → IsGroup group × (path ≡ group)
group_found path rest name group e is named made = ((name, named, made), e ∙ ap (λ n. codes "/groups/" ++ n) (sym is) ∙ sym made)

pub no_group_at : (path : List ℕ) → ((rest : List ℕ) → path ≢ codes "/groups/" ++ rest) → IsGroup path → ⊥
no_group_at path other (name, named, is) = other name is

pub no_name_at : (path rest : List ℕ) → path ≡ codes "/groups/" ++ rest → (IsName rest → ⊥) → IsGroup path → ⊥
no_name_at path rest e none (name, named, is) = none (subst IsName (append_cancel_left (codes "/groups/") name rest (sym is ∙ e)) named)

-- ---- the groups, one after another

-- a row with the path of a group tells that group and no other
tells_one : (q g : List ℕ) (row : Row) → reached_group row ≡ Text g → tells_group q row ≡ bytes_eq g q
tells_one q g row is = has_text 0 row g q is ∙ is_eq-slice_cmp g q

-- a row with the path of no group tells none
module _ (rows : List Row) (i : ℕ) (row : Row) (groups : List (List ℕ)) (below : i < length rows) (is : get_or rows i row ≡ row) (are : AreGroupsTold (take i rows) groups) where
  any_more : (q : List ℕ) → list_any (tells_group q) (take (i + 1) rows) ≡ (list_any (tells_group q) (take i rows) || tells_group q row)
  any_more q = list_any_more (tells_group q) rows i row below ∙ ap (λ r. list_any (tells_group q) (take i rows) || tells_group q r) is

  pub one_group_more : (g : List ℕ) → IsGroup g → reached_group row ≡ Text g → AreGroupsTold (take (i + 1) rows) (groups ++ g ∷ [])
  one_group_more g group told q = (
    λ has. elim (or_cases (has_path groups q) (bytes_eq g q) (sym (list_any-append (λ p. bytes_eq p q) groups (g ∷ []) ∙ ap (λ b. has_path groups q || b) (or-false (bytes_eq g q))) ∙ has)) [
      | inl old ↦ let both = (are q).0 old in (both.0, any_more q ∙ or_left _ _ both.1)
      | inr same ↦ (subst IsGroup (same_path g q same) group, any_more q ∙ or_right (list_any (tells_group q) (take i rows)) _ (tells_one q g row told ∙ same))
    ],
    λ both. list_any-append (λ p. bytes_eq p q) groups (g ∷ []) ∙ elim (or_cases (list_any (tells_group q) (take i rows)) (tells_group q row) (sym (any_more q) ∙ both.1)) [
      | inl old ↦ or_left (has_path groups q) _ ((are q).1 (both.0, old))
      | inr here ↦ or_right (has_path groups q) _ (or_left (bytes_eq g q) false (sym (tells_one q g row told) ∙ here))
    ],
  )

  pub no_group_more : ((q : List ℕ) → IsGroup q → tells_group q row ≡ false) → AreGroupsTold (take (i + 1) rows) groups
  no_group_more none q = (
    λ has. let both = (are q).0 has in (both.0, any_more q ∙ or_left _ _ both.1),
    λ both. elim (or_cases (list_any (tells_group q) (take i rows)) (tells_group q row) (sym (any_more q) ∙ both.1)) [
      | inl old ↦ (are q).1 (both.0, old)
      | inr here ↦ absurd (true≢false (sym here ∙ none q both.0))
    ],
  )

-- the path of no group tells none
pub tells_no_group : (path : List ℕ) (row : Row) → reached_group row ≡ Text path → (IsGroup path → ⊥) → (q : List ℕ) → IsGroup q → tells_group q row ≡ false
tells_no_group path row is none q group = tells_one q path row is ∙ false_from_ne_true (bytes_eq path q) (λ same. none (subst IsGroup (sym (same_path path q same)) group))

pub some_told : (row : Row) (path : List ℕ) → reached_group row ≡ Text path → (group : Option (List ℕ)) → IfSome group (λ q. IsGroup q × (path ≡ q)) → IfSome group (λ q. IsGroup q × (reached_group row ≡ Text q))
some_told row path is None found = tt
some_told row path is (Some q) (group, same) = (group, is ∙ ap Text same)

pub none_told : (row : Row) (path : List ℕ) → reached_group row ≡ Text path → (group : Option (List ℕ)) → IfNone group (IsGroup path → ⊥) → IfNone group ((q : List ℕ) → IsGroup q → tells_group q row ≡ false)
none_told row path is None none = tells_no_group path row is none
none_told row path is (Some q) none = tt

-- ---- the rows of one member

-- some row of the member tells the group exactly where some row pairs them
found_among : (person q : List ℕ) (reach : List Row) → list_any (tells_group q) (map (λ row. reach_group row ∷ []) (filter (has 2 (Text person)) reach)) ≡ has_pair reach (record { group = q; member = person })
found_among person q [] = refl
found_among person q (row ∷ reach) = go (has 2 (Text person) row) refl (has 1 (Text q) row) refl (found_among person q reach)
  where
    go : (b : Bool) → has 2 (Text person) row ≡ b → (t : Bool) → has 1 (Text q) row ≡ t
        → list_any (tells_group q) (map (λ row. reach_group row ∷ []) (filter (has 2 (Text person)) reach)) ≡ has_pair reach (record { group = q; member = person })
        → list_any (tells_group q) (map (λ row. reach_group row ∷ []) (filter (has 2 (Text person)) (row ∷ reach))) ≡ has_pair (row ∷ reach) (record { group = q; member = person })
    go true e true f more = simp (e, f)
    go true e false f more = simp (e, f) more
    go false e true f more = simp (e, f) more
    go false e false f more = simp (e, f) more

-- ---- the circle

module _ (reach : List Row) (person : List ℕ) (groups : List (List ℕ)) (are : (q : List ℕ) → (has_path groups q ≡ true) ↔ (IsGroup q × (has_pair reach (record { group = q; member = person }) ≡ true))) where
  belongs_is : (q : List ℕ) → belongs (circle_with (Known person) groups) q ≡ (bytes_eq person q || has_path groups q)
  belongs_is q = found_more (set.from_list groups) person q ∙ ap (λ b. bytes_eq person q || b) (contains-from_paths groups q)

  pub circle_of_rows : IsCircleByRows reach (Known person) (circle_with (Known person) groups)
  circle_of_rows = record {
    known = refl;
    principals = λ q. (
      λ has. elim (or_cases (bytes_eq person q) (has_path groups q) (sym (belongs_is q) ∙ has)) [
        | inl same ↦ inl (same_path person q same)
        | inr told ↦ inr ((are q).0 told)
      ],
      λ b. belongs_is q ∙ elim b [
        | inl same ↦ or_left (bytes_eq person q) _ (ap (bytes_eq person) (sym same) ∙ path_itself person)
        | inr told ↦ or_right (bytes_eq person q) _ ((are q).1 told)
      ],
    );
  }

-- what rows of one member tell makes its circle
pub circle_shown : (s : State) (person : List ℕ) (rows : List Row) (groups : List (List ℕ)) (circle : CircleOf) → ShowsRows s (reached_of person) rows → AreGroupsTold rows groups
    → circle ≡ circle_with (Known person) groups → ShowsCircle s (Known person) circle
circle_shown s person rows groups circle shows told is = (
  shows.0,
  λ book.
      let reach = (rows_of s.now.trees).reach in
      let same : (q : List ℕ) → list_any (tells_group q) rows ≡ has_pair reach (record { group = q; member = person }) = λ q.
      sym (list_any-IsPermutation (tells_group q) (reached_of person (rows_of s.now.trees)) rows (shows.1 book)) ∙ found_among person q reach in
      subst (IsCircleByRows reach (Known person)) (sym is) (circle_of_rows reach person groups (λ q.
      (λ has. let both = (told q).0 has in (both.0, sym (same q) ∙ both.1), λ both. (told q).1 (both.0, same q ∙ both.1)))),
)

-- a mapped group has a group's path
group_named : (o : Office) → IsSound o → (q : List ℕ) → IsMappedGroup o q → IsGroup q
group_named o sound q (name, is, mapped) = (name, where_some (get o.groups name) mapped (λ properties there. (sound.groups name properties there).0), is)

-- of an Office whose `reach` holds what chains lead to, it is the caller's
pub circle_told : (s : State) (caller : Caller) (circle : CircleOf) → ShowsCircle s caller circle → (o : Office) → StandsFor s o → IsCircle o.pairs caller circle
circle_told s Nobody circle shows o stands =
    subst (IsCircle o.pairs Nobody) (sym shows) (record { known = refl; principals = λ q. (λ h. absurd (false≢true h), λ never. absurd never) })
circle_told s (Known person) circle shows o stands =
    let st = stands.0 shows.0 in
    let by = shows.1 st.book in
    record {
      known = by.known;
      principals = λ q. (
        λ has. elim ((by.principals q).0 has) [ inl same ↦ inl same | inr told ↦ inr ((st.reach (record { group = q; member = person })).0 told.1) ],
        λ b. (by.principals q).1 (elim b [
          | inl same ↦ inl same
          | inr chain ↦ inr (of_group q chain, (st.reach (record { group = q; member = person })).1 chain)
        ]),
      );
    }
  where
    of_group : (q : List ℕ) → Chain o.pairs person q → IsGroup q
    of_group q chain = let group = (stands.1.pairs (record { group = q; member = chain.0 }) chain.2.0).group in group_named o stands.1 q group
