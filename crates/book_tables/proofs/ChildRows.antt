-- The rows under the row of a path, in order of their paths, are the children of the resource there.
use Rattle.book_tables.proofs.Common.{◌≡◌, inl, inr, ℕ, Bool, true, false, List, [], ◌∷◌, ◌++◌, map, filter, find, length, drop, Option, Some, None, option_map, unwrap_or, refl, sym, ap, subst, ◌∙◌, true≢false, Less, is_eq, tied_itself, IsTotalOrder, Int, Text, Row, value_cmp, rowid, IsAscending, Has, all_has, has_filtered, has_kept, value_cmp_total, sort_by, ascending-map, Office, Path, IsPath, path_text, parent_of, one_text, is_same, same_itself, some_apart, resource_at, count_at, IsSound, resources_stand_in_place, node_parent, node_path, by_path, text_in, Rows, is_at, is_under, PassesOnce, int_itself, text_above, row_at, resource_of, IsParent, IsNodeAt, IsNode, Gives, same_Some}
use Rattle.std.proofs.Common.{nat_cmp}
use Rattle.std.proofs.Math.Seq.{drop-append_seam}
use Rattle.std.proofs.lemmas.List.Sorted.{length_permutation}
use Rattle.std.specs.Option.{option_to_list}
use Rattle.std.specs.Cmp.{nat_cmp_total}
use Rattle.std.specs.Cmp.Lexicographic.{slice_cmp}
use Rattle.std.specs.Ordering.{ordering_then}
use Rattle.sqlite_value.proofs.OrderLemmas.{value_cmp-Text}
use Rattle.sqlite_keyed.proofs.ListLemmas.{ascending-filter}
use Rattle.sqlite_keyed.proofs.SortLemmas.{IsPermutation-sort_by}
use Rattle.book_office_values.specs.declared.paths.Path.TheVariants as path
use Rattle.book_tables_rows.proofs.Once.{filter_finds}
use Rattle.book_tables.specs.Children.{last_name}
use Rattle.book_tables.proofs.Acting.{AreNodes}
use Rattle.book_tables.proofs.Looking.{found_has, has_text, has_int, same_ints}
use Rattle.book_tables.proofs.RowFacts.{number_of_row, numbers_apart}
use Rattle.book_tables.proofs.LeftRows.{has_null}
use Rattle.book_tables.proofs.SameLists.{same_members, has_map, has_mapped, has_sorted, sorted_has, sorted_rises}
use Rattle.book_tables.proofs.OfficeChildren.{Child, offspring, IsBefore, one_way, children_rise, are_children, children_are, counted_children, text_below}
use Rattle.std.proofs.lemmas.List.{length-map}

-- texts that begin alike stand in the order of what follows
pub same_front : (front a b : List ℕ) → slice_cmp nat_cmp (front ++ a) (front ++ b) ≡ slice_cmp nat_cmp a b
same_front [] a b = refl
same_front (x ∷ front) a b = ap (λ o. ordering_then o (slice_cmp nat_cmp (front ++ a) (front ++ b))) (tied_itself nat_cmp_total x) ∙ same_front front a b

-- what holds of any two elements of a list that is in one order may tell another
pub ascending_within : {X : Type 0} (R S : X → X → Type 0) (xs : List X) → ((a b : X) → Has xs a → Has xs b → R a b → S a b) → IsAscending R xs → IsAscending S xs
ascending_within R S [] tells up = tt
ascending_within R S (x ∷ xs) tells up = (
  Rattle.sqlite_rules.proofs.ListLemmas.all_from (S x) xs (λ y there. tells x y (inl refl) (inr there) (all_has (R x) xs y up.0 there)),
  ascending_within R S xs (λ a b in_a in_b. tells a b (inr in_a) (inr in_b)) up.1,
)

pub by_path_total : IsTotalOrder by_path
by_path_total = record {
  antisymm = λ a b. value_cmp_total.antisymm (node_path a) (node_path b);
  trans = λ a b c. value_cmp_total.trans (node_path a) (node_path b) (node_path c);
  congr = λ a b c. value_cmp_total.congr (node_path a) (node_path b) (node_path c);
}

above_named : (q above : Path) → IsPath q → parent_of q ≡ Some above → IsPath above
above_named path.Root a named e = some_apart (sym e)
above_named path.People a named e = subst IsPath (same_Some _ _ e) tt
above_named path.Groups a named e = subst IsPath (same_Some _ _ e) tt
above_named path.Books a named e = subst IsPath (same_Some _ _ e) tt
above_named (path.Person n) a named e = subst IsPath (same_Some _ _ e) tt
above_named (path.Group n) a named e = subst IsPath (same_Some _ _ e) tt
above_named (path.Book n) a named e = subst IsPath (same_Some _ _ e) tt
above_named (path.Card b c) a named e = subst IsPath (same_Some _ _ e) named.0

-- the one that is found, where no two pass
pub found_once : (p : Row → Bool) (rows : List Row) (x : Row) → PassesOnce p rows → Has rows x → p x ≡ true → find p rows ≡ Some x
found_once p rows x once there passes = go (find p rows) (subst (λ l. Has l x) (filter_finds p rows once) (has_kept p rows x there passes))
  where
    go : (r : Option Row) → Has (option_to_list r) x → r ≡ Some x
    go None h = absurd h
    go (Some y) (inl is) = ap Some (sym is)
    go (Some y) (inr none) = absurd none

-- no two rows that have texts as their paths tie
no_ties : (rows : List Row) → ((t : List ℕ) → PassesOnce (is_at t) rows) → ((x : Row) → Has rows x → (t : List ℕ) × (node_path x ≡ Text t)) → IsAscending (λ a b. is_eq (by_path a b) ≡ false) rows
no_ties [] once texts = tt
no_ties (x ∷ rows) once texts =
    let t = texts x (inl refl) in (
      Rattle.sqlite_rules.proofs.ListLemmas.all_from (λ y. is_eq (by_path x y) ≡ false) rows (λ y there.
          let u = texts y (inr there) in
          let passes : is_at t.0 x ≡ true = has_text 2 x t.0 t.0 t.1 ∙ same_itself t.0 in
          let fails : is_at t.0 y ≡ false = all_has (λ b. is_at t.0 x ≡ true → is_at t.0 b ≡ false) rows y (once t.0).0 there passes in
          (λ i. is_eq (value_cmp (t.1 i) (u.1 i))) ∙ ap is_eq (value_cmp-Text t.0 u.0)
          ∙ (Rattle.std.specs.Cmp.eq_by_cmp_equiv Rattle.std.specs.Cmp.Lexicographic.nat_list_cmp_total).symm t.0 u.0 ∙ sym (has_text 2 y u.0 t.0 u.1) ∙ fails),
      no_ties rows (λ s. (once s).1) (λ y there. texts y (inr there)),
    )

-- what a row tells of a child: the name behind what stands above, and the resource
abbrev pub told_child : List ℕ → List Row → Row → Child
told_child front entries x = (drop (length front) (unwrap_or (text_in (node_path x)) []), resource_of entries x)

module _ (rows : Rows) (o : Office) (gives : Gives rows o) (nodes : AreNodes rows) (sound : IsSound o) (p : Path) (is_path : IsPath p) where
  row_found : (x : Row) (q : Path) → Has rows.nodes x → IsNodeAt rows x q → row_at rows (path_text q) ≡ Some x
  row_found x q there n = found_once (is_at (path_text q)) rows.nodes x (nodes.once (path_text q)) there (has_text 2 x (path_text q) (path_text q) n.path ∙ same_itself (path_text q))

  pub its_resource : (x : Row) (q : Path) → Has rows.nodes x → IsNodeAt rows x q → resource_at o q ≡ Some (resource_of rows.entries x)
  its_resource x q there n = sym (gives.resources q n.named) ∙ ap (option_map (resource_of rows.entries)) (row_found x q there n)

  -- the row of a resource
  pub row_of : (q : Path) → IsPath q → (r : Rattle.book_office.specs.Resources.Resource) → resource_at o q ≡ Some r → (x : Row) × Has rows.nodes x × IsNodeAt rows x q × (resource_of rows.entries x ≡ r)
  row_of q named r there = go (row_at rows (path_text q)) refl (gives.resources q named ∙ there)
    where
      go : (f : Option Row) → row_at rows (path_text q) ≡ f → option_map (resource_of rows.entries) f ≡ Some r → (x : Row) × Has rows.nodes x × IsNodeAt rows x q × (resource_of rows.entries x ≡ r)
      go None e is = some_apart (sym is)
      go (Some x) e is =
          let found = found_has (is_at (path_text q)) rows.nodes x e in
          let n = all_has (IsNode rows) rows.nodes x gives.nodes found.0 in
          let texts = is_same (path_text n.0) (path_text q) (sym (has_text 2 x (path_text n.0) (path_text q) n.1.path) ∙ found.1) in
          (x, found.0, subst (IsNodeAt rows x) (one_text n.0 q n.1.named named texts) n.1, same_Some _ _ is)

  module _ (node : Row) (found : row_at rows (path_text p) ≡ Some node) where
    abbrev pub under : List Row
    under = filter (is_under (rowid node)) rows.nodes

    parent_is : (x : Row) (q : Path) → IsPath q → is_under (rowid node) x ≡ true → IsParent rows (node_parent x) (Some q) → q ≡ p
    parent_is x q named passes (s, at, is) =
        let k = number_of_row rows gives.nodes nodes.shaped (path_text p) node found in
        let ks = number_of_row rows gives.nodes nodes.shaped (path_text q) s at in
        let number : ks.0 ≡ k.0 = same_ints 3 x ks.0 k.0 (is ∙ ks.1) (ap (λ v. is_under v x) (sym k.1) ∙ passes) in
        one_text q p named is_path (numbers_apart rows gives.nodes nodes.shaped (path_text q) (path_text p) s node at found (ks.1 ∙ ap Int number ∙ sym k.1))

    above_is : (x : Row) (q : Path) → IsNodeAt rows x q → is_under (rowid node) x ≡ true → parent_of q ≡ Some p
    above_is x q n passes = go (parent_of q) refl n.parent
      where
        go : (above : Option Path) → parent_of q ≡ above → IsParent rows (node_parent x) above → above ≡ Some p
        go None e null =
            let k = number_of_row rows gives.nodes nodes.shaped (path_text p) node found in
            absurd (true≢false (sym passes ∙ ap (λ v. is_under v x) k.1 ∙ has_null 3 x k.0 null))
        go (Some a) e parent = ap Some (parent_is x a (above_named q a n.named e) passes parent)

    pub under_is : (x : Row) (q : Path) → IsNodeAt rows x q → parent_of q ≡ Some p → is_under (rowid node) x ≡ true
    under_is x q n above =
        let k = number_of_row rows gives.nodes nodes.shaped (path_text p) node found in
        let parent : IsParent rows (node_parent x) (Some p) = subst (IsParent rows (node_parent x)) above n.parent in
        let is : node_parent x ≡ Int k.0 = parent.2 ∙ ap rowid (same_Some _ _ (sym parent.1 ∙ found)) ∙ k.1 in
        ap (λ v. is_under v x) k.1 ∙ has_int 3 x k.0 k.0 is ∙ int_itself k.0

    -- the path of a row under the path's
    pub child_row : (x : Row) → Has under x → (q : Path) × IsNodeAt rows x q × (parent_of q ≡ Some p)
    child_row x h =
        let there = has_filtered (is_under (rowid node)) rows.nodes x h in
        let n = all_has (IsNode rows) rows.nodes x gives.nodes there.0 in
        (n.0, n.1, above_is x n.0 n.1 there.1)

    abbrev tell : Row → Child
    tell = told_child (text_above p) rows.entries

    pub its_name : (x : Row) (q : Path) → IsNodeAt rows x q → parent_of q ≡ Some p → (tell x).0 ≡ last_name q
    its_name x q n above =
        ap (λ v. drop (length (text_above p)) (unwrap_or (text_in v) [])) n.path ∙ ap (drop (length (text_above p))) (text_below q p above) ∙ drop-append_seam (text_above p) (last_name q)

    sorted : List Row
    sorted = sort_by by_path under

    rows_are : (k : Child) → Has (map tell (sort_by by_path under)) k → Has (offspring o p) k
    rows_are k h =
        let it = has_mapped tell (sort_by by_path under) k h in
        let in_under = has_sorted by_path by_path_total under it.0 it.1 in
        let c = child_row it.0 in_under in
        let there = (has_filtered (is_under (rowid node)) rows.nodes it.0 in_under).0 in
        children_are o p k (record {
          at = c.0;
          above = c.2;
          name = sym (its_name it.0 c.0 c.1 c.2) ∙ sym (ap (λ (z : Child). z.0) it.2);
          there = its_resource it.0 c.0 there c.1 ∙ ap (λ (z : Child). Some z.1) (sym it.2);
        })

    are_rows : (k : Child) → Has (offspring o p) k → Has (map tell (sort_by by_path under)) k
    are_rows k h =
        let c = are_children o p k h in
        let x = row_of c.at (resources_stand_in_place o sound c.at k.1 c.there).named k.1 c.there in
        let in_under = has_kept (is_under (rowid node)) rows.nodes x.0 x.1 (under_is x.0 c.at x.2 c.above) in
        let is : tell x.0 ≡ k = (let name = its_name x.0 c.at x.2 c.above ∙ c.name in let resource = x.3 in λ i. (name i, resource i)) in
        subst (Has (map tell (sort_by by_path under))) is (has_map tell (sort_by by_path under) x.0 (sorted_has by_path by_path_total under x.0 in_under))

    before : (a b : Row) → Has under a → Has under b → by_path a b ≡ Less → IsBefore (tell a) (tell b)
    before a b in_a in_b less =
        let ca = child_row a in_a in
        let cb = child_row b in_b in
        (λ i. slice_cmp nat_cmp (its_name a ca.0 ca.1 ca.2 i) (its_name b cb.0 cb.1 cb.2 i))
        ∙ sym (same_front (text_above p) (last_name ca.0) (last_name cb.0))
        ∙ (λ i. slice_cmp nat_cmp (sym (text_below ca.0 p ca.2) i) (sym (text_below cb.0 p cb.2) i))
        ∙ sym (value_cmp-Text (path_text ca.0) (path_text cb.0))
        ∙ (λ i. value_cmp (sym ca.1.path i) (sym cb.1.path i))
        ∙ less

    rows_rise : IsAscending IsBefore (map tell (sort_by by_path under))
    rows_rise =
        let texts : (x : Row) → Has under x → (t : List ℕ) × (node_path x ≡ Text t) = λ x h. let c = child_row x h in (path_text c.0, c.1.path) in
        let ties = no_ties under (λ t. ascending-filter (λ a b. is_at t a ≡ true → is_at t b ≡ false) (is_under (rowid node)) rows.nodes (nodes.once t)) texts in
        ascending-map IsBefore tell (sort_by by_path under)
        (ascending_within (λ a b. by_path a b ≡ Less) (λ a b. IsBefore (tell a) (tell b)) (sort_by by_path under)
        (λ a b in_a in_b. before a b (has_sorted by_path by_path_total under a in_a) (has_sorted by_path by_path_total under b in_b))
        (sorted_rises by_path by_path_total under ties))

    pub rows_are_children : map tell (sort_by by_path under) ≡ offspring o p
    rows_are_children = same_members IsBefore one_way _ _ rows_rise (children_rise o p) rows_are are_rows

    pub count_is : length under ≡ count_at o p
    count_is =
        length_permutation (sort_by by_path under) under (IsPermutation-sort_by by_path by_path_total under)
        ∙ sym (length-map (sort_by by_path under) tell)
        ∙ ap length rows_are_children ∙ sym (counted_children o p)

  -- where nothing is, nothing is below
  pub none_below : row_at rows (path_text p) ≡ None → offspring o p ≡ []
  none_below none = no_members (offspring o p) (λ k h.
      let c = are_children o p k h in
      (resources_stand_in_place o sound c.at k.1 c.there).under p c.above (sym (gives.resources p is_path) ∙ ap (option_map (resource_of rows.entries)) none))
    where
      no_members : (xs : List Child) → ((k : Child) → Has xs k → ⊥) → xs ≡ []
      no_members [] h = refl
      no_members (x ∷ xs) h = absurd (h x (inl refl))
