use Rattle.std.proofs.Common.{◌≡◌, ◌&&◌, ◌∙◌, List, ℕ, Option, not, sym, subst}
use Rattle.std.proofs.lemmas.Result.{IfOk-weaker}
use Rattle.std.specs.FinSet as set
use Rattle.std.specs.List.Sorted.{IsStrictlySortedBy}
use Rattle.book_lists.specs.Principals.{path_cmp}
use Rattle.book_lists_reach.specs.Numbering.{ArePlaces}
use Rattle.book_lists_reach.specs.Pairs.{pairs_in_rows}
use Rattle.book_lists_reach.proofs.Listing.{alone_listed, places_len}
use Rattle.book_lists_reach.proofs.reach.Reach.without.Goals as goal

pub listed-requires-clause-places : goal.listed-requires-clause-places
listed-requires-clause-places c =
    let ps : List (List ℕ) = c.as_slice-principals.result.now in
    let qs : List (List ℕ) = c.as_slice.result.now in
    let places : List (Option ℕ) = c.as_slice-3.result.now in
    places_len qs ps places (subst (ArePlaces qs ps) (sym c.as_slice-3.ensures.value) c.in_ok-places.ensures)

pub returns : goal.returns
returns c =
    let ps : List (List ℕ) = c.as_slice-principals.result.now in
    let rows : List (List ℕ) = c.as_slice-rows.result.now in
    let qs : List (List ℕ) = c.as_slice.result.now in
    let others : List (List ℕ) = c.as_slice-2.result.now in
    let places : List (Option ℕ) = c.as_slice-3.result.now in
    let self_is : pairs_in_rows ps rows ≡ c.args.self.now = (λ k. pairs_in_rows (c.as_slice-principals.ensures.value k) (c.as_slice-rows.ensures.value k)) ∙ c.self.view_is in
    let others_are : pairs_in_rows qs others ≡ c.args.others.now = (λ k. pairs_in_rows (c.as_slice.ensures.value k) (c.as_slice-2.ensures.value k)) ∙ c.others.view_is in
    let sorted : IsStrictlySortedBy path_cmp qs = subst (IsStrictlySortedBy path_cmp) (sym c.as_slice.ensures.value) c.others.invariant.0 in
    let are : ArePlaces qs ps places = subst (ArePlaces qs ps) (sym c.as_slice-3.ensures.value) c.in_ok-places.ensures in
    IfOk-weaker c.listed.result _ _ (λ list is m. alone_listed ps qs rows others places sorted are list.items is m ∙ (λ k. set.contains (self_is k) m && not (set.contains (others_are k) m))) c.listed.ensures
