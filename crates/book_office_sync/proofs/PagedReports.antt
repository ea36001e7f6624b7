-- The items of a report, page by page.
use Rattle.book_office_sync.proofs.Common.{◌≡◌, ℕ, ◌<◌, inl, inr, List, [], ◌∷◌, ◌++◌, map, filter, length, true, Some, None, is_some, Option, option_and_then, option_map, unwrap_or, refl, sym, ap, ◌∙◌, subst, if◌then◌else◌, get, CircleOf, Change, changes_after, Book, Office, StoredCard, Item, Token, item_of, number_of, seen, shown}
use Rattle.std.proofs.Common.{Bool, ◌||◌, true≢false}
use Rattle.book_office_values.specs.declared.paths.Path.TheVariants as path
use Rattle.book_office.specs.Levels.{lists_at}
use Rattle.book_office.specs.Resources.{changed_in}
use Rattle.book_office.specs.declared.nodes.Changed.{Changed}
use Rattle.book_office_sync.specs.Copies.{can_read, is_cut, listed_changes, seen_in}
use Rattle.book_office_sync.specs.Limits.{told_items, AreEnough}
use Rattle.book_office_sync.specs.Pages.{changes_told, IsPage}
use Rattle.book_office_sync.specs.Reading.{item_in}
use Rattle.book_office_sync.specs.Sifting.{IsAboveOf}
use Rattle.book_office_sync.specs.Views.{viewed, IsViewPage}
use Rattle.book_office_sync.specs.declared.reports.Above.{Above}
use Rattle.book_office_sync.proofs.AppliedEntries.{item_same}
use Rattle.book_office_sync.proofs.ChangesAfter.{below}
use Rattle.book_office_sync.proofs.CutReports.{map_parts, none_after}
use Rattle.book_office_sync.proofs.Filters.{all_kept, filter_parts, passed_twice}
use Rattle.book_office_sync.proofs.PagedChanges.{is_about, none_told, told_in}
use Rattle.book_office_sync.proofs.ReadReports.{found_items}
use Rattle.book_office_sync.proofs.ReadingLaws.{items_are}

-- the items of two pages are those of one after the other
pub told_parts : (a : Above) (circle : CircleOf) (token : Option Token) (xs ys : List Changed) → told_items a circle token (xs ++ ys) ≡ told_items a circle token xs ++ told_items a circle token ys
told_parts a circle token xs ys =
    ap (filter (λ (item : Item). is_some token || is_some item.found)) (map_parts (item_in a circle) xs ys)
    ∙ filter_parts (λ (item : Item). is_some token || is_some item.found) (map (item_in a circle) xs) (map (item_in a circle) ys)

joined : {A : Type 0} (xs ys zs : List A) → (xs ++ ys) ++ zs ≡ xs ++ (ys ++ zs)
joined [] ys zs = refl
joined (x ∷ xs) ys zs = ap (λ l. x ∷ l) (joined xs ys zs)

-- with a page more the items so far are those of all but the changes after it
pub page_added : (a : Above) (circle : CircleOf) (token : Option Token) (all page rest : List Changed) (whole before items : List Item) → whole ≡ before ++ told_items a circle token all
    → all ≡ page ++ rest → items ≡ before ++ told_items a circle token page → whole ≡ items ++ told_items a circle token rest
page_added a circle token all page rest whole before items so_far parts pushed =
    so_far ∙ ap (λ l. before ++ l) (ap (told_items a circle token) parts ∙ told_parts a circle token page rest)
    ∙ sym (joined before (told_items a circle token page) (told_items a circle token rest)) ∙ ap (λ l. l ++ told_items a circle token rest) (sym pushed)

module _ (o : Office) (circle : CircleOf) (b : List ℕ) (x : Book) (at : get o.books b ≡ Some x) where
  abbrev has_card : Change → Bool
  has_card c = is_some (get x.cards c.1)

  abbrev sees : Change → Bool
  sees c = is_some (seen o circle b c.1)

  -- what is seen is a card
  seen_card : (c : Change) → sees c ≡ true → has_card c ≡ true
  seen_card c shows = go (get x.cards c.1) refl (sym (ap (λ found. is_some (option_and_then (seen_in o circle b c.1) found)) at) ∙ shows)
    where
      go : (card : Option StoredCard) → get x.cards c.1 ≡ card
          → is_some (option_and_then (λ (k : StoredCard). if can_read o circle b c.1 k then Some (shown (number_of x c.1) k) else None) (get x.cards c.1)) ≡ true → is_some card ≡ true
      go (Some k) e h = refl
      go None e h = sym (ap (λ r. is_some (option_and_then (λ (k : StoredCard). if can_read o circle b c.1 k then Some (shown (number_of x c.1) k) else None) r)) e) ∙ h

  module _ (a : Above) (above_is : IsAboveOf circle (lists_at o (path.Book b)).levels a) where
    items_in : (cs : List Change) → map (item_in a circle) (changed_in x cs) ≡ map (item_of o circle b) cs
    items_in cs = ap (λ f. map f (changed_in x cs)) (item_same circle (lists_at o (path.Book b)).levels a above_is) ∙ items_are o circle b x at cs

    -- the items of all changes after a number are those that a report lists
    pub items_told : (token : Option Token) (n : ℕ) → told_items a circle token (changes_told o b token n) ≡ map (item_of o circle b) (listed_changes o circle b token (changes_after x.changes.last n))
    items_told None n =
        let cs = changes_after x.changes.last n in
        ap (told_items a circle None) (told_in o b x at None n)
        ∙ ap (filter (λ (item : Item). is_some item.found)) (items_in (filter has_card cs))
        ∙ found_items o circle b (filter has_card cs)
        ∙ ap (map (item_of o circle b)) (passed_twice sees has_card seen_card cs)
    items_told (Some token) n =
        let cs = changes_after x.changes.last n in
        ap (told_items a circle (Some token)) (told_in o b x at (Some token) n)
        ∙ all_kept (map (item_in a circle) (changed_in x (filter (is_about x (Some token)) cs)))
        ∙ items_in (filter (is_about x (Some token)) cs) ∙ ap (map (item_of o circle b)) (all_kept cs)

-- ---- pages of a view
module _ (o : Office) (circle : CircleOf) (b : List ℕ) (a : Above) (above_is : IsAboveOf circle (lists_at o (path.Book b)).levels a) where
  none_viewed : (token : Option Token) (n : ℕ) → get o.books b ≡ None → told_items a circle token (changes_told o b token n) ≡ []
  none_viewed token n at = ap (told_items a circle token) (none_told o b at token n)

  pub viewed_are : (n : ℕ) → told_items a circle None (changes_told o b None n) ≡ viewed o circle b n
  viewed_are n = at_book (get o.books b) refl
    where
      at_book : (found : Option Book) → get o.books b ≡ found → told_items a circle None (changes_told o b None n) ≡ viewed o circle b n
      at_book None at =
          none_viewed None n at
          ∙ sym (ap (λ found. unwrap_or (option_map (λ (x : Book). map (item_of o circle b) (listed_changes o circle b None (changes_after x.changes.last n))) found) []) at)
      at_book (Some x) at =
          items_told o circle b x at a above_is None n
          ∙ sym (ap (λ found. unwrap_or (option_map (λ (y : Book). map (item_of o circle b) (listed_changes o circle b None (changes_after y.changes.last n))) found) []) at)

  pub view_page_is : (after : ℕ) (changes : List Changed) (items : List Item) (next : Option ℕ) → IsPage o b None after changes next → items ≡ told_items a circle None changes
      → IsViewPage o circle b after items next
  view_page_is after changes items None page told = sym (viewed_are after) ∙ ap (told_items a circle None) page ∙ sym told
  view_page_is after changes items (Some next) page told = (
    page.0,
    page.1,
    sym (viewed_are after) ∙ ap (told_items a circle None) page.2 ∙ told_parts a circle None changes (changes_told o b None next) ∙ (λ i. sym told i ++ viewed_are next i),
  )

-- ---- enough items, of pages
pub enough_last : (limit : Option ℕ) (all before page items told : List Item) → all ≡ before ++ page → items ≡ before ++ page → told ≡ items → AreEnough limit all told
enough_last None all before page items told is added told_is = told_is ∙ added ∙ sym is
enough_last (Some most) all before page items told is added told_is = record {
  rest = [];
  parts = is ∙ sym added ∙ sym told_is ∙ sym (none_after told);
  enough = inr refl;
}

pub enough_more : (limit : Option ℕ) (all items more told : List Item) → all ≡ items ++ more → told ≡ items → is_cut limit items ≡ true → AreEnough limit all told
enough_more None all items more told is told_is cut = absurd (true≢false (sym cut))
enough_more (Some most) all items more told is told_is cut = record {
  rest = more;
  parts = is ∙ ap (λ l. l ++ more) (sym told_is);
  enough = inl (subst (λ l. most < length l) (sym told_is) (below most (length items) cut));
}
