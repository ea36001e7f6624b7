-- Both lists of a node that were written are read as they were given, and those of no other node change.
use Rattle.book_tables_rows.proofs.Common.{◌≡◌, ℤ, pos, Bool, true, false, ◌&&◌, List, [], ◌++◌, filter, refl, ap, ◌∙◌, Int, Binary, Row, equal, sort_by, value_cmp-Int, ace_node_place, ace_protected_place, Rows, has, Said, flag, delete_entries, is_entry, by_place}
use Rattle.std.proofs.lemmas.List.{append-nil}
use Rattle.std.proofs.lemmas.List.Elements.{filter-append}
use Rattle.sqlite.specs.Ops.{binary}
use Rattle.book_tables_rows.specs.Lists.{BothListsAreRead, ListsOfOthersStay}
use Rattle.book_tables_rows.specs.Writes.{insert_list, write_both}
use Rattle.book_tables_rows.proofs.WrittenLists.{itself, row_at, added, are_added, all_its, none_of, shows_list, none_left, all_left}

-- the two lists are apart
flags_apart : equal Binary (flag true) (flag false) ≡ false
unfolding binary
flags_apart = rw (value_cmp-Int (pos 1) (pos 0)) refl

flags_apart_too : equal Binary (flag false) (flag true) ≡ false
unfolding binary
flags_apart_too = rw (value_cmp-Int (pos 0) (pos 1)) refl

module _ (rows : Rows) (id : ℤ) (protected own : List Said) where
  abbrev left : Rows
  left = delete_entries (Int id) rows

  abbrev between : Rows
  between = insert_list (Int id) true 0 protected left

  abbrev first : List Row
  first = added id true 0 protected left

  abbrev second : List Row
  second = added id false 0 own between

  -- what a test picks of the entries
  picked : (q : Row → Bool) → filter q (write_both (Int id) protected own rows).entries ≡ (filter q left.entries ++ filter q first) ++ filter q second
  picked q =
      ap (filter q) (are_added id false 0 own between) ∙ filter-append q between.entries second
      ∙ ap (λ xs. xs ++ filter q second) (ap (filter q) (are_added id true 0 protected left) ∙ filter-append q left.entries first)

  none_stays : (list : Bool) → filter (is_entry (Int id) list) left.entries ≡ []
  none_stays list = none_left (has ace_node_place (Int id)) (is_entry (Int id) list) (λ r e. ap (λ b. b && has ace_protected_place (flag list) r) e) rows.entries

  protected_picked : filter (is_entry (Int id) true) (write_both (Int id) protected own rows).entries ≡ first
  protected_picked =
      picked (is_entry (Int id) true)
      ∙ ap (λ xs. (xs ++ filter (is_entry (Int id) true) first) ++ filter (is_entry (Int id) true) second) (none_stays true)
      ∙ ap (λ xs. xs ++ filter (is_entry (Int id) true) second) (all_its id true 0 protected left)
      ∙ ap (λ xs. first ++ xs) (none_of id false (is_entry (Int id) true) (λ place e rows. rw (itself id) flags_apart_too) 0 own between)
      ∙ append-nil first

  own_picked : filter (is_entry (Int id) false) (write_both (Int id) protected own rows).entries ≡ second
  own_picked =
      picked (is_entry (Int id) false)
      ∙ ap (λ xs. (xs ++ filter (is_entry (Int id) false) first) ++ filter (is_entry (Int id) false) second) (none_stays false)
      ∙ ap (λ xs. xs ++ filter (is_entry (Int id) false) second) (none_of id true (is_entry (Int id) false) (λ place e rows. rw (itself id) flags_apart) 0 protected left)
      ∙ all_its id false 0 own between

-- ---- the laws

pub both_are_read : BothListsAreRead
both_are_read rows id protected own = (
  shows_list id true protected (left rows id protected own) _ (protected_picked rows id protected own),
  shows_list id false own (between rows id protected own) _ (own_picked rows id protected own),
)

pub other_lists_stay : ListsOfOthersStay
other_lists_stay rows id protected own other list apart =
    let q = is_entry other list in
    let before = left rows id protected own in
    let middle = between rows id protected own in
    let none : (flagged : Bool) (written : List Said) (at : Rows) → filter q (added id flagged 0 written at) ≡ [] =
    λ flagged written at. none_of id flagged q (λ place e rows. apart (row_at id flagged place e rows) (itself id)) 0 written at in
    ap (sort_by by_place) (picked rows id protected own q
    ∙ ap (λ xs. (filter q before.entries ++ xs) ++ filter q (added id false 0 own middle)) (none true protected before)
    ∙ ap (λ xs. (filter q before.entries ++ []) ++ xs) (none false own middle)
    ∙ append-nil (filter q before.entries ++ []) ∙ append-nil (filter q before.entries) ∙ all_left (has ace_node_place (Int id)) q apart rows.entries)
