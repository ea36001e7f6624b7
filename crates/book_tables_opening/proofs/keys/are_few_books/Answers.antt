use Rattle.book_tables_opening.proofs.Common.{◌≡◌, ◌+◌, true, cond, filter, get_or, length, take, rules, arith, ap, sym, ◌∙◌, is_of_kind}
use Rattle.std.proofs.lemmas.List.Filters.{length-filter_more}
use Rattle.book_tables_opening.proofs.Counts.{passed_part}
use Rattle.book_tables_opening.proofs.keys.are_few_books.Goals as goal

pub returns-then-count-ge-MAX_BOOKS : goal.returns-then-count-ge-MAX_BOOKS
returns-then-count-ge-MAX_BOOKS c =
    let rows = c.rows-rows.result.now in
    let i = c.loop-row.row-index in
    let is : get_or rows i c.row-item.result ≡ c.row-item.result = search rules in
    let passes : is_of_kind 4 (get_or rows i c.row-item.result) ≡ true = ap (is_of_kind 4) is ∙ sym c.is_of_kind.ensures ∙ c.if-is_of_kind.true in
    let more : length (filter (is_of_kind 4) (take (i + 1) rows)) ≡ length (filter (is_of_kind 4) (take i rows)) + 1 =
    length-filter_more (is_of_kind 4) rows i c.row-item.result c.loop-row-test.true ∙ ap (λ b. length (filter (is_of_kind 4) (take i rows)) + cond b 1 0) passes in
    let whole = passed_part (is_of_kind 4) rows (i + 1) in
    let same = ap (λ xs. length (filter (is_of_kind 4) xs)) c.rows-rows.ensures in
    let counted = c.loop-row.invariant.counted in
    let full = c.if-count-ge-MAX_BOOKS.true in
    (λ none. search (rules, none), λ few. absurd (omega (arith, more, whole, same, counted, full, few)))
