-- The lists of widened rows.
use Rattle.book_tables_schema.proofs.Common.{◌≡◌, false, List, [], ◌∷◌, refl, ◌∙◌}
use Rattle.std.proofs.Common.{Bool, true, map, filter, cond, ap}
use Rattle.sqlite.specs.Order.{Row}
use Rattle.sqlite_keyed.specs.Lists.{sort_by}
use Rattle.sqlite_keyed.proofs.SortLemmas.{sort_by-map}
use Rattle.book_tables_rows.specs.Writes.{by_place, is_entry}
use Rattle.book_tables_schema.specs.Renewing.{widened_row, WidenedRowsKeepLists}

filter-map : (p q : Row → Bool) (f : Row → Row) → ((r : Row) → p (f r) ≡ q r) → (rows : List Row) → filter p (map f rows) ≡ map f (filter q rows)
filter-map p q f same [] = refl
filter-map p q f same (r ∷ rows) = ap (λ b. cond b (f r ∷ filter p (map f rows)) (filter p (map f rows))) (same r) ∙ go (q r) (filter-map p q f same rows)
  where
    go : (b : Bool) → filter p (map f rows) ≡ map f (filter q rows) → cond b (f r ∷ filter p (map f rows)) (filter p (map f rows)) ≡ map f (cond b (r ∷ filter q rows) (filter q rows))
    go true more = ap (λ xs. f r ∷ xs) more
    go false more = more

pub lists_kept : WidenedRowsKeepLists
lists_kept rows id protected =
    ap (sort_by by_place) (filter-map (is_entry id protected) (is_entry id protected) widened_row (λ r. refl) rows)
    ∙ sort_by-map by_place widened_row (filter (is_entry id protected) rows)
