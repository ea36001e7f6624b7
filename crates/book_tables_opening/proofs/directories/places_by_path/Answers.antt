use Rattle.book_tables_opening.proofs.Common.{◌≡◌, suc, ◌-◌, ◌<◌, Some, cond, get_or, length, rules, arith, ap, ◌∙◌, text_in, same, shown_path}
use Rattle.book_tables_opening.specs.Directories.{place_at}
use Rattle.book_tables_opening.proofs.Places.{found, found_inserted, path_placed}
use Rattle.book_tables_opening.proofs.directories.places_by_path.Goals as goal

pub loop-place-preserved-in_ok-insert : goal.loop-place-preserved-in_ok-insert
loop-place-preserved-in_ok-insert c =
    let i = c.loop-place.place - 1 in
    let row = c.index-rows-place.result in
    let below : i < length c.args.rows.now = omega (arith, c.loop-place.invariant.within, c.loop-place-test.true) in
    let is : get_or c.args.rows.now i row ≡ row = search rules in
    let next : c.loop-place.place ≡ suc i = omega (arith, c.loop-place-test.true) in
    let has : text_in (shown_path row) ≡ Some c.in-Some.path.now = search rules in
    let items : c.in_ok-from_slice.field-0.items ≡ c.in-Some.path.now = search rules in
    record {
      within = omega (arith, c.loop-place.invariant.within);
      found = λ path.
          let written : place_at c.insert.new.self path ≡ cond (same path c.in-Some.path.now) (Some i) (place_at c.loop-place.places path) =
          ap (found (λ k. k.items) path) c.in_ok-insert.ensures.entries
          ∙ found_inserted (λ k. k.items) c.loop-place.places.entries c.in_ok-from_slice.field-0 i path
          ∙ ap (λ u. cond (same path u) (Some i) (place_at c.loop-place.places path)) items in
          path_placed c.args.rows.now i row below is c.in-Some.path.now has path (place_at c.loop-place.places path) (place_at c.insert.new.self path) written
          (rw next at (c.loop-place.invariant.found path));
    }
