use Rattle.book_tables_opening.proofs.Common.{◌≡◌, suc, ◌-◌, ◌<◌, Some, cond, get_or, length, int_eq, int_cmp, rules, arith, Int, shown_id}
use mir.Syntax.{w64}
use Rattle.std.proofs.lemmas.Int.{to_z-of_z}
use Rattle.std.proofs.Common.{FitsSigned}
use Rattle.std.specs.BTreeMap.{get}
use Rattle.book_tables_opening.proofs.Places.{number_placed}
use Rattle.book_tables_opening.proofs.directories.places_by_number.Goals as goal

pub loop-place-preserved-in-Int-1 : goal.loop-place-preserved-in-Int-1
loop-place-preserved-in-Int-1 c =
    let i = c.loop-place.place - 1 in
    let row = c.index-rows-place.result in
    let below : i < length c.args.rows.now = omega (arith, c.loop-place.invariant.within, c.loop-place-test.true) in
    let is : get_or c.args.rows.now i row ≡ row = search rules in
    let next : c.loop-place.place ≡ suc i = omega (arith, c.loop-place-test.true) in
    let has : shown_id row ≡ Int c.in-Ok-Int.number = search rules in
    let range : FitsSigned w64 c.in-Ok-Int.number = search rules in
    record {
      within = omega (arith, c.loop-place.invariant.within);
      found = λ id.
          let written : get int_cmp c.insert.new.self id ≡ cond (int_eq c.in-Ok-Int.number id) (Some i) (get int_cmp c.loop-place.places id) = rw (to_z-of_z w64 c.in-Ok-Int.number range) at (c.in_ok-insert.ensures.updates.0 id) in
          number_placed c.args.rows.now i row below is c.in-Ok-Int.number has id (get int_cmp c.loop-place.places id) (get int_cmp c.insert.new.self id) written
          (rw next at (c.loop-place.invariant.found id));
    }
