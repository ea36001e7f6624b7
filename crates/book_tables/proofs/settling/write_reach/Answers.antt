use Rattle.book_tables.proofs.Common.{[], map, ap, ◌∙◌, arith, state, HasCleanDisk}
use Rattle.std.specs.Prelude.{⊤}
use Rattle.book_tables_rows.specs.Reach.{pair_said}
use Rattle.book_tables_rows.specs.Steps.{Leads}
use Rattle.book_tables_rows.specs.Writes as writes
use Rattle.book_tables.proofs.settling.write_reach.Goals as goal

pub returns-clause-done : goal.returns-clause-done
returns-clause-done g c clean inside =
    let third = state g.S.Store c.clear_reach.new.transaction.conn.now in
    let fourth = state g.S.Store c.renew_reach.new.transaction.conn.now in
    let clean_third : HasCleanDisk third = omega (arith, c.renew_reach.ensures.survives.clean, clean) in
    let cleared = c.in_ok-clear_reach.ensures.done clean_third inside in
    let come = map pair_said c.in_ok-all.all.items in
    let renewed : Leads third fourth (λ _. ⊤) (writes.renew_reach [] come) = rw c.as_slice.ensures.value at (c.in_ok-renew_reach.ensures.done clean cleared.inside) in (
      come,
      c.in_ok-all.ensures,
      record {
        inside = renewed.inside;
        was_open = cleared.was_open;
        is_open = renewed.still_open cleared.is_open;
        rows = λ book. let x = cleared.rows book in let y = renewed.rows x.0 in (y.0, y.1 ∙ ap (writes.renew_reach [] come) x.1);
      },
    )
