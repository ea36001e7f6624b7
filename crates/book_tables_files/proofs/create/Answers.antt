use Rattle.std.proofs.Common.{ap, sym, subst, ◌∙◌, arith}
use Rattle.std.proofs.lemmas.Result.{err_from_is_err_and}
use Rattle.sqlite_trees.proofs.Doubt.{clean_of, no_doubt}
use Rattle.sqlite_store.specs.Laws.{settled_at}
use Rattle.sqlite_store.specs.FileStore.{view}
use Rattle.sqlite.specs.Files.{IsEmpty, file_state}
use Rattle.book_tables_files.proofs.Rising.{empty_rise}
use Rattle.book_tables_files.proofs.create.Goals as goal

pub over-requires : goal.over-requires
over-requires g c none = (c.in_ok-make.ensures.made (clean_of _ none)).fresh

pub returns-in-Ok-clause-made : goal.returns-in-Ok-clause-made
returns-in-Ok-clause-made g c now =
    let opened = c.in-Ok.ensures in
    let made = c.in_ok-make.ensures.made (clean_of (view c.in_ok-make.field-0).is_clean (omega (arith, opened.clean))) in
    let trees = sym (ap (λ d. d.trees) (opened.opens now).0.clean) ∙ opened.trees now in
    (made.honest, subst IsEmpty (sym trees) made.empty)

pub returns-in-Ok-clause-rising : goal.returns-in-Ok-clause-rising
returns-in-Ok-clause-rising g c now =
    let opened = c.in-Ok.ensures in
    let made = c.in_ok-make.ensures.made (clean_of (view c.in_ok-make.field-0).is_clean (omega (arith, opened.clean))) in
    let both = opened.opens now in
    empty_rise (file_state c.in-Ok.connection).now (both.1 both.0.is_open).0 (subst IsEmpty (sym (opened.trees now)) made.empty)

pub returns-in-Ok-clause-guarded : goal.returns-in-Ok-clause-guarded
returns-in-Ok-clause-guarded g c now =
    let opened = c.in-Ok.ensures in
    opened.shield (c.in_ok-make.ensures.guarded (clean_of (view c.in_ok-make.field-0).is_clean (omega (arith, opened.clean))))

pub returns-in_err-make-clause-begun : goal.returns-in_err-make-clause-begun
returns-in_err-make-clause-begun g c =
    let error = err_from_is_err_and c.from_residual.result c.from_residual.ensures.1 in
    rw (error.1, error.2) (c.in_err-make.ensures.begun)

pub returns-in-Err-clause-begun : goal.returns-in-Err-clause-begun
returns-in-Err-clause-begun g c clean =
    let refused = c.in-Err.ensures.unharmed in
    let sure = no_doubt _ clean in
    let made = c.in_ok-make.ensures.made (clean_of (view c.in_ok-make.field-0).is_clean (omega (arith, refused.clean))) in (
      made.honest,
      λ trees may.
          let is = settled_at c.in_ok-make.field-0 g.met.D.Disk.seen_may_stay trees made.is_open (refused.outcomes trees may) ∙ sym made.fresh.clean in
          subst IsEmpty (sym is) made.empty,
    )
