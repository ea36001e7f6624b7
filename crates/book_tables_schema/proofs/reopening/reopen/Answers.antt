use Rattle.book_tables_schema.proofs.Common.{arith, ◌≡◌, false, sym, ◌∙◌, state}
use Rattle.sqlite.specs.Tree.{Trees}
use Rattle.sqlite_trees.specs.View.{IsClean}
use Rattle.book_tables_schema.proofs.RisingRows.{tabled_of, open_of}
use Rattle.book_tables_schema.proofs.reopening.reopen.Goals as goal

pub returns-in-Ok-clause-same : goal.returns-in-Ok-clause-same
returns-in-Ok-clause-same g c clean =
    let v = g.S.Store.view c.into_store-store.result in
    let sure : IsClean v = omega (arith, c.in-Ok.ensures.clean) in
    let unbroken : v.is_broken ≡ false = sym (c.is_broken.ensures sure) ∙ c.if-is_broken.false in
    c.in-Ok.ensures.trees clean ∙ (c.into_store-store.ensures.undone.undone (open_of v.is_open v.is_broken (g.met.S.Store.broken_if_shut c.into_store-store.result) unbroken)).0

pub returns-in-Ok-clause-tabled : goal.returns-in-Ok-clause-tabled
returns-in-Ok-clause-tabled g c clean =
    let opened = state g.S.Store c.in-Ok.connection in
    let v = g.S.Store.view c.into_store-store.result in
    let sure : IsClean v = omega (arith, c.in-Ok.ensures.clean) in
    let unbroken : v.is_broken ≡ false = sym (c.is_broken.ensures sure) ∙ c.if-is_broken.false in
    let both = c.in-Ok.ensures.opens clean in
    tabled_of v opened.now (c.in-Ok.ensures.trees clean) (both.1 both.0.is_open).0 (g.met.S.Alter.listed c.into_store-store.result unbroken) (g.met.S.Store.ordered c.into_store-store.result unbroken)

pub returns-then-is_broken-clause-unharmed : goal.returns-then-is_broken-clause-unharmed
returns-then-is_broken-clause-unharmed g c = record {
  shows = λ clean open_now. (c.into_store-store.ensures.undone.undone open_now).0;
  left = c.into_store-store.ensures.quiet.outcomes;
  settled = λ trees was_open found. g.met.S.Store.settled c.args.connection.store trees was_open (c.into_store-store.ensures.quiet.outcomes trees found);
}

pub returns-in-Err-clause-unharmed : goal.returns-in-Err-clause-unharmed
returns-in-Err-clause-unharmed g c =
    let v = g.S.Store.view c.into_store-store.result in
    let left : (trees : Trees) → g.S.Store.recovers c.in-Err.store trees → (state g.S.Store c.args.connection).may_leave trees = λ trees found.
    c.into_store-store.ensures.quiet.outcomes trees (c.in-Err.ensures.unharmed.outcomes trees found) in
    record {
      shows = λ clean open_now.
          let sure : IsClean v = omega (arith, clean, c.in-Err.ensures.unharmed.clean) in
          let unbroken : v.is_broken ≡ false = sym (c.is_broken.ensures sure) ∙ c.if-is_broken.false in
          c.in-Err.ensures.rows clean open_now
          ∙ (c.into_store-store.ensures.undone.undone (open_of v.is_open v.is_broken (g.met.S.Store.broken_if_shut c.into_store-store.result) unbroken)).0;
      left = left;
      settled = λ trees was_open found. g.met.S.Store.settled c.args.connection.store trees was_open (left trees found);
    }
