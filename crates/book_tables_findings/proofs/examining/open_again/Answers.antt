use Rattle.book_tables_findings.proofs.Common.{◌≡◌, ◌∙◌, IsTrue, false, arith, sym, state}
use Rattle.sqlite_trees.specs.View.{IsClean}
use Rattle.book_tables_schema.proofs.RisingRows.{tabled_of, open_of}
use Rattle.book_tables_findings.proofs.examining.open_again.Goals as goal

pub returns-in-Ok : goal.returns-in-Ok
returns-in-Ok g c clean =
    let opened = state g.S.Store c.in-Ok.connection in
    let v = g.S.Store.view c.into_store-store.result in
    let sure : IsClean v = omega (arith, c.in-Ok.ensures.clean) in
    let unbroken : v.is_broken ≡ false = sym (c.is_broken.ensures sure) ∙ c.if-is_broken.false in
    let open_now : IsTrue v.is_open = open_of v.is_open v.is_broken (g.met.S.Store.broken_if_shut c.into_store-store.result) unbroken in
    let both = c.in-Ok.ensures.opens clean in
    record {
      was_clean = omega (arith, c.into_store-store.ensures.quiet.clean, sure);
      was_open = (c.into_store-store.ensures.undone.kept sure).was_open open_now;
      opens = both.0;
      trees = c.in-Ok.ensures.trees clean ∙ (c.into_store-store.ensures.undone.undone open_now).0;
      rise = tabled_of v opened.now (c.in-Ok.ensures.trees clean) (both.1 both.0.is_open).0 (g.met.S.Alter.listed c.into_store-store.result unbroken) (g.met.S.Store.ordered c.into_store-store.result unbroken);
    }
