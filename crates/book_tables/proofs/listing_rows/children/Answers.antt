use Rattle.book_tables.proofs.Common.{rules, ◌≡◌, List, state, HasCleanDisk, Office, path_text, Listed, children_at, ShowsListing, text_above}
use Rattle.book_tables.proofs.Told.{read_made, read_failed}
use Rattle.book_tables.proofs.ChildrenTold.{children_told}
use Rattle.book_tables.proofs.listing_rows.children.Goals as goal

pub returns-in-Ok-clause-reads : goal.returns-in-Ok-clause-reads
returns-in-Ok-clause-reads g c =
    let old = state g.S.Store c.args.transaction.now.conn.now in
    let new = state g.S.Store c.listing_at.new.transaction.conn.now in
    let p = c.args.path.now in
    let text : c.as_str.result.now ≡ path_text p = search rules in
    let front : c.as_str-2.result.now ≡ text_above p = search rules in
    let items : c.from_vec.result ≡ c.in-Ok.children.items = search rules in
    let shows : HasCleanDisk new → ShowsListing old (path_text p) (text_above p) c.from_vec.result = rw (text, front, ← items) at c.in-Ok.ensures.shown in
    read_made old new c.listing_at.ensures.survives c.listing_at.ensures.kept c.args.failures.now c.from_vec.result (λ (o : Office) (children : List Listed). children ≡ children_at o p) c.in-Ok.ensures.stays (λ h o stands. children_told old p c.known.ensures c.from_vec.result (shows h) o stands)

pub returns-clause-reads : goal.returns-clause-reads
returns-clause-reads g c = read_failed _ _ c.listing_at.ensures.survives c.listing_at.ensures.kept c.args.failures.now _ _ c.fault_of.ensures _
