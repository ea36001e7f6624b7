use Rattle.book_tables.proofs.Common.{rules, ◌≡◌, ℕ, state, HasCleanDisk, Office, path_text, count_at}
use Rattle.book_tables.specs.Children.{ShowsChildCount}
use Rattle.book_tables.proofs.Told.{read_made, read_failed}
use Rattle.book_tables.proofs.ChildCounts.{count_told}
use Rattle.book_tables.proofs.listing_rows.count.Goals as goal

pub returns-in-Ok-clause-reads : goal.returns-in-Ok-clause-reads
returns-in-Ok-clause-reads g c =
    let old = state g.S.Store c.args.transaction.now.conn.now in
    let new = state g.S.Store c.shown_count.new.transaction.conn.now in
    let p = c.args.path.now in
    let text : c.as_str.result.now ≡ path_text p = search rules in
    let shows : HasCleanDisk new → ShowsChildCount old (path_text p) c.in-Ok.count = rw text at c.in-Ok.ensures.counted in
    read_made old new c.shown_count.ensures.survives c.shown_count.ensures.kept c.args.failures.now c.in-Ok.count (λ (o : Office) (count : ℕ). count ≡ count_at o p) c.in-Ok.ensures.stays (λ h o stands. count_told old p c.known.ensures c.in-Ok.count (shows h) o stands)

pub returns-clause-reads : goal.returns-clause-reads
returns-clause-reads g c = read_failed _ _ c.shown_count.ensures.survives c.shown_count.ensures.kept c.args.failures.now _ _ c.fault_of.ensures _
