use Rattle.book_office_sync.proofs.Common.{◌≡◌, ◌++◌, ◌≤◌, option_copied, start_of}
use Rattle.std.proofs.Common.{Ok}
use Rattle.book_limits.specs.declared.TheConstants.{LAST_NUMBER}
use Rattle.book_office.specs.Keeping.{Reads}
use Rattle.book_office.specs.Levels.{lists_at}
use Rattle.book_office_values.specs.declared.paths.Path.TheVariants as path
use Rattle.book_office_sync.specs.Limits.{told_items}
use Rattle.book_office_sync.specs.Pages.{changes_told}
use Rattle.book_office_sync.specs.Sifting.{IsAboveOf}
use Rattle.book_office_sync.proofs.reports.report_items.Given as goal

-- the items so far are those up to the number, which has risen with each page
abbrev pub invariant-pages : goal.invariant-pages
invariant-pages g l =
    Reads (g.K.Keeper.standing l.fn.keeper) (g.K.Keeper.standing l.keeper) (Ok l.items.items) (λ o items.
    IsAboveOf l.circle (lists_at o (path.Book l.book)).levels l.above × (l._page ≤ l.after) × (l._page ≤ LAST_NUMBER)
    × (told_items l.above l.circle (option_copied l.token) (changes_told o l.book (option_copied l.token) (start_of (option_copied l.token)))
    ≡ items ++ told_items l.above l.circle (option_copied l.token) (changes_told o l.book (option_copied l.token) l.after)))
