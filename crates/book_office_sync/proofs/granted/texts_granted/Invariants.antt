use Rattle.book_office_sync.proofs.Common.{◌≡◌, ◌≤◌, None}
use Rattle.std.proofs.Common.{Ok}
use Rattle.std.specs.FinMap.{empty}
use Rattle.book_limits.specs.declared.TheConstants.{LAST_NUMBER}
use Rattle.book_office.specs.Keeping.{Reads}
use Rattle.book_office.specs.Levels.{lists_at}
use Rattle.book_office_values.specs.declared.paths.Path.TheVariants as path
use Rattle.book_office_sync.specs.Granted.{put_texts}
use Rattle.book_office_sync.specs.Pages.{changes_told}
use Rattle.book_office_sync.specs.Sifting.{IsAboveOf}
use Rattle.book_office_sync.proofs.granted.texts_granted.Given as goal

-- what is told so far is of the changes up to the number, which has risen with each page
abbrev pub invariant-pages : goal.invariant-pages
invariant-pages g l =
    Reads (g.K.Keeper.standing l.fn.keeper) (g.K.Keeper.standing l.keeper) (Ok l.told) (λ o told.
    IsAboveOf l.circle (lists_at o (path.Book l.book)).levels l.above × (l._page ≤ l.after) × (l._page ≤ LAST_NUMBER)
    × (put_texts g.T.FromText.from_text_gives l.above l.circle l.leaf (changes_told o l.book None 0) empty ≡ put_texts g.T.FromText.from_text_gives l.above l.circle l.leaf (changes_told o l.book None l.after) told))
