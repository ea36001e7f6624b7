use Rattle.book_office_members.proofs.Common.{◌≡◌, ◌++◌, List, empty, patch, AreCardsOf}
use Rattle.std.proofs.Common.{◌≤◌, Ok}
use Rattle.book_limits.specs.declared.TheConstants.{LAST_NUMBER}
use Rattle.book_office.specs.Keeping.{Reads}
use Rattle.book_office_sync.specs.Views.{viewed}
use Rattle.book_office_sync.specs.declared.messages.Item.{Item}
use Rattle.book_office_members.proofs.reporting.cards_viewed.Given as goal

-- the cards so far are those of the pages up to the number, which has risen with each page
abbrev pub invariant-pages : goal.invariant-pages
invariant-pages g l =
    Reads (g.K.Keeper.standing l.fn.keeper) (g.K.Keeper.standing l.keeper) (Ok l.cards) (λ o cards.
    (l._page ≤ l.after) × (l._page ≤ LAST_NUMBER)
    × ((first : List Item) × (viewed o l.circle l.book 0 ≡ first ++ viewed o l.circle l.book l.after) × AreCardsOf (patch empty first) cards))
