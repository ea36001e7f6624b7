-- A round of a machine that keeps a log: its lines stand in memory until what was served is kept.
use Rattle.std.specs.Prelude.{◌≡◌, List, [], ◌∷◌, Some}
use Rattle.std.specs.Borrow.{GName}
use Rattle.book_office.specs.Keeping.{Standing, lent}
use Rattle.book_wire_serving.specs.Logs.{Log}
use Rattle.book_wire_serving.specs.Rounds.{lent_by, with_log}
use Rattle.book_wire_serving.specs.Serving.{Serving}
use Rattle.book_log_service.specs.Kept.{log_of}
use Rattle.book_log_service.specs.declared.pages.Page.{Page}
use Rattle.book_log_service.specs.declared.rounds.LoggedIn.{LoggedIn}
use Rattle.book_log_service.specs.declared.rounds.LoggedWork.{LoggedWork}

-- the log of a round
abbrev pub log_on : Page → Log
log_on page = log_of page.failed (Some page.text.items)

-- what serves in a round, and by which references
abbrev pub serving_in : {K C : Type 0} → (K → Standing) → LoggedIn K C → Serving
serving_in standing l =
    with_log (log_on l.page.now) (lent_by (l.notes.ghost_name ∷ l.page.ghost_name ∷ []) (lent l.keeper.ghost_name (standing l.keeper.now)))

-- what work does over a keeper that is lent, it does over a machine of it that notes its lines on a page
pub record IsLoggedWork {W C : Type 0} (does : Serving → Serving → W → W → Type 0) (first last : Standing) (before after : LoggedWork W C) : Type 0 where
  pub names : List GName
  pub same_work : after.work.ghost_name ≡ before.work.ghost_name
  pub same_notes : after.notes.ghost_name ≡ before.notes.ghost_name
  pub same_page : after.page.ghost_name ≡ before.page.ghost_name
  pub done : does (with_log (log_on before.page.now) (lent_by names first)) (with_log (log_on after.page.now) (lent_by names last))
      before.work.now after.work.now
