-- A card fits into a book that is there and has room for one more.
use Rattle.std.proofs.Common.{◌≡◌, ℕ, List, Option, Result, Some, None, ap₂, refl, sym, subst, ◌∙◌, inr, lit≤}
use Rattle.std.proofs.lemmas.Result.{on_ok_weaker}
use Rattle.std.specs.Result.{OnOk}
use Rattle.std.specs.Prelude.{codes, option_map, unwrap_or}
use Rattle.std.specs.FinMap.{get, len}
use Rattle.std.specs.Str.{IsUtf8}
use Rattle.book_lists.specs.Names.{IsName}
use Rattle.book_office.specs.Edits.{apply}
use Rattle.book_office.specs.Fitting.{PutCardFits}
use Rattle.book_office.specs.Resources.{book_resource, count_at, node_at, node_of}
use Rattle.book_office.specs.Sound.{Fits, IsSound}
use Rattle.book_office.specs.declared.edits.Edit.{Edit}
use Rattle.book_office.specs.declared.keepers.StoreFault.{StoreFault}
use Rattle.book_office_values.specs.declared.offices.Book.{Book}
use Rattle.book_office_values.specs.declared.offices.Office.{Office}
use Rattle.book_office_values.specs.declared.paths.Path.TheVariants as path
use Rattle.book_policy_openings.specs.Openings.{HasRoomIn, MayHaveMore, trial_card}

by_book : (o : Office) (name : List ℕ) (book : Option Book) → get o.books name ≡ book
    → MayHaveMore (option_map node_of (option_map book_resource book)) (unwrap_or (option_map (λ (b : Book). len b.cards) book) 0) → HasRoomIn o name
by_book o name None is more = absurd more
by_book o name (Some book) is more = record { book = book; is_there = is; number = more.0; room = more.1 }

pub room_in : (o : Office) (name : List ℕ) → MayHaveMore (node_at o (path.Book name)) (count_at o (path.Book name)) → HasRoomIn o name
room_in o name more = by_book o name (get o.books name) refl more

pub card_fits : PutCardFits → (o : Office) (name : List ℕ) → IsSound o → HasRoomIn o name → IsName (codes "card") → IsUtf8 (codes "card") → Fits o (trial_card name)
card_fits fits o name sound room is_name utf8 =
    fits o name (codes "card") None (codes "card") room.book sound room.is_there is_name tt room.number (inr room.room) (record { utf8 = utf8; short = lit≤ tt })

-- an edit that is made where the Office is as it was
module _ (before between after : Office) (edit card : Edit) (r : Result (Unit {0}) StoreFault) (same : IsSound before → between ≡ before) (is : edit ≡ card) (fits : IsSound before → Fits before card) where
  fits_there : IsSound before → Fits between edit
  fits_there sound = subst (λ (o : Office). Fits o edit) (sym (same sound)) (subst (Fits before) (sym is) (fits sound))

  sound_there : IsSound before → IsSound between
  sound_there sound = subst IsSound (sym (same sound)) sound

  pub card_made : OnOk r (IsSound between → Fits between edit → after ≡ apply between edit) → OnOk r (IsSound before → after ≡ apply before card)
  card_made made =
      on_ok_weaker {P = IsSound between → Fits between edit → after ≡ apply between edit} {Q = IsSound before → after ≡ apply before card} r
      (λ h sound. h (sound_there sound) (fits_there sound) ∙ ap₂ apply (same sound) is) made

  pub card_sound : OnOk r (IsSound between → Fits between edit → IsSound after) → OnOk r (IsSound before → IsSound after)
  card_sound made =
      on_ok_weaker {P = IsSound between → Fits between edit → IsSound after} {Q = IsSound before → IsSound after} r
      (λ h sound. h (sound_there sound) (fits_there sound)) made
