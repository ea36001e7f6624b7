-- MOVE of a card: the change of the rows gives the edited Office.
use Rattle.book_tables.proofs.Common.{◌≡◌, ◌≢◌, ℕ, ◌+◌, List, Some, None, option_map, option_and_then, refl, sym, ap, subst, ◌∙◌, get, insert, remove, Int, id_in, rowid, IsName, Book, StoredCard, Office, book_path, card_path, by_names, some_apart, by_option, where_some, put_here, put_elsewhere, removed_here, removed_elsewhere, with_book, apply, Resource, card_at, book_resource, card_resource, number_of, IsSound, Rows, row_at, resource_of, Gives}
use Rattle.book_office_values.specs.declared.paths.Path.TheVariants as path
use Rattle.book_office.specs.declared.edits.Edit.TheVariants.{MoveCard}
use Rattle.book_office.specs.Edits.{remove_card, move_to}
use Rattle.book_tables_rows.specs.Nodes.{MovesCard, FitCardRemoval, moving_card}
use Rattle.book_tables_rows.specs.Writes as writes
use Rattle.book_tables_rows.specs.Writes.{clear_at}
use Rattle.book_tables.proofs.Acting.{Given, GivesEdited}
use Rattle.book_tables.proofs.KeptReach.{move_keeps, still_holds}
use Rattle.book_tables.proofs.CardEdits.{at_book, card_told}
use Rattle.book_tables.proofs.MovedRows.{are_cleared, between, gives_moved, target_resource}
use Rattle.book_tables.proofs.RemovedCards.{fit_removal, name_of_card}
use Rattle.book_tables.proofs.TouchedOffices as office
use Rattle.book_tables.proofs.TouchedOffices.{edited_book, touched_office}

module _ (sb sc tb tc : List ℕ) (rows : Rows) (o : Office) (given : Given rows o (MoveCard sb sc tb tc)) where
  -- the books and the card
  record Known : Type 0 where
    book : Book
    there : get o.books sb ≡ Some book
    card : StoredCard
    its : get book.cards sc ≡ Some card
    named_book : IsName sb
    named_card : IsName sc

  known : Known
  known = where_some (card_at o sb sc) given.fits.possible.0 (λ card is.
      by_option (get o.books sb)
      (λ none. some_apart (sym is ∙ ap (option_and_then (λ (k : Book). get k.cards sc)) none))
      (λ book there.
      let its : get book.cards sc ≡ Some card = sym (ap (option_and_then (λ (k : Book). get k.cards sc)) there) ∙ is in
      let sound = given.sound.books sb book there in
      record { book = book; there = there; card = card; its = its; named_book = sound.0; named_card = name_of_card o book sound.1 sc card its }))

  abbrev left_office : Known → Office
  left_office k = touched_office o sb sc k.book (remove k.book.cards sc)

  target_there : (k : Known) → get (left_office k).books tb ≢ None
  target_there k none = by_names tb sb (λ _. ⊥)
      (λ is. some_apart (sym (office.book_there o sb sc k.book k.there (remove k.book.cards sc) None (removed_here k.book.cards sc) (removed_elsewhere k.book.cards sc)) ∙ ap (get (left_office k).books) (sym is) ∙ none))
      (λ differs. given.fits.possible.1 (sym (put_elsewhere o.books sb (office.touched_book k.book sc (remove k.book.cards sc)) tb differs) ∙ none))

  moved_office : (k : Known) (tbook : Book) → get (left_office k).books tb ≡ Some tbook → apply o (MoveCard sb sc tb tc) ≡ touched_office (left_office k) tb tc tbook (insert tbook.cards tc k.card)
  moved_office k tbook there =
      let card_is : card_at o sb sc ≡ Some k.card = ap (option_and_then (λ (b : Book). get b.cards sc)) k.there ∙ k.its in
      (λ i. with_book (move_to (card_is i) tc) (edited_book (remove_card sc) o sb k.book k.there i) tb) ∙ edited_book (move_to (Some k.card) tc) (left_office k) tb tbook there

  named_target : IsName tb
  named_target = where_some (get o.books tb) given.fits.possible.1 (λ book there. (given.sound.books tb book there).0)

  named_name : IsName tc
  named_name = let k = known in where_some (get (left_office k).books tb) (target_there k) (λ tbook there.
      office.named_card (left_office k) tb tc tbook there (insert tbook.cards tc k.card) (Some k.card) (put_here tbook.cards tc k.card) (put_elsewhere tbook.cards tc k.card)
      (subst IsSound (moved_office k tbook there) given.fits.sound))

  move_fits : FitCardRemoval (card_path tb tc) rows
  move_fits = fit_removal rows o given.gives given.nodes.shaped given.nodes.once tb tc named_target named_name

  move_gives : (after : Rows) → MovesCard rows after (book_path sb) (card_path sb sc) sc (book_path tb) (card_path tb tc) tc → Gives after (apply o (MoveCard sb sc tb tc))
  move_gives after made =
      let k = known in
      let source = made.left.book in
      let at_source = made.left.there in
      let cleared = clear_at (row_at rows (card_path tb tc)) rows in
      let clear = are_cleared rows o given.gives given.nodes.shaped given.nodes.once tb tc named_target named_name (row_at rows (card_path tb tc)) refl in
      let at = at_book rows o given.gives given.sound sb source at_source k.book k.there in
      let mid = between rows o given.gives given.nodes.shaped sb sc tb tc k.book k.there k.card k.its k.named_book k.named_card named_target named_name given.fits.possible.2 source at_source cleared clear in
      let between_is : made.between ≡ mid = made.left.rows_are ∙ (λ i. writes.leave_book (Int (id_in (rowid source))) (book_path sb) sc (at.number i) cleared) in
      let target = made.arrived.book in
      let at_target : row_at mid (book_path tb) ≡ Some target = subst (λ r. row_at r (book_path tb) ≡ Some target) between_is made.arrived.there in
      where_some (get (left_office k).books tb) (target_there k) (λ tbook there.
      let told = target_resource rows o given.gives given.nodes.shaped sb sc tb tc k.book k.there k.card k.its k.named_book k.named_card named_target named_name given.fits.possible.2 source at_source cleared clear target at_target tbook there in
      let number = ap (λ (r : Resource). r.number + 1) told in
      by_option (row_at rows (book_path tb))
      (λ none. absurd (where_some (get o.books tb) given.fits.possible.1 (λ book at_there.
      some_apart (sym (sym (ap (option_map (resource_of rows.entries)) none) ∙ given.gives.resources (path.Book tb) named_target ∙ ap (option_map book_resource) at_there)))))
      (λ row at_row.
      by_option (row_at rows (card_path sb sc))
      (λ none. some_apart (sym (sym (ap (option_map (resource_of rows.entries)) none) ∙ card_told rows o given.gives sb sc k.named_book k.named_card k.book k.there ∙ ap (option_map (card_resource (number_of k.book sc))) k.its)))
      (λ card_row at_card.
      let gives = gives_moved rows o given.gives given.nodes.shaped sb sc tb tc k.book k.there k.card k.its k.named_book k.named_card named_target named_name given.fits.possible.2 source at_source cleared clear target at_target tbook there row at_row card_row at_card in
      let rows_are = made.arrived.rows_are ∙ (λ i. writes.arrive_in (Int (id_in (rowid target))) (book_path tb) (card_path sb sc) (card_path tb tc) tc (number i) (between_is i)) in
      subst (λ r. Gives r (apply o (MoveCard sb sc tb tc))) (sym rows_are) (subst (Gives _) (sym (moved_office k tbook there)) gives))))

pub moves_card : (sb sc tb tc : List ℕ) → GivesEdited (MoveCard sb sc tb tc) (moving_card (book_path sb) (card_path sb sc) sc (book_path tb) (card_path tb tc) tc)
moves_card sb sc tb tc = record {
  fits = λ rows o given. move_fits sb sc tb tc rows o given;
  gives = λ rows after o given made. move_gives sb sc tb tc rows o given after made;
  reach = λ rows after o given made holds. still_holds rows after o.pairs o.pairs (move_keeps rows after (book_path sb) (card_path sb sc) sc (book_path tb) (card_path tb tc) tc made) refl holds;
}
