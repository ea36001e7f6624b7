-- DELETE of a book: the rows give the Office without it.
use Rattle.book_tables.proofs.Common.{◌≡◌, ℕ, ◌+◌, List, Some, sym, subst, ◌∙◌, get, Int, id_in, Row, rowid, all_has, IsName, Office, book_path, where_some, apply, Rows, is_at, key_is, row_at, Gives, refl}
use Rattle.book_office.specs.declared.edits.Edit.TheVariants.{RemoveBook}
use Rattle.book_tables_rows.specs.Nodes.{RemovesBook, FitRemoval, removing_book}
use Rattle.book_tables_rows.specs.Writes as writes
use Rattle.book_tables.proofs.Acting.{Given, GivesEdited}
use Rattle.book_tables.proofs.KeptReach.{no_book_keeps, still_holds}
use Rattle.book_tables.proofs.Looking.{found_has}
use Rattle.book_tables.proofs.OneOffice.{epoch_is}
use Rattle.book_tables.proofs.RemoveRows.{gives_removed, free_children, free_book}

module _ (b : List ℕ) (rows : Rows) (o : Office) (given : Given rows o (RemoveBook b)) where
  named : IsName b
  named = where_some (get o.books b) given.fits.possible (λ book there. (given.sound.books b book there).0)

  number : (book : Row) → row_at rows (book_path b) ≡ Some book → rowid book ≡ Int (id_in (rowid book))
  number book found = key_is book (all_has _ rows.nodes book given.nodes.shaped.1 (found_has (is_at (book_path b)) rows.nodes book found).0)

  removal_fits : FitRemoval (book_path b) rows
  removal_fits = record {
    cards = λ book found. free_children rows o given.gives given.nodes.shaped given.nodes.once b named book found (id_in (rowid book)) (number book found);
    book = λ book found. free_book rows o given.gives given.nodes.shaped given.nodes.once b named book found (id_in (rowid book)) (number book found);
    meta = (o.epoch, given.gives.meta);
  }

  removal_gives : (after : Rows) → RemovesBook rows after (book_path b) → Gives after (apply o (RemoveBook b))
  removal_gives after made =
      let epoch = epoch_is rows.meta made.epoch o.epoch made.meta given.gives.meta in
      let gives = gives_removed rows o given.gives given.nodes.shaped given.nodes.once b named made.book made.there (id_in (rowid made.book)) (number made.book made.there) in
      subst (λ r. Gives r (apply o (RemoveBook b))) (sym (made.rows_are ∙ (λ i. writes.remove_book_rows (Int (id_in (rowid made.book))) (epoch i + 1) rows))) gives

pub removes_book : (b : List ℕ) → GivesEdited (RemoveBook b) (removing_book (book_path b))
removes_book b = record {
  fits = λ rows o given. removal_fits b rows o given;
  gives = λ rows after o given made. removal_gives b rows o given after made;
  reach = λ rows after o given made holds. still_holds rows after o.pairs o.pairs (no_book_keeps rows after (book_path b) made) refl holds;
}
