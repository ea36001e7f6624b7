use Rattle.book_office.proofs.TouchedNames.{other_books_stay, names_touched_in_turn, touched_names_alone_change, put_card_changes, remove_card_changes, copy_card_changes, move_across_changes, move_within_changes, card_label_changes, new_book_has_no_changes, removed_book_is_gone}
use Rattle.book_office.proofs.laws.touched_names_alone_change.Goals as goal

pub returns : goal.returns
returns c = record {
  in_turn = names_touched_in_turn;
  alone = touched_names_alone_change;
  put_card = put_card_changes;
  remove_card = remove_card_changes;
  copy_card = copy_card_changes;
  move_across = move_across_changes;
  move_within = move_within_changes;
  set_label = card_label_changes;
  add_book = new_book_has_no_changes;
  remove_book = removed_book_is_gone;
  other_books = other_books_stay;
}
