use Rattle.book_office.proofs.FittingEdits.{put_card_fits, remove_card_fits, copy_card_fits, move_across_fits, move_within_fits, add_book_fits, remove_book_fits}
use Rattle.book_office.proofs.FittingSettings.{set_label_fits, set_list_fits, set_members_fits}
use Rattle.book_office.proofs.SoundAdoptions.{adopt_fits}
use Rattle.book_office.proofs.laws.edits_within_the_limits_fit.Goals as goal

pub returns : goal.returns
returns c = record {
  put_card = put_card_fits;
  remove_card = remove_card_fits;
  copy_card = copy_card_fits;
  move_card = (move_across_fits, move_within_fits);
  add_book = add_book_fits;
  remove_book = remove_book_fits;
  set_label = set_label_fits;
  set_list = set_list_fits;
  set_members = set_members_fits;
  adopt = adopt_fits;
}
