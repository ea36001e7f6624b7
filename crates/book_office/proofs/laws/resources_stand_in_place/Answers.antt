use Rattle.book_office.proofs.StandingResources.{homes_are_there, resources_stand_in_place, removed_names_are_free, numbers_are_within, numbers_tell_names}
use Rattle.book_office.proofs.laws.resources_stand_in_place.Goals as goal

pub returns : goal.returns
returns c = record {
  homes = homes_are_there;
  principals = resources_stand_in_place;
  removed = removed_names_are_free;
  within = numbers_are_within;
  different = numbers_tell_names;
}
