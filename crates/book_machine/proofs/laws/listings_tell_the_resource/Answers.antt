use Rattle.book_machine.proofs.ToldResources.{listings_tell}
use Rattle.book_machine.proofs.laws.listings_tell_the_resource.Goals as goal

pub returns : goal.returns
returns c = listings_tell
