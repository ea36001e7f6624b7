use Rattle.book_lists.proofs.Widened.{decided_alike, masks_widened}
use Rattle.book_lists.proofs.WidenedNeeds.{needs_widened}
use Rattle.book_lists.proofs.laws.widened_lists_decide_alike.Goals as goal

pub returns : goal.returns
returns c = record { decided = decided_alike; needs = needs_widened; masks = masks_widened }
