use Rattle.book_desk_control.proofs.Cuts.{cuts_alike}
use Rattle.book_desk_control.proofs.laws.requests_are_cut_anywhere.Goals as goal

pub returns : goal.returns
returns c = cuts_alike
