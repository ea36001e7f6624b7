use Rattle.std.proofs.Common.{◌&&◌, not, ap, ◌∙◌}
use Rattle.std.proofs.lemmas.Result.{IfOk-weaker}
use Rattle.std.specs.FinSet as set
use Rattle.book_lists.specs.Memberships.{Memberships}
use Rattle.book_lists_reach.proofs.Listing.{listed_all}
use Rattle.book_lists_reach.proofs.reach.Reach.list.Goals as goal

pub returns : goal.returns
returns c =
    let pairs : Memberships = c.args.self.now in
    IfOk-weaker c.without.result _ _ (λ list are. listed_all pairs list.items (λ m. are m ∙ ap (λ (s : Memberships). set.contains pairs m && not (set.contains s m)) c.none-nothing.ensures)) c.without.ensures
