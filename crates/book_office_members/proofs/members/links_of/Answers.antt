use Rattle.book_office_members.proofs.Common.{◌∙◌, ap}
use Rattle.std.specs.FinSet as set
use Rattle.book_lists.specs.Memberships.{membership_cmp}
use Rattle.book_office_members.proofs.members.links_of.Goals as goal

pub loop-card-init : goal.loop-card-init
loop-card-init c = λ to from.
    ap (λ s. set.contains s (record { group = to; member = from })) c.new-links.ensures ∙ set.contains-empty membership_cmp (record { group = to; member = from })
