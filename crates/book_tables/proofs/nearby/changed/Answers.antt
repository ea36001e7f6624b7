use Rattle.std.proofs.Common.{ap, subst, ◌∙◌}
use Rattle.book_lists.specs.Circles.{has_path}
use Rattle.book_lists.specs.Memberships.{Memberships, set_of}
use Rattle.book_tables.specs.Nearby.{AreChanged}
use Rattle.book_tables.proofs.NearbyPairs.{all_pushed}
use Rattle.book_tables.proofs.nearby.changed.Goals as goal

pub returns : goal.returns
returns c =
    let now = c.args.now.now in
    let all = c.push_changed-2.new.starts.items in
    subst (λ (ps : Memberships). AreChanged now ps (has_path all)) c.in_ok-new.ensures
    (all_pushed now c.in_ok-new.new c.as_slice.result.now c.as_slice-2.result.now c.new-starts.result.items c.push_changed.new.starts.items all
    (ap set_of c.as_slice.ensures.value ∙ c.in_ok-before.ensures.pairs) (ap set_of c.as_slice-2.ensures.value ∙ c.in_ok-after.ensures.pairs) c.in_ok-push_changed.ensures c.in_ok-push_changed-2.ensures)
