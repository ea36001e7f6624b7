use Rattle.std.proofs.Common.{codes}
use Rattle.std.proofs.lemmas.Result.{on_ok_weaker}
use Rattle.std.specs.List.{flat_map}
use Rattle.book_desk_metrics.specs.Exposition.{deniable, denials_line, heading}
use Rattle.book_desk_metrics.proofs.Chains.{chained}
use Rattle.book_desk_metrics.proofs.exposition.push_all_denials.Goals as goal

pub returns : goal.returns
unfolding deniable
returns c =
    let head = heading (codes "book_desk_denials_total") (codes "counter") (codes "Denials, by the privilege that was missing.") in
    let lines = flat_map (denials_line c.args.counts.now) deniable in
    on_ok_weaker c.push_denials.result
    (λ e. chained c.args.out.now.items head lines c.push_heading.new.out.items c.push_denials.new.out.items c.in_ok-push_heading.ensures e)
    c.push_denials.ensures
