use Rattle.std.proofs.Common.{◌++◌, codes}
use Rattle.std.proofs.lemmas.Result.{on_ok_weaker}
use Rattle.book_desk_metrics.specs.Exposition.{heading, long_buckets, short_buckets, totals}
use Rattle.book_desk_metrics.proofs.Chains.{chained_four}
use Rattle.book_desk_metrics.proofs.exposition.push_seconds.Goals as goal

pub returns : goal.returns
returns c =
    let t = c.args.times.now in
    on_ok_weaker c.push_totals.result
    (λ last. chained_four c.args.out.now.items
    (heading (codes "book_desk_request_seconds") (codes "histogram") (codes "How long requests were served."))
    (short_buckets t) (long_buckets t) (totals t)
    c.push_heading.new.out.items c.push_short_buckets.new.out.items c.push_long_buckets.new.out.items c.push_totals.new.out.items
    c.in_ok-push_heading.ensures c.in_ok-push_short_buckets.ensures c.in_ok-push_long_buckets.ensures last)
    c.push_totals.ensures
