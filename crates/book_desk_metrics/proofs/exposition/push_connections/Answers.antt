use Rattle.std.proofs.Common.{◌++◌, codes}
use Rattle.std.proofs.lemmas.Result.{on_ok_weaker}
use Rattle.book_desk_metrics.specs.Exposition.{single}
use Rattle.book_desk_metrics.proofs.Chains.{chained_four}
use Rattle.book_desk_metrics.proofs.exposition.push_connections.Goals as goal

pub returns : goal.returns
returns c =
    let g = c.args.gauges.now in
    on_ok_weaker c.push_single-4.result
    (λ last. chained_four c.args.out.now.items
    (single (codes "book_desk_connections_total") (codes "counter") (codes "Connections that came.") g.came)
    (single (codes "book_desk_connections_open") (codes "gauge") (codes "Connections that are there.") g.open)
    (single (codes "book_desk_connection_faults_total") (codes "counter") (codes "Connections that had a fault.") g.faults)
    (single (codes "book_desk_start_time_seconds") (codes "gauge") (codes "When the server began, in seconds since 1970.") g.since)
    c.push_single.new.out.items c.push_single-2.new.out.items c.push_single-3.new.out.items c.push_single-4.new.out.items
    c.in_ok-push_single.ensures c.in_ok-push_single-2.ensures c.in_ok-push_single-3.ensures last)
    c.push_single-4.ensures
