use Rattle.std.proofs.Common.{codes}
use Rattle.std.proofs.lemmas.Result.{on_ok_weaker}
use Rattle.book_desk_metrics.specs.Exposition.{single}
use Rattle.book_desk_metrics.proofs.Chains.{chained}
use Rattle.book_desk_metrics.proofs.exposition.push_bytes.Goals as goal

pub returns : goal.returns
returns c =
    let g = c.args.gauges.now in
    on_ok_weaker c.push_single-2.result
    (λ last. chained c.args.out.now.items
    (single (codes "book_desk_received_bytes_total") (codes "counter") (codes "Bytes of requests that were taken from connections.") g.received)
    (single (codes "book_desk_sent_bytes_total") (codes "counter") (codes "Bytes of replies that were sent to connections.") g.sent)
    c.push_single.new.out.items c.push_single-2.new.out.items c.in_ok-push_single.ensures last)
    c.push_single-2.ensures
