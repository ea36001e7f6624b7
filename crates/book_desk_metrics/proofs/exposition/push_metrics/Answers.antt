use Rattle.std.proofs.lemmas.Result.{on_ok_weaker}
use Rattle.book_desk_metrics.specs.Exposition.{denials_text, gauges_text, replies_text, seconds_text}
use Rattle.book_desk_metrics.proofs.Chains.{chained_four}
use Rattle.book_desk_metrics.proofs.exposition.push_metrics.Goals as goal

pub returns : goal.returns
returns c =
    let k = c.args.counts.now in
    on_ok_weaker c.push_gauges.result
    (λ last. chained_four c.args.out.now.items (replies_text k) (denials_text k) (seconds_text c.args.times.now) (gauges_text c.args.gauges.now)
    c.push_all_replies.new.out.items c.push_all_denials.new.out.items c.push_seconds.new.out.items c.push_gauges.new.out.items
    c.in_ok-push_all_replies.ensures c.in_ok-push_all_denials.ensures c.in_ok-push_seconds.ensures last)
    c.push_gauges.ensures
