use Rattle.std.proofs.Common.{codes}
use Rattle.std.proofs.lemmas.Result.{on_ok_weaker}
use Rattle.std.specs.List.{flat_map}
use Rattle.book_desk_metrics.specs.Exposition.{heading, replies_lines, rows}
use Rattle.book_desk_metrics.proofs.Chains.{chained}
use Rattle.book_desk_metrics.proofs.exposition.push_all_replies.Goals as goal

pub returns : goal.returns
unfolding rows
returns c =
    let head = heading (codes "book_desk_requests_total") (codes "counter") (codes "Replies, by the method of the request and the status.") in
    let lines = flat_map (replies_lines c.args.counts.now) rows in
    on_ok_weaker c.push_methods.result
    (λ e. chained c.args.out.now.items head lines c.push_heading.new.out.items c.push_methods.new.out.items c.in_ok-push_heading.ensures e)
    c.push_methods.ensures
