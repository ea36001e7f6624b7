use Rattle.std.proofs.Common.{◌++◌}
use Rattle.std.proofs.lemmas.Result.{on_ok_weaker}
use Rattle.book_desk_metrics.specs.Exposition.{bytes_text, connections_text, held_text}
use Rattle.book_desk_metrics.proofs.Chains.{chained}
use Rattle.book_desk_metrics.proofs.exposition.push_gauges.Goals as goal

pub returns : goal.returns
returns c =
    let g = c.args.gauges.now in
    let bytes = c.push_bytes.new.out.items in
    let held = c.push_held.new.out.items in
    on_ok_weaker c.push_held.result
    (λ last. chained c.args.out.now.items (connections_text g) (bytes_text g ++ held_text g.held) c.push_connections.new.out.items held
    c.in_ok-push_connections.ensures
    (chained c.push_connections.new.out.items (bytes_text g) (held_text g.held) bytes held c.in_ok-push_bytes.ensures last))
    c.push_held.ensures
