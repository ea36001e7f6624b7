use Rattle.book_desk_loop.proofs.Serving.{lines_pushed, lines_same, lines_then}
use Rattle.book_desk_loop.proofs.socket_places.make_places.Goals as goal

pub loop-sockets-init : goal.loop-sockets-init
loop-sockets-init g c = lines_same c.args.sockets.now.items

pub loop-sockets-preserved : goal.loop-sockets-preserved
loop-sockets-preserved g c =
    lines_then c.args.sockets.now.items c.loop-sockets.sockets.items c.push.new.self.items c.loop-sockets.invariant
    (lines_pushed c.loop-sockets.sockets.items c.push.new.self.items c.in_ok-push.ensures.items)
