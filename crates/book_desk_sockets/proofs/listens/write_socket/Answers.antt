use Rattle.std.proofs.KnownBytes.{Appends-nil}
use Rattle.book_desk_sockets.proofs.listens.write_socket.Goals as goal

pub returns-in-None : goal.returns-in-None
returns-in-None g c = rw c.in-None.is (Appends-nil (g.W.Write.contents c.args.writer.now))
