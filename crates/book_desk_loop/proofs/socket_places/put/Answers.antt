use Rattle.std.proofs.Common.{Some, ◌∙◌}
use Rattle.book_desk_loop.proofs.Serving.{line_fresh, set_line, set_lines}
use Rattle.book_desk_loop.proofs.socket_places.put.Goals as goal

pub returns-clause-line : goal.returns-clause-line
returns-clause-line g c =
    let n = c.new.ensures in
    set_line c.make_places.new.sockets.items c.args.place (Some c.new.result) c.in_ok-make_places.ensures.there
    ∙ line_fresh c.new.result c.args.stream n.stream n.at_end n.dropped

pub returns-clause-lines : goal.returns-clause-lines
returns-clause-lines g c = record {
  stay = λ j far. (set_lines c.make_places.new.sockets.items c.args.place (Some c.new.result)).stay j far ∙ c.make_places.ensures.lines.stay j;
}
