use Rattle.std.proofs.Common.{◌<◌, ◌≤◌, length, None, Option, ap, ◌∙◌, arith, refl}
use Rattle.std.proofs.lemmas.List.{get_or_past}
use Rattle.book_desk_loop.specs.Serving.{line_of}
use Rattle.book_desk_loop.specs.declared.sockets.Socket.{Socket}
use Rattle.book_desk_loop.proofs.Serving.{set_line, set_lines}
use Rattle.book_desk_loop.proofs.socket_places.close_at.Goals as goal

pub returns-then-place-len-clause-line : goal.returns-then-place-len-clause-line
returns-then-place-len-clause-line g c =
    let items = c.args.sockets.now.items in
    let within : c.args.place < length items = (let l = c.len.ensures in let t = c.if-place-len.true in omega (arith, l, t)) in
    set_line items c.args.place c.replace-closed.new.dest within ∙ ap (λ (t : Option (Socket g.row.S.Denot)). line_of t) c.replace-closed.ensures.after

pub returns-then-place-len-clause-lines : goal.returns-then-place-len-clause-lines
returns-then-place-len-clause-lines g c = set_lines c.args.sockets.now.items c.args.place c.replace-closed.new.dest

pub returns-clause-line : goal.returns-clause-line
returns-clause-line g c =
    let items = c.args.sockets.now.items in
    let beyond : length items ≤ c.args.place = (let l = c.len.ensures in let t = c.if-place-len.false in omega (arith, l, t)) in
    ap (λ (t : Option (Socket g.row.S.Denot)). line_of t) (get_or_past items c.args.place None beyond)

pub returns-clause-lines : goal.returns-clause-lines
returns-clause-lines g c = record { stay = λ j far. refl }
