use Rattle.std.proofs.Common.{[]}
use Rattle.book_lists_reach.proofs.Places.{found_there, not_there, rises}
use Rattle.book_lists_reach.proofs.numbering.place_of.Goals as goal

pub returns-in-Ok : goal.returns-in-Ok
returns-in-Ok c = found_there c.args.principals.now c.args.principal.now c.in-Ok.place c.in-Ok.ensures.bound (c.in-Ok.ensures.ok [])

pub returns-in-Err : goal.returns-in-Err
returns-in-Err c =
    let ps = c.args.principals.now in
    let p = c.args.principal.now in
    not_there ps p c.in-Err.field-0 (c.in-Err.ensures.position (rises ps c.requires p))
