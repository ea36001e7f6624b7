use Rattle.std.proofs.Common.{List, subst}
use Rattle.std.specs.Prelude.{option_copied}
use Rattle.book_log_replies.specs.Effects.{no_effect}
use Rattle.book_log_service.proofs.Spelled.{spells_read}
use Rattle.book_log_service.specs.Texts.{IsTextBy}
use Rattle.book_office.specs.declared.nodes.Level.{Level}
use Rattle.book_log_service.proofs.spelling.spelled_denial.Goals as goal

pub returns : goal.returns
returns g c =
    let P : List Level → Type 0 = λ ls. IsTextBy (option_copied c.args.name) c.args.request.now c.args.reply.now no_effect ls c.in_ok-text.field-0 in
    spells_read (g.K.Keeper.standing c.args.keeper.now) (g.K.Keeper.standing c.lists.new.self) (option_copied c.args.name) c.args.request.now c.args.reply.now
    c.args.denial.now c.in_ok-lists.lists c.in_ok-text.field-0 c.requires c.in_ok-lists.ensures (subst P c.as_slice-levels.ensures c.in_ok-text.ensures)
