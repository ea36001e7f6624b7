use Rattle.std.proofs.Common.{sym}
use Rattle.std.specs.Prelude.{option_copied}
use Rattle.book_log_service.proofs.Spelled.{spells_plain}
use Rattle.book_log_service.proofs.spelling.spelled.Goals as goal

pub returns-in_ok-reply_text-in-None : goal.returns-in_ok-reply_text-in-None
returns-in_ok-reply_text-in-None g c =
    spells_plain (g.K.Keeper.standing c.args.keeper.now) (option_copied c.args.name) c.args.request.now c.args.reply.now c.in_ok-reply_text-in-None.field-0
    (sym c.in-None.ensures) c.requires c.in_ok-reply_text-in-None.ensures
