use Rattle.std.proofs.Common.{subst}
use Rattle.std.proofs.lemmas.Result.{IfOk-weaker}
use Rattle.book_policy_openings.specs.Openings.{HasRoomIn}
use Rattle.book_policy_openings.proofs.CardRooms.{room_in}
use Rattle.book_policy_openings.proofs.trials.has_room.Goals as goal

pub returns-clause-room : goal.returns-clause-room
returns-clause-room c =
    IfOk-weaker c.room_at.result _ _
    (λ room h agreed sound. subst (HasRoomIn c.args.keeper.now) c.in_ok-clone.ensures.cases (room_in c.args.keeper.now c.in_ok-clone.field-0 (h agreed sound)))
    c.room_at.ensures.room
