use Rattle.book_policy_openings.proofs.CardRooms.{card_fits, card_made, card_sound}
use Rattle.book_policy_openings.specs.Openings.{trial_card}
use Rattle.book_policy_openings.proofs.trials.put_card.Goals as goal

pub returns-clause-office : goal.returns-clause-office
returns-clause-office c =
    let o = c.args.machine.now.keeper in
    card_made o c.has_room.new.keeper c.act_in-done.new.keeper c.in_ok-edit.edit (trial_card c.args.book.now) c.act_in-done.result c.in_ok-room.ensures.kept c.in_ok-edit.ensures.edit
    (λ sound. card_fits c.edits_within_the_limits_fit.ensures.put_card o c.args.book.now sound (c.in_ok-room.ensures.room c.if-not-room.false sound) c.in_ok-edit.ensures.is_name c.in_ok-edit.ensures.is_text)
    c.act_in-done.ensures.office

pub returns-clause-sound : goal.returns-clause-sound
returns-clause-sound c =
    let o = c.args.machine.now.keeper in
    card_sound o c.has_room.new.keeper c.act_in-done.new.keeper c.in_ok-edit.edit (trial_card c.args.book.now) c.act_in-done.result c.in_ok-room.ensures.kept c.in_ok-edit.ensures.edit
    (λ sound. card_fits c.edits_within_the_limits_fit.ensures.put_card o c.args.book.now sound (c.in_ok-room.ensures.room c.if-not-room.false sound) c.in_ok-edit.ensures.is_name c.in_ok-edit.ensures.is_text)
    c.act_in-done.ensures.sound
