use Rattle.book_machine.proofs.Common.{◌≡◌, Ok, Err, inr, refl, sym, ap, ◌∙◌, subst, destination_in, Meets, ◌>>=◌, caller_of, destination_of, target_of, ready_of, ready_seen, target_seen}
use Rattle.std.proofs.Common.{option_copied}
use Rattle.book_machine.proofs.AskingEach.{asked_first, asked_refused, asked_then, one_more_asked}
use Rattle.book_machine.proofs.Planning.{at_its_destination, ready_asked, ready_at_target, ready_suited, ready_with, refused_by_kind}
use Rattle.book_machine.proofs.StagesInTurn.{counted_same, first_refuses, refused_on}
use Rattle.book_machine.specs.Asking.{MeetsSeen}
use Rattle.book_machine.proofs.machine.Machine.ready.Goals as goal

pub returns-in-Err : goal.returns-in-Err
returns-in-Err g c =
    let name = option_copied c.args.name in
    let request = c.args.request.now in
    let caller = c.in_ok-caller.caller in
    let what = c.in_ok-asked.asked in
    let e = c.in-Err.refusal in
    asked_refused _ _ _ e c.refuse.result (λ o. caller_of o name ≡ Ok caller) (λ o x. MeetsSeen target_seen x (target_of o request.method request.path)) (λ o x. MeetsSeen ready_seen x (ready_of o name request))
    (asked_first _ _ caller (λ o x. Meets x (caller_of o name)) c.in_ok-caller.ensures)
    c.in-Err.ensures c.refuse.ensures
    (λ o first refused. subst (λ stage. Meets (Err e) stage)
    (sym (ap (λ s. s >>= ready_asked o name request) first ∙ ap (λ s. s >>= ready_at_target o name request caller) c.in_ok-asked.ensures))
    (first_refuses (target_of o request.method request.path) (ready_suited o name request caller what) e refused))

pub returns-in-Err-check_suits : goal.returns-in-Err-check_suits
returns-in-Err-check_suits g c =
    let name = option_copied c.args.name in
    let request = c.args.request.now in
    let target = c.in-Ok.target in
    let e = c.in-Err-check_suits.refusal in
    let r = c.refuse-in-Err-check_suits.result in
    asked_then _ _ r _ (λ o x. MeetsSeen ready_seen x (ready_of o name request))
    (one_more_asked _ _ _ target _ (λ o. (caller_of o name ≡ Ok c.in_ok-caller.caller) × (target_of o request.method request.path ≡ Ok (target_seen target)))
    (λ o x. MeetsSeen target_seen x (target_of o request.method request.path))
    (asked_first _ _ c.in_ok-caller.caller (λ o x. Meets x (caller_of o name)) c.in_ok-caller.ensures)
    c.in-Ok.ensures (λ o first second. (first, second)))
    (λ n. counted_same r n)
    (λ o told. refused_on r e (λ x. MeetsSeen ready_seen x (ready_of o name request)) c.refuse-in-Err-check_suits.ensures
    (inr (refused_by_kind o name request c.in_ok-caller.caller c.in_ok-asked.asked (target_seen target) e told.0 c.in_ok-asked.ensures told.1 (sym c.in-Err-check_suits.ensures))))

pub returns-in-Err-replaces : goal.returns-in-Err-replaces
returns-in-Err-replaces g c =
    let name = option_copied c.args.name in
    let request = c.args.request.now in
    let caller = c.in_ok-caller.caller in
    let what = c.in_ok-asked.asked in
    let target = c.in-Ok.target in
    let e = c.in-Err-replaces.refusal in
    asked_refused _ _ _ e c.refuse-in-Err-replaces.result _ (λ o x. Meets x (destination_of o (destination_in what))) (λ o x. MeetsSeen ready_seen x (ready_of o name request))
    (one_more_asked _ _ _ target _ (λ o. (caller_of o name ≡ Ok caller) × (target_of o request.method request.path ≡ Ok (target_seen target)))
    (λ o x. MeetsSeen target_seen x (target_of o request.method request.path))
    (asked_first _ _ caller (λ o x. Meets x (caller_of o name)) c.in_ok-caller.ensures)
    c.in-Ok.ensures (λ o first second. (first, second)))
    c.in-Err-replaces.ensures c.refuse-in-Err-replaces.ensures
    (λ o told refused. subst (λ stage. Meets (Err e) stage)
    (sym (at_its_destination o name request caller what (target_seen target) c.in_default.field-0 told.0 c.in_ok-asked.ensures told.1 (sym c.in_default.ensures)))
    (first_refuses (destination_of o (destination_in what)) (ready_with o name request caller what (target_seen target)) e refused))

pub returns-in-Ok-replaces : goal.returns-in-Ok-replaces
returns-in-Ok-replaces g c =
    let name = option_copied c.args.name in
    let request = c.args.request.now in
    let caller = c.in_ok-caller.caller in
    let what = c.in_ok-asked.asked in
    let target = c.in-Ok.target in
    let found = c.in-Ok-replaces.replaces in
    asked_then _ _ _ _ (λ o x. MeetsSeen ready_seen x (ready_of o name request))
    (one_more_asked _ _ _ found _
    (λ o. (caller_of o name ≡ Ok caller) × (target_of o request.method request.path ≡ Ok (target_seen target)) × (destination_of o (destination_in what) ≡ Ok found))
    (λ o x. Meets x (destination_of o (destination_in what)))
    (one_more_asked _ _ _ target _ (λ o. (caller_of o name ≡ Ok caller) × (target_of o request.method request.path ≡ Ok (target_seen target)))
    (λ o x. MeetsSeen target_seen x (target_of o request.method request.path))
    (asked_first _ _ caller (λ o x. Meets x (caller_of o name)) c.in_ok-caller.ensures)
    c.in-Ok.ensures (λ o first second. (first, second)))
    c.in-Ok-replaces.ensures (λ o told third. (told.0, told.1, third)))
    (λ n. refl)
    (λ o told. at_its_destination o name request caller what (target_seen target) c.in_default.field-0 told.0 c.in_ok-asked.ensures told.1 (sym c.in_default.ensures)
    ∙ ap (λ s. s >>= ready_with o name request caller what (target_seen target)) told.2)
