use Rattle.book_desk_checks.proofs.checking.tell_no_policy.Goals as goal

pub returns : goal.returns
returns g c = (c.tell_unsound-checked.result, _, c.tell_unsound-checked.ensures.unsound, c.tell_unsound-checked.ensures.told, c.end_checked.ensures.status, c.end_checked.ensures.told)
