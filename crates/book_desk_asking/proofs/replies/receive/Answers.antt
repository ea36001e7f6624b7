use Rattle.std.proofs.Common.{List, ℕ, subst}
use Rattle.std.specs.Prelude.{Some}
use Rattle.book_desk_asking.specs.Replies.{IsCopied}
use Rattle.book_desk_asking.proofs.Answered.{answered, copied_cut, cut_front}
use Rattle.book_desk_asking.proofs.replies.receive.Goals as goal

pub returns-in-Err-clause-cut : goal.returns-in-Err-clause-cut
returns-in-Err-clause-cut g c = λ e. cut_front _ _ _ _ c.in_ok-head.head c.in_ok-head.ensures.head (c.in-Err.ensures.cut e)

pub returns-in-Ok-copy-clause-answered : goal.returns-in-Ok-copy-clause-answered
returns-in-Ok-copy-clause-answered g c =
    let rest = subst
    (λ (t : List ℕ). IsCopied (g.R.Read.remaining c.copy.new.reader) (g.R.Read.remaining c.copy-2.new.reader) (Some t) (Some c.copy-2.new.writer.items)
    c.in_ok-head.head.told)
    c.new-told.ensures.items c.in-Ok-copy.ensures.copied in
    answered _ _ _ _ _ _ _ c.in_ok-head.head c.copy-2.new.writer.items c.in_ok-head.ensures.head c.in-Ok.ensures.copied c.flush.ensures.bytes rest

pub returns-in-Err-copy-clause-cut : goal.returns-in-Err-copy-clause-cut
returns-in-Err-copy-clause-cut g c = λ e.
    cut_front _ _ _ _ c.in_ok-head.head c.in_ok-head.ensures.head
    (copied_cut _ _ _ _ _ c.in_ok-head.head.written c.in-Ok.ensures.copied c.flush.ensures.bytes)
