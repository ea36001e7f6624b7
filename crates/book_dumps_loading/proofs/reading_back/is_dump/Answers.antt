use Rattle.std.proofs.Common.{[], false, true≢false, sym, ◌∙◌, append-nil}
use Rattle.book_dumps_loading.proofs.ReadingBack.{told_whole}
use Rattle.book_dumps_loading.specs.Comparing.{given}
use Rattle.book_dumps_loading.proofs.reading_back.is_dump.Goals as goal

pub returns-in-Ok : goal.returns-in-Ok
returns-in-Ok g c =
    let before = c.new-comparing.result in
    let after = c.dump-dumped.new.writer in
    let got = given after.wanted.now after.equal after.other.items in
    told_whole (g.K.Keeper.standing c.args.keeper.now) (g.K.Keeper.standing c.dump-dumped.new.keeper)
    (given before.wanted.now before.equal before.other.items) got c.new-comparing.ensures c.args.text.now false
    ((λ yes. absurd (true≢false (sym yes))), (λ same. absurd (c.in-None.ensures.none [] (sym same ∙ sym (append-nil got)))))
    c.in-Ok.ensures
