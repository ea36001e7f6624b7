use Rattle.std.proofs.lemmas.Result.{IfErr-weaker, IfOk-weaker}
use Rattle.sqlite.specs.Held.{state}
use Rattle.book_dumps_loading.proofs.ReadingBack.{and_weaker, stands_for, stands_for_other}
use Rattle.book_dumps_reading.specs.Dumped.{dumped_text}
use Rattle.book_dumps_loading.proofs.loading.read_back.Goals as goal

pub returns-in-Ok-clause-stands : goal.returns-in-Ok-clause-stands
returns-in-Ok-clause-stands g c =
    let opened = c.in-Ok.tables in
    IfOk-weaker c.compared.result _ _
    (λ t h clean. let read = h clean in let was = c.in-Ok.ensures.stands read.was_clean in
    stands_for (state g.S.Store opened.connection) (state g.S.Store t.connection) (dumped_text c.args.dumped.now) was.office was.stands read)
    c.compared.ensures.stands

pub returns-in-Ok-clause-unequal : goal.returns-in-Ok-clause-unequal
returns-in-Ok-clause-unequal g c =
    let opened = c.in-Ok.tables in
    IfErr-weaker c.compared.result _ _
    (λ e h same. and_weaker _ _ e.1
    (λ k told clean. let read = told clean in let was = c.in-Ok.ensures.stands read.was_clean in
    stands_for_other (state g.S.Store opened.connection) (state g.S.Store k) (dumped_text c.args.dumped.now) was.office was.stands read)
    (h same))
    c.compared.ensures.unequal
