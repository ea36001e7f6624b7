use Rattle.book_desk_app.proofs.Common.{◌++◌, arith, sym, ap, subst, ◌∙◌}
use Rattle.std.proofs.Common.{◌-◌, take, replicate}
use Rattle.std.proofs.lemmas.List.{append_assoc, drop-replicate}
use Rattle.simdutf8.specs.Tracks.{HasRead}
use Rattle.simdutf8.proofs.StepsLemmas.{IsUtf8-append_ascii, IsAscii-replicate}
use Rattle.book_desk_app.proofs.short_texts.TextTest.finish.Goals as goal

pub returns : goal.returns
returns c taken has =
    let filled = c.args.self.now.filled in
    let front = take filled c.args.self.now.block in
    let zeros = replicate (64 - filled) 0 in
    let read = rw (c.copy_from_slice.ensures.after, drop-replicate) at (c.step_baseline.ensures has.blocks has.checked) in
    let whole = subst (HasRead c.step_baseline.result) (sym (append_assoc has.blocks front zeros) ∙ ap (λ t. t ++ zeros) (sym has.all)) read in
    let said = c.finish.ensures _ whole in
    let pad = IsUtf8-append_ascii taken _ (IsAscii-replicate (64 - filled) 0 (omega arith)) in
    (λ t. pad.0 (said.0 t), λ u. said.1 (pad.1 u))
