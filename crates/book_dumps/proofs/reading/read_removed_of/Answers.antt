use Rattle.book_dumps.proofs.Common.{◌≡◌, ◌++◌, List, Some, Ok, sym, ap, ◌∙◌, append_assoc, subst, Office, Reads}
use Rattle.std.proofs.Common.{◌<◌}
use Rattle.book_office.specs.Keeping.{Standing}
use Rattle.book_office.specs.Resources.{changed_after}
use Rattle.book_office.specs.declared.nodes.Changed.{Changed}
use Rattle.book_office_values.specs.Changes.{above, first_of}
use Rattle.book_office_audit.proofs.ReadsInTurn.{on_ok_at, reads_then, reads_weaker}
use Rattle.book_dumps.specs.Told.{last_above, last_told, removed_after, removed_among}
use Rattle.book_dumps.specs.declared.lines.Removed.{Removed}
use Rattle.book_dumps.proofs.Paging.{fewer_left, numbers_left, page_read, to_read}
use Rattle.book_dumps.proofs.reading.read_removed_of.Goals as goal

pub loop-next-smaller : goal.loop-next-smaller
loop-next-smaller g c =
    subst (λ next. numbers_left c.if_above-next.result < numbers_left next) (sym c.in-Some.is) (fewer_left c.in-Some.number c.if_above-next.result c.if_above-next.ensures.later)

pub loop-next-preserved : goal.loop-next-preserved
loop-next-preserved g c =
    let S0 : Standing = g.K.Keeper.standing c.args.keeper.now in
    let S1 : Standing = g.K.Keeper.standing c.loop-next.keeper in
    let S2 : Standing = g.K.Keeper.standing c.changes_after.new.self in
    let b = c.args.book.now in
    let n = c.in-Some.number in
    let old = c.loop-next.removed in
    let page = c.in-Ok.page in
    let T : Office → List Removed → Type 0 = λ o removed. removed ++ to_read o b c.loop-next.next ≡ removed_after o b 0 in
    let U : Office → List Changed → Type 0 = λ o changes. changes ≡ first_of (Some 16) (changed_after o b n) in
    let V : Office → List Changed → Type 0 = λ o changes. (old ++ removed_among changes) ++ to_read o b (last_above n changes) ≡ removed_after o b 0 in
    let W : Office → List Removed → Type 0 = λ o removed. removed ++ to_read o b c.if_above-next.result ≡ removed_after o b 0 in
    let both : Reads S0 S2 (Ok page) V = reads_then S0 S1 S2 old (Ok page) T U V c.loop-next.invariant c.in-Ok.ensures
    (λ o stands t y u. append_assoc old (removed_among y) (to_read o b (last_above n y)) ∙ ap (λ l. old ++ l) (page_read o b n 15 y u)
    ∙ ap (λ next. old ++ to_read o b next) (sym c.in-Some.is) ∙ t) in
    let added : c.add_removed.new.removed ≡ old ++ removed_among page =
    on_ok_at c.add_removed.result _ c.add_removed.ensures (sym c.is_err.ensures.value ∙ c.if-is_err.false) ∙ ap (λ l. old ++ removed_among l) c.as_slice.ensures in
    reads_weaker S0 S2 page c.add_removed.new.removed V W both
    (λ o stands v. ap (λ l. l ++ to_read o b c.if_above-next.result) added
    ∙ ap (λ next. (old ++ removed_among page) ++ to_read o b next) (c.if_above-next.ensures.value ∙ ap (above n) (c.last_told.ensures ∙ ap last_told c.as_slice-in-Some.ensures)) ∙ v)
