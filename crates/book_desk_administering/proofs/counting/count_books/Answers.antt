use Rattle.std.proofs.Common.{◌≡◌, ◌∙◌, ◌+◌, ◌-◌, ◌^◌, ℕ, take, min, Ok, ap, refl}
use Rattle.std.proofs.lemmas.List.{take_all}
use Rattle.book_office.specs.Keeping.{Reads, Standing}
use Rattle.book_office_audit.proofs.ReadsInTurn.{reads_nothing, reads_then, reads_weaker, reads_failed}
use Rattle.book_office_values.specs.declared.offices.Office.{Office}
use Rattle.book_desk_administering.specs.Counting.{cards_in, cards_of}
use Rattle.book_desk_administering.proofs.Sums.{counted_next}
use Rattle.book_desk_administering.proofs.counting.count_books.Goals as goal

pub loop-book-init : goal.loop-book-init
loop-book-init g c = reads_nothing (g.K.Keeper.standing c.args.keeper.now) 0 (λ (o : Office) (cards : ℕ). cards ≡ 0) (λ h o s. refl)

pub loop-book-preserved : goal.loop-book-preserved
loop-book-preserved g c =
    let S0 : Standing = g.K.Keeper.standing c.args.keeper.now in
    let S1 : Standing = g.K.Keeper.standing c.loop-book.keeper in
    let S2 : Standing = g.K.Keeper.standing c.count_book.new.keeper in
    let i = c.loop-book.book-index in
    let xs = c.args.books.now in
    let book = c.book-item.result in
    let T : Office → ℕ → Type 0 = λ o cards. cards ≡ cards_of o (take i xs) in
    let U : Office → ℕ → Type 0 = λ o count. count ≡ cards_in o book in
    let W : Office → ℕ → Type 0 = λ o count. min (c.loop-book.cards + count) (2 ^ 64 - 1) ≡ cards_of o (take (i + 1) xs) in
    let V : Office → ℕ → Type 0 = λ o cards. cards ≡ cards_of o (take (i + 1) xs) in
    let both : Reads S0 S2 (Ok c.in-Ok.count) W = reads_then S0 S1 S2 c.loop-book.cards (Ok c.in-Ok.count) T U W c.loop-book.invariant c.in-Ok.ensures
    (λ o stands t y u. ap (λ (m : ℕ). min (m + y) (2 ^ 64 - 1)) t ∙ ap (λ (m : ℕ). min (cards_of o (take i xs) + m) (2 ^ 64 - 1)) u ∙ counted_next (cards_in o) xs i book book c.loop-book-test.true c.book-item.is) in
    reads_weaker S0 S2 c.in-Ok.count c.saturating_add-cards.result W V both (λ o stands w. c.saturating_add-cards.ensures ∙ w)

pub returns-in-Err : goal.returns-in-Err
returns-in-Err g c =
    reads_failed (g.K.Keeper.standing c.args.keeper.now) (g.K.Keeper.standing c.loop-book.keeper) (g.K.Keeper.standing c.count_book.new.keeper)
    c.loop-book.cards c.in-Err.fault _ _ _ c.loop-book.invariant c.in-Err.ensures

pub returns : goal.returns
returns g c =
    let n = c.loop-book.book-index in
    let xs = c.args.books.now in
    reads_weaker (g.K.Keeper.standing c.args.keeper.now) (g.K.Keeper.standing c.loop-book.keeper) c.loop-book.cards c.loop-book.cards
    (λ (o : Office) (cards : ℕ). cards ≡ cards_of o (take n xs)) (λ (o : Office) (cards : ℕ). cards ≡ cards_of o xs)
    c.loop-book.invariant (λ o stands t. t ∙ ap (cards_of o) (take_all n xs c.loop-book-test.false))
