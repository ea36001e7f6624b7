use Rattle.std.proofs.Common.{sym, ◌∙◌}
use Rattle.std.proofs.lemmas.Bool.{false≢true}
use Rattle.book_policy_idle.specs.Marks.{Spares, SparesBoth}
use Rattle.book_policy_idle.proofs.Clearing.{left_as, left_then}
use Rattle.book_policy_idle.proofs.marks.clear_both.Goals as goal

pub returns-then-is_book : goal.returns-then-is_book
returns-then-is_book c =
    left_then (Spares c.args.asker.now.circle c.args.here.now c.args.list.now) (Spares c.args.asker.now.circle c.args.asker.now.own c.args.list.now)
    (SparesBoth c.args.here.now c.args.is_book c.args.list.now c.args.asker.now) c.args.marks.now.items c.clear.new.marks.items c.clear-then-is_book.new.marks.items
    (λ i a b. record { unowned = a; owned = λ book. b }) (λ i both. (both.unowned, both.owned c.if-is_book.true)) c.clear.ensures c.clear-then-is_book.ensures

pub returns-else-is_book : goal.returns-else-is_book
returns-else-is_book c =
    left_as (Spares c.args.asker.now.circle c.args.here.now c.args.list.now) (SparesBoth c.args.here.now c.args.is_book c.args.list.now c.args.asker.now)
    c.args.marks.now.items c.clear.new.marks.items
    (λ i a. record { unowned = a; owned = λ book. absurd (false≢true (sym c.if-is_book.false ∙ book)) }) (λ i both. both.unowned) c.clear.ensures
