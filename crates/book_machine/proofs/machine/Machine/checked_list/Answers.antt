use Rattle.book_machine.proofs.Common.{◌≡◌, ◌∙◌, ◌+◌, ◌∷◌, ◌++◌, [], take, ap, subst, sym, AllZip, IsChecked}
use Rattle.std.proofs.lemmas.List.{take_more}
use Rattle.std.proofs.lemmas.List.Elements.{AllZip-push}
use Rattle.book_machine.proofs.AskingEach.{one_more_asked}
use Rattle.book_machine.specs.Asking.{TellsCheckedEntry}
use Rattle.book_machine.proofs.machine.Machine.checked_list.Goals as goal

pub loop-entry-preserved : goal.loop-entry-preserved
loop-entry-preserved g c =
    let xs = c.args.list.now in
    let i = c.loop-entry.entry-index in
    let item = c.entry-item.result in
    let entry = c.in_ok-entry.entry in
    let checked = c.loop-entry.checked in
    let more : take (i + 1) xs ≡ take i xs ++ item ∷ [] = take_more xs i _ c.loop-entry-test.true ∙ ap (λ x. take i xs ++ x ∷ []) (sym c.entry-item.is) in
    one_more_asked _ _ _ entry (λ o. AllZip (IsChecked o) (take i xs) checked) (λ o. AllZip (IsChecked o) (take (i + 1) xs) c.push.new.self) (λ o r. TellsCheckedEntry o item r)
    c.loop-entry.invariant c.in_ok-entry.ensures
    (λ o before told. subst (λ ys. AllZip (IsChecked o) (take (i + 1) xs) ys) (sym c.in_ok-push.ensures.ok)
    (subst (λ zs. AllZip (IsChecked o) zs (checked ++ entry ∷ [])) (sym more) (AllZip-push (IsChecked o) (take i xs) checked item entry before told)))
