use Rattle.book_machine.proofs.Common.{◌≡◌, ◌≤◌, length, Ok, Err, inl, inr, refl, subst, arith, AllZip, MeetsAny, IsAclAnswer, IsChecked, protected_entries_at}
use Rattle.book_limits.specs.declared.TheConstants.{MAX_ENTRIES}
use Rattle.book_lists.specs.ListEdits.{IsAccepted, IsRefused}
use Rattle.book_machine.proofs.AskingEach.{asked_first, asked_then, one_more_asked}
use Rattle.book_machine.proofs.BodyAnswers.{acl_checked}
use Rattle.book_machine.specs.Asking.{MeetsItems, TellsChecked}
use Rattle.book_machine.proofs.machine.Machine.check_list.Goals as goal

pub returns-in-Ok : goal.returns-in-Ok
returns-in-Ok g c =
    let list = c.args.list.now in
    let path = c.args.path.now in
    let checked = c.in_ok-checked.checked in
    let protected = c.in_ok-protected.protected in
    let few : length list ≤ MAX_ENTRIES = omega (arith, c.if-list-gt-MAX_ENTRIES.false) in
    asked_then _ _ _ _ (λ o r. MeetsAny (IsAclAnswer o path list) r)
    (one_more_asked _ _ _ protected _ (λ o. AllZip (IsChecked o) list checked × (protected.items ≡ protected_entries_at o path)) (λ o r. MeetsItems r (protected_entries_at o path))
    (asked_first _ _ checked (λ o r. TellsChecked o list r) c.in_ok-checked.ensures) c.in_ok-protected.ensures (λ o first second. (first, second)))
    (λ n. refl)
    (λ o told. acl_checked o path list checked protected.items (Ok tt) few told.0 told.1
    (subst (λ ps. IsAccepted ps checked) c.as_slice-2.ensures.value (subst (λ l. IsAccepted c.as_slice-2.result.now l) c.as_slice.ensures c.in-Ok.ensures.accepted)))

pub returns : goal.returns
returns g c =
    let list = c.args.list.now in
    let path = c.args.path.now in
    let checked = c.in_ok-checked.checked in
    let protected = c.in_ok-protected.protected in
    let fault = c.in-Err.fault in
    let few : length list ≤ MAX_ENTRIES = omega (arith, c.if-list-gt-MAX_ENTRIES.false) in
    asked_then _ _ _ _ (λ o r. MeetsAny (IsAclAnswer o path list) r)
    (one_more_asked _ _ _ protected _ (λ o. AllZip (IsChecked o) list checked × (protected.items ≡ protected_entries_at o path)) (λ o r. MeetsItems r (protected_entries_at o path))
    (asked_first _ _ checked (λ o r. TellsChecked o list r) c.in_ok-checked.ensures) c.in_ok-protected.ensures (λ o first second. (first, second)))
    (λ n. inl refl)
    (λ o told. inr (acl_checked o path list checked protected.items (Err c.list_refusal.result) few told.0 told.1
    (fault, subst (λ ps. IsRefused ps checked fault) c.as_slice-2.ensures.value (subst (λ l. IsRefused c.as_slice-2.result.now l fault) c.as_slice.ensures c.in-Err.ensures.refused), c.list_refusal.ensures)))
