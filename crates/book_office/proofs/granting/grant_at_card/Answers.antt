use Rattle.book_office.proofs.Common.{◌≡◌, ◌↔◌, Some, true, sym, ap, ◌∙◌, subst, get, IsAllowed}
use Rattle.std.specs.Option.{option_copied}
use Rattle.book_office.proofs.ReadLists.{card_in_force}
use Rattle.book_office.proofs.granting.grant_at_card.Goals as goal

pub returns-in-Some : goal.returns-in-Some
returns-in-Some c =
    let o = c.args.office.now in
    let b = c.args.book.now in
    let found = c.in-Some.found.now in
    let at : get o.books b ≡ Some found = sym c.get.ensures ∙ ap option_copied c.in-Some.is in
    let told = card_in_force o b c.args.name.now found at c.own_in.ensures.protected in
    subst (λ list. (c.grant_in.result ≡ true) ↔ IsAllowed list c.args.circle.now c.args.here.now c.args.set)
    (let e0 = c.as_slice.ensures in let e1 = c.as_slice-in-Some.ensures in let e2 = c.as_slice-in-Some-2.ensures in
    let e3 = c.own_in.ensures.own in let e4 = c.as_slice-in-Some-3.ensures in let e5 = c.as_slice-in-Some-4.ensures in let e6 = c.as_slice-in-Some-5.ensures in cc)
    c.grant_in.ensures
