use Rattle.book_machine.proofs.Common.{◌≡◌, true, Ok, ap, subst, nat_lt, MAX_CARDS, count_at, node_at, Meets}
use Rattle.book_office_values.specs.declared.paths.Path.TheVariants as path
use Rattle.book_machine.proofs.AskingEach.{asks_standing_read}
use Rattle.book_machine.proofs.YoungBooks.{few_cards}
use Rattle.book_machine.proofs.machine.Machine.has_card_room.Goals as goal

pub returns-then-young : goal.returns-then-young
returns-then-young g c =
    let standing = g.K.Keeper.standing c.args.self.now.keeper in
    let young = c.is_young-young.ensures.0 c.if-young.true in
    asks_standing_read standing _ c.in_ok-node.node true (λ o node. node ≡ node_at o (path.Book c.in_ok-clone.field-0))
    (λ o r. Meets r (Ok (nat_lt (count_at o (path.Book c.args.book.now)) MAX_CARDS))) c.in_ok-node.ensures
    (λ o stands is. ap Ok (subst (λ book. nat_lt (count_at o (path.Book book)) MAX_CARDS ≡ true) c.in_ok-clone.ensures.cases
    (few_cards o (standing.sound o stands) c.in_ok-clone.field-0 c.in_ok-node.node is young)))
