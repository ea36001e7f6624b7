use Rattle.book_office_members.proofs.Common.{◌≡◌, ◌+◌, ◌++◌, ◌∷◌, [], take, true, sym, ap, ◌∙◌, arith, take_more, uid_in, CardRef}
use Rattle.std.proofs.lemmas.Bool.{false≢true}
use Rattle.book_office_members.proofs.Linking.{names_more, names_same}
use Rattle.book_office_members.proofs.members.found_names.Goals as goal

pub loop-card-preserved-then-not-is_found : goal.loop-card-preserved-then-not-is_found
loop-card-preserved-then-not-is_found c =
    let i = c.loop-card.card-index in
    let cards = c.args.cards.now in
    let card = c.card-item.result in
    let Fact : CardRef → Type 0 = λ q. uid_in c.args.found.now q.uid ≡ true in
    let more : take (i + 1) cards ≡ take i cards ++ card ∷ [] = take_more cards i card (omega arith) ∙ ap (λ x. take i cards ++ x ∷ []) (sym c.card-item.is) in
    rw more (names_same Fact (take i cards) c.loop-card.names.items card c.loop-card.invariant
    (λ e. false≢true (sym (sym c.is_found.ensures ∙ c.if-not-is_found.true) ∙ e)))

pub loop-card-preserved : goal.loop-card-preserved
loop-card-preserved c =
    let i = c.loop-card.card-index in
    let cards = c.args.cards.now in
    let card = c.card-item.result in
    let Fact : CardRef → Type 0 = λ q. uid_in c.args.found.now q.uid ≡ true in
    let more : take (i + 1) cards ≡ take i cards ++ card ∷ [] = take_more cards i card (omega arith) ∙ ap (λ x. take i cards ++ x ∷ []) (sym c.card-item.is) in
    let name : c.in_ok-clone.field-0 ≡ card.name = c.in_ok-clone.ensures.cases in
    let items : c.push.new.self.items ≡ c.loop-card.names.items ++ card.name ∷ [] = c.in_ok-push.ensures.items ∙ ap (λ n. c.loop-card.names.items ++ n ∷ []) name in
    rw (more, items) (names_more Fact (take i cards) c.loop-card.names.items card c.loop-card.invariant
    (sym c.is_found.ensures ∙ c.if-not-is_found.false))
