use Rattle.book_office_members.proofs.Common.{◌≡◌, ◌+◌, ◌++◌, ◌∷◌, [], take, sym, ap, ◌∙◌, arith, take_more}
use Rattle.std.specs.FinSet as set
use Rattle.book_office_members.proofs.Linking.{text_more}
use Rattle.book_office_members.proofs.text_sets.TextSet.insert_all.Goals as goal

pub loop-text-preserved : goal.loop-text-preserved
loop-text-preserved c =
    let i = c.loop-text.text-index in
    let texts = c.args.texts.now in
    let text = c.text-item.result in
    let more : take (i + 1) texts ≡ take i texts ++ text ∷ [] = take_more texts i text (omega arith) ∙ ap (λ x. take i texts ++ x ∷ []) (sym c.text-item.is) in
    let same : c.in_ok-clone.field-0 ≡ text = c.in_ok-clone.ensures.cases in
    let new : c.insert.new.self ≡ set.insert c.loop-text.self text = c.in_ok-insert.ensures.ok ∙ ap (set.insert c.loop-text.self) same in
    rw more (text_more c.args.self.now c.loop-text.self c.insert.new.self (take i texts) text c.loop-text.invariant new)
