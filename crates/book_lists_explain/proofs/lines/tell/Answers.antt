use Rattle.book_lists_explain.proofs.Common.{◌∷◌, [], sym, ap, ◌∙◌, arith, member_form, caller_form, owner_form, here_form}
use Rattle.book_lists_explain.proofs.LineFaults.{tell_ok, texts, word_at, two_words, three_words}
use Rattle.book_lists_explain.proofs.lines.tell.Goals as goal

pub returns-in-caller-clause-told : goal.returns-in-caller-clause-told
returns-in-caller-clause-told c =
    let ws = c.args.words.now in
    tell_ok (texts ws) (caller_form (word_at ws 1)) c.caller.result
    (ap (λ w. w ∷ word_at ws 1 ∷ []) (sym c.in-caller.is-caller) ∙ sym (two_words ws (omega arith) (omega arith)), tt) c.caller.ensures.told

pub returns-in-owner-clause-told : goal.returns-in-owner-clause-told
returns-in-owner-clause-told c =
    let ws = c.args.words.now in
    tell_ok (texts ws) (owner_form (word_at ws 1)) c.owner.result
    (ap (λ w. w ∷ word_at ws 1 ∷ []) (sym c.in-owner.is-owner) ∙ sym (two_words ws (omega arith) (omega arith)), tt) c.owner.ensures.told

pub returns-in-here-clause-told : goal.returns-in-here-clause-told
returns-in-here-clause-told c =
    let ws = c.args.words.now in
    tell_ok (texts ws) (here_form (word_at ws 1)) c.here.result
    (ap (λ w. w ∷ word_at ws 1 ∷ []) (sym c.in-here.is-here) ∙ sym (two_words ws (omega arith) (omega arith)), tt) c.here.ensures.told

pub returns-in-member-clause-told : goal.returns-in-member-clause-told
returns-in-member-clause-told c =
    let ws = c.args.words.now in
    tell_ok (texts ws) (member_form (word_at ws 1) (word_at ws 2)) c.member.result
    (ap (λ w. w ∷ word_at ws 1 ∷ word_at ws 2 ∷ []) (sym c.in-member.is-member) ∙ sym (three_words ws (omega arith) (omega arith)), tt) c.member.ensures.told
