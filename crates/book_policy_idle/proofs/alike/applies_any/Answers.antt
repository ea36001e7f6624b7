use Rattle.std.proofs.Common.{◌≡◌, false, ◌∙◌, List, sym, subst}
use Rattle.std.specs.Prelude.{All}
use Rattle.std.proofs.lemmas.List.{take_all}
use Rattle.book_lists.specs.Entries.{applies}
use Rattle.book_lists.specs.declared.entries.Entry.{Entry}
use Rattle.book_policy_idle.proofs.Alikeness.{All-one_more}
use Rattle.book_policy_idle.proofs.alike.applies_any.Goals as goal

pub loop-entry-preserved : goal.loop-entry-preserved
loop-entry-preserved c =
    let P : Entry → Type 0 = λ e. applies e c.args.circle.now c.args.here.now ≡ false in
    All-one_more P c.args.entries.now c.loop-entry.entry-index c.entry-item.result c.loop-entry-test.true c.entry-item.is c.loop-entry.invariant
    (sym c.applies.ensures ∙ c.if-applies.false)

pub returns : goal.returns
returns c = λ is.
    subst (λ (l : List Entry). All (λ (e : Entry). applies e c.args.circle.now c.args.here.now ≡ false) l) (take_all c.loop-entry.entry-index c.args.entries.now c.loop-entry-test.false)
    c.loop-entry.invariant
