use Rattle.std.proofs.Common.{◌++◌, ◌∷◌, [], Bool, sym, ◌∙◌, subst}
use Rattle.std.proofs.lemmas.Bool.{false≢true}
use Rattle.book_rights.specs.declared.privileges.Leaf.{Leaf}
use Rattle.book_policy_idle.specs.Marks.{IsCleared}
use Rattle.book_policy_idle.proofs.Clearing.{cleared_quiet, cleared_taken, quiet_apart, quiet_elsewhere}
use Rattle.book_policy_idle.proofs.marks.clear_one.Goals as goal

pub returns-then-not-meets : goal.returns-then-not-meets
returns-then-not-meets c = λ start list was.
    cleared_quiet c.args.circle.now c.args.here.now c.args.placed.now c.args.left c.args.marks.now.items start list was
    (quiet_apart c.args.circle.now c.args.here.now c.args.placed.now c.args.left
    (λ leaf a b. false≢true (sym c.if-not-meets.true ∙ c.meets.ensures.1 (leaf, a, b))))

pub returns-then-not-applies : goal.returns-then-not-applies
returns-then-not-applies c = λ start list was.
    cleared_quiet c.args.circle.now c.args.here.now c.args.placed.now c.args.left c.args.marks.now.items start list was
    (λ leaf is_left. quiet_elsewhere c.args.circle.now c.args.here.now c.args.placed.now (sym c.applies.ensures ∙ c.if-not-applies.true) leaf)

pub returns : goal.returns
returns c = λ start list was.
    subst (λ (rest : Leaf → Bool). IsCleared c.args.circle.now c.args.here.now start (list ++ c.args.placed.now ∷ []) rest c.unmark.new.marks.items) (sym c.minus.ensures)
    (cleared_taken c.args.circle.now c.args.here.now c.args.placed.now c.args.left c.args.marks.now.items start list was c.unmark.new.marks.items
    (sym c.applies.ensures ∙ c.if-not-applies.false) (c.meets.ensures.0 c.if-not-meets.false) c.unmark.ensures)
