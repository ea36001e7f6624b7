use Rattle.book_questions.proofs.Common.{take, Ok, List, Office, Reads}
use Rattle.book_lists.specs.Memberships.{set_of}
use Rattle.book_office.specs.Levels.{effective_of}
use Rattle.book_questions.specs.Who.{AreHolders}
use Rattle.book_questions.specs.declared.holders.Holder.{Holder}
use Rattle.book_questions.proofs.holders.holder_each.Given as goal

-- the callers so far are told
abbrev pub invariant-loop-caller : goal.invariant-loop-caller
invariant-loop-caller g l = Reads (g.K.Keeper.standing l.fn.keeper) (g.K.Keeper.standing l.keeper) (Ok l.holders.items)
    (λ (o : Office) (holders : List Holder). AreHolders o.pairs (set_of l.pairs) (effective_of l.levels) l.here (take l.caller-index l.callers) holders)
