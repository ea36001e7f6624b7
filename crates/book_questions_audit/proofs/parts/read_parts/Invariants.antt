use Rattle.book_questions_audit.proofs.Common.{◌≡◌, take, map, Ok, List, Reads, Office}
use Rattle.book_questions_audit.specs.Parts.{part_of}
use Rattle.book_questions_audit.specs.declared.parts.Part.{Part}
use Rattle.book_questions_audit.proofs.parts.read_parts.Given as goal

-- the paths so far were read
abbrev pub invariant-loop-path : goal.invariant-loop-path
invariant-loop-path g l = Reads (g.K.Keeper.standing l.fn.keeper) (g.K.Keeper.standing l.keeper) (Ok l.parts.items)
    (λ (o : Office) (parts : List Part). parts ≡ map (part_of o) (take l.path-index l.paths))
