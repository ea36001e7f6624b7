use Rattle.book_dumps.proofs.Common.{◌≡◌, map, take}
use Rattle.book_office.specs.declared.nodes.Listed.{Listed}
use Rattle.book_dumps.proofs.dumps.names_among.Given as goal

-- the names of the children so far
abbrev pub invariant-loop-child : goal.invariant-loop-child
invariant-loop-child l = l.names.items ≡ map (λ (child : Listed). child.name) (take l.child-index l.children)
