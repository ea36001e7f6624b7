use Rattle.book_questions_rights.proofs.Common.{◌≡◌, ◌++◌, map, take}
use Rattle.book_office.specs.declared.nodes.Listed.{Listed}
use Rattle.book_questions_rights.specs.Places.{child_of}
use Rattle.book_questions_rights.proofs.places.push_children.Given as goal

-- the children so far
abbrev pub invariant-loop-child : goal.invariant-loop-child
invariant-loop-child l = l.paths.items ≡ l.fn.paths.items ++ map (λ (child : Listed). child_of l.home child.name) (take l.child-index l.children)
