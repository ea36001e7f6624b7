use Rattle.book_questions_rights.proofs.Common.{◌≡◌, ◌++◌, ℕ, List, string_bytes, flat_map}
use Rattle.book_questions_rights.proofs.blocks.Blocks.push_all.Given as goal

-- the texts so far and those to come are all
abbrev pub invariant-loop-block : goal.invariant-loop-block
invariant-loop-block l = record {
  next : (goal.iterator-loop-block).can_next l.block-iterator;
  finite : (goal.iterator-loop-block).is_finite l.block-iterator;
  parts : string_bytes l.text ++ flat_map (λ (e : List ℕ × List ℕ). e.1) l.block-iterator ≡ string_bytes l.fn.text ++ flat_map (λ (e : List ℕ × List ℕ). e.1) l.initial.block-iterator;
}
