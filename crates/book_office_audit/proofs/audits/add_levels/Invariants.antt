use Rattle.book_office_audit.proofs.Common.{◌≡◌, drop, map, gathered, level_block}
use Rattle.book_office_audit.proofs.audits.add_levels.Given as goal

-- the blocks so far with those to come are those with all
abbrev pub invariant-loop-level : goal.invariant-loop-level
invariant-loop-level l = gathered l.blocks (map (level_block l.owner) (drop l.level-index l.levels)) ≡ gathered l.fn.blocks (map (level_block l.owner) l.levels)
