use Rattle.book_log_denials.proofs.Common.{◌≡◌, ◌++◌, string_bytes, flat_map}
use Rattle.book_log_denials.specs.Denials.{group_line}
use Rattle.book_log_denials.proofs.groups.Groups.push_lines.Given as goal

-- the lines so far and those to come are all
abbrev pub invariant-loop-group : goal.invariant-loop-group
invariant-loop-group l = record {
  next : (goal.iterator-loop-group).can_next l.group-iterator;
  finite : (goal.iterator-loop-group).is_finite l.group-iterator;
  parts : string_bytes l.text ++ flat_map (group_line l.form) l.group-iterator ≡ string_bytes l.fn.text ++ flat_map (group_line l.form) l.initial.group-iterator;
}
