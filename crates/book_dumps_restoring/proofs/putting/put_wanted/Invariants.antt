use Rattle.std.proofs.Common.{◌≡◌, ◌++◌, drop}
use Rattle.std.specs.String.{string_bytes}
use Rattle.book_dumps_restoring.specs.Naming.{wanted}
use Rattle.book_dumps_restoring.specs.Putting.{put_lines, told_lines}
use Rattle.book_dumps_restoring.proofs.putting.put_wanted.Given as goal

-- what the lines so far and those to come make is what all make, and so is what is told
abbrev pub invariant-loop-line : goal.invariant-loop-line
invariant-loop-line l = record {
  put : put_lines l.standing (wanted (drop l.line-index l.lines) l.paths) ≡ put_lines l.initial.standing (wanted l.lines l.paths);
  told : string_bytes l.told ++ told_lines l.standing (wanted (drop l.line-index l.lines) l.paths)
      ≡ string_bytes l.initial.told ++ told_lines l.initial.standing (wanted l.lines l.paths);
}
